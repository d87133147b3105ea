-- Pairs, each behind the one before it.
use Rattle.std.proofs.Common.{◌≡◌, ◌+◌, ◌≤◌, ℕ, Bool, true, false, List, [], ◌∷◌, ◌++◌, length, refl, sym, ap, ◌∙◌, ⊎_elim, inl, inr, append_assoc, append-nil, arith}
use Rattle.std.proofs.lemmas.Bool.{and_parts, and_from, false≢true}
use Rattle.std.proofs.lemmas.List.{append_cancel_left, length-append}
use Rattle.std.specs.FinMap.{is_sorted}
use Rattle.std.specs.FinMap.Entries.{below_all}
use Rattle.rart_below.specs.Bytes.{byte_order}
use Rattle.rart_maps.specs.FoundLaws.{KeysAscend}
use Rattle.rart_maps.specs.Order.{IsBefore}
use Rattle.rart_maps.proofs.ElementLemmas.{AllPairs-first, AllPairs-rest, Contains-here}
use Rattle.rart_maps.proofs.OrderLemmas.{before-lt, lt-before}
use Rattle.rart_saved.specs.Forms.{key_form, entry, entries}
use Rattle.rart_saved.specs.Keys.{IsNext}
use Rattle.rart_saved.proofs.SharedKeyLemmas.{key_form-apart}

pub behind : (before key : List ℕ) → IsNext false before key → IsBefore before key
behind before key next = ⊎_elim (λ first. absurd (false≢true first)) (λ is. is) next

pub before-trans : (u v w : List ℕ) → IsBefore u v → IsBefore v w → IsBefore u w
before-trans u v [] one other = absurd other
before-trans u [] (d ∷ w) one other = absurd one
before-trans [] (c ∷ v) (d ∷ w) one other = tt
before-trans (b ∷ u) (c ∷ v) (d ∷ w) one other =
    ⊎_elim
    (λ less. ⊎_elim
    (λ more. inl (omega (arith, less, more)))
    (λ both. inl (omega (arith, less, both.0)))
    other)
    (λ here. ⊎_elim
    (λ more. inl (omega (arith, here.0, more)))
    (λ both. inr (here.0 ∙ both.0, before-trans u v w here.1 both.1))
    other)
    one

module _ {V : Type 0} where
  -- the key of the last pair, or the one before them
  unfoldable pub last_key : List ℕ → List (List ℕ × V) → List ℕ
  last_key before [] = before
  last_key before (pair ∷ later) = last_key pair.0 later

  -- ---- in order

  -- Each pair may come behind the one before it.
  unfoldable pub IsChain : Bool → List ℕ → List (List ℕ × V) → Type 0
  IsChain f before [] = Unit {0}
  IsChain f before (pair ∷ later) = IsNext f before pair.0 × IsChain false pair.0 later

  chain-grown : (before : List ℕ) (done : List (List ℕ × V)) (pair : List ℕ × V)
      → IsChain false before done → IsBefore (last_key before done) pair.0
      → IsChain false before (done ++ pair ∷ [])
  unfolding IsChain last_key
  chain-grown before [] pair chain next = (inr next, tt)
  chain-grown before (first ∷ done) pair chain next =
      (chain.0, chain-grown first.0 done pair chain.1 next)

  -- One more pair in order, which is the first or behind the last.
  pub chain-next : (f : Bool) (done : List (List ℕ × V)) (pair : List ℕ × V)
      → IsChain true [] done → (f ≡ true → done ≡ []) → IsNext f (last_key [] done) pair.0
      → IsChain true [] (done ++ pair ∷ [])
  unfolding IsChain last_key
  chain-next f [] pair chain first next = (inl refl, tt)
  chain-next f (one ∷ done) pair chain first next = (
    chain.0,
    chain-grown one.0 done pair chain.1
        (⊎_elim (λ is. absurd (omega (arith, ap length (first is)))) (λ is. is) next),
  )

  -- What is behind a key of a chain is behind all before it.
  below-later : (u before : List ℕ) (later : List (List ℕ × V)) → IsBefore u before
      → below_all byte_order before later ≡ true → below_all byte_order u later ≡ true
  below-later u before [] less below = refl
  below-later u before (pair ∷ later) less below =
      let parts = and_parts _ (below_all byte_order before later) below in
      and_from _ (below_all byte_order u later)
      (before-lt u pair.0 (before-trans u before pair.0 less (lt-before before pair.0 parts.0)))
      (below-later u before later less parts.1)

  chain-below : (before : List ℕ) (pairs : List (List ℕ × V)) → IsChain false before pairs
      → (below_all byte_order before pairs ≡ true) × (is_sorted byte_order pairs ≡ true)
  unfolding IsChain
  chain-below before [] chain = (refl, refl)
  chain-below before (pair ∷ later) chain =
      let more = chain-below pair.0 later chain.1 in
      let less = behind before pair.0 chain.0 in (
        and_from _ (below_all byte_order before later) (before-lt before pair.0 less)
            (below-later before pair.0 later less more.0),
        and_from (below_all byte_order pair.0 later) (is_sorted byte_order later) more.0 more.1,
      )

  pub chain-sorted : (pairs : List (List ℕ × V)) → IsChain true [] pairs
      → is_sorted byte_order pairs ≡ true
  unfolding IsChain
  chain-sorted [] chain = refl
  chain-sorted (pair ∷ later) chain =
      let more = chain-below pair.0 later chain.1 in
      and_from (below_all byte_order pair.0 later) (is_sorted byte_order later) more.0 more.1

  ascending-chain : (pair : List ℕ × V) (later : List (List ℕ × V))
      → KeysAscend (λ p. p.0) (pair ∷ later) → IsChain false pair.0 later
  unfolding IsChain
  ascending-chain pair [] ascends = tt
  ascending-chain pair (next ∷ later) ascends = (
    inr (AllPairs-first (λ a b. IsBefore a.0 b.0) pair (next ∷ later) ascends next
        (Contains-here next later)),
    ascending-chain next later
        (AllPairs-rest (λ a b. IsBefore a.0 b.0) pair (next ∷ later) ascends),
  )

  -- Pairs that ascend are a chain.
  pub chain-from : (pairs : List (List ℕ × V)) → KeysAscend (λ p. p.0) pairs → IsChain true [] pairs
  unfolding IsChain
  chain-from [] ascends = tt
  chain-from (pair ∷ later) ascends = (inl refl, ascending-chain pair later ascends)

  seam-later : (before : List ℕ) (done later : List (List ℕ × V)) (pair : List ℕ × V)
      → IsChain false before (done ++ pair ∷ later) → IsBefore (last_key before done) pair.0
  unfolding IsChain last_key
  seam-later before [] later pair chain = behind before pair.0 chain.0
  seam-later before (one ∷ done) later pair chain = seam-later one.0 done later pair chain.1

  -- In a chain each pair may come next.
  pub chain-seam : (f : Bool) (done later : List (List ℕ × V)) (pair : List ℕ × V)
      → IsChain true [] (done ++ pair ∷ later) → (done ≡ [] → f ≡ true)
      → IsNext f (last_key [] done) pair.0
  unfolding IsChain last_key
  chain-seam f [] later pair chain first = inl (first refl)
  chain-seam f (one ∷ done) later pair chain first =
      inr (seam-later one.0 done later pair chain.1)

  -- ---- no form begins another

  module _ (written : V → List ℕ)
      (apart : (x y : V) (r s : List ℕ) → written x ++ r ≡ written y ++ s → x ≡ y) where
    pub entry-apart : (before : List ℕ) (one other : List ℕ × V) (r s : List ℕ)
        → entry written before one ++ r ≡ entry written before other ++ s
        → (one ≡ other) × (r ≡ s)
    unfolding entry
    entry-apart before one other r s same =
        let keys =
        key_form-apart before one.0 other.0 (written one.1 ++ r) (written other.1 ++ s)
        (sym (append_assoc (key_form before one.0) (written one.1) r) ∙ same
        ∙ append_assoc (key_form before other.0) (written other.1) s) in
        let values = apart one.1 other.1 r s keys.1 in (
          λ i. (keys.0 i, values i),
          append_cancel_left (written other.1) r s
              (ap (λ x. written x ++ r) (sym values) ∙ keys.1),
        )

    -- Of two lists that begin alike the shorter begins the longer.
    pub entries-front : (before : List ℕ) (done todo : List (List ℕ × V)) (r s : List ℕ)
        → entries written before done ++ r ≡ entries written before todo ++ s
        → length done ≤ length todo
        → (later : List (List ℕ × V)) × (todo ≡ done ++ later)
        × (r ≡ entries written (last_key before done) later ++ s)
    unfolding entries last_key
    entries-front before [] todo r s same few = (todo, refl, same)
    entries-front before (one ∷ done) [] r s same few = absurd (omega (arith, few))
    entries-front before (one ∷ done) (other ∷ todo) r s same few =
        let first =
        entry-apart before one other (entries written one.0 done ++ r)
        (entries written other.0 todo ++ s)
        (sym (append_assoc (entry written before one) (entries written one.0 done) r) ∙ same
        ∙ append_assoc (entry written before other) (entries written other.0 todo) s) in
        let more =
        entries-front one.0 done todo r s
        (first.1 ∙ ap (λ p. entries written p.0 todo ++ s) (sym first.0))
        (omega (arith, few)) in
        (more.0, (λ i. sym first.0 i ∷ more.1 i), more.2)

  module _ (written : V → List ℕ) where
    -- one more pair at the end
    pub entries-next : (before : List ℕ) (done : List (List ℕ × V)) (pair : List ℕ × V)
        → entries written before (done ++ pair ∷ [])
        ≡ entries written before done ++ entry written (last_key before done) pair
    unfolding entries last_key
    entries-next before [] pair = append-nil (entry written before pair)
    entries-next before (one ∷ done) pair =
        ap (λ g. entry written before one ++ g) (entries-next one.0 done pair)
        ∙ sym (append_assoc (entry written before one) (entries written one.0 done) _)

  -- The form of what shows a value is that of the value.
  pub entry-shown : {W : Type 0} (shown : W → V) (written : V → List ℕ) (before key : List ℕ)
      (w : W) → entry (λ x. written (shown x)) before (key, w) ≡ entry written before (key, shown w)
  unfolding entry
  entry-shown shown written before key w = refl

  -- The pairs that were taken, as bytes behind a start, their count, and the key of the last.
  pub record IsListed (written : V → List ℕ) (start bytes before : List ℕ) (count : ℕ)
      (taken : List (List ℕ × V)) : Type 0 where
    pub listed : bytes ≡ start ++ entries written [] taken
    pub last : before ≡ last_key [] taken
    pub counted : count ≡ length taken

  pub listed-none : (written : V → List ℕ) (start bytes before : List ℕ) (count : ℕ)
      → bytes ≡ start → before ≡ [] → count ≡ 0 → IsListed written start bytes before count []
  unfolding entries last_key
  listed-none written start bytes before count begins nothing none = record {
    listed = begins ∙ sym (append-nil start);
    last = nothing;
    counted = none;
  }

  pub last_key-next : (before : List ℕ) (done : List (List ℕ × V)) (pair : List ℕ × V)
      → last_key before (done ++ pair ∷ []) ≡ pair.0
  unfolding last_key
  last_key-next before [] pair = refl
  last_key-next before (one ∷ done) pair = last_key-next one.0 done pair

  -- One pair more was listed.
  pub listed-next : (written : V → List ℕ) (start bytes before bytes' before' : List ℕ)
      (count count' : ℕ) (taken : List (List ℕ × V)) (key : List ℕ) (x : V)
      → IsListed written start bytes before count taken
      → bytes' ≡ bytes ++ entry written before (key, x) → before' ≡ key → count' ≡ count + 1
      → IsListed written start bytes' before' count' (taken ++ (key, x) ∷ [])
  listed-next written start bytes before bytes' before' count count' taken key x is grown last
      more =
      record {
        listed = grown ∙ (λ i. is.listed i ++ entry written (is.last i) (key, x))
            ∙ append_assoc start (entries written [] taken) _
            ∙ ap (λ g. start ++ g) (sym (entries-next written [] taken (key, x)));
        last = last ∙ sym (last_key-next [] taken (key, x));
        counted = omega (arith, more, is.counted, length-append taken ((key, x) ∷ []));
      }
