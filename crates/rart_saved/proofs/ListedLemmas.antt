-- Pairs behind a start and their count, closed by the sum of all.
use Rattle.std.proofs.Common.{◌≡◌, ◌≢◌, ◌+◌, ◌<◌, ◌≤◌, ℕ, Bool, true, List, [], ◌∷◌, ◌++◌, length, take, drop, Option, refl, sym, ap, subst, ◌∙◌, append_assoc, append-nil, arith}
use Rattle.std.specs.Prelude.{◌==◌, Contains}
use Rattle.std.proofs.lemmas.Bool.{eqb-true, eq-eqb}
use Rattle.std.proofs.lemmas.List.{append_cancel_left, length-append}
use Rattle.sha2.specs.Sha256.{sha256}
use Rattle.rart_maps.specs.FoundLaws.{KeysAscend}
use Rattle.rart_maps.proofs.ElementLemmas.{Contains-here, Contains-later}
use Rattle.rart_versioned.specs.Keys.{IsKeyLength}
use Rattle.rart_saved.specs.ChangeLoads.{LacksEntries}
use Rattle.rart_saved.specs.Forms.{entry, entries}
use Rattle.rart_saved.specs.Keys.{IsNext}
use Rattle.rart_saved.specs.Laws.{leb-apart}
use Rattle.rart_saved.specs.Loads.{LacksPair}
use Rattle.rart_saved.specs.Numbers.{leb}
use Rattle.rart_saved.specs.Parts.{HasPart}
use Rattle.rart_saved.proofs.EntryLemmas.{IsChain, last_key, last_key-next, chain-from, chain-next, chain-seam, entries-front, entries-next}
use Rattle.rart_saved.proofs.BytePartLemmas.{part-front, part-join}

no_pair : {X : Type 0} → (xs : List X) → length xs ≡ 0 → xs ≡ []
no_pair [] is = refl
no_pair (x ∷ xs) is = absurd (omega (arith, is))

-- So many are none where they are none, and the other way.
pub read-first : {X : Type 0} (xs : List X) (i : ℕ) → length xs ≡ i → (i == 0) ≡ true → xs ≡ []
read-first xs i long first = no_pair xs (long ∙ eqb-true i 0 first)

pub first-read : {X : Type 0} (xs : List X) (i : ℕ) → length xs ≡ i → xs ≡ [] → (i == 0) ≡ true
first-read xs i long none = eq-eqb i 0 (sym long ∙ ap length none)

module _ {V : Type 0} (written : V → List ℕ) where
  -- all but the sum, and all
  abbrev pub listed_body : List ℕ → List (List ℕ × V) → List ℕ
  listed_body start list = start ++ leb (length list) ++ entries written [] list

  abbrev pub closed : List ℕ → List (List ℕ × V) → List ℕ
  closed start list = listed_body start list ++ sha256 (listed_body start list)

  pub closed-then : (start : List ℕ) (list : List (List ℕ × V)) (rest : List ℕ)
      → closed start list ++ rest ≡ start ++ (leb (length list) ++ (entries written [] list
      ++ (sha256 (listed_body start list) ++ rest)))
  closed-then start list rest =
      append_assoc (listed_body start list) (sha256 (listed_body start list)) rest
      ∙ append_assoc (start ++ leb (length list)) (entries written [] list) _
      ∙ append_assoc start (leb (length list)) _

  -- The parts that were read, one behind the other, are the form of a list.
  pub closed-read : (start : List ℕ) (list : List (List ℕ × V)) (bytes : List ℕ)
      (at from end count : ℕ) → HasPart bytes 0 start at → HasPart bytes at (leb count) from
      → HasPart bytes from (entries written [] list) end → length list ≡ count
      → drop end bytes ≡ sha256 (take end bytes) → bytes ≡ closed start list
  closed-read start list bytes at from end count heads counts lists long sums =
      let whole : HasPart bytes 0 (listed_body start list) end =
      part-join bytes 0 from end _ _
      (part-join bytes 0 at from _ _ heads
      (subst (λ m. HasPart bytes at (leb m) from) (sym long) counts)) lists in
      whole.stands
      ∙ ap (λ g. listed_body start list ++ g)
      (sums ∙ ap sha256 (part-front bytes _ end whole))

  -- ---- in order

  -- So many pairs were read from one place to another, in order, the last with this key.
  pub record IsRead (bytes : List ℕ) (at end i : ℕ) (key : List ℕ) (list : List (List ℕ × V))
      : Type 0 where
    pub count : length list ≡ i
    pub last : key ≡ last_key [] list
    pub part : HasPart bytes at (entries written [] list) end
    pub chain : IsChain true [] list

  pub read-none : (bytes : List ℕ) (at : ℕ) → at ≤ length bytes → IsRead bytes at at 0 [] []
  unfolding entries last_key IsChain
  read-none bytes at within = record {
    count = refl;
    last = refl;
    part = record { within = within; stands = refl };
    chain = tt;
  }

  pub read-next : (bytes : List ℕ) (at end end' i : ℕ) (key : List ℕ) (pair : List ℕ × V)
      (list : List (List ℕ × V)) (f : Bool) → IsRead bytes at end i key list
      → HasPart bytes end (entry written key pair) end' → IsNext f key pair.0
      → (f ≡ true → list ≡ []) → IsRead bytes at end' (i + 1) pair.0 (list ++ pair ∷ [])
  read-next bytes at end end' i key pair list f is part next first = record {
    count = length-append list (pair ∷ []) ∙ ap (λ n. n + 1) is.count;
    last = sym (last_key-next [] list pair);
    part = subst (λ g. HasPart bytes at g end')
        ((λ j. entries written [] list ++ entry written (is.last j) pair)
        ∙ sym (entries-next written [] list pair))
        (part-join bytes at end end' _ _ is.part part);
    chain = chain-next f list pair is.chain first
        (subst (λ k. IsNext f k pair.0) is.last next);
  }

  contains-seam : (done later : List (List ℕ × V)) (pair : List ℕ × V)
      → Contains (done ++ pair ∷ later) pair
  contains-seam [] later pair = Contains-here pair later
  contains-seam (one ∷ done) later pair =
      Contains-later one (done ++ pair ∷ later) pair (contains-seam done later pair)

  -- ---- no form begins another, and none is where a part of it was refused

  module _ (apart : (x y : V) (r s : List ℕ) → written x ++ r ≡ written y ++ s → x ≡ y) where
    pub same-entries : (one other : List (List ℕ × V)) (r s : List ℕ) → length one ≡ length other
        → entries written [] one ++ r ≡ entries written [] other ++ s → (one ≡ other) × (r ≡ s)
    unfolding entries
    same-entries one other r s long same =
        let front =
        entries-front written apart [] one other r s same (omega (arith, long)) in
        let nothing : front.0 ≡ [] =
        no_pair front.0 (omega (arith, long, ap length front.1, length-append one front.0)) in (
          sym (append-nil one) ∙ (λ i. one ++ sym nothing i) ∙ sym front.1,
          front.2 ∙ ap (λ ps. entries written (last_key [] one) ps ++ s) nothing,
        )

    pub closed-apart : (start : List ℕ) (one other : List (List ℕ × V)) (r s : List ℕ)
        → closed start one ++ r ≡ closed start other ++ s → (one ≡ other) × (r ≡ s)
    closed-apart start one other r s same =
        let whole =
        append_cancel_left start _ _
        (sym (closed-then start one r) ∙ same ∙ closed-then start other s) in
        let counts = leb-apart (length one) (length other) _ _ whole in
        let is = (same-entries one other _ _ counts.0 counts.1).0 in (
          is,
          append_cancel_left (closed start other) r s
              (ap (λ l. closed start l ++ r) (sym is) ∙ same),
        )

    -- Where no next pair that is admitted has its form, no list of more of these has its form.
    pub lacks-admitted : (Admits : List ℕ × V → Type 0) (bytes : List ℕ) (at end i count : ℕ)
        (key : List ℕ) (list : List (List ℕ × V)) (f : Bool) → IsRead bytes at end i key list
        → i < count → (list ≡ [] → f ≡ true)
        → ((pair : List ℕ × V) (rest : List ℕ) → IsNext f key pair.0 → Admits pair
        → drop end bytes ≢ entry written key pair ++ rest)
        → (all : List (List ℕ × V)) (rest : List ℕ) → length all ≡ count
        → KeysAscend (λ pair. pair.0) all
        → ((pair : List ℕ × V) → Contains all pair → Admits pair)
        → drop at bytes ≢ entries written [] all ++ rest
    unfolding entries
    lacks-admitted Admits bytes at end i count key list f is less first lacks all rest long
        ascends admits stands =
        let front =
        entries-front written apart [] list all _ rest (sym is.part.stands ∙ stands)
        (omega (arith, less, is.count, long)) in
        goes_on front.0 front.1 front.2
      where
        goes_on : (later : List (List ℕ × V)) → all ≡ list ++ later
            → drop end bytes ≡ entries written (last_key [] list) later ++ rest → ⊥
        goes_on [] whole ends =
            omega (arith, less, is.count, long, ap length whole, length-append list [])
        goes_on (pair ∷ later) whole ends =
            lacks pair (entries written pair.0 later ++ rest)
            (subst (λ k. IsNext f k pair.0) (sym is.last)
            (chain-seam f list later pair
            (subst (λ ps. IsChain true [] ps) whole (chain-from all ascends)) first))
            (admits pair (subst (λ ps. Contains ps pair) (sym whole)
            (contains-seam list later pair)))
            (ends ∙ append_assoc _ (entries written pair.0 later) rest
            ∙ ap (λ k. entry written k pair ++ (entries written pair.0 later ++ rest)) (sym
            is.last))

    -- The same of keys of at most this length.
    pub lacks-entries : (most : Option ℕ) (bytes : List ℕ) (at end i count : ℕ) (key : List ℕ)
        (list : List (List ℕ × V)) (f : Bool) → IsRead bytes at end i key list → i < count
        → (list ≡ [] → f ≡ true) → LacksPair written most f key (drop end bytes)
        → LacksEntries written most count (drop at bytes)
    lacks-entries most bytes at end i count key list f is less first lacks =
        lacks-admitted (λ pair. IsKeyLength most (length pair.0)) bytes at end i count key list f is
        less first (λ pair rest next long. lacks pair.0 pair.1 rest next long)

  module _ (start : List ℕ) (list : List (List ℕ × V)) (bytes : List ℕ)
      (stands : bytes ≡ closed start list) where
    -- what stands behind the start
    pub closed-started : (at : ℕ) → HasPart bytes 0 start at
        → drop at bytes ≡ leb (length list) ++ (entries written [] list
        ++ (sha256 (listed_body start list) ++ []))
    closed-started at heads =
        append_cancel_left start (drop at bytes) _
        (sym heads.stands ∙ stands ∙ sym (append-nil (closed start list))
        ∙ closed-then start list [])

    -- and behind the count
    pub closed-counted : (at from count : ℕ) → HasPart bytes 0 start at
        → HasPart bytes at (leb count) from → (count ≡ length list)
        × (drop from bytes ≡ entries written [] list
        ++ (sha256 (listed_body start list) ++ []))
    closed-counted at from count heads counts =
        leb-apart count (length list) (drop from bytes) _
        (sym counts.stands ∙ closed-started at heads)

    -- Where all its parts were read, only its sum stands behind them.
    pub closed-all : ((x y : V) (r s : List ℕ) → written x ++ r ≡ written y ++ s → x ≡ y)
        → (at from end count : ℕ) (found : List (List ℕ × V)) → HasPart bytes 0 start at
        → HasPart bytes at (leb count) from → HasPart bytes from (entries written [] found) end
        → length found ≡ count → drop end bytes ≡ sha256 (take end bytes)
    closed-all apart at from end count found heads counts lists long =
        let opened = closed-counted at from count heads counts in
        let parts =
        same-entries apart found list (drop end bytes) _ (long ∙ opened.0)
        (sym lists.stands ∙ opened.1) in
        let whole : HasPart bytes 0 (listed_body start list) end =
        part-join bytes 0 from end _ _
        (part-join bytes 0 at from _ _ heads
        (subst (λ m. HasPart bytes at (leb m) from) opened.0 counts))
        (subst (λ ps. HasPart bytes from (entries written [] ps) end) parts.0 lists) in
        parts.1 ∙ append-nil _ ∙ ap sha256 (sym (part-front bytes _ end whole))
