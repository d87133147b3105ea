-- Pairs that are read one by one.
use Rattle.std.proofs.Common.{◌≡◌, ◌≢◌, ◌+◌, ◌<◌, ◌≤◌, ℕ, Bool, true, false, List, [], ◌∷◌, ◌++◌, length, drop, cond, Option, Some, None, Result, Ok, Err, refl, sym, ap, subst, ◌∙◌, ⊎_elim, append_assoc, arith}
use Rattle.std.specs.Prelude.{Contains, is_some}
use Rattle.std.specs.Result.{IsErrAnd}
use Rattle.std.specs.Cmp.Lexicographic.{nat_list_cmp_total}
use Rattle.std.specs.FinMap as finite
use Rattle.std.specs.Ordering.{eq_by_cmp}
use Rattle.std.specs.FinMap.Entries.{put, by_order}
use Rattle.std.proofs.lemmas.Bool.{eqb-true, eq-eqb, false≢true}
use Rattle.std.proofs.lemmas.List.{length-append}
use Rattle.rart_below.specs.Bytes.{IsAdmitted, byte_order}
use Rattle.rart_maps.specs.Lookups.{with_value}
use Rattle.rart_maps.specs.Order.{IsBefore}
use Rattle.rart_maps.specs.Pairs.{pairs}
use Rattle.rart_maps.specs.Versions.{Map, Version, has_no_key, value_at, with_key}
use Rattle.rart_maps.proofs.ElementLemmas.{Contains-here, Contains-later}
use Rattle.rart_maps.proofs.FoundLemmas.{pairs_are_found, pairs_ascend_by_key}
use Rattle.rart_maps.proofs.OrderLemmas.{order_is_of_first_difference}
use Rattle.rart_maps.proofs.VersionLemmas.{same_key}
use Rattle.rart_saved.specs.declared.error.LoadError.{LoadError}
use Rattle.rart_saved.specs.declared.error.LoadError.TheVariants.{Memory}
use Rattle.rart_saved.specs.Forms.{key_form, entry, entries}
use Rattle.rart_saved.specs.Keys.{IsNext}
use Rattle.rart_saved.specs.Loads.{HasKeysWithin, LacksPair, LacksPairs}
use Rattle.rart_saved.specs.Parts.{HasPart}
use Rattle.rart_saved.specs.Refusals.{OnOtherErr}
use Rattle.rart_saved.proofs.EntryLemmas.{last_key, IsChain, before-trans, behind, last_key-next, chain-from, chain-seam, entries-front, entries-next}
use Rattle.rart_saved.proofs.SharedKeyLemmas.{key_form-apart}
use Rattle.rart_saved.proofs.BytePartLemmas.{part-join}

-- An error is passed on.
pub other_passed : {T : Type 0} (r : Result T LoadError) (e : LoadError) (P : Type 0)
    → IsErrAnd r (λ y. y ≡ e) → (e ≢ Memory → P) → OnOtherErr r P
other_passed (Ok x) e P is on = tt
other_passed (Err y) e P is on = λ other. on (λ memory. other (is ∙ memory))

-- Nothing is told of want of memory.
pub other_memory : {T : Type 0} (r : Result T LoadError) (P : Type 0)
    → IsErrAnd r (λ y. y ≡ Memory) → OnOtherErr r P
other_memory (Ok x) P is = tt
other_memory (Err y) P is = λ other. absurd (other is)

module _ {V : Type 0} where
  -- ---- one pair

  module _ (written : V → List ℕ) where
    pub entry-then : (before key : List ℕ) (x : V) (rest : List ℕ)
        → entry written before (key, x) ++ rest ≡ key_form before key ++ (written x ++ rest)
    unfolding entry
    entry-then before key x rest = append_assoc (key_form before key) (written x) rest

    pub entry-written : (before key one two three : List ℕ) (x : V)
        → two ≡ one ++ key_form before key → three ≡ two ++ written x
        → three ≡ one ++ entry written before (key, x)
    unfolding entry
    entry-written before key one two three x first second =
        second ∙ ap (λ g. g ++ written x) first
        ∙ append_assoc one (key_form before key) (written x)

    pub entry-read : (bytes before key : List ℕ) (x : V) (at from end : ℕ)
        → HasPart bytes at (key_form before key) from → HasPart bytes from (written x) end
        → HasPart bytes at (entry written before (key, x)) end
    unfolding entry
    entry-read bytes before key x at from end one other =
        part-join bytes at from end (key_form before key) (written x) one other

    -- What stands at a place where a pair has its form.
    pub entry-opened : (bytes before key new : List ℕ) (x : V) (rest : List ℕ) (at from : ℕ)
        → HasPart bytes at (key_form before new) from
        → drop at bytes ≡ entry written before (key, x) ++ rest
        → (new ≡ key) × (drop from bytes ≡ written x ++ rest)
    entry-opened bytes before key new x rest at from part stands =
        key_form-apart before new key (drop from bytes) (written x ++ rest)
        (sym part.stands ∙ stands ∙ entry-then before key x rest)

  -- ---- a map with one more key at its end

  put-behind : (first : List ℕ × V) (done : List (List ℕ × V)) (key : List ℕ) (x : V)
      → IsChain false first.0 done → IsBefore (last_key first.0 done) key
      → IsBefore first.0 key
      × (put byte_order key x (first ∷ done) ≡ first ∷ (done ++ (key, x) ∷ []))
  unfolding IsChain last_key
  put-behind first [] key x chain before = (
    before,
    ap (λ o. by_order o ((key, x) ∷ first ∷ []) ((first.0, x) ∷ [])
        (first ∷ put byte_order key x [])) ((order_is_of_first_difference key first.0).2.1 before),
  )
  put-behind first (next ∷ done) key x chain before =
      let more = put-behind next done key x chain.1 before in
      let less = before-trans first.0 next.0 key (behind first.0 next.0 chain.0) more.0 in (
        less,
        ap (λ o. by_order o ((key, x) ∷ first ∷ next ∷ done) ((first.0, x) ∷ next ∷ done)
            (first ∷ put byte_order key x (next ∷ done)))
            ((order_is_of_first_difference key first.0).2.1 less)
            ∙ ap (λ rest. first ∷ rest) more.1,
      )

  put-next : (f : Bool) (done : List (List ℕ × V)) (key : List ℕ) (x : V) → IsChain true [] done
      → (f ≡ true → done ≡ []) → IsNext f (last_key [] done) key
      → put byte_order key x done ≡ done ++ (key, x) ∷ []
  unfolding IsChain last_key
  put-next f [] key x chain first next = refl
  put-next f (one ∷ done) key x chain first next =
      (put-behind one done key x chain.1
      (⊎_elim (λ is. absurd (omega (arith, ap length (first is)))) (λ is. is) next)).1

  -- Where there is no key, there is no pair, and the other way.
  pub none-paired : (v : Version V) → has_no_key v ≡ true → pairs v.content ≡ []
  none-paired v none =
      no_element (pairs v.content)
      (sym (finite.len-entries v.content) ∙ eqb-true (finite.len v.content) 0 none)
    where
      no_element : (xs : List (List ℕ × V)) → length xs ≡ 0 → xs ≡ []
      no_element [] is = refl
      no_element (x ∷ xs) is = absurd (omega (arith, is))

  pub paired-none : (v : Version V) → pairs v.content ≡ [] → has_no_key v ≡ true
  paired-none v none =
      eq-eqb (finite.len v.content) 0 (finite.len-entries v.content ∙ ap length none)

  pub pairs-next : (v : Version V) (key : List ℕ) (x : V)
      → IsNext (has_no_key v) (last_key [] (pairs v.content)) key
      → pairs (finite.insert v.content key x) ≡ pairs v.content ++ (key, x) ∷ []
  pairs-next v key x next =
      finite.entries-insert nat_list_cmp_total v.content key x
      ∙ put-next (has_no_key v) (pairs v.content) key x
      (chain-from (pairs v.content) (pairs_ascend_by_key V v.content)) (none-paired v) next

  -- ---- as many pairs as were read

  -- So many pairs were read from one place to another and put into the tree, the last with this
  -- key.
  pub record IsTaken (written : V → List ℕ) (bytes : List ℕ) (at end start i : ℕ)
      (key : List ℕ) (v : Version V) : Type 0 where
    pub number : v.number ≡ start + i
    pub count : finite.len v.content ≡ i
    pub last : key ≡ last_key [] (pairs v.content)
    pub part : HasPart bytes at (entries written [] (pairs v.content)) end

  pub taken-none : (written : V → List ℕ) (bytes : List ℕ) (at : ℕ) (v : Version V)
      → at ≤ length bytes → v.content ≡ finite.empty
      → IsTaken written bytes at at v.number 0 [] v
  unfolding entries last_key
  taken-none written bytes at v within empty =
      let none : finite.len v.content ≡ 0 =
      ap finite.len empty ∙ finite.len-empty byte_order V in
      let nothing = none-paired v (eq-eqb (finite.len v.content) 0 none) in
      record {
        number = omega arith;
        count = none;
        last = sym (ap (last_key []) nothing);
        part = subst (λ ps. HasPart bytes at (entries written [] ps) at) (sym nothing)
            (record { within = within; stands = refl });
      }

  pub taken-next : (written : V → List ℕ) (bytes : List ℕ) (at end end' start i : ℕ)
      (key key' : List ℕ) (v v' : Version V) (x : V) → IsTaken written bytes at end start i key v
      → HasPart bytes end (entry written key (key', x)) end' → v' ≡ with_key v key' x 1
      → IsNext (has_no_key v) key key' → IsTaken written bytes at end' start (i + 1) key' v'
  taken-next written bytes at end end' start i key key' v v' x is part set next =
      let grown : pairs v'.content ≡ pairs v.content ++ (key', x) ∷ [] =
      ap (λ w. pairs w.content) set
      ∙ pairs-next v key' x (subst (λ k. IsNext (has_no_key v) k key') is.last next) in
      record {
        number = omega (arith, ap (λ w. w.number) set, is.number);
        count = finite.len-entries v'.content ∙ ap length grown
            ∙ length-append (pairs v.content) ((key', x) ∷ [])
            ∙ ap (λ n. n + 1) (sym (finite.len-entries v.content) ∙ is.count);
        last = sym (ap (last_key []) grown ∙ last_key-next [] (pairs v.content) (key', x));
        part = subst (λ g. HasPart bytes at g end')
            ((λ j. entries written [] (pairs v.content) ++ entry written (is.last j) (key', x))
            ∙ sym (entries-next written [] (pairs v.content) (key', x))
            ∙ sym (ap (entries written []) grown))
            (part-join bytes at end end' _ _ is.part part);
      }

  -- No key is longer than a limit.
  pub within-none : (longest : Option ℕ) (v : Version V) → v.content ≡ finite.empty
      → HasKeysWithin longest v
  within-none longest v empty key there =
      absurd (false≢true (sym (ap is_some (ap (λ m. finite.get m key) empty
      ∙ finite.get-empty {X = V} byte_order key)) ∙ there))

  pub within-same : (longest : Option ℕ) (v v' : Version V) → v.content ≡ v'.content
      → HasKeysWithin longest v → HasKeysWithin longest v'
  within-same longest v v' same within key there =
      within key (ap (λ m. finite.contains_key m key) same ∙ there)

  get-set : (m : Map V) (key : List ℕ) (x : Option V) (other : List ℕ)
      → finite.get (with_value m key x) other
      ≡ cond (eq_by_cmp byte_order other key) x (finite.get m other)
  get-set m key None other = finite.get-remove nat_list_cmp_total m key other
  get-set m key (Some x) other = finite.get-insert nat_list_cmp_total m key x other

  pub within-set : (longest : Option ℕ) (v v' : Version V) (key : List ℕ) (x : Option V)
      → HasKeysWithin longest v → v'.content ≡ with_value v.content key x
      → IsAdmitted longest (length key) → HasKeysWithin longest v'
  within-set longest v v' key x within set short other there =
      elim (eq_by_cmp byte_order other key) as (λ t. eq_by_cmp byte_order other key ≡ t
      → IsAdmitted longest (length other)) [
        | true ↦ λ same.
            subst (λ k. IsAdmitted longest (length k)) (sym (same_key other key same)) short
        | false ↦ λ apart. within other
            (sym (ap is_some (ap (λ m. finite.get m other) set ∙ get-set v.content key x other
            ∙ ap (λ t. cond t x (value_at v other)) apart)) ∙ there)
      ] refl

  contains-seam : (done later : List (List ℕ × V)) (pair : List ℕ × V)
      → Contains (done ++ pair ∷ later) pair
  contains-seam [] later pair = Contains-here pair later
  contains-seam (one ∷ done) later pair =
      Contains-later one (done ++ pair ∷ later) pair (contains-seam done later pair)

  -- ---- refused

  module _ (written : V → List ℕ)
      (apart : (x y : V) (r s : List ℕ) → written x ++ r ≡ written y ++ s → x ≡ y) where
    -- Where no next pair has its form, no map of more keys has its pairs.
    pub lacks-pairs : (most : Option ℕ) (bytes : List ℕ) (at end start i count : ℕ)
        (key : List ℕ) (v : Version V) → IsTaken written bytes at end start i key v → i < count
        → LacksPair written most (has_no_key v) key (drop end bytes)
        → LacksPairs written most count (drop at bytes)
    unfolding entries
    lacks-pairs most bytes at end start i count key v is less lacks m rest long lengths stands =
        let same : entries written [] (pairs v.content) ++ drop end bytes
        ≡ entries written [] (pairs m) ++ rest = sym is.part.stands ∙ stands in
        let few : length (pairs v.content) ≤ length (pairs m) =
        omega (arith, less, is.count, long, finite.len-entries v.content, finite.len-entries m) in
        let front = entries-front written apart [] (pairs v.content) (pairs m) _ rest same few in
        goes_on front.0 front.1 front.2
      where
        goes_on : (later : List (List ℕ × V)) → pairs m ≡ pairs v.content ++ later
            → drop end bytes ≡ entries written (last_key [] (pairs v.content)) later ++ rest → ⊥
        goes_on [] whole ends =
            omega (
              arith,
              less,
              is.count,
              long,
              finite.len-entries v.content,
              finite.len-entries m,
              ap length whole,
              length-append (pairs v.content) [],
            )
        goes_on (pair ∷ later) whole ends =
            let there : Contains (pairs m) pair =
            subst (λ ps. Contains ps pair) (sym whole) (contains-seam (pairs v.content) later pair)
            in
            lacks pair.0 pair.1 (entries written pair.0 later ++ rest)
            (subst (λ k. IsNext (has_no_key v) k pair.0) (sym is.last)
            (chain-seam (has_no_key v) (pairs v.content) later pair
            (subst (λ ps. IsChain true [] ps) whole
            (chain-from (pairs m) (pairs_ascend_by_key V m))) (paired-none v)))
            (lengths pair.0 (ap is_some ((pairs_are_found V m pair.0 pair.1).0 there)))
            (ends ∙ append_assoc _ (entries written pair.0 later) rest
            ∙ ap (λ k. entry written k pair ++ (entries written pair.0 later ++ rest)) (sym
            is.last))
