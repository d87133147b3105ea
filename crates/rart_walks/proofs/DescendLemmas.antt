-- A walk back down to a lower bound, a pair or a node at a time: before the first that does not meet
-- it none does.
use Rattle.std.proofs.Common.{◌≡◌, ◌<◌, ◌⊎◌, ⊎_elim, inl, inr, ℕ, Bool, true, false, cond, List, [], ◌∷◌, ◌++◌, filter, reverse, refl, arith, sym, ap, subst, ◌∙◌}
use Rattle.std.specs.Prelude.{All, Contains, ◌||◌, ◌==◌}
use Rattle.std.specs.List.{AllPairs}
use Rattle.std.specs.Ordering.{is_lt}
use Rattle.std.specs.declared.ops.Bound.{Bound}
use Rattle.std.specs.declared.ops.Bound.TheVariants.{Included, Excluded, Unbounded}
use Rattle.std.proofs.lemmas.Bool.{and_from, and_parts, eq-eqb, eqb-true, false≢true, true≢false}
use Rattle.std.proofs.lemmas.List.{reverse-append}
use Rattle.std.proofs.lemmas.List.Elements.{All-head, All-nil, All-push, All-tail}
use Rattle.std.proofs.lemmas.List.Kept.{AllPairs-cons}
use Rattle.rart_below.specs.Bytes.{begins, byte_order}
use Rattle.rart_maps.specs.FoundLaws.{KeysAscend}
use Rattle.rart_maps.specs.Order.{IsAtMost, IsBefore, MeetsLow}
use Rattle.rart_maps.proofs.ElementLemmas.{All-from_contains, AllPairs-first, AllPairs-rest, Contains-cases, Contains-here, Contains-later}
use Rattle.rart_maps.proofs.OrderLemmas.{before-lt, bounds_contain-is, lt-before}
use Rattle.rart_maps.proofs.RangeLemmas.{IsBefore-through, is_above}
use Rattle.rart_walks.specs.Descending.{KeysDescend, leads_from, pairs_down_to}
use Rattle.rart_maps.specs.Bounds.{bound_string}
use Rattle.rart_walks.specs.Walks.{GoesOnFirst}
use Rattle.rart_walks.proofs.PassLemmas.{begins-longer}

-- ---- a list the other way round
module _ {X : Type 0} where
  reverse-first : (x : X) (xs : List X) → reverse (x ∷ xs) ≡ reverse xs ++ x ∷ []
  reverse-first x xs = reverse-append (x ∷ []) xs

  pub All-reverse : (P : X → Type 0) (xs : List X) → All P xs → All P (reverse xs)
  All-reverse P [] all = All-nil P
  All-reverse P (x ∷ xs) all =
      subst (All P) (sym (reverse-first x xs))
      (All-push P (reverse xs) x (All-reverse P xs (All-tail P x xs all)) (All-head P x xs all))

  pairs-push : (R : X → X → Type 0) (xs : List X) (y : X) → AllPairs R xs
      → All (λ x. R x y) xs → AllPairs R (xs ++ y ∷ [])
  pairs-push R [] y pairs all = AllPairs-cons R y [] (All-nil (R y)) none
    where
      none : AllPairs R []
      none = λ i j d less below. absurd (omega (arith, below))
  pairs-push R (x ∷ xs) y pairs all =
      AllPairs-cons R x (xs ++ y ∷ [])
      (All-push (R x) xs y (All-from_contains (R x) xs (λ z there. AllPairs-first R x xs pairs z
      there)) (All-head (λ x. R x y) x xs all))
      (pairs-push R xs y (AllPairs-rest R x xs pairs) (All-tail (λ x. R x y) x xs all))

  pairs-reverse : (R : X → X → Type 0) (xs : List X) → AllPairs R xs
      → AllPairs (λ a b. R b a) (reverse xs)
  pairs-reverse R [] pairs = λ i j d less below. absurd (omega (arith, below))
  pairs-reverse R (x ∷ xs) pairs =
      subst (AllPairs (λ a b. R b a)) (sym (reverse-first x xs))
      (pairs-push (λ a b. R b a) (reverse xs) x
      (pairs-reverse R xs (AllPairs-rest R x xs pairs))
      (All-reverse (R x) xs (All-from_contains (R x) xs (λ z there. AllPairs-first R x xs pairs z
      there))))

  filter-none : (p : X → Bool) (xs : List X) → ((x : X) → Contains xs x → p x ≡ false)
      → filter p xs ≡ []
  filter-none p [] fails = refl
  filter-none p (x ∷ xs) fails =
      ap (λ b. cond b (x ∷ filter p xs) (filter p xs)) (fails x (Contains-here x xs))
      ∙ filter-none p xs (λ y there. fails y (Contains-later x xs y there))

-- ---- keys before a lower bound
above-meets : (low : Bound (List ℕ)) (key : List ℕ) → is_above low key ≡ true → MeetsLow low key
above-meets low key is =
    ((bounds_contain-is low Unbounded key).0 (and_from (is_above low key) true is refl)).0

meets-above : (low : Bound (List ℕ)) (key : List ℕ) → MeetsLow low key → is_above low key ≡ true
meets-above low key meets =
    (and_parts (is_above low key) true ((bounds_contain-is low Unbounded key).1 (meets, tt))).0

-- What stands behind a string that meets a lower bound meets it too.
meets-behind : (low : Bound (List ℕ)) (u w : List ℕ) → IsBefore u w → MeetsLow low u
    → MeetsLow low w
meets-behind (Included a) u w before meets =
    ⊎_elim
    (λ same. inr (subst (λ z. IsBefore z w) (sym same) before))
    (λ less. inr (IsBefore-through a u w less before))
    meets
meets-behind (Excluded a) u w before meets = IsBefore-through a u w meets before
meets-behind Unbounded u w before meets = tt

-- What stands before a key that does not meet it does not either.
short-before : (low : Bound (List ℕ)) (u w : List ℕ) → IsBefore u w → is_above low w ≡ false
    → is_above low u ≡ false
short-before low u w before short =
    elim (is_above low u) as (λ b. is_above low u ≡ b → b ≡ false) [
      | true ↦ λ is.
          let meets = meets-above low w (meets-behind low u w before (above-meets low u is)) in
          absurd (true≢false (sym meets ∙ short))
      | false ↦ λ _. refl
    ] refl

-- What begins a key from a string on leads there.
pub leads-to : (key u w : List ℕ) → IsAtMost key w → begins u w ≡ true → leads_from key u ≡ true
leads-to key [] w most is = refl
leads-to key (b ∷ u) [] most is = absurd (false≢true is)
leads-to [] (b ∷ u) (c ∷ w) most is = refl
leads-to (d ∷ key) (b ∷ u) (c ∷ w) most is =
    let parts = and_parts (b == c) (begins u w) is in
    let same = eqb-true b c parts.0 in
    ⊎_elim
    (λ less. or_right (begins (b ∷ u) (d ∷ key)) (before-lt (d ∷ key) (b ∷ u)
    (inl (omega (arith, less, same)))))
    (λ here.
    let equal : b ≡ d = same ∙ sym here.0 in
    let inner = leads-to key u w here.1 parts.1 in
    elim (begins u key) as (λ t. begins u key ≡ t → (t || is_lt (byte_order key u)) ≡ true
    → leads_from (d ∷ key) (b ∷ u) ≡ true) [
      | true ↦ λ begun _.
          or_left (and_from (b == d) (begins u key) (eq-eqb b d equal) begun)
          (is_lt (byte_order (d ∷ key) (b ∷ u)))
      | false ↦ λ _ less.
          or_right (begins (b ∷ u) (d ∷ key)) (before-lt (d ∷ key) (b ∷ u)
          (inr (sym equal, lt-before key u less)))
    ] refl inner)
    (at_most-parts d c key w most)
  where
    or_left : {s : Bool} → s ≡ true → (t : Bool) → (s || t) ≡ true
    or_left is t = ap (λ s. s || t) is

    or_right : (s : Bool) {t : Bool} → t ≡ true → (s || t) ≡ true
    or_right true is = refl
    or_right false is = is

    first_of : List ℕ → ℕ
    first_of [] = 0
    first_of (b ∷ u) = b

    rest_of : List ℕ → List ℕ
    rest_of [] = []
    rest_of (b ∷ u) = u

    at_most-parts : (b c : ℕ) (u w : List ℕ) → IsAtMost (b ∷ u) (c ∷ w)
        → (b < c) ⊎ ((b ≡ c) × IsAtMost u w)
    at_most-parts b c u w most =
        ⊎_elim
        (λ same. inr (ap first_of same, inl (ap rest_of same)))
        (λ before. ⊎_elim inl (λ here. inr (here.0, inr here.1)) before)
        most

starts-low : (low : Bound (List ℕ)) (key : List ℕ) → is_above low key ≡ true
    → IsAtMost (bound_string low) key
starts-low (Included a) key is = above-meets (Included a) key is
starts-low (Excluded a) key is = inr (above-meets (Excluded a) key is)
starts-low Unbounded [] is = inl refl
starts-low Unbounded (b ∷ key) is = inr tt

module _ {V : Type 0} where
  pub ascending-descends : (pairs : List (List ℕ × V)) → KeysAscend (λ pair. pair.0) pairs
      → KeysDescend (reverse pairs)
  ascending-descends pairs ascend = pairs-reverse (λ a b. IsBefore a.0 b.0) pairs ascend

  module _ (low : Bound (List ℕ)) (pair : List ℕ × V) (rest : List (List ℕ × V)) where
    -- Where the first key meets the bound, it is the first from there on.
    pub down_to-first : is_above low pair.0 ≡ true
        → pairs_down_to low (pair ∷ rest) ≡ pair ∷ pairs_down_to low rest
    down_to-first meets =
        ap (λ b. cond b (pair ∷ pairs_down_to low rest) (pairs_down_to low rest)) meets

    module _ (descend : KeysDescend (pair ∷ rest)) where
      pub descends-rest : KeysDescend rest
      descends-rest = AllPairs-rest (λ a b. IsBefore b.0 a.0) pair rest descend

      -- Where it does not, no key does.
      pub down_to-past : is_above low pair.0 ≡ false → pairs_down_to low (pair ∷ rest) ≡ []
      down_to-past short =
          filter-none (λ other. is_above low other.0) (pair ∷ rest) (λ other there. ⊎_elim
          (λ same. ap (λ p. is_above low p.0) (sym same) ∙ short)
          (λ later. short-before low other.0 pair.0
          (AllPairs-first (λ a b. IsBefore b.0 a.0) pair rest descend other later) short)
          (Contains-cases pair rest other there))

  -- Below a node that leads to no key from the bound on, and behind it, none meets the bound.
  pub none-leads : (low : Bound (List ℕ)) (path : List ℕ) (pairs : List (List ℕ × V))
      → GoesOnFirst path pairs → KeysDescend pairs → leads_from (bound_string low) path ≡ false
      → pairs_down_to low pairs ≡ []
  none-leads low path pairs first descend off =
      ap (pairs_down_to low) first.3
      ∙ down_to-past low (path ++ first.0, first.1) first.2
      (subst KeysDescend first.3 descend)
      (elim (is_above low (path ++ first.0))
      as (λ b. is_above low (path ++ first.0) ≡ b → b ≡ false) [
        | true ↦ λ is.
            absurd (true≢false (sym (leads-to (bound_string low) path (path ++ first.0)
            (starts-low low (path ++ first.0) is) (begins-longer path first.0)) ∙ off))
        | false ↦ λ _. refl
      ] refl)
