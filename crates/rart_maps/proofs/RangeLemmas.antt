-- The pairs within two bounds, as a walk from the lower one comes to them: up to the first key past
-- the upper one, behind which no key meets it.
use Rattle.std.proofs.Common.{◌≡◌, ℕ, Bool, true, false, cond, List, [], ◌∷◌, refl, sym, ap, subst, ◌∙◌, ⊎_elim, inl, inr, arith}
use Rattle.std.specs.Prelude.{◌&&◌, filter, Contains}
use Rattle.std.specs.declared.ops.Bound.{Bound}
use Rattle.std.specs.declared.ops.Bound.TheVariants.{Included, Excluded, Unbounded}
use Rattle.std.specs.Ordering.{as_partial_cmp}
use Rattle.std.specs.Range.Bound.{is_from_start, is_up_to_end}
use Rattle.std.proofs.lemmas.Bool.{true≢false}
use Rattle.rart_below.specs.Bytes.{byte_order}
use Rattle.rart_maps.specs.Versions.{Map}
use Rattle.rart_maps.specs.Pairs.{pairs, within}
use Rattle.rart_maps.specs.Order.{IsBefore, MeetsHigh}
use Rattle.rart_maps.specs.FoundLaws.{KeysAscend}
use Rattle.rart_maps.proofs.ElementLemmas.{Contains-here, Contains-later, Contains-cases, AllPairs-first, AllPairs-rest}
use Rattle.rart_maps.proofs.FoundLemmas.{KeysAscend-filter_pairs}
use Rattle.rart_maps.proofs.OrderLemmas.{high-meets}

-- What stands before a string stands before whatever that stands before.
pub IsBefore-through : (u v w : List ℕ) → IsBefore u v → IsBefore v w → IsBefore u w
IsBefore-through u v [] first second = absurd second
IsBefore-through u [] (d ∷ w) first second = absurd first
IsBefore-through [] (c ∷ v) (d ∷ w) first second = tt
IsBefore-through (b ∷ u) (c ∷ v) (d ∷ w) first second =
    ⊎_elim
    (λ less. ⊎_elim
    (λ more. inl (omega (arith, less, more)))
    (λ both. inl (omega (arith, less, both.0)))
    second)
    (λ here. ⊎_elim
    (λ more. inl (omega (arith, here.0, more)))
    (λ both. inr (here.0 ∙ both.0, IsBefore-through u v w here.1 both.1))
    second)
    first

-- What stands before a string that meets an upper bound meets it too.
MeetsHigh-before : (high : Bound (List ℕ)) (u w : List ℕ) → IsBefore u w → MeetsHigh high w →
    MeetsHigh high u
MeetsHigh-before (Included a) u w before meets =
    ⊎_elim
    (λ same. inr (subst (IsBefore u) same before))
    (λ less. inr (IsBefore-through u w a before less))
    meets
MeetsHigh-before (Excluded a) u w before meets = IsBefore-through u w a before meets
MeetsHigh-before Unbounded u w before meets = tt

-- whether a key meets an upper bound, or a lower one
abbrev pub is_below : Bound (List ℕ) → List ℕ → Bool
is_below high key = is_up_to_end (as_partial_cmp byte_order) high key

abbrev pub is_above : Bound (List ℕ) → List ℕ → Bool
is_above low key = is_from_start (as_partial_cmp byte_order) low key

-- What stands behind a key past an upper bound is past it too.
pub past-behind : (high : Bound (List ℕ)) (u w : List ℕ) → IsBefore u w → is_below high u ≡ false →
    is_below high w ≡ false
past-behind high u w before past =
    elim (is_below high w) as (λ b. is_below high w ≡ b → b ≡ false) [
      | true ↦ λ is.
          let meets = MeetsHigh-before high u w before ((high-meets high w).0 is) in
          absurd (true≢false (sym ((high-meets high u).1 meets) ∙ past))
      | false ↦ λ _. refl
    ] refl

module _ {A : Type 0} where
  filter-none : (p : A → Bool) (xs : List A) → ((x : A) → Contains xs x → p x ≡ false) →
      filter p xs ≡ []
  filter-none p [] fails = refl
  filter-none p (x ∷ xs) fails =
      ap (λ b. cond b (x ∷ filter p xs) (filter p xs)) (fails x (Contains-here x xs))
      ∙ filter-none p xs (λ y there. fails y (Contains-later x xs y there))

  pub filter-both : (p q : A → Bool) (xs : List A) →
      filter (λ x. p x && q x) xs ≡ filter q (filter p xs)
  filter-both p q [] = refl
  filter-both p q (x ∷ xs) =
      elim (p x) as (λ b. cond (b && q x) (x ∷ filter (λ x. p x && q x) xs)
      (filter (λ x. p x && q x) xs) ≡ filter q (cond b (x ∷ filter p xs) (filter p xs))) [
        | true ↦ ap (λ rest. cond (q x) (x ∷ rest) rest) (filter-both p q xs)
        | false ↦ filter-both p q xs
      ]

module _ {V : Type 0} where
  -- of these pairs, those whose key meets an upper bound, or a lower one
  abbrev pub up_to : Bound (List ℕ) → List (List ℕ × V) → List (List ℕ × V)
  up_to high list = filter (λ pair. is_below high pair.0) list

  abbrev pub from : Bound (List ℕ) → List (List ℕ × V) → List (List ℕ × V)
  from low list = filter (λ pair. is_above low pair.0) list

  -- The pairs within two bounds are, of those from the lower one on, those up to the upper one.
  pub within-from : (m : Map V) (low high : Bound (List ℕ)) →
      within m low high ≡ up_to high (from low (pairs m))
  within-from m low high =
      filter-both (λ pair. is_above low pair.0) (λ pair. is_below high pair.0) (pairs m)

  pub from-ascends : (m : Map V) (low : Bound (List ℕ)) →
      KeysAscend (λ pair. pair.0) (from low (pairs m))
  from-ascends m low = KeysAscend-filter_pairs (is_above low) m

  -- ---- a walk over such pairs, a pair at a time
  module _ (high : Bound (List ℕ)) (pair : List ℕ × V) (rest : List (List ℕ × V))
      (ascends : KeysAscend (λ pair. pair.0) (pair ∷ rest)) where
    -- behind the first, the keys ascend
    pub ascends-rest : KeysAscend (λ pair. pair.0) rest
    ascends-rest = AllPairs-rest (λ a b. IsBefore a.0 b.0) pair rest ascends

    -- Where the first key meets the upper bound, it is the first up to that.
    pub up_to-first : is_below high pair.0 ≡ true →
        up_to high (pair ∷ rest) ≡ pair ∷ up_to high rest
    up_to-first meets =
        ap (λ b. cond b (pair ∷ up_to high rest) (up_to high rest)) meets

    -- Where it is past that, all are.
    pub up_to-past : is_below high pair.0 ≡ false → up_to high (pair ∷ rest) ≡ []
    up_to-past past =
        filter-none (λ pair. is_below high pair.0) (pair ∷ rest) (λ other there. ⊎_elim
        (λ same. ap (λ p. is_below high p.0) (sym same) ∙ past)
        (λ later. past-behind high pair.0 other.0
        (AllPairs-first (λ a b. IsBefore a.0 b.0) pair rest ascends other later) past)
        (Contains-cases pair rest other there))
