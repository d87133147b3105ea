-- The longest of the pairs whose key begins a string.
use Rattle.std.proofs.Common.{◌≡◌, ◌≤◌, ◌↔◌, ◌⊎◌, ℕ, true, List, [], ◌∷◌, refl, ap, sym, subst, ◌∙◌, inl, inr, ⊎_elim, arith}
use Rattle.std.specs.Prelude.{Some, None, AllPairs, Contains, length}
use Rattle.std.specs.List.{last_or}
use Rattle.std.specs.Option.{is_some}
use Rattle.std.proofs.lemmas.Bool.{false≢true}
use Rattle.std.proofs.lemmas.Option.{same_Some}
use Rattle.rart_below.specs.Bytes.{begins}
use Rattle.rart_maps.specs.Pairs.{prefix_matches}
use Rattle.rart_maps.specs.Order.{IsBefore}
use Rattle.rart_maps.specs.FoundLaws.{KeysAscend, LongestIsFound}
use Rattle.rart_maps.proofs.ElementLemmas.{Contains-nil, Contains-here, Contains-later, Contains-cases, AllPairs-first, AllPairs-rest}
use Rattle.rart_maps.proofs.FoundLemmas.{prefix_matches_ascend, prefix_matches_are_found}
use Rattle.rart_maps.proofs.OrderLemmas.{before-longer}

-- The last element of a list in which each stands so to each later one: it is there, and each other
-- one stands so to it.
last-found : {A : Type 0} (R : A → A → Type 0) (x : A) (xs : List A) → AllPairs R (x ∷ xs)
    → (y : A) × (last_or (Some x) xs ≡ Some y) × Contains (x ∷ xs) y
    × ((z : A) → Contains (x ∷ xs) z → (z ≡ y) ⊎ R z y)
last-found R x [] pairs = (
  x,
  refl,
  Contains-here x [],
  λ z there. ⊎_elim (λ is. inl (sym is)) (λ later. absurd (Contains-nil z later))
      (Contains-cases x [] z there),
)
last-found R x (next ∷ rest) pairs =
    let later = last-found R next rest (AllPairs-rest R x (next ∷ rest) pairs) in (
      later.0,
      later.1,
      Contains-later x (next ∷ rest) later.0 later.2,
      λ z there. ⊎_elim
          (λ is. inr (subst (λ a. R a later.0) is
          (AllPairs-first R x (next ∷ rest) pairs later.0 later.2)))
          (later.3 z)
          (Contains-cases x (next ∷ rest) z there),
    )

module _ {V : Type 0} (w : List ℕ) where
  -- The last of a list of pairs whose keys ascend and begin w is the one of greatest length.
  last-longest : (entries : List (List ℕ × V)) → KeysAscend (λ pair. pair.0) entries
      → ((key : List ℕ) (x : V) → Contains entries (key, x) → begins key w ≡ true)
      → (key : List ℕ) (x : V) → (last_or None entries ≡ Some (key, x))
      ↔ (Contains entries (key, x)
      × ((other : List ℕ) (y : V) → Contains entries (other, y) → length other ≤ length key))
  last-longest [] ascend begin key x =
      (λ is. absurd (false≢true (ap is_some is)), λ both. absurd (Contains-nil (key, x) both.0))
  last-longest (first ∷ rest) ascend begin key x =
      let last = last-found (λ a b. IsBefore a.0 b.0) first rest ascend in
      let longer = λ (one other : List ℕ × V) (here : Contains (first ∷ rest) one)
      (there : Contains (first ∷ rest) other) (before : IsBefore one.0 other.0).
      before-longer one.0 other.0 w (begin one.0 one.1 here) (begin other.0 other.1 there)
      before in (
        λ is. let same = same_Some last.0 (key, x) (sym last.1 ∙ is) in (
          subst (Contains (first ∷ rest)) same last.2,
          λ other y there. subst (λ pair. length other ≤ length pair.0) same
              (⊎_elim
              (λ equal. let long = ap (λ pair. length pair.0) equal in omega (arith, long))
              (λ before. let long = longer (other, y) last.0 there last.2 before in
              omega (arith, long))
              (last.3 (other, y) there)),
        ),
        λ both. ⊎_elim
            (λ same. last.1 ∙ ap Some (sym same))
            (λ before.
            let long = longer (key, x) last.0 both.0 last.2 before in
            let most = both.1 last.0.0 last.0.1 last.2 in
            absurd (omega (arith, long, most)))
            (last.3 (key, x) both.0),
      )

module _ (V : Type 0) where
  pub longest_is_found : LongestIsFound V
  longest_is_found m w key x =
      last-longest w (prefix_matches m w) (prefix_matches_ascend V m w)
      (λ other y there. (((prefix_matches_are_found V m w other y).0) there).0) key x
