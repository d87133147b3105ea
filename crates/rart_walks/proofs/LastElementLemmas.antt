-- The last element of a list, and one put in its place.
use Rattle.std.proofs.Common.{◌≡◌, ◌-◌, ◌<◌, ℕ, suc, zero, List, [], ◌∷◌, ◌++◌, map, length, refl, arith, sym, ap}
use Rattle.std.specs.Prelude.{slice_index_or, slice_set}

module _ {A : Type 0} where
  -- The list ends with this element, at this place.
  pub record EndsWith (xs : List A) (at : ℕ) (x : A) : Type 0 where
    pub front : List A
    pub is : xs ≡ front ++ x ∷ []
    pub put : (y : A) → slice_set xs at y ≡ front ++ y ∷ []

  ends-at : (xs : List A) (at : ℕ) (x : A) → length xs ≡ suc at → x ≡ slice_index_or xs at x
      → EndsWith xs at x
  ends-at [] at x long is = absurd (omega (arith, long))
  ends-at (z ∷ []) zero x long is =
      record { front = []; is = ap (λ e. e ∷ []) (sym is); put = λ y. refl }
  ends-at (z ∷ []) (suc at) x long is = absurd (omega (arith, long))
  ends-at (z ∷ w ∷ xs) zero x long is = absurd (omega (arith, long))
  ends-at (z ∷ w ∷ xs) (suc at) x long is =
      let rest = ends-at (w ∷ xs) at x (omega (arith, long)) is in
      record {
        front = z ∷ rest.front;
        is = ap (λ e. z ∷ e) rest.is;
        put = λ y. ap (λ e. z ∷ e) (rest.put y);
      }

  pub ends-with : (xs : List A) (count : ℕ) (x : A) → count ≡ length xs → 0 < count
      → x ≡ slice_index_or xs (count - 1) x → EndsWith xs (count - 1) x
  ends-with xs count x long some is = ends-at xs (count - 1) x (omega (arith, long, some)) is

module _ {A B : Type 0} (f : A → B) where
  pub map-push : (front : List A) (x : A) → map f (front ++ x ∷ []) ≡ map f front ++ f x ∷ []
  map-push [] x = refl
  map-push (y ∷ front) x = ap (λ rest. f y ∷ rest) (map-push front x)
