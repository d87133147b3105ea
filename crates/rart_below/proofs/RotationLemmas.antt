-- What a turn by one does to the slots that it goes over.
use Rattle.std.proofs.Common.{append_assoc, length-take-le, length-drop, length-set, ◌≡◌, ◌<◌, ◌≤◌, ℕ, zero, suc, length, ◌+◌, ◌-◌, List, [], ◌∷◌, ◌++◌, refl, ap, arith, take, drop, set, add-one}
use Rattle.std.specs.List.{insert, remove}
use borrow.Rule.Slice.PartMut.{put_mid}

module _ {X : Type 0} where
  -- the part of m + 1 elements whose last is written
  abbrev part : ℕ → List X → X → List X
  part m xs x = take (suc m) (set xs m x)

  last_of_part : (m : ℕ) (xs : List X) (x : X) → m < length xs → drop m (part m xs x) ≡ x ∷ []
  last_of_part m [] x lt = absurd (omega arith)
  last_of_part zero (y ∷ ys) x lt = refl
  last_of_part (suc m) (y ∷ ys) x lt = last_of_part m ys x (omega arith)

  front_of_part : (m : ℕ) (xs : List X) (x : X) → take m (part m xs x) ≡ take m xs
  front_of_part zero xs x = refl
  front_of_part (suc m) [] x = refl
  front_of_part (suc m) (y ∷ ys) x = ap (λ (l : List X). y ∷ l) (front_of_part m ys x)

  past_part : (m : ℕ) (xs : List X) (x : X) → drop (suc m) (set xs m x) ≡ drop (suc m) xs
  past_part m [] x = refl
  past_part zero (y ∷ ys) x = refl
  past_part (suc m) (y ∷ ys) x = past_part m ys x

  turned_in : (place len m : ℕ) (xs ys : List X) (x : X) → len ≡ m + place → len < length xs
      → ys ≡ drop m (take (suc m) (drop place (set xs len x)))
      ++ take m (take (suc m) (drop place (set xs len x)))
      → put_mid place (suc m) (set xs len x) ys ≡ insert (take len xs) place x ++ drop (suc len) xs
  turned_in zero len m xs ys x e lt is =
      let here : len ≡ m = omega arith in
      let lt' : m < length xs = omega arith in
      rw (is, here, last_of_part m xs x lt', front_of_part m xs x, past_part m xs x) refl
  turned_in (suc place) zero m xs ys x e lt is = absurd (omega arith)
  turned_in (suc place) (suc len) m [] ys x e lt is = absurd (omega arith)
  turned_in (suc place) (suc len) m (z ∷ zs) ys x e lt is =
      ap (λ (l : List X). z ∷ l) (turned_in place len m zs ys x (omega arith) (omega arith) is)

  -- the last one of a part, just written, comes to its front
  pub inserted : (place len : ℕ) (xs ys : List X) (x : X) → place ≤ len → len < length xs
      → ys ≡ drop (length (take (len + 1 - place) (drop place (set xs len x))) - 1)
      (take (len + 1 - place) (drop place (set xs len x)))
      ++ take (length (take (len + 1 - place) (drop place (set xs len x))) - 1)
      (take (len + 1 - place) (drop place (set xs len x)))
      → put_mid place (len + 1 - place) (set xs len x) ys ≡ insert (take len xs) place x
      ++ drop (len + 1) xs
  inserted place len xs ys x le lt is =
      let count : len + 1 - place ≡ suc (len - place) = omega arith in
      let long : suc (len - place) ≤ length (drop place (set xs len x)) =
      omega (arith, length-drop place (set xs len x), length-set xs len x) in
      let is' =
      rw (count, length-take-le (suc (len - place)) (drop place (set xs len x)) long) at is in
      let less : suc (len - place) - 1 ≡ len - place = omega arith in
      rw (count, add-one) (turned_in place len (len - place) xs ys x (omega arith) lt
      (rw less at is'))

  -- the first one of a part, just written, goes to its end
  turned_out : (place len : ℕ) (xs ys : List X) (x : X) → place < len → place < length xs
      → ys ≡ drop 1 (take (len - place) (drop place (set xs place x)))
      ++ take 1 (take (len - place) (drop place (set xs place x)))
      → put_mid place (len - place) (set xs place x) ys ≡ remove (take len xs) place
      ++ x ∷ drop len xs
  turned_out place zero xs ys x lt within is = absurd (omega arith)
  turned_out place (suc len) [] ys x lt within is = absurd (omega arith)
  turned_out zero (suc len) (z ∷ zs) ys x lt within is =
      let whole : suc len - 0 ≡ suc len = omega arith in
      rw (is, whole) (append_assoc (take len zs) (x ∷ []) (drop len zs))
  turned_out (suc place) (suc len) (z ∷ zs) ys x lt within is =
      let less : suc len - suc place ≡ len - place = omega arith in
      rw less (ap (λ (l : List X). z ∷ l)
      (turned_out place len zs ys x (omega arith) (omega arith) (rw less at is)))

  pub taken_out : (place len : ℕ) (xs ys : List X) (x : X) → place < len → len ≤ length xs
      → ys ≡ drop 1 (take (len - place) (drop place (set xs place x)))
      ++ take 1 (take (len - place) (drop place (set xs place x)))
      → put_mid place (len - place) (set xs place x) ys ≡ remove (take len xs) place
      ++ x ∷ drop len xs
  taken_out place len xs ys x lt le is = turned_out place len xs ys x lt (omega arith) is
