-- The children behind a byte.
use Rattle.std.proofs.Common.{◌≡◌, ◌+◌, ℕ, List, [], ◌∷◌, Option, Some, None, refl, sym, ap, ◌∙◌, MatchOption}
use Rattle.std.proofs.lemmas.Option.{none-some}
use Rattle.rart_below.specs.Children.{child_at, children_from, first_of, IsAscending}
use Rattle.rart_below.proofs.AscendingLemmas.{walked_on, walked_to}
use Rattle.rart_below.proofs.ChildrenFromLemmas.{from-next}

abbrev rest_of : {A : Type 0} → List A → List A
rest_of [] = []
rest_of (x ∷ xs) = xs

module _ {C X : Type 0} (view : X → ℕ × C) where
  -- behind the child under the byte
  pub skipped : (byte : ℕ) (found : C) (children before after : List (ℕ × C)) (o : Option X)
      → IsAscending children → child_at byte children ≡ Some found
      → before ≡ children_from byte children
      → MatchOption o ((before ≡ []) × (after ≡ [])) (λ x. before ≡ view x ∷ after)
      → after ≡ children_from (byte + 1) children
  skipped byte found children before after o order here is step =
      let first = sym (walked_to byte byte found children refl order here) in
      let next : before ≡ (byte, found) ∷ children_from (byte + 1) children =
      is ∙ from-next byte children (byte, found) order first in
      let P : Option X → Type 0 =
      λ o. MatchOption o ((before ≡ []) × (after ≡ [])) (λ x. before ≡ view x ∷ after)
      → after ≡ children_from (byte + 1) children in
      let both : (o : Option X) → P o = elim [
        | None ↦ (λ end. absurd (none-some (byte, found) (ap first_of (sym end.0 ∙ next))))
        | Some x ↦ (λ given. ap rest_of (sym given ∙ next))
      ] in
      both o step

module _ {C : Type 0} where
  -- no child is under the byte
  pub unskipped : (byte : ℕ) (children before : List (ℕ × C)) → child_at byte children ≡ None
      → before ≡ children_from byte children → before ≡ children_from (byte + 1) children
  unskipped byte children before missing is = is ∙ walked_on byte byte children refl missing
