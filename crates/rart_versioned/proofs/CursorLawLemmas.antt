-- How a cursor goes on.
use Rattle.std.proofs.Common.{◌≡◌, List, [], ◌∷◌, Some, None, drop, length, slice_get, refl, sym, ap, ◌∙◌, arith}
use Rattle.std.proofs.lemmas.Option.{none-some, same_Some}
use Rattle.rart_versioned.specs.CursorLaws.{CursorGoesPairByPair, CursorStaysAtEnd}

nil-cons : {X : Type 0} (x : X) (xs : List X) → [] ≡ x ∷ xs → ⊥
nil-cons x xs same = let count = ap length same in omega (arith, count)

pub pair_by_pair : (V : Type 0) → CursorGoesPairByPair V
pair_by_pair V before after None pair rest left goes =
    absurd (nil-cons pair rest (sym goes.0 ∙ left))
pair_by_pair V before after (Some value) pair rest left goes =
    let same : pair ∷ rest ≡ (after.key, value.now) ∷ after.left = sym left ∙ goes in
    let first : pair ≡ (after.key, value.now) =
    same_Some pair (after.key, value.now) (ap (λ pairs. slice_get pairs 0) same) in (
      sym (ap (λ p. p.1) first),
      λ none. none-some value (sym none),
      sym (ap (λ p. p.0) first),
      sym (ap (drop 1) same),
    )

pub stays_at_end : (V : Type 0) → CursorStaysAtEnd V
stays_at_end V before after later None ended goes = refl
stays_at_end V before after later (Some value) ended goes =
    absurd (nil-cons (later.key, value.now) later.left (sym ended.1 ∙ goes))
