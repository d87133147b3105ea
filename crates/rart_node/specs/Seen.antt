-- What contracts see of a node and of a pointer to one.
use Rattle.std.specs.Prelude.{◌≡◌, ℕ, List, [], ◌∷◌, Option, Some, None, refl}
use Rattle.std.specs.Coded.{Coded, code_by, coded×, coded_ℕ, coded_list, coded_option}
use Rattle.std.proofs.Common.{ap, ◌∙◌}
use Rattle.rart_node.specs.Shape.{Shape, Forest, node, bare, grown}

-- The node, whatever it keeps its children in, and one more than the greatest depth among the
-- pointers that it holds, also where its lists are out of step and its shape shows none of them. Of
-- a pointer the shape is that of its node, and the depth one more than its node's.
pub record Seen (V : Type 0) : Type 0 where
  pub shape : Shape V
  pub depth : ℕ

-- the shape of what is no place, as a result
abbrev pub shape_of : {V : Type 0} → Seen V → Shape V
shape_of seen = seen.shape

-- ---- the code: what a node holds of its own, and a list that builds its children

-- prefix, value and width
abbrev Own : Type 0 → Type 0
Own V = List ℕ × (Option V × ℕ)

-- no child, or one more under its byte, of which this is what it holds of its own
abbrev Step : Type 0 → Type 0
Step V = Option (ℕ × Own V)

module _ {V : Type 0} where
  -- The steps that build a forest: those of its later children, of the first one's children, and
  -- then the first child.
  abbrev steps_of : Forest V → List (Step V) → List (Step V)
  steps_of bare rest = None ∷ rest
  steps_of (grown byte (node prefix value width children) forest) rest =
      steps_of forest (steps_of children (Some (byte, (prefix, (value, width))) ∷ rest))

  -- the forests that steps build, the latest first
  abbrev built : List (Step V) → List (Forest V) → List (Forest V)
  built [] forests = forests
  built (None ∷ steps) forests = built steps (bare ∷ forests)
  built (Some own ∷ steps) [] = built steps []
  built (Some own ∷ steps) (children ∷ []) = built steps []
  built (Some own ∷ steps) (children ∷ forest ∷ forests) =
      built steps
      (grown own.0 (node own.1.0 own.1.1.0 own.1.1.1 children) forest ∷ forests)

  abbrev latest : List (Forest V) → Forest V
  latest [] = bare
  latest (forest ∷ forests) = forest

  built-steps_of : (forest : Forest V) (rest : List (Step V)) (forests : List (Forest V))
      → built (steps_of forest rest) forests ≡ built rest (forest ∷ forests)
  built-steps_of bare rest forests = refl
  built-steps_of (grown byte (node prefix value width children) forest) rest forests =
      built-steps_of forest
      (steps_of children (Some (byte, (prefix, (value, width))) ∷ rest)) forests
      ∙ built-steps_of children (Some (byte, (prefix, (value, width))) ∷ rest) (forest ∷ forests)

  abbrev shape_parts : Shape V → Own V × List (Step V)
  shape_parts (node prefix value width forest) =
      ((prefix, (value, width)), steps_of forest [])

  abbrev shape_of_parts : Own V × List (Step V) → Shape V
  shape_of_parts parts =
      node parts.0.0 parts.0.1.0 parts.0.1.1 (latest (built parts.1 []))

  shape_parts-back : (shape : Shape V) → shape_of_parts (shape_parts shape) ≡ shape
  shape_parts-back (node prefix value width forest) =
      ap (λ forests. node prefix value width (latest forests)) (built-steps_of forest [] [])

  abbrev parts_of : Seen V → (Own V × List (Step V)) × ℕ
  parts_of seen = (shape_parts seen.shape, seen.depth)

  abbrev seen_of : (Own V × List (Step V)) × ℕ → Seen V
  seen_of parts = record { shape = shape_of_parts parts.0; depth = parts.1 }

  pub parts-back : (seen : Seen V) → seen_of (parts_of seen) ≡ seen
  parts-back seen = λ i. record { shape = shape_parts-back seen.shape i; depth = seen.depth }

abbrev pub seen_code : {V : Type 0} → Coded V → Coded (Seen V)
seen_code {V} values =
    let own = coded× (coded_list coded_ℕ) (coded× (coded_option values) coded_ℕ) in
    code_by ((Own V × List (Step V)) × ℕ)
    (coded× (coded× own (coded_list (coded_option (coded× coded_ℕ own)))) coded_ℕ)
    parts_of seen_of parts-back
