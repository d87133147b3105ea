-- What copies of the children show.
use Rattle.std.proofs.Common.{◌≡◌, ℕ, Bool, List, [], ◌∷◌, refl}
use Rattle.rart_below.specs.Children.{map_children}
use Rattle.rart_below.specs.Layouts.{SameBytes}
use Rattle.rart_node.specs.Seen.{Seen, shape_of}
use Rattle.rart_node.specs.NodeShapes.{SameShape, shapes_of_content}

module _ {V : Type 0} where
  abbrev SameShown : List (ℕ × Seen V) → List (ℕ × Seen V) → Type 0
  SameShown = SameBytes (λ pointer copy. SameShape copy pointer)

  shape-copies : (children copies : List (ℕ × Seen V)) → SameShown children copies
      → map_children shape_of copies ≡ map_children shape_of children
  shape-copies [] [] same = refl
  shape-copies [] (copy ∷ copies) same = absurd same
  shape-copies (child ∷ children) [] same = absurd same
  shape-copies (child ∷ children) (copy ∷ copies) same =
      λ i. (same.0.0 i, same.0.1 i) ∷ shape-copies children copies same.1 i

  -- copies of the children, whose lists are in step where the children's are
  pub content_shape-copies : (width : ℕ) (in_order copies_in_order : Bool)
      (children copies : List (ℕ × Seen V)) → SameShown children copies
      → copies_in_order ≡ in_order
      → shapes_of_content (record {
        width = width;
        in_order = copies_in_order;
        children = copies;
      }) ≡ shapes_of_content
      (record { width = width; in_order = in_order; children = children })
  content_shape-copies width in_order copies_in_order children copies same order =
      λ i. record {
        width = width;
        in_order = order i;
        children = shape-copies children copies same i;
      }
