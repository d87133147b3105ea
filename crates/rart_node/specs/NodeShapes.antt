-- How a node is seen by what it holds. Among the specs only this file, Contents, Depths and Lent
-- know what a node keeps its children in.
use Rattle.std.specs.Prelude.{◌≡◌, ℕ, suc, max, List, [], ◌∷◌, Option, None, Some, Bool, cond}
use Rattle.std.specs.Borrow.{Bor}
use Rattle.rart_node.specs.Shape.{Shape, node_of, bare, node}
use Rattle.rart_node.specs.Seen.{Seen, shape_of}
use Rattle.rart_node.specs.Contents.{Content, ContentShape, content_shape}
use Rattle.rart_node.specs.declared.content.Layout.TheVariants.{Leaf, Node4, Node16, Node48, Node256}
use Rattle.rart_below.specs.Children.{map_children}

-- a list that can't ascend: what a node with lists out of step shows for its children
abbrev pub disorder : {V : Type 0} → List (ℕ × Shape V)
disorder = (1, node [] None 0 bare) ∷ (0, node [] None 0 bare) ∷ []

abbrev pub if_in_order : {V : Type 0} → Bool → List (ℕ × Shape V) → List (ℕ × Shape V)
if_in_order in_order children = cond in_order children disorder

module _ {V : Type 0} where
  -- what is held, each pointer as it is shown
  abbrev pub shapes_of_content : ContentShape (Seen V) → ContentShape (Shape V)
  shapes_of_content holds =
      record {
        width = holds.width;
        in_order = holds.in_order;
        children = map_children shape_of holds.children;
      }

  -- how a node is seen that keeps its children so
  abbrev pub node_of_content : List ℕ → Option V → ContentShape (Shape V) → Shape V
  node_of_content prefix value shape =
      node_of prefix value shape.width (if_in_order shape.in_order shape.children)

  -- one more than the greatest depth in the slots
  abbrev pub depth_of_slots : List (Option (Seen V)) → ℕ
  depth_of_slots [] = 0
  depth_of_slots (None ∷ slots) = depth_of_slots slots
  depth_of_slots (Some child ∷ slots) = max (suc child.depth) (depth_of_slots slots)

  abbrev pub depth_of_content : Content (Seen V) → ℕ
  depth_of_content (Leaf upper) = 0
  depth_of_content (Node4 upper mapping) = depth_of_slots mapping.value.children.slots
  depth_of_content (Node16 upper mapping) = depth_of_slots mapping.boxed.value.children.slots
  depth_of_content (Node48 upper mapping) = depth_of_slots mapping.boxed.value.children.slots
  depth_of_content (Node256 upper mapping) = depth_of_slots mapping.boxed.value.children.slots

  -- a node by its prefix, its value and its content
  abbrev pub seen_node : List ℕ → Option V → Content (Seen V) → Seen V
  seen_node prefix value content =
      record {
        shape = node_of_content prefix value (shapes_of_content (content_shape content));
        depth = depth_of_content content;
      }

  -- a pointer to a node
  abbrev pub seen_pointer : Seen V → Seen V
  seen_pointer seen = record { shape = seen.shape; depth = suc seen.depth }

  -- Both are seen alike.
  abbrev pub SameShape : Seen V → Seen V → Type 0
  SameShape one other = one.shape ≡ other.shape

  -- an item of an iterator, as it is shown
  abbrev pub entry_shape : ℕ × Bor (Seen V) → ℕ × Shape V
  entry_shape entry = (entry.0, entry.1.now.shape)
