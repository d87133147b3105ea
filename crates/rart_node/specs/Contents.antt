-- What a node holds of its own, and what a content holds, whatever stands for the pointers.
use Rattle.std.specs.Prelude.{◌≡◌, ℕ, List, [], Bool, true, Option, Some, None, drop, take, nat_lt, if◌then◌else◌}
use Rattle.std.specs.Global.{Box}
use Rattle.rart_below.specs.Children.{children_below, children_from}
use Rattle.rart_below.specs.declared.mapping.sorted.SortedKeyedMapping.{SortedKeyedMapping}
use Rattle.rart_below.specs.declared.mapping.indexed.IndexedMapping.{IndexedMapping}
use Rattle.rart_below.specs.declared.mapping.direct.DirectMapping.{DirectMapping}
use Rattle.rart_below.specs.SortedKeyedMapping.{sorted_children, sorted_in_order}
use Rattle.rart_below.specs.IndexedMapping.{indexed_children, indexed_in_order}
use Rattle.rart_below.specs.DirectMapping.{direct_children, direct_in_order}
use Rattle.rart_node.specs.declared.held.Held.{Held}
use Rattle.rart_node.specs.declared.held.Held.TheVariants.{Vacant, Occupied}
use Rattle.rart_node.specs.declared.content.Layout.{Layout}
use Rattle.rart_node.specs.declared.content.Layout.TheVariants.{Leaf, Node4, Node16, Node48, Node256}
use Rattle.rart_node.specs.declared.wide_box.WideBox.{WideBox}

-- the children that a walk over those of this width has left: of few, which are sorted, those from
-- a place on, else those from a byte on
abbrev pub left_at : {C : Type 0} → ℕ → ℕ → List (ℕ × C) → List (ℕ × C)
left_at width from children =
    if nat_lt width 17 then drop from children else children_from from children

-- the children that a walk back over those of this width has left: of few, which are sorted, those
-- before a place, else those below a byte
abbrev pub before_at : {C : Type 0} → ℕ → ℕ → List (ℕ × C) → List (ℕ × C)
before_at width end children =
    if nat_lt width 17 then take end children else children_below end children

-- the value, where there is one: the half of the number beside it says nothing
abbrev pub held_value : {V : Type 0} → Held V → Option V
held_value (Vacant lower) = None
held_value (Occupied lower value) = Some value

-- how many children there is room for, whether the lists inside are in step, and the children
pub record ContentShape (C : Type 0) : Type 0 where
  pub width : ℕ
  pub in_order : Bool
  pub children : List (ℕ × C)

abbrev pub Content : Type 0 → Type 0
Content C =
    Layout (Box (SortedKeyedMapping C 4)) (WideBox (SortedKeyedMapping C 16) C)
    (WideBox (IndexedMapping C) C) (WideBox (DirectMapping C) C)

module _ {C : Type 0} where
  abbrev pub content_shape : Content C → ContentShape C
  content_shape (Leaf upper) = record { width = 0; in_order = true; children = [] }
  content_shape (Node4 upper mapping) =
      record {
        width = 4;
        in_order = sorted_in_order mapping.value;
        children = sorted_children mapping.value;
      }
  content_shape (Node16 upper mapping) =
      record {
        width = 16;
        in_order = sorted_in_order mapping.boxed.value;
        children = sorted_children mapping.boxed.value;
      }
  content_shape (Node48 upper mapping) =
      record {
        width = 48;
        in_order = indexed_in_order mapping.boxed.value;
        children = indexed_children mapping.boxed.value;
      }
  content_shape (Node256 upper mapping) =
      record {
        width = 256;
        in_order = direct_in_order mapping.boxed.value;
        children = direct_children mapping.boxed.value;
      }

  -- The lists inside are in step, and the content has this width and these children.
  abbrev pub Holds : Content C → ℕ → List (ℕ × C) → Type 0
  Holds content width children =
      content_shape content ≡ record { width = width; in_order = true; children = children }
