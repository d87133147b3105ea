-- Changes that keep a node's children in strictly ascending order.
use Rattle.std.proofs.Common.{◌≡◌, ℕ, List, Option, sym, subst}
use Rattle.rart_below.specs.Children.{with_child, without_child, IsAscending as IsRising}
use Rattle.rart_below.proofs.AscendingLemmas.{ascending-with_child, ascending-where_key}
use Rattle.rart_node.specs.Shape.{Shape, node, IsAscending, entries_of, forest_of, children_of, entries_of-forest_of, with_children, with_added, with_replaced, with_deleted, with_width, with_value, with_prefix}

module _ {V : Type 0} where
  of_entries : (children : List (ℕ × Shape V)) → IsRising children
      → IsRising (entries_of (forest_of children))
  of_entries children order = subst IsRising (sym (entries_of-forest_of children)) order

  of_children : (children : List (ℕ × Shape V)) (shape : Shape V) → IsRising children
      → IsAscending (with_children children shape)
  of_children children (node prefix value width forest) order = of_entries children order

  of_added : (byte : ℕ) (child shape : Shape V) → IsAscending shape
      → IsAscending (with_added byte child shape)
  of_added byte child (node prefix value width forest) order =
      of_entries (with_child byte child (entries_of forest))
      (ascending-with_child byte child (entries_of forest) order)

  of_width : (width : ℕ) (shape : Shape V) → IsAscending shape
      → IsAscending (with_width width shape)
  of_width width (node prefix value old forest) order = order

  of_value : (value : Option V) (shape : Shape V) → IsAscending shape
      → IsAscending (with_value value shape)
  of_value value (node prefix old width forest) order = order

  of_prefix : (prefix : List ℕ) (shape : Shape V) → IsAscending shape
      → IsAscending (with_prefix prefix shape)
  of_prefix prefix (node old value width forest) order = order

  module _ (before after : Shape V) where
    pub ascending-with_added : (byte : ℕ) (child : Shape V) → after ≡ with_added byte child before
        → IsAscending before → IsAscending after
    ascending-with_added byte child is order =
        subst (λ shape. IsAscending shape) (sym is) (of_added byte child before order)

    pub ascending-with_replaced : (byte : ℕ) (child : Shape V)
        → after ≡ with_replaced byte child before → IsAscending before → IsAscending after
    ascending-with_replaced byte child is order =
        subst (λ shape. IsAscending shape) (sym is)
        (of_children (with_child byte child (children_of before)) before
        (ascending-with_child byte child (children_of before) order))

    pub ascending-with_deleted : (byte : ℕ) → after ≡ with_deleted byte before → IsAscending before
        → IsAscending after
    ascending-with_deleted byte is order =
        subst (λ shape. IsAscending shape) (sym is)
        (of_children (without_child byte (children_of before)) before
        (ascending-where_key _ (children_of before) order))

    pub ascending-with_width : (width : ℕ) → after ≡ with_width width before → IsAscending before
        → IsAscending after
    ascending-with_width width is order =
        subst (λ shape. IsAscending shape) (sym is) (of_width width before order)

    pub ascending-with_value : (value : Option V) → after ≡ with_value value before
        → IsAscending before → IsAscending after
    ascending-with_value value is order =
        subst (λ shape. IsAscending shape) (sym is) (of_value value before order)

    pub ascending-with_prefix : (prefix : List ℕ) → after ≡ with_prefix prefix before
        → IsAscending before → IsAscending after
    ascending-with_prefix prefix is order =
        subst (λ shape. IsAscending shape) (sym is) (of_prefix prefix before order)

-- each change that keeps the order
pub ruleset keeps_order = (
  ascending-with_added,
  ascending-with_replaced,
  ascending-with_deleted,
  ascending-with_width,
  ascending-with_value,
  ascending-with_prefix,
)
