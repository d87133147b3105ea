-- How many children a content has room for.
use Rattle.std.proofs.Common.{◌≡◌, ◌<◌, ◌≤◌, ℕ, List, Option, true, None, ap, cond, length, lit<, refl, subst, sym, ◌∙◌, arith}
use Rattle.std.specs.Prelude.{nat_le}
use Rattle.rart_below.specs.Children.{child_at, with_child}
use Rattle.rart_below.specs.Laws.{sorted-fits, indexed-fits, direct-fits}
use Rattle.rart_below.proofs.DirectMappingLemmas.{kept_from_order, room_for_one}
use Rattle.rart_node.specs.declared.content.Layout.TheVariants.{Leaf, Node4, Node16, Node48, Node256}
use Rattle.rart_node.specs.Contents.{Content, content_shape, Holds}
use Rattle.rart_node.specs.Seen.{Seen}
use Rattle.rart_node.specs.NodeShapes.{seen_node}
use Rattle.rart_node.specs.Shape.{IsAscending, children_of, widened, with_added}
use Rattle.rart_node.proofs.ContentLemmas.{in_order, none-in, with_added-seen}

-- a width with a next one, once it is widened where it is full
next_has_room : (width next count : ℕ) → count ≤ width → width < next
    → count < cond (nat_le width count) next width
next_has_room width next count fits less = grind (arith)

module _ {C : Type 0} where
  -- a content never has more children than its width
  pub fits : (content : Content C) → (content_shape content).in_order ≡ true
      → length (content_shape content).children ≤ (content_shape content).width
  fits (Leaf upper) order = omega arith
  fits (Node4 upper mapping) order = sorted-fits mapping.value order
  fits (Node16 upper mapping) order = sorted-fits mapping.boxed.value order
  fits (Node48 upper mapping) order = indexed-fits mapping.boxed.value order
  fits (Node256 upper mapping) order = direct-fits mapping.boxed.value order

  -- a byte that is absent has room once a full content is widened
  pub room : (content : Content C) (byte : ℕ) (child : C) → (content_shape content).in_order ≡ true
      → byte < 256 → child_at byte (content_shape content).children ≡ None
      → length (content_shape content).children
      < widened (content_shape content).width (length (content_shape content).children)
  room (Leaf upper) byte child order small absent = lit< tt
  room (Node4 upper mapping) byte child order small absent =
      next_has_room 4 16 _ (sorted-fits mapping.value order) (lit< tt)
  room (Node16 upper mapping) byte child order small absent =
      next_has_room 16 48 _ (sorted-fits mapping.boxed.value order) (lit< tt)
  room (Node48 upper mapping) byte child order small absent =
      next_has_room 48 256 _ (indexed-fits mapping.boxed.value order) (lit< tt)
  room (Node256 upper mapping) byte child order small absent =
      let m = mapping.boxed.value in
      let kept = kept_from_order m.children.slots m.count m.bytes order in
      let less = room_for_one byte child m.children.slots m.count m.bytes kept small absent in
      omega (arith, less, kept.counted)

-- What adding a child asks of a content that was made roomy.
pub record IsReady {C : Type 0} (content : Content C) (byte : ℕ) : Type 0 where
  pub order : (content_shape content).in_order ≡ true
  pub absent : child_at byte (content_shape content).children ≡ None
  pub room : length (content_shape content).children < (content_shape content).width

module _ {V : Type 0} {prefix : List ℕ} {value : Option V} (content : Content (Seen V))
    {seen : Seen V} (is : seen_node prefix value content ≡ seen) where
  pub ready : (roomy : Content (Seen V)) (byte : ℕ) (child : Seen V)
      → IsAscending seen.shape → byte < 256 → child_at byte (children_of seen.shape) ≡ None
      → Holds roomy
      (widened (content_shape content).width (length (content_shape content).children))
      (content_shape content).children → IsReady roomy byte
  ready roomy byte child order small absent holds =
      let still = none-in content is byte order absent in
      record {
        order = ap (λ h. h.in_order) holds;
        absent = ap (λ h. child_at byte h.children) holds ∙ still;
        room =
            subst (λ h. length h.children < h.width) (sym holds)
            (room content byte child (in_order content is order) small still);
      }

  -- the content once the child is added to it
  pub added : (roomy after : Content (Seen V)) (byte : ℕ) (child : Seen V)
      → IsAscending seen.shape
      → Holds roomy
      (widened (content_shape content).width (length (content_shape content).children))
      (content_shape content).children
      → Holds after (content_shape roomy).width
      (with_child byte child (content_shape roomy).children)
      → (seen_node prefix value after).shape ≡ with_added byte child.shape seen.shape
  added roomy after byte child order holds filled =
      let both =
      filled ∙ ap (λ h. record {
        width = h.width;
        in_order = true;
        children = with_child byte child h.children;
      }) holds in
      with_added-seen content is after _ _ both byte child order refl refl
