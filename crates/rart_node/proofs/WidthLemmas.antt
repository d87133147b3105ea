-- Widths, and what they leave room for.
use Rattle.std.proofs.Common.{◌≡◌, ◌<◌, ◌≤◌, ℕ, List, Option, Bool, true, false, cond, inl, inr, length, lit≤, refl, sym, subst, ◌∙◌, arith}
use Rattle.std.proofs.lemmas.Bool.{cases_lt}
use Rattle.std.proofs.lemmas.Bool.Decides.{nat_tests}
use Rattle.rart_below.specs.Children.{map_children}
use Rattle.rart_node.specs.declared.content.Layout.TheVariants.{Leaf, Node4, Node16, Node48, Node256}
use Rattle.rart_node.specs.Contents.{Content, content_shape}
use Rattle.rart_node.specs.Seen.{Seen, shape_of}
use Rattle.rart_node.specs.NodeShapes.{seen_node, if_in_order}
use Rattle.rart_node.specs.Shape.{Shape, IsWidth, IsAscending, IsFull, FitsWidth, is_full_at, width_of, children_of, widenings}
use Rattle.rart_node.proofs.ChildMapLemmas.{length-map_children}
use Rattle.rart_node.proofs.ContentLemmas.{width-seen, length-seen, children-seen, widenings-parts}
use Rattle.rart_node.proofs.RoomLemmas.{fits}

-- a width that has more room than there are children is not full, nor is the greatest width
not_full : (width count : ℕ) → count < width → is_full_at width count ≡ false
not_full width count less = grind (arith, nat_tests)

widest-not_full : (width count : ℕ) → 256 ≤ width → is_full_at width count ≡ false
widest-not_full width count wide = grind (arith, nat_tests)

none_made : (is_made : Bool) → ◌≡◌ {A = ℕ} (cond is_made 1 0) 0 → is_made ≡ false
none_made false none = refl
none_made true none = cc

module _ {V : Type 0} where
  not_full-widenings : (shape : Shape V) → is_full_at (width_of shape) (length (children_of shape))
      ≡ false → widenings shape ≡ 0
  not_full-widenings shape open_room = rw (widenings-parts shape, open_room) refl

  widenings-not_full : (shape : Shape V) → widenings shape ≡ 0
      → is_full_at (width_of shape) (length (children_of shape)) ≡ false
  widenings-not_full shape none = none_made _ (sym (widenings-parts shape) ∙ none)

  pub few_children : (shape : Shape V) → FitsWidth shape → 0 < width_of shape
      → length (children_of shape) < 4 → widenings shape ≡ 0
  few_children shape fit inner few =
      let is_width = fit.is_width in
      not_full-widenings shape (not_full (width_of shape) (length (children_of shape))
      (omega (arith, is_width)))

  pub inner_room : (shape : Shape V) → FitsWidth shape → 0 < width_of shape → ¬ IsFull shape
      → widenings shape ≡ 0
  inner_room shape fit inner open_room =
      let width : ℕ = width_of shape in
      let count : ℕ = length (children_of shape) in
      not_full-widenings shape (elim (cases_lt width 256) [
        | inl narrow ↦
            elim (cases_lt count width) [
              | inl less ↦ not_full width count less
              | inr more ↦ let most = fit.has_room in
                  absurd (open_room (inner, narrow, omega (arith, more, most)))
            ]
        | inr wide ↦ widest-not_full width count wide
      ])

pub ruleset room_left = (few_children, inner_room)

module _ {C : Type 0} where
  width-content_shape : (content : Content C) → IsWidth (content_shape content).width
  width-content_shape (Leaf upper) = inl refl
  width-content_shape (Node4 upper mapping) = inr (inl refl)
  width-content_shape (Node16 upper mapping) = inr (inr (inl refl))
  width-content_shape (Node48 upper mapping) = inr (inr (inr (inl refl)))
  width-content_shape (Node256 upper mapping) = inr (inr (inr (inr refl)))

  -- a content whose lists are out of step has room for two children
  two-fit : (content : Content C) → (content_shape content).in_order ≡ false
      → 2 ≤ (content_shape content).width
  two-fit (Leaf upper) out_of_step = cc
  two-fit (Node4 upper mapping) out_of_step = lit≤ tt
  two-fit (Node16 upper mapping) out_of_step = lit≤ tt
  two-fit (Node48 upper mapping) out_of_step = lit≤ tt
  two-fit (Node256 upper mapping) out_of_step = lit≤ tt

module _ {V : Type 0} where
  -- also where the lists are out of step: two children are shown then
  content_shape-fits : (content : Content (Seen V)) (in_order : Bool)
      → (content_shape content).in_order ≡ in_order
      → length (if_in_order in_order (map_children shape_of (content_shape content).children))
      ≤ (content_shape content).width
  content_shape-fits content true is =
      subst (λ k. k ≤ (content_shape content).width)
      (sym (length-map_children shape_of (content_shape content).children)) (fits content is)
  content_shape-fits content false is = two-fit content is

module _ {V : Type 0} {prefix : List ℕ} {value : Option V} (content : Content (Seen V))
    {seen : Seen V} (is : seen_node prefix value content ≡ seen) where
  pub fits_width : FitsWidth seen.shape
  fits_width =
      let shown_fits = content_shape-fits content (content_shape content).in_order refl in
      let all : length (children_of seen.shape) ≤ (content_shape content).width =
      subst (λ es. length es ≤ (content_shape content).width) (sym (children-seen content is))
      shown_fits in
      record {
        is_width = subst IsWidth (sym (width-seen content is)) (width-content_shape content);
        has_room =
            subst (λ w. length (children_of seen.shape) ≤ w) (sym (width-seen content is)) all;
      }

  -- where one more child makes no node, the content is not full
  pub content_shape-not_full : IsAscending seen.shape → widenings seen.shape ≡ 0
      → is_full_at (content_shape content).width (length (content_shape content).children) ≡ false
  content_shape-not_full order none =
      (λ i. is_full_at (sym (width-seen content is) i) (sym (length-seen content is order) i))
      ∙ widenings-not_full seen.shape none
