use Rattle.std.proofs.Common.{◌≡◌, ◌<◌, [], length, drop, Some, is_some, inr, sym, ap, subst, ◌∙◌, arith}
use Rattle.std.specs.Option.{option_map}
use Rattle.std.proofs.lemmas.Bool.{ltb-true}
use Rattle.rart_below.specs.Bytes.{common_length}
use Rattle.rart_below.specs.Children.{child_at}
use Rattle.rart_lockstep.specs.TreeCursorFields.{cursor_shape}
use Rattle.rart_node.specs.Shape.{prefix_of, height}
use Rattle.rart_node.specs.Trees.{BeginsWith, IsTree}
use Rattle.rart_node.proofs.FindLemmas.{branch, ordered}
use Rattle.rart_node.proofs.PrefixRestLemmas.{common-within, no-first, begins-first, begins-long}
use Rattle.rart_lockstep.specs.TreeCursors.{behind_bytes}
use Rattle.rart_algebra.specs.Ahead.{EntersAlong}
use Rattle.rart_algebra.specs.Picks.{LeadsTo}
use Rattle.rart_algebra.proofs.ReachLemmas.{HasPassed, passed-none, entered-end, none-parts, leads-whole, entered-whole, none-under, child-tree, passed-child, rest-is, behind-is, longer, not-longer, same-children}
use Rattle.rart_algebra.proofs.steps.reach.Goals as goal

pub behind-left-requires : goal.behind-left-requires
behind-left-requires g c =
    let within = (common-within (prefix_of (cursor_shape c.along.left))
    (prefix_of (cursor_shape c.along.right))).0 in
    let is = c.common_with-common.ensures in
    omega (arith, within, is)

pub behind-right-requires : goal.behind-right-requires
behind-right-requires g c =
    let within = (common-within (prefix_of (cursor_shape c.along.left))
    (prefix_of (cursor_shape c.along.right))).1 in
    let is = c.common_with-common.ensures in
    omega (arith, within, is)

pub returns-in_default : goal.returns-in_default
returns-in_default g c =
    let s = cursor_shape c.args.left in
    let t = cursor_shape c.args.right in
    let l = cursor_shape c.along.left in
    let r = cursor_shape c.along.right in
    let inv = c.along.invariant in
    let left = rest-is l (cursor_shape c.behind-left.result) _ _ c.common_with-common.ensures
    c.behind-left.ensures in
    let right = behind-is r (cursor_shape c.behind-right.result) _ _ c.common_with-common.ensures
    c.behind-right.ensures in
    let ends : drop (common_length (prefix_of l) (prefix_of r)) (prefix_of l) ≡ [] =
    sym left ∙ sym c.rest.ensures ∙ no-first c.rest.result.now (sym c.in_default.ensures.value) in
    record {
      leads = subst (λ z. LeadsTo (prefix_of s) t (Some z)) (sym right)
          (leads-whole s t c.args.work.now l r c.along.work inv.passed c.requires.left inv.tree
          ends);
      enters = entered-whole s t c.args.work.now l r c.along.work inv.passed c.requires.left
          inv.tree ends;
    }

pub returns-then-is_longer : goal.returns-then-is_longer
returns-then-is_longer g c =
    let s = cursor_shape c.args.left in
    let t = cursor_shape c.args.right in
    let l = cursor_shape c.along.left in
    let r = cursor_shape c.along.right in
    let inv = c.along.invariant in
    let left = rest-is l (cursor_shape c.behind-left.result) _ _ c.common_with-common.ensures
    c.behind-left.ensures in
    let right = rest-is r (cursor_shape c.behind-right.result) _ _ c.common_with-common.ensures
    c.behind-right.ensures in
    let begins = subst (BeginsWith c.in-Some.byte.now) (c.rest.ensures ∙ left)
    (begins-first c.in-Some.byte.now c.rest.result.now (sym c.in-Some.ensures.value)) in
    let some : common_length (prefix_of l) (prefix_of r) < length (prefix_of l) =
    longer _ (prefix_of l) (begins-long c.in-Some.byte.now _ begins) in
    let less : common_length (prefix_of l) (prefix_of r) < length (prefix_of r) =
    longer _ (prefix_of r) (subst (λ z. 0 < length z) right
    (ltb-true 0 _ (sym c.is_longer.ensures ∙ c.if-is_longer.true))) in
    record {
      leads = none-parts s t c.args.work.now l r c.along.work inv.passed c.requires.left inv.tree
          some less;
      enters = entered-end s t c.args.work.now l r c.along.work inv.passed c.requires.left inv.tree;
    }

pub returns-in_err-seek_child : goal.returns-in_err-seek_child
returns-in_err-seek_child g c =
    let s = cursor_shape c.args.left in
    let t = cursor_shape c.args.right in
    let l = cursor_shape c.along.left in
    let r = cursor_shape c.along.right in
    let inv = c.along.invariant in
    let left = rest-is l (cursor_shape c.behind-left.result) _ _ c.common_with-common.ensures
    c.behind-left.ensures in
    let right = rest-is r (cursor_shape c.behind-right.result) _ _ c.common_with-common.ensures
    c.behind-right.ensures in
    let begins = subst (BeginsWith c.in-Some.byte.now) (c.rest.ensures ∙ left)
    (begins-first c.in-Some.byte.now c.rest.result.now (sym c.in-Some.ensures.value)) in
    let ends : drop (common_length (prefix_of l) (prefix_of r)) (prefix_of r) ≡ [] =
    sym right ∙ not-longer (prefix_of (cursor_shape c.behind-right.result))
    (sym c.is_longer.ensures ∙ c.if-is_longer.false) in
    let none = ap (child_at c.in-Some.byte.now)
    (sym (same-children c.behind-right.result.node.now.shape r _ _ c.behind-right.ensures))
    ∙ sym c.in_err-seek_child.ensures in
    let is = sym c.from_residual.ensures in
    record {
      leads = subst (λ o. LeadsTo (prefix_of s) t (option_map cursor_shape o)) is
          (none-under s t c.args.work.now l r c.along.work inv.passed c.requires.left inv.tree
          c.in-Some.byte.now begins ends none);
      enters = subst (λ o. EntersAlong s t (is_some o) c.args.work.now c.along.work) is
          (entered-end s t c.args.work.now l r c.along.work inv.passed c.requires.left inv.tree);
    }

pub along-init : goal.along-init
along-init g c = record {
  tree = c.requires.right;
  whole = c.requires.whole;
  passed = passed-none (cursor_shape c.args.left) (cursor_shape c.args.right) c.args.work.now;
}

pub along-smaller : goal.along-smaller
along-smaller g c =
    let l = cursor_shape c.along.left in
    let r = cursor_shape c.along.right in
    let inv = c.along.invariant in
    let here = ap (child_at c.in-Some.byte.now)
    (sym (same-children c.behind-right.result.node.now.shape r _ _ c.behind-right.ensures))
    ∙ sym c.in_ok-seek_child.ensures in
    let lower = (branch r c.in-Some.byte.now c.in_ok-seek_child.field-0.now.shape
    (ordered r inv.tree) here).lower in
    subst (λ z. height z < height r)
    (sym (c.whole-right.ensures.shape ∙ c.open.ensures.shown)) lower

pub along-preserved : goal.along-preserved
along-preserved g c =
    let s = cursor_shape c.args.left in
    let t = cursor_shape c.args.right in
    let l = cursor_shape c.along.left in
    let r = cursor_shape c.along.right in
    let inv = c.along.invariant in
    let left = rest-is l (cursor_shape c.behind-left.result) _ _ c.common_with-common.ensures
    c.behind-left.ensures in
    let left-is = behind-is l (cursor_shape c.behind-left.result) _ _
    c.common_with-common.ensures c.behind-left.ensures in
    let right = rest-is r (cursor_shape c.behind-right.result) _ _ c.common_with-common.ensures
    c.behind-right.ensures in
    let begins = subst (BeginsWith c.in-Some.byte.now) (c.rest.ensures ∙ left)
    (begins-first c.in-Some.byte.now c.rest.result.now (sym c.in-Some.ensures.value)) in
    let ends : drop (common_length (prefix_of l) (prefix_of r)) (prefix_of r) ≡ [] =
    sym right ∙ not-longer (prefix_of (cursor_shape c.behind-right.result))
    (sym c.is_longer.ensures ∙ c.if-is_longer.false) in
    let child = c.in_ok-seek_child.field-0.now.shape in
    let here = ap (child_at c.in-Some.byte.now)
    (sym (same-children c.behind-right.result.node.now.shape r _ _ c.behind-right.ensures))
    ∙ sym c.in_ok-seek_child.ensures in
    let shown = sym (c.whole-right.ensures.shape ∙ c.open.ensures.shown) in
    let tree = child-tree s t c.args.work.now l r c.along.work inv.passed c.requires.left inv.tree
    c.in-Some.byte.now begins ends child here in
    let passed = passed-child s t c.args.work.now l r c.along.work inv.passed c.requires.left
    inv.tree c.in-Some.byte.now begins ends child here c.open.new.work
    (ap (λ z. z.entered) c.open.ensures.work) (ap (λ z. z.made) c.open.ensures.work) in
    record {
      tree = subst IsTree shown tree;
      whole = inr c.whole-right.ensures.from;
      passed = subst (λ z. HasPassed s t c.args.work.now z
          (cursor_shape c.whole-right.result) c.open.new.work) (sym left-is)
          (subst (λ z. HasPassed s t c.args.work.now
          (behind_bytes (common_length (prefix_of l) (prefix_of r)) l) z c.open.new.work) shown
          passed);
    }
