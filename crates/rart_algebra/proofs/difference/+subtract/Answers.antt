use Rattle.std.proofs.Common.{◌≡◌, cond, ◌<◌, ◌≤◌, ◌+◌, inl, ⊎_elim, ℕ, List, [], ◌++◌, Some, None, is_some, Ok, true, length, refl, sym, ap, subst, ◌∙◌, arith}
use Rattle.std.specs.Prelude.{◌==◌}
use Rattle.std.specs.declared.alloc.AllocError.{AllocError}
use Rattle.std.proofs.lemmas.Bool.{false≢true}
use Rattle.rart_below.specs.declared.byte_set.ByteSet.{ByteSet}
use Rattle.rart_below.specs.ByteSets.{has_byte}
use Rattle.rart_lockstep.specs.TreeCursorFields.{cursor_shape}
use Rattle.rart_lockstep.specs.TreeCursors.{next_children}
use Rattle.rart_lockstep.proofs.LeastCountLemmas.{EntersLeast}
use Rattle.rart_node.specs.Shape.{Shape, children_of, prefix_of, value_of, height, with_prefix}
use Rattle.rart_node.specs.Trees.{IsTree, found}
use Rattle.rart_node.proofs.NodeMergeLemmas.{if-ok}
use Rattle.rart_node.proofs.FindLemmas.{branch, ordered, ascending}
use Rattle.rart_ways.specs.Removals.{AreAdmitted}
use Rattle.rart_ways.proofs.RemovalLemmas.{admitted-child}
use Rattle.rart_algebra.specs.Ahead.{BeginsCommon, EntersAlong, EntersForCommon, HaveCommon, IsCommonKey, StepsBelow, spare_of}
use Rattle.rart_algebra.specs.Parts.{shape_now, losing, merges, is_same, with_made}
use Rattle.rart_algebra.specs.Picks.{Becomes, LeadsTo, unless}
use Rattle.rart_algebra.proofs.CommonCountLemmas.{whatever, steps_ahead, least-apart, least-leaf, least-none, least-step, least-all}
use Rattle.rart_algebra.proofs.AmongLemmas.{bytes-apart, bytes-both, was-ahead}
use Rattle.rart_algebra.proofs.CarriedLemmas.{common-child, common-ended, keys-carried, next-begins}
use Rattle.rart_algebra.proofs.DescentLemmas.{StepsUpTo, begun-prefix, steps-apart, steps-none, steps-next, steps-end}
use Rattle.rart_algebra.proofs.PaidLemmas.{lost, made-less, err-spare, or-parts, paid-result, last-changed}
use Rattle.rart_algebra.proofs.PickLemmas.{IsPickedUpTo, picked-apart, picked-start, picked-was, picked-made, ordered-losing, admitted-losing, becomes-settled}
use Rattle.rart_algebra.proofs.WeightLemmas.{weigh-taken}
use Rattle.rart_algebra.proofs.UnlessLemmas.{leaf-children, unless-none, own-picked, own-common, leaf-gone, leaf-kept}
use Rattle.rart_algebra.proofs.difference.+subtract.Goals as goal
use Rattle.rart_algebra.proofs.difference.+subtract.Goals.{then-goes, else-goes, in_default-2-via-in-Some+in_default, in_default-2-via-in_default}

pub returns-in_default-clause-becomes : goal.returns-in_default-clause-becomes
returns-in_default-clause-becomes g t c =
    let right = cursor_shape c.args.right in
    let is = c.whole.ensures.shape ∙ c.open-node.ensures.shown in
    picked-apart unless unless-none c.args.left.now.shape right
    (subst (λ z. (q : List ℕ) → found right (prefix_of z ++ q) ≡ None) is
    c.in_default.ensures.leads)

pub returns-in_default-clause-counted : goal.returns-in_default-clause-counted
returns-in_default-clause-counted g t c =
    let right = cursor_shape c.args.right in
    subst (λ z. StepsBelow IsCommonKey z right 0 c.args.work.now c.reach.new.work)
    (c.whole.ensures.shape ∙ c.open-node.ensures.shown)
    (steps-apart IsCommonKey (cursor_shape c.whole.result) right c.args.work.now
    c.open-node.new.work
    c.reach.new.work c.in_default.ensures.enters (ap (λ z. z.entered) c.open-node.ensures.work)
    (ap (λ z. z.made) c.open-node.ensures.work))

pub returns-in_default-clause-least : goal.returns-in_default-clause-least
returns-in_default-clause-least g t c =
    let right = cursor_shape c.args.right in
    let one = ap (λ z. z.entered) c.open-node.ensures.work in
    let more = c.in_default.ensures.enters.grows in
    subst (λ z. EntersForCommon z right c.args.work.now c.reach.new.work)
    (c.whole.ensures.shape ∙ c.open-node.ensures.shown)
    (least-apart (cursor_shape c.whole.result) right c.args.work.now c.reach.new.work
    c.in_default.ensures.leads (omega (arith, one, more)))

pub common_bytes-requires-clause-left : goal.common_bytes-requires-clause-left
common_bytes-requires-clause-left g t c =
    let s = c.open-node.result.now.shape in
    ascending s (ordered s (subst IsTree (sym c.open-node.ensures.shown) c.requires.left))

pub seek_child-requires : goal.seek_child-requires
seek_child-requires g t c =
    let s = c.open-node.result.now.shape in
    ascending s (ordered s (subst IsTree (sym c.open-node.ensures.shown) c.requires.left))

pub returns-then-is_leaf-clause-becomes : goal.returns-then-is_leaf-clause-becomes
returns-then-is_leaf-clause-becomes g t c =
    let s = c.open-node.result.now.shape in
    let right = cursor_shape c.args.right in
    let at = cursor_shape c.in-Some.at in
    let leads = (subst (λ z. LeadsTo (prefix_of z) right (Some at)) c.whole.ensures.shape
    c.in-Some.ensures.leads).1 in
    let none = leaf-children s c.is_leaf.ensures.width
    (sym c.is_leaf.ensures.leaf ∙ c.if-is_leaf.true) in
    let goes = c.both_have_values-goes.result in
    let shown = c.open-node.ensures.shown in
    elim c.if-goes.branch [
      | then-goes w ↦ subst (λ made. Becomes unless c.args.left.now.shape right made)
          (sym w.result-is)
          (subst (λ z. (q : List ℕ) → unless (found z q) (found right q) ≡ None) shown
          (leaf-gone s right at goes none leads c.both_have_values-goes.ensures w.if-goes.true))
      | else-goes w ↦ subst (λ made. Becomes unless c.args.left.now.shape right made)
          (sym w.result-is)
          (subst (λ z. (q : List ℕ) → unless (found z q) (found right q) ≡ found z q) shown
          (leaf-kept s right at goes none leads c.both_have_values-goes.ensures w.if-goes.false))
    ]

pub returns-then-is_leaf-clause-least : goal.returns-then-is_leaf-clause-least
returns-then-is_leaf-clause-least g t c =
    let s = c.open-node.result.now.shape in
    let right = cursor_shape c.args.right in
    let none = leaf-children s c.is_leaf.ensures.width
    (sym c.is_leaf.ensures.leaf ∙ c.if-is_leaf.true) in
    let one = ap (λ z. z.entered) c.open-node.ensures.work in
    let more = c.in-Some.ensures.enters.grows in
    subst (λ z. EntersForCommon z right c.args.work.now c.reach.new.work) c.open-node.ensures.shown
    (least-leaf s right c.args.work.now c.reach.new.work none (omega (arith, one, more)))

pub returns-then-is_leaf-clause-common : goal.returns-then-is_leaf-clause-common
returns-then-is_leaf-clause-common g t c =
    let s = c.open-node.result.now.shape in
    let right = cursor_shape c.args.right in
    let at = cursor_shape c.in-Some.at in
    let leads = (subst (λ z. LeadsTo (prefix_of z) right (Some at)) c.whole.ensures.shape
    c.in-Some.ensures.leads).1 in
    let goes = c.both_have_values-goes.result in
    elim c.if-goes.branch [
      | then-goes w ↦ λ changed. subst (λ z. HaveCommon z right) c.open-node.ensures.shown (
          common-ended s right at leads
          ([], own-common s at goes c.both_have_values-goes.ensures w.if-goes.true))
      | else-goes w ↦ λ changed. absurd (false≢true (sym changed ∙ ap is_same w.result-is))
    ]

pub returns-then-is_leaf-clause-counted : goal.returns-then-is_leaf-clause-counted
returns-then-is_leaf-clause-counted g t c =
    let s = c.open-node.result.now.shape in
    let right = cursor_shape c.args.right in
    let at = cursor_shape c.in-Some.at in
    let tree = subst IsTree (sym c.open-node.ensures.shown) c.requires.left in
    let shown = c.whole.ensures.shape in
    let leads = subst (λ z. LeadsTo (prefix_of z) right (Some at)) shown c.in-Some.ensures.leads in
    let along = subst (λ z. EntersAlong z right true c.open-node.new.work c.reach.new.work) shown
    c.in-Some.ensures.enters in
    let goes = c.both_have_values-goes.result in
    let own = own-common s at goes c.both_have_values-goes.ensures in
    let no_bytes : ByteSet = record { words = [] } in
    let end = λ (spare : ℕ) (paid : 0 + spare ≤ cond goes 1 0 + 0).
    subst (λ z. StepsBelow IsCommonKey z right spare c.args.work.now c.reach.new.work)
    c.open-node.ensures.shown
    (steps-end IsCommonKey keys-carried s right at no_bytes goes 0 leads.1 tree leads.0
    c.args.work.now c.open-node.new.work c.reach.new.work c.reach.new.work c.reach.new.work along
    (steps-none IsCommonKey s at no_bytes c.reach.new.work) own
    (ap (λ z. z.entered) c.open-node.ensures.work) (ap (λ z. z.made) c.open-node.ensures.work)
    0 spare (omega arith) (omega arith) paid (omega arith) (inl refl)) in
    elim c.if-goes.branch [
      | then-goes w ↦ subst (λ made. StepsBelow IsCommonKey c.args.left.now.shape right
          (spare_of {E = AllocError} (Ok made)) c.args.work.now c.reach.new.work) (sym w.result-is)
          (end 1 (let one = ap {B = ℕ} (λ b. cond b 1 0) w.if-goes.true in omega (arith, one)))
      | else-goes w ↦ subst (λ made. StepsBelow IsCommonKey c.args.left.now.shape right
          (spare_of {E = AllocError} (Ok made)) c.args.work.now c.reach.new.work) (sym w.result-is)
          (end 0 (omega arith))
    ]

none-lost : {V : Type 0} (s : Shape V) → 0 ≡ lost s s
none-lost s = omega arith

pub below-init : goal.below-init
below-init g t c =
    let s = c.open-node.result.now.shape in
    let at = cursor_shape c.in-Some.at in
    let tree = subst IsTree (sym c.open-node.ensures.shown) c.requires.left in
    let are = c.common_bytes.ensures in
    let is = c.new-bytes.ensures in
    record {
      picked = subst (λ z. IsPickedUpTo unless s at (value_of s) z s) (sym is)
          (picked-start unless unless-none s at s c.common_bytes.result (ordered s tree) refl refl
          (λ byte has. refl) (λ byte gone q. refl)
          (bytes-apart c.common_bytes.result (children_of s) (next_children at) are));
      steps = subst (λ n. StepsUpTo IsCommonKey s at c.new-bytes.result.left n c.reach.new.work
          c.reach.new.work) (none-lost s)
          (steps-none IsCommonKey s at c.new-bytes.result.left c.reach.new.work);
      fewer = omega arith;
      common = λ never. absurd (false≢true never);
      least = subst (λ z. EntersLeast (with_prefix [] s) at 0 (steps_ahead s at z) c.reach.new.work
          c.reach.new.work) (sym is)
          (least-none s at tree c.common_bytes.result are c.reach.new.work);
      both = λ byte has.
          bytes-both c.common_bytes.result (children_of s) (next_children at) are byte
          (ap (λ z. has_byte z byte) (sym is) ∙ has);
    }

pub unreachable-requires : goal.unreachable-requires
unreachable-requires g t c =
    let both = c.below.invariant.both c.in-Some-take_first.byte c.in-Some-take_first.ensures.0 in
    elim c.in_default-2.branch [
      | in_default-2-via-in-Some+in_default w ↦
          false≢true (ap is_some w.in_default-2.ensures'.next ∙ both.1)
      | in_default-2-via-in_default w ↦ false≢true (ap is_some w.in_default-2.ensures ∙ both.0)
    ]

pub subtract-requires : goal.subtract-requires
subtract-requires g t c κs within =
    let s = c.open-node.result.now.shape in
    let at = cursor_shape c.in-Some.at in
    let byte = c.in-Some-take_first.byte in
    let child = c.in-Some-Some.child.now.shape in
    let next = cursor_shape c.in-Some-Some.next in
    let shown = sym c.open-node.ensures.shown in
    let tree = subst IsTree shown c.requires.left in
    let leads = (subst (λ z. LeadsTo (prefix_of z) (cursor_shape c.args.right) (Some at))
    c.whole.ensures.shape c.in-Some.ensures.leads).0 in
    let here = sym c.in-Some-Some.ensures in
    let known = branch s byte child (ordered s tree) here in
    let lower = subst (λ z. height child < height z) c.open-node.ensures.shown known.lower in (
      omega (arith, lower, c.decreases),
      (
        within.0,
        (
          within.1,
          (
            c.requires.clones,
            (
              known.tree,
              (
                (next-begins at next byte leads (sym c.in-Some-Some.ensures'.next)).0,
                admitted-child g.P.Partial.MAXIMUM_SIZE s child byte tree here
                    (subst (AreAdmitted g.P.Partial.MAXIMUM_SIZE) shown c.requires.lengths),
              ),
            ),
          ),
        ),
      ),
    )

pub with_made-requires-clause-order : goal.with_made-requires-clause-order
with_made-requires-clause-order g t c =
    let s = c.open-node.result.now.shape in
    ascending (shape_now s c.below.part) c.below.invariant.picked.order

pub below-smaller : goal.below-smaller
below-smaller g t c =
    let s = c.open-node.result.now.shape in
    let less = weigh-taken (λ byte. 1) c.below.bytes.left c.take_first.new.self.left
    c.in-Some-take_first.byte c.in-Some-take_first.ensures.2 c.in-Some-Some.child.now.shape
    (children_of s) c.in-Some-take_first.ensures.0 (sym c.in-Some-Some.ensures) in
    omega (arith, less)

pub below-preserved : goal.below-preserved
below-preserved g t c =
    let s = c.open-node.result.now.shape in
    let at = cursor_shape c.in-Some.at in
    let byte = c.in-Some-take_first.byte in
    let child = c.in-Some-Some.child.now.shape in
    let next = cursor_shape c.in-Some-Some.next in
    let tree = subst IsTree (sym c.open-node.ensures.shown) c.requires.left in
    let also = (subst (λ z. LeadsTo (prefix_of z) (cursor_shape c.args.right) (Some at))
    c.whole.ensures.shape c.in-Some.ensures.leads).0 in
    let here = sym c.in-Some-Some.ensures in
    let there = sym c.in-Some-Some.ensures'.next in
    let takes = c.in-Some-take_first.ensures in
    let ahead = c.below.bytes.left in
    let after = c.take_first.new.self.left in
    let now = shape_now s c.below.part in
    let made = c.in_ok-made.made in
    let inv = c.below.invariant in
    let is = sym c.in_ok-part.ensures.made in
    let still = inv.picked.kept byte takes.0 ∙ here in
    let less = made-less AllocError made now child byte inv.picked.order still in
    record {
      picked = subst (λ z. IsPickedUpTo unless s at (value_of s) after z) is
          (picked-made unless s at (value_of s) ahead after byte takes.2 now inv.picked takes.0
          child
          next here there (ordered s tree) (next-begins at next byte also there).1 made
          c.in_ok-made.ensures.becomes);
      steps = subst (λ z. StepsUpTo IsCommonKey s at after (lost s z) c.reach.new.work
          c.subtract.new.work) is
          (steps-next IsCommonKey keys-carried s at child next byte here there (ordered s tree) also
          ahead after
          takes.0 takes.2 (lost s now) (lost s (with_made byte made now))
          (spare_of {E = AllocError} (Ok made)) c.reach.new.work c.below.work
          c.branch-next.new.work c.subtract.new.work inv.steps c.in-Some-Some.ensures'.counted
          c.in_ok-made.ensures.counted
          (let few = inv.fewer in let some = less.0 in omega (arith, few, some)));
      fewer = subst (λ z. length (children_of z) ≤ length (children_of s)) is
          (let few = inv.fewer in let some = less.1 in omega (arith, few, some));
      common = λ changed. ⊎_elim (λ was. inv.common was)
          (λ differs. let key = c.in_ok-made.ensures.common differs in
          (key.0, common-child s at child next byte here there (ordered s tree) also key.0 key.1))
          (or-parts (is_some c.below.part) (is_same made)
          (sym c.in_ok-part.ensures.changed ∙ changed));
      least = least-step s at tree ahead after byte child next takes here there c.reach.new.work
          c.below.work c.branch-next.new.work c.subtract.new.work inv.least
          (c.in-Some-Some.ensures'.entered refl) c.in_ok-made.ensures.least;
      both = λ other has. inv.both other (was-ahead (other == byte) (has_byte ahead other)
          (sym (takes.2 other) ∙ has));
    }

pub returns-in_err-made-clause-counted : goal.returns-in_err-made-clause-counted
returns-in_err-made-clause-counted g t c =
    let s = c.open-node.result.now.shape in
    let right = cursor_shape c.args.right in
    let at = cursor_shape c.in-Some.at in
    let byte = c.in-Some-take_first.byte in
    let child = c.in-Some-Some.child.now.shape in
    let next = cursor_shape c.in-Some-Some.next in
    let tree = subst IsTree (sym c.open-node.ensures.shown) c.requires.left in
    let shown = c.whole.ensures.shape in
    let leads = subst (λ z. LeadsTo (prefix_of z) right (Some at)) shown c.in-Some.ensures.leads in
    let along = subst (λ z. EntersAlong z right true c.open-node.new.work c.reach.new.work) shown
    c.in-Some.ensures.enters in
    let takes = c.in-Some-take_first.ensures in
    let ahead = c.below.bytes.left in
    let after = c.take_first.new.self.left in
    let now = shape_now s c.below.part in
    let inv = c.below.invariant in
    let goes = c.both_have_values-goes.result in
    let steps = steps-next IsCommonKey keys-carried s at child next byte
    (sym c.in-Some-Some.ensures) (sym c.in-Some-Some.ensures'.next) (ordered s tree) leads.0 ahead
    after takes.0
    takes.2 (lost s now) (lost s now) 0 c.reach.new.work c.below.work
    c.branch-next.new.work c.subtract.new.work inv.steps c.in-Some-Some.ensures'.counted
    c.in_err-made.ensures.counted (omega arith) in
    subst (λ z. StepsBelow IsCommonKey c.args.left.now.shape right z c.args.work.now
    c.subtract.new.work)
    (sym (err-spare c.from_residual.result c.from_residual.ensures.0))
    (subst (λ z. StepsBelow IsCommonKey z right 0 c.args.work.now c.subtract.new.work)
    c.open-node.ensures.shown
    (steps-end IsCommonKey keys-carried s right at after goes (lost s now) leads.1 tree leads.0
    c.args.work.now c.open-node.new.work c.reach.new.work c.subtract.new.work c.subtract.new.work
    along steps (own-common s at goes c.both_have_values-goes.ensures)
    (ap (λ z. z.entered) c.open-node.ensures.work) (ap (λ z. z.made) c.open-node.ensures.work)
    0 0 (omega arith) (omega arith) (omega arith) (omega arith) (inl refl)))

pub returns-in_err-part-clause-counted : goal.returns-in_err-part-clause-counted
returns-in_err-part-clause-counted g t c =
    let s = c.open-node.result.now.shape in
    let right = cursor_shape c.args.right in
    let at = cursor_shape c.in-Some.at in
    let byte = c.in-Some-take_first.byte in
    let child = c.in-Some-Some.child.now.shape in
    let next = cursor_shape c.in-Some-Some.next in
    let tree = subst IsTree (sym c.open-node.ensures.shown) c.requires.left in
    let shown = c.whole.ensures.shape in
    let leads = subst (λ z. LeadsTo (prefix_of z) right (Some at)) shown c.in-Some.ensures.leads in
    let along = subst (λ z. EntersAlong z right true c.open-node.new.work c.reach.new.work) shown
    c.in-Some.ensures.enters in
    let takes = c.in-Some-take_first.ensures in
    let ahead = c.below.bytes.left in
    let after = c.take_first.new.self.left in
    let now = shape_now s c.below.part in
    let inv = c.below.invariant in
    let goes = c.both_have_values-goes.result in
    let steps = steps-next IsCommonKey keys-carried s at child next byte
    (sym c.in-Some-Some.ensures) (sym c.in-Some-Some.ensures'.next) (ordered s tree) leads.0 ahead
    after takes.0
    takes.2 (lost s now) (lost s now) (spare_of {E = AllocError} (Ok c.in_ok-made.made))
    c.reach.new.work c.below.work
    c.branch-next.new.work c.subtract.new.work inv.steps c.in-Some-Some.ensures'.counted
    c.in_ok-made.ensures.counted (omega arith) in
    subst (λ z. StepsBelow IsCommonKey c.args.left.now.shape right z c.args.work.now
    c.subtract.new.work)
    (sym (err-spare c.from_residual-in_err-part.result c.from_residual-in_err-part.ensures.0))
    (subst (λ z. StepsBelow IsCommonKey z right 0 c.args.work.now c.subtract.new.work)
    c.open-node.ensures.shown
    (steps-end IsCommonKey keys-carried s right at after goes (lost s now) leads.1 tree leads.0
    c.args.work.now c.open-node.new.work c.reach.new.work c.subtract.new.work c.subtract.new.work
    along steps (own-common s at goes c.both_have_values-goes.ensures)
    (ap (λ z. z.entered) c.open-node.ensures.work) (ap (λ z. z.made) c.open-node.ensures.work)
    0 0 (omega arith) (omega arith) (omega arith) (omega arith) (inl refl)))

pub settle-requires-clause-order : goal.settle-requires-clause-order
settle-requires-clause-order g t c =
    let s = c.open-node.result.now.shape in
    let right = cursor_shape c.args.right in
    let at = cursor_shape c.in-Some.at in
    let leads = subst (λ z. LeadsTo (prefix_of z) right (Some at)) c.whole.ensures.shape
    c.in-Some.ensures.leads in
    let now = shape_now s c.below.part in
    let inv = c.below.invariant in
    let goes = c.both_have_values-goes.result in
    let own = own-picked s at goes c.both_have_values-goes.ensures in
    let all = c.in_default-take_first.ensures.1 in
    ordered-losing unless s at right now (value_of s) c.below.bytes.left goes inv.picked all leads.1
    own (λ q _. unless-none (found right q))

pub settle-requires-clause-lengths : goal.settle-requires-clause-lengths
settle-requires-clause-lengths g t c =
    let s = c.open-node.result.now.shape in
    let right = cursor_shape c.args.right in
    let at = cursor_shape c.in-Some.at in
    let leads = subst (λ z. LeadsTo (prefix_of z) right (Some at)) c.whole.ensures.shape
    c.in-Some.ensures.leads in
    let now = shape_now s c.below.part in
    let inv = c.below.invariant in
    let goes = c.both_have_values-goes.result in
    let own = own-picked s at goes c.both_have_values-goes.ensures in
    let all = c.in_default-take_first.ensures.1 in
    admitted-losing unless s at right now (value_of s) c.below.bytes.left goes inv.picked all
    leads.1
    own (λ q _. unless-none (found right q)) g.P.Partial.MAXIMUM_SIZE
    (λ q there. subst (AreAdmitted g.P.Partial.MAXIMUM_SIZE) (sym c.open-node.ensures.shown)
    c.requires.lengths q (picked-was unless unless-none (found s q) (found right q) there))

pub returns-clause-becomes : goal.returns-clause-becomes
returns-clause-becomes g t c =
    let s = c.open-node.result.now.shape in
    let right = cursor_shape c.args.right in
    let at = cursor_shape c.in-Some.at in
    let leads = subst (λ z. LeadsTo (prefix_of z) right (Some at)) c.whole.ensures.shape
    c.in-Some.ensures.leads in
    let now = shape_now s c.below.part in
    let inv = c.below.invariant in
    let goes = c.both_have_values-goes.result in
    let own = own-picked s at goes c.both_have_values-goes.ensures in
    let all = c.in_default-take_first.ensures.1 in
    if-ok c.settle.result
    (λ made settled. subst (λ z. Becomes unless z right made) c.open-node.ensures.shown
    (becomes-settled unless s at right now (value_of s) c.below.bytes.left goes inv.picked all
    leads.1 own (λ q _. unless-none (found right q)) s (λ q. refl) (λ byte begins _. begins) made
    settled)) c.settle.ensures.settled

pub returns-clause-common : goal.returns-clause-common
returns-clause-common g t c =
    let s = c.open-node.result.now.shape in
    let right = cursor_shape c.args.right in
    let at = cursor_shape c.in-Some.at in
    let leads = subst (λ z. LeadsTo (prefix_of z) right (Some at)) c.whole.ensures.shape
    c.in-Some.ensures.leads in
    let now = shape_now s c.below.part in
    let inv = c.below.invariant in
    let goes = c.both_have_values-goes.result in
    let own = own-picked s at goes c.both_have_values-goes.ensures in
    let all = c.in_default-take_first.ensures.1 in
    if-ok c.settle.result
    (λ made either differs. subst (λ z. HaveCommon z right) c.open-node.ensures.shown
    (common-ended s right at leads.1
    (⊎_elim (λ gone. ([], own-common s at goes c.both_have_values-goes.ensures gone))
    (λ changed. inv.common changed) (either differs)))) c.settle.ensures.changed

pub returns-clause-counted : goal.returns-clause-counted
returns-clause-counted g t c =
    let s = c.open-node.result.now.shape in
    let right = cursor_shape c.args.right in
    let at = cursor_shape c.in-Some.at in
    let leads = subst (λ z. LeadsTo (prefix_of z) right (Some at)) c.whole.ensures.shape
    c.in-Some.ensures.leads in
    let now = shape_now s c.below.part in
    let inv = c.below.invariant in
    let goes = c.both_have_values-goes.result in
    let own = own-picked s at goes c.both_have_values-goes.ensures in
    let all = c.in_default-take_first.ensures.1 in
    let tree = subst IsTree (sym c.open-node.ensures.shown) c.requires.left in
    let along = subst (λ z. EntersAlong z right true c.open-node.new.work c.reach.new.work)
    c.whole.ensures.shape c.in-Some.ensures.enters in
    let changed = is_some c.below.part in
    let common = own-common s at goes c.both_have_values-goes.ensures in
    let order = ordered-losing unless s at right now (value_of s) c.below.bytes.left goes inv.picked
    all leads.1 own (λ q _. unless-none (found right q)) in
    let one = c.settle.ensures.counted in
    subst (λ z. StepsBelow IsCommonKey z right (spare_of c.settle.result) c.args.work.now
    c.settle.new.work)
    c.open-node.ensures.shown
    (steps-end IsCommonKey keys-carried s right at c.below.bytes.left goes (lost s now) leads.1 tree
    leads.0 c.args.work.now c.open-node.new.work c.reach.new.work c.below.work c.settle.new.work
    along inv.steps common (ap (λ z. z.entered) c.open-node.ensures.work)
    (ap (λ z. z.made) c.open-node.ensures.work)
    (merges (losing goes now)) (spare_of c.settle.result) one.entered_grows one.entered_at_most
    (paid-result c.settle.result s s now goes tree inv.picked.value order inv.fewer
    c.settle.ensures.settled) one.made_grows
    (last-changed {C = BeginsCommon s right (prefix_of s)} goes changed (losing goes now)
    c.below.work c.settle.new.work one c.settle.ensures.still
    (λ gone. begun-prefix s right at leads.1 ([], common gone))
    (λ is. begun-prefix s right at leads.1 (inv.common is))))

pub returns-clause-least : goal.returns-clause-least
returns-clause-least g t c =
    let s = c.open-node.result.now.shape in
    let right = cursor_shape c.args.right in
    let at = cursor_shape c.in-Some.at in
    let tree = subst IsTree (sym c.open-node.ensures.shown) c.requires.left in
    let leads = subst (λ z. LeadsTo (prefix_of z) right (Some at)) c.whole.ensures.shape
    c.in-Some.ensures.leads in
    let least = subst (λ z. EntersForCommon z right c.args.work.now c.settle.new.work)
    c.open-node.ensures.shown
    (least-all s at tree right c.below.bytes.left c.args.work.now c.open-node.new.work
    c.reach.new.work c.below.work c.settle.new.work leads.1 c.in_default-take_first.ensures.1
    c.below.invariant.least (ap (λ z. z.entered) c.open-node.ensures.work)
    c.in-Some.ensures.enters.grows c.settle.ensures.counted.entered_grows) in
    whatever c.settle.result least
