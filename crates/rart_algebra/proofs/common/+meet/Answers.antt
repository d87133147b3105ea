use Rattle.std.proofs.Common.{◌≡◌, ◌<◌, inl, ℕ, List, [], ◌++◌, Some, None, is_some, true, refl, sym, ap, subst, ◌∙◌, arith}
use Rattle.std.specs.Prelude.{◌==◌}
use Rattle.std.proofs.lemmas.Bool.{false≢true}
use Rattle.rart_below.specs.ByteSets.{has_byte}
use Rattle.rart_lockstep.specs.TreeCursorFields.{cursor_shape}
use Rattle.rart_lockstep.specs.TreeCursors.{next_children}
use Rattle.rart_lockstep.proofs.LeastCountLemmas.{EntersLeast}
use Rattle.rart_node.specs.Shape.{children_of, prefix_of, value_of, height, with_prefix}
use Rattle.rart_node.specs.Trees.{IsTree, found}
use Rattle.rart_node.proofs.NodeMergeLemmas.{if-ok}
use Rattle.rart_node.proofs.FindLemmas.{branch, ordered, ascending}
use Rattle.rart_ways.specs.Removals.{AreAdmitted}
use Rattle.rart_ways.proofs.RemovalLemmas.{admitted-child}
use Rattle.rart_algebra.specs.Ahead.{EntersAlong, EntersForCommon, IsPlace, StepsBelow}
use Rattle.rart_algebra.specs.Parts.{shape_now, losing, merges}
use Rattle.rart_algebra.specs.Picks.{Becomes, LeadsTo, both}
use Rattle.rart_algebra.proofs.AmongLemmas.{among-none, bytes-both, bytes-have, was-ahead}
use Rattle.rart_algebra.proofs.BothLemmas.{both-none, both-start, last-both, nothing-common, own-both}
use Rattle.rart_algebra.proofs.CarriedLemmas.{next-begins, places-carried}
use Rattle.rart_algebra.proofs.CommonCountLemmas.{whatever, steps_ahead, least-apart, least-none, least-step, least-all}
use Rattle.rart_algebra.proofs.DescentLemmas.{place-ended, steps-apart, steps-none, steps-next, steps-end}
use Rattle.rart_algebra.proofs.PaidLemmas.{merges-few}
use Rattle.rart_algebra.proofs.PickLemmas.{IsPickedUpTo, picked-apart, picked-was, picked-made, ordered-losing, admitted-losing, becomes-settled}
use Rattle.rart_algebra.proofs.WeightLemmas.{weigh-taken}
use Rattle.rart_algebra.proofs.common.+meet.Goals as goal
use Rattle.rart_algebra.proofs.common.+meet.Goals.{in_default-2-via-in-Some+in_default, in_default-2-via-in_default}

pub returns-in_default-clause-becomes : goal.returns-in_default-clause-becomes
returns-in_default-clause-becomes g t c =
    let right = cursor_shape c.args.right in
    let is = c.whole.ensures.shape ∙ c.open-node.ensures.shown in
    picked-apart both both-none c.args.left.now.shape right
    (subst (λ z. (q : List ℕ) → found right (prefix_of z ++ q) ≡ None) is
    c.in_default.ensures.leads)

pub returns-in_default-clause-counted : goal.returns-in_default-clause-counted
returns-in_default-clause-counted g t c =
    let right = cursor_shape c.args.right in
    subst (λ z. StepsBelow IsPlace z right 0 c.args.work.now c.reach.new.work)
    (c.whole.ensures.shape ∙ c.open-node.ensures.shown)
    (steps-apart IsPlace (cursor_shape c.whole.result) right c.args.work.now c.open-node.new.work
    c.reach.new.work c.in_default.ensures.enters (ap (λ z. z.entered) c.open-node.ensures.work)
    (ap (λ z. z.made) c.open-node.ensures.work))

pub returns-in_default-clause-least : goal.returns-in_default-clause-least
returns-in_default-clause-least g t c =
    let right = cursor_shape c.args.right in
    let one = ap (λ z. z.entered) c.open-node.ensures.work in
    let more = c.in_default.ensures.enters.grows in
    subst (λ z. EntersForCommon z right c.args.work.now c.reach.new.work)
    (c.whole.ensures.shape ∙ c.open-node.ensures.shown)
    (least-apart (cursor_shape c.whole.result) right c.args.work.now c.reach.new.work
    c.in_default.ensures.leads (omega (arith, one, more)))

pub count_among-count-requires-clause-order : goal.count_among-count-requires-clause-order
count_among-count-requires-clause-order g t c =
    let s = c.open-node.result.now.shape in
    ascending s (ordered s (subst IsTree (sym c.open-node.ensures.shown) c.requires.left))

pub keep_among-requires-clause-order : goal.keep_among-requires-clause-order
keep_among-requires-clause-order g t c =
    let s = c.open-node.result.now.shape in
    ascending s (ordered s (subst IsTree (sym c.open-node.ensures.shown) c.requires.left))

pub returns-then-not-stays-clause-becomes : goal.returns-then-not-stays-clause-becomes
returns-then-not-stays-clause-becomes g t c =
    let s = c.open-node.result.now.shape in
    let right = cursor_shape c.args.right in
    let at = cursor_shape c.in-Some.at in
    let leads = subst (λ z. LeadsTo (prefix_of z) right (Some at)) c.whole.ensures.shape
    c.in-Some.ensures.leads in
    let are = c.common_bytes-common.ensures in
    let there = bytes-have c.common_bytes-common.result (children_of s) (next_children at) are in
    let none = among-none c.common_bytes-common.result (children_of s) there
    (sym c.count_among-count.ensures.count ∙ c.if-count-eq0.true) in
    subst (λ z. (q : List ℕ) → both (found z q) (found right q) ≡ None) c.open-node.ensures.shown
    (nothing-common s right at c.common_bytes-common.result leads.1 are none
    (sym c.both_have_values-stays.ensures ∙ c.if-not-stays.true))

pub returns-then-not-stays-clause-counted : goal.returns-then-not-stays-clause-counted
returns-then-not-stays-clause-counted g t c =
    let s = c.open-node.result.now.shape in
    let right = cursor_shape c.args.right in
    let at = cursor_shape c.in-Some.at in
    let tree = subst IsTree (sym c.open-node.ensures.shown) c.requires.left in
    let leads = subst (λ z. LeadsTo (prefix_of z) right (Some at)) c.whole.ensures.shape
    c.in-Some.ensures.leads in
    let along = subst (λ z. EntersAlong z right true c.open-node.new.work c.reach.new.work)
    c.whole.ensures.shape c.in-Some.ensures.enters in
    subst (λ z. StepsBelow IsPlace z right 0 c.args.work.now c.reach.new.work)
    c.open-node.ensures.shown
    (steps-end IsPlace places-carried s right at c.common_bytes-common.result true 0 leads.1 tree
    leads.0 c.args.work.now c.open-node.new.work c.reach.new.work c.reach.new.work c.reach.new.work
    along (steps-none IsPlace s at c.common_bytes-common.result c.reach.new.work)
    (λ here. place-ended s at tree leads.0) (ap (λ z. z.entered) c.open-node.ensures.work)
    (ap (λ z. z.made) c.open-node.ensures.work)
    0 0 (omega arith) (omega arith) (omega arith) (omega arith) (inl refl))

pub returns-then-not-stays-clause-least : goal.returns-then-not-stays-clause-least
returns-then-not-stays-clause-least g t c =
    let s = c.open-node.result.now.shape in
    let right = cursor_shape c.args.right in
    let at = cursor_shape c.in-Some.at in
    let tree = subst IsTree (sym c.open-node.ensures.shown) c.requires.left in
    let leads = subst (λ z. LeadsTo (prefix_of z) right (Some at)) c.whole.ensures.shape
    c.in-Some.ensures.leads in
    let are = c.common_bytes-common.ensures in
    let there = bytes-have c.common_bytes-common.result (children_of s) (next_children at) are in
    let none = among-none c.common_bytes-common.result (children_of s) there
    (sym c.count_among-count.ensures.count ∙ c.if-count-eq0.true) in
    subst (λ z. EntersForCommon z right c.args.work.now c.reach.new.work) c.open-node.ensures.shown
    (least-all s at tree right c.common_bytes-common.result c.args.work.now c.open-node.new.work
    c.reach.new.work c.reach.new.work c.reach.new.work leads.1 none
    (least-none s at tree c.common_bytes-common.result are c.reach.new.work)
    (ap (λ z. z.entered) c.open-node.ensures.work) c.in-Some.ensures.enters.grows (omega arith))

pub returns-in_err-part-clause-counted : goal.returns-in_err-part-clause-counted
returns-in_err-part-clause-counted g t c =
    let s = c.open-node.result.now.shape in
    let right = cursor_shape c.args.right in
    let at = cursor_shape c.in-Some.at in
    let tree = subst IsTree (sym c.open-node.ensures.shown) c.requires.left in
    let leads = subst (λ z. LeadsTo (prefix_of z) right (Some at)) c.whole.ensures.shape
    c.in-Some.ensures.leads in
    let along = subst (λ z. EntersAlong s right true c.open-node.new.work z)
    (sym c.in_err-part.ensures.still)
    (subst (λ z. EntersAlong z right true c.open-node.new.work c.reach.new.work)
    c.whole.ensures.shape c.in-Some.ensures.enters) in
    let now = c.keep_among.new.work in
    subst (λ z. StepsBelow IsPlace z right 0 c.args.work.now now) c.open-node.ensures.shown
    (steps-end IsPlace places-carried s right at c.common_bytes-common.result true 0 leads.1 tree
    leads.0 c.args.work.now c.open-node.new.work now now now along
    (steps-none IsPlace s at c.common_bytes-common.result now)
    (λ here. place-ended s at tree leads.0) (ap (λ z. z.entered) c.open-node.ensures.work)
    (ap (λ z. z.made) c.open-node.ensures.work)
    0 0 (omega arith) (omega arith) (omega arith) (omega arith) (inl refl))

pub below-init : goal.below-init
below-init g t c =
    let s = c.open-node.result.now.shape in
    let at = cursor_shape c.in-Some.at in
    let tree = subst IsTree (sym c.open-node.ensures.shown) c.requires.left in
    let are = c.common_bytes-common.ensures in
    let is = c.new-bytes.ensures in
    let bytes = c.common_bytes-common.result in
    let work = c.keep_among.new.work in
    let now = shape_now s c.in_ok-part.part in
    record {
      picked = subst (λ z. IsPickedUpTo both s at (value_of s) z now) (sym is)
          (both-start s at now bytes (ordered s tree) are c.in_ok-part.ensures.kept);
      steps = steps-none IsPlace s at c.new-bytes.result.left work;
      least = subst (λ z. EntersLeast (with_prefix [] s) at 0 (steps_ahead s at z) work work)
          (sym is) (least-none s at tree bytes are work);
      both = λ byte has.
          bytes-both bytes (children_of s) (next_children at) are byte
          (ap (λ z. has_byte z byte) (sym is) ∙ has);
    }

pub seek_child-requires : goal.seek_child-requires
seek_child-requires g t c =
    let s = c.open-node.result.now.shape in
    ascending s (ordered s (subst IsTree (sym c.open-node.ensures.shown) c.requires.left))

pub unreachable-requires : goal.unreachable-requires
unreachable-requires g t c =
    let both = c.below.invariant.both c.in-Some-take_first.byte c.in-Some-take_first.ensures.0 in
    elim c.in_default-2.branch [
      | in_default-2-via-in-Some+in_default w ↦
          false≢true (ap is_some w.in_default-2.ensures'.next ∙ both.1)
      | in_default-2-via-in_default w ↦ false≢true (ap is_some w.in_default-2.ensures ∙ both.0)
    ]

pub meet-requires : goal.meet-requires
meet-requires g t c κs within =
    let s = c.open-node.result.now.shape in
    let at = cursor_shape c.in-Some.at in
    let byte = c.in-Some-take_first.byte in
    let child = c.in-Some-Some.child.now.shape in
    let next = cursor_shape c.in-Some-Some.next in
    let shown = sym c.open-node.ensures.shown in
    let tree = subst IsTree shown c.requires.left in
    let leads = (subst (λ z. LeadsTo (prefix_of z) (cursor_shape c.args.right) (Some at))
    c.whole.ensures.shape c.in-Some.ensures.leads).0 in
    let here = sym c.in-Some-Some.ensures in
    let known = branch s byte child (ordered s tree) here in
    let lower = subst (λ z. height child < height z) c.open-node.ensures.shown known.lower in (
      omega (arith, lower, c.decreases),
      (
        within.0,
        (
          within.1,
          (
            c.requires.clones,
            (
              known.tree,
              (
                (next-begins at next byte leads (sym c.in-Some-Some.ensures'.next)).0,
                admitted-child g.P.Partial.MAXIMUM_SIZE s child byte tree here
                    (subst (AreAdmitted g.P.Partial.MAXIMUM_SIZE) shown c.requires.lengths),
              ),
            ),
          ),
        ),
      ),
    )

pub with_made-requires-clause-order : goal.with_made-requires-clause-order
with_made-requires-clause-order g t c =
    let s = c.open-node.result.now.shape in
    ascending (shape_now s c.below.part) c.below.invariant.picked.order

pub below-smaller : goal.below-smaller
below-smaller g t c =
    let s = c.open-node.result.now.shape in
    let less = weigh-taken (λ byte. 1) c.below.bytes.left c.take_first.new.self.left
    c.in-Some-take_first.byte c.in-Some-take_first.ensures.2 c.in-Some-Some.child.now.shape
    (children_of s) c.in-Some-take_first.ensures.0 (sym c.in-Some-Some.ensures) in
    omega (arith, less)

pub below-preserved : goal.below-preserved
below-preserved g t c =
    let s = c.open-node.result.now.shape in
    let at = cursor_shape c.in-Some.at in
    let byte = c.in-Some-take_first.byte in
    let child = c.in-Some-Some.child.now.shape in
    let next = cursor_shape c.in-Some-Some.next in
    let tree = subst IsTree (sym c.open-node.ensures.shown) c.requires.left in
    let also = (subst (λ z. LeadsTo (prefix_of z) (cursor_shape c.args.right) (Some at))
    c.whole.ensures.shape c.in-Some.ensures.leads).0 in
    let here = sym c.in-Some-Some.ensures in
    let there = sym c.in-Some-Some.ensures'.next in
    let takes = c.in-Some-take_first.ensures in
    let ahead = c.below.bytes.left in
    let after = c.take_first.new.self.left in
    let now = shape_now s c.below.part in
    let made = c.in_ok-made.made in
    let inv = c.below.invariant in
    record {
      picked = subst (λ z. IsPickedUpTo both s at (value_of s) after z) (sym
          c.in_ok-part-2.ensures.made)
          (picked-made both s at (value_of s) ahead after byte takes.2 now inv.picked takes.0 child
          next here there (ordered s tree) (next-begins at next byte also there).1 made
          c.in_ok-made.ensures.becomes);
      steps = steps-next IsPlace places-carried s at child next byte here there (ordered s tree)
          also ahead after
          takes.0 takes.2 0 0 0 c.keep_among.new.work c.below.work c.branch-next.new.work
          c.meet.new.work inv.steps c.in-Some-Some.ensures'.counted c.in_ok-made.ensures.counted
          (omega arith);
      least = least-step s at tree ahead after byte child next takes here there
          c.keep_among.new.work c.below.work c.branch-next.new.work c.meet.new.work inv.least
          (c.in-Some-Some.ensures'.entered refl) c.in_ok-made.ensures.least;
      both = λ other has. inv.both other (was-ahead (other == byte) (has_byte ahead other)
          (sym (takes.2 other) ∙ has));
    }

pub returns-in_err-made-clause-counted : goal.returns-in_err-made-clause-counted
returns-in_err-made-clause-counted g t c =
    let s = c.open-node.result.now.shape in
    let right = cursor_shape c.args.right in
    let at = cursor_shape c.in-Some.at in
    let byte = c.in-Some-take_first.byte in
    let child = c.in-Some-Some.child.now.shape in
    let next = cursor_shape c.in-Some-Some.next in
    let tree = subst IsTree (sym c.open-node.ensures.shown) c.requires.left in
    let leads = subst (λ z. LeadsTo (prefix_of z) right (Some at)) c.whole.ensures.shape
    c.in-Some.ensures.leads in
    let along = subst (λ z. EntersAlong s right true c.open-node.new.work z)
    (sym c.in_ok-part.ensures.still)
    (subst (λ z. EntersAlong z right true c.open-node.new.work c.reach.new.work)
    c.whole.ensures.shape c.in-Some.ensures.enters) in
    let takes = c.in-Some-take_first.ensures in
    let ahead = c.below.bytes.left in
    let after = c.take_first.new.self.left in
    let started = c.keep_among.new.work in
    let ended = c.meet.new.work in
    let steps = steps-next IsPlace places-carried s at child next byte
    (sym c.in-Some-Some.ensures) (sym c.in-Some-Some.ensures'.next) (ordered s tree) leads.0 ahead
    after takes.0
    takes.2 0 0 0 started c.below.work c.branch-next.new.work ended c.below.invariant.steps
    c.in-Some-Some.ensures'.counted c.in_err-made.ensures.counted (omega arith) in
    subst (λ z. StepsBelow IsPlace z right 0 c.args.work.now ended) c.open-node.ensures.shown
    (steps-end IsPlace places-carried s right at after true 0 leads.1 tree leads.0
    c.args.work.now c.open-node.new.work started ended ended along steps
    (λ here. place-ended s at tree leads.0) (ap (λ z. z.entered) c.open-node.ensures.work)
    (ap (λ z. z.made) c.open-node.ensures.work)
    0 0 (omega arith) (omega arith) (omega arith) (omega arith) (inl refl))

pub returns-in_err-part-2-clause-counted : goal.returns-in_err-part-2-clause-counted
returns-in_err-part-2-clause-counted g t c =
    let s = c.open-node.result.now.shape in
    let right = cursor_shape c.args.right in
    let at = cursor_shape c.in-Some.at in
    let byte = c.in-Some-take_first.byte in
    let child = c.in-Some-Some.child.now.shape in
    let next = cursor_shape c.in-Some-Some.next in
    let tree = subst IsTree (sym c.open-node.ensures.shown) c.requires.left in
    let leads = subst (λ z. LeadsTo (prefix_of z) right (Some at)) c.whole.ensures.shape
    c.in-Some.ensures.leads in
    let along = subst (λ z. EntersAlong s right true c.open-node.new.work z)
    (sym c.in_ok-part.ensures.still)
    (subst (λ z. EntersAlong z right true c.open-node.new.work c.reach.new.work)
    c.whole.ensures.shape c.in-Some.ensures.enters) in
    let takes = c.in-Some-take_first.ensures in
    let ahead = c.below.bytes.left in
    let after = c.take_first.new.self.left in
    let started = c.keep_among.new.work in
    let ended = c.meet.new.work in
    let steps = steps-next IsPlace places-carried s at child next byte
    (sym c.in-Some-Some.ensures) (sym c.in-Some-Some.ensures'.next) (ordered s tree) leads.0 ahead
    after takes.0
    takes.2 0 0 0 started c.below.work c.branch-next.new.work ended c.below.invariant.steps
    c.in-Some-Some.ensures'.counted c.in_ok-made.ensures.counted (omega arith) in
    subst (λ z. StepsBelow IsPlace z right 0 c.args.work.now ended) c.open-node.ensures.shown
    (steps-end IsPlace places-carried s right at after true 0 leads.1 tree leads.0
    c.args.work.now c.open-node.new.work started ended ended along steps
    (λ here. place-ended s at tree leads.0) (ap (λ z. z.entered) c.open-node.ensures.work)
    (ap (λ z. z.made) c.open-node.ensures.work)
    0 0 (omega arith) (omega arith) (omega arith) (omega arith) (inl refl))

pub settle-requires-clause-order : goal.settle-requires-clause-order
settle-requires-clause-order g t c =
    let s = c.open-node.result.now.shape in
    let right = cursor_shape c.args.right in
    let at = cursor_shape c.in-Some.at in
    let leads = subst (λ z. LeadsTo (prefix_of z) right (Some at)) c.whole.ensures.shape
    c.in-Some.ensures.leads in
    let now = shape_now s c.below.part in
    let inv = c.below.invariant in
    let goes = c.has_value_alone-goes.result in
    let own = own-both s at goes c.has_value_alone-goes.ensures in
    let all = c.in_default-take_first.ensures.1 in
    ordered-losing both s at right now (value_of s) c.below.bytes.left goes inv.picked all leads.1
    own
    (λ q _. both-none (found right q))

pub settle-requires-clause-lengths : goal.settle-requires-clause-lengths
settle-requires-clause-lengths g t c =
    let s = c.open-node.result.now.shape in
    let right = cursor_shape c.args.right in
    let at = cursor_shape c.in-Some.at in
    let leads = subst (λ z. LeadsTo (prefix_of z) right (Some at)) c.whole.ensures.shape
    c.in-Some.ensures.leads in
    let now = shape_now s c.below.part in
    let inv = c.below.invariant in
    let goes = c.has_value_alone-goes.result in
    let own = own-both s at goes c.has_value_alone-goes.ensures in
    let all = c.in_default-take_first.ensures.1 in
    admitted-losing both s at right now (value_of s) c.below.bytes.left goes inv.picked all leads.1
    own (λ q _. both-none (found right q)) g.P.Partial.MAXIMUM_SIZE
    (λ q there. subst (AreAdmitted g.P.Partial.MAXIMUM_SIZE) (sym c.open-node.ensures.shown)
    c.requires.lengths q (picked-was both both-none (found s q) (found right q) there))

pub returns-clause-becomes : goal.returns-clause-becomes
returns-clause-becomes g t c =
    let s = c.open-node.result.now.shape in
    let right = cursor_shape c.args.right in
    let at = cursor_shape c.in-Some.at in
    let leads = subst (λ z. LeadsTo (prefix_of z) right (Some at)) c.whole.ensures.shape
    c.in-Some.ensures.leads in
    let now = shape_now s c.below.part in
    let inv = c.below.invariant in
    let goes = c.has_value_alone-goes.result in
    let own = own-both s at goes c.has_value_alone-goes.ensures in
    let all = c.in_default-take_first.ensures.1 in
    if-ok c.settle.result
    (λ made settled. subst (λ z. Becomes both z right made) c.open-node.ensures.shown
    (becomes-settled both s at right now (value_of s) c.below.bytes.left goes inv.picked all
    leads.1 own (λ q _. both-none (found right q)) s (λ q. refl) (λ byte begins _. begins) made
    settled)) c.settle.ensures.settled

pub returns-clause-counted : goal.returns-clause-counted
returns-clause-counted g t c =
    let s = c.open-node.result.now.shape in
    let right = cursor_shape c.args.right in
    let at = cursor_shape c.in-Some.at in
    let leads = subst (λ z. LeadsTo (prefix_of z) right (Some at)) c.whole.ensures.shape
    c.in-Some.ensures.leads in
    let now = shape_now s c.below.part in
    let inv = c.below.invariant in
    let goes = c.has_value_alone-goes.result in
    let own = own-both s at goes c.has_value_alone-goes.ensures in
    let all = c.in_default-take_first.ensures.1 in
    let tree = subst IsTree (sym c.open-node.ensures.shown) c.requires.left in
    let along = subst (λ z. EntersAlong s right true c.open-node.new.work z)
    (sym c.in_ok-part.ensures.still)
    (subst (λ z. EntersAlong z right true c.open-node.new.work c.reach.new.work)
    c.whole.ensures.shape c.in-Some.ensures.enters) in
    let one = c.settle.ensures.counted in
    let left = losing goes now in
    let few = merges-few left in
    subst (λ z. StepsBelow IsPlace z right 0 c.args.work.now c.settle.new.work)
    c.open-node.ensures.shown
    (steps-end IsPlace places-carried s right at c.below.bytes.left true 0 leads.1 tree
    leads.0 c.args.work.now c.open-node.new.work c.keep_among.new.work c.below.work
    c.settle.new.work along inv.steps (λ here. place-ended s at tree leads.0)
    (ap (λ z. z.entered) c.open-node.ensures.work) (ap (λ z. z.made) c.open-node.ensures.work)
    (merges left) 0 one.entered_grows one.entered_at_most (omega (arith, few)) one.made_grows
    (last-both s at right now c.below.bytes.left goes inv.picked all leads.1 own c.below.work
    c.settle.new.work one))

pub returns-clause-least : goal.returns-clause-least
returns-clause-least g t c =
    let s = c.open-node.result.now.shape in
    let right = cursor_shape c.args.right in
    let at = cursor_shape c.in-Some.at in
    let tree = subst IsTree (sym c.open-node.ensures.shown) c.requires.left in
    let leads = subst (λ z. LeadsTo (prefix_of z) right (Some at)) c.whole.ensures.shape
    c.in-Some.ensures.leads in
    let along = subst (λ z. EntersAlong s right true c.open-node.new.work z)
    (sym c.in_ok-part.ensures.still)
    (subst (λ z. EntersAlong z right true c.open-node.new.work c.reach.new.work)
    c.whole.ensures.shape c.in-Some.ensures.enters) in
    let least = subst (λ z. EntersForCommon z right c.args.work.now c.settle.new.work)
    c.open-node.ensures.shown
    (least-all s at tree right c.below.bytes.left c.args.work.now c.open-node.new.work
    c.keep_among.new.work c.below.work c.settle.new.work leads.1 c.in_default-take_first.ensures.1
    c.below.invariant.least (ap (λ z. z.entered) c.open-node.ensures.work) along.grows
    c.settle.ensures.counted.entered_grows) in
    whatever c.settle.result least
