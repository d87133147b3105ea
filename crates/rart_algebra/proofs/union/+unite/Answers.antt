use Rattle.std.proofs.Common.{◌≡◌, ◌<◌, ◌≤◌, ◌+◌, inl, inr, ⊎_elim, ℕ, false, not, ◌&&◌, List, [], None, IsSome, is_some, Ok, length, refl, sym, ap, subst, ◌∙◌, arith}
use Rattle.std.specs.Prelude.{◌==◌}
use Rattle.std.specs.declared.alloc.AllocError.{AllocError}
use Rattle.std.proofs.lemmas.Bool.{false≢true}
use Rattle.rart_below.specs.ByteSets.{has_byte, AreBytesOfBoth}
use Rattle.rart_below.specs.Bytes.{common_length}
use Rattle.rart_below.specs.Children.{child_at}
use Rattle.rart_below.specs.declared.byte_set.ByteSet.{ByteSet}
use Rattle.rart_lockstep.specs.TreeCursorFields.{cursor_shape}
use Rattle.rart_lockstep.specs.TreeCursors.{behind_bytes, children_next, next_children, value_here}
use Rattle.rart_lockstep.proofs.LeastCountLemmas.{EntersLeast}
use Rattle.rart_node.specs.Shape.{Shape, children_of, prefix_of, value_of, height, with_prefix}
use Rattle.rart_node.specs.Trees.{strip_prefix, IsTree, IsOrdered, found}
use Rattle.rart_node.proofs.NodeMergeLemmas.{if-ok}
use Rattle.rart_node.proofs.FindLemmas.{ascending, branch, ordered}
use Rattle.rart_node.proofs.PrefixRestLemmas.{common-within}
use Rattle.rart_ways.specs.Removals.{AreAdmitted}
use Rattle.rart_algebra.specs.Ahead.{EntersBelow, EntersForCommon, HaveChange, IsGone, JoinsBelow, spare_of}
use Rattle.rart_algebra.specs.Gains.{Gains, HasMore}
use Rattle.rart_algebra.specs.Parts.{is_same, losing, merges, parted, shape_now, with_made}
use Rattle.rart_algebra.specs.Picks.{Becomes, either, together}
use Rattle.rart_algebra.proofs.AmongLemmas.{bytes-both, was-ahead}
use Rattle.rart_algebra.proofs.CarriedLemmas.{changed-child, gone-carried, next-begins}
use Rattle.rart_algebra.proofs.CommonCountLemmas.{steps_ahead, whatever}
use Rattle.rart_algebra.proofs.DescentLemmas.{EntersSoFar, enters-next, enters-none, joins-next, joins-none}
use Rattle.rart_algebra.proofs.JoinCountLemmas.{change-there, cut-changes, gain-changes, joins-enter, joins-least, joins-make, joins-owed, joins-step, last-joined, left-key, right-key}
use Rattle.rart_algebra.proofs.JoinLemmas.{admitted-behind, gained-tree, joined-start, joined-value, more-changes, other-alone, together-some, value-changes, value-gone}
use Rattle.rart_algebra.proofs.PaidLemmas.{err-spare, last-changed, lost, made-less, or-parts, paid-result}
use Rattle.rart_algebra.proofs.PartedLemmas.{cut-more, left_there, parted-first, parted-found, parted-leads, parted-lower, parted-ordered, parted-outside, passed, right-tree, right_there}
use Rattle.rart_algebra.proofs.PickLemmas.{IsPickedUpTo, picked-made, ordered-losing, admitted-losing, becomes-settled}
use Rattle.rart_algebra.proofs.WeightLemmas.{weigh-taken}
use Rattle.rart_algebra.proofs.union.+unite.Goals as goal
use Rattle.rart_algebra.proofs.union.+unite.Goals.{in_default-2-via-in-Some+in_default, in_default-2-via-in_default}

no_bytes : ByteSet
no_bytes = record { words = [] }

none-lost : {V : Type 0} (s : Shape V) → 0 ≡ lost s s
none-lost s = omega arith

pub behind-at-requires : goal.behind-at-requires
behind-at-requires g t c =
    let left = c.open-node.result.now.shape in
    let right = cursor_shape c.args.right in
    let tree = subst IsTree (sym c.open-node.ensures.shown) c.requires.left in
    let also = c.requires.right in
    let common = c.common_with-common.ensures
    ∙ ap (λ z. common_length (prefix_of z) (prefix_of right)) c.whole.ensures.shape in
    let few = (common-within (prefix_of left) (prefix_of right)).1 in
    omega (arith, common, few)

pub cut_inside-requires-clause-within : goal.cut_inside-requires-clause-within
cut_inside-requires-clause-within g t c =
    let left = c.open-node.result.now.shape in
    let right = cursor_shape c.args.right in
    let tree = subst IsTree (sym c.open-node.ensures.shown) c.requires.left in
    let also = c.requires.right in
    let common = c.common_with-common.ensures
    ∙ ap (λ z. common_length (prefix_of z) (prefix_of right)) c.whole.ensures.shape in
    let few = (common-within (prefix_of left) (prefix_of right)).0 in
    omega (arith, common, few)

pub returns-in_err-cut-clause-enters : goal.returns-in_err-cut-clause-enters
returns-in_err-cut-clause-enters g t c =
    let left = c.open-node.result.now.shape in
    let right = cursor_shape c.args.right in
    let tree = subst IsTree (sym c.open-node.ensures.shown) c.requires.left in
    let also = c.requires.right in
    let common = c.common_with-common.ensures
    ∙ ap (λ z. common_length (prefix_of z) (prefix_of right)) c.whole.ensures.shape in
    let s = left_there left right in
    let t = right_there left right in
    let one = ap (λ z. z.entered) c.open-node.ensures.work in
    let none = ap (λ z. z.made) c.open-node.ensures.work in
    let cut = c.in_err-cut.ensures.counted in
    let more_cut = cut.entered_grows in
    let few_cut = cut.entered_at_most in
    let makes_cut = cut.made_grows in
    let made_cut = cut.made_at_most in
    subst (λ z. EntersBelow (IsGone c.args.stays) z right (spare_of c.from_residual.result)
    c.args.work.now c.cut_inside.new.work)
    c.open-node.ensures.shown
    (subst (λ n. EntersBelow (IsGone c.args.stays) left right n c.args.work.now
    c.cut_inside.new.work)
    (sym (err-spare c.from_residual.result c.from_residual.ensures.0))
    (joins-enter left right tree also c.args.stays c.args.work.now c.open-node.new.work
    c.cut_inside.new.work c.cut_inside.new.work c.cut_inside.new.work no_bytes false 0 0 0 one
    (omega (arith, more_cut, few_cut))
    (enters-none s t no_bytes c.cut_inside.new.work (IsGone c.args.stays))
    (λ never. absurd (false≢true never)) (omega arith) (omega arith) (omega arith)))

pub returns-in_err-cut-clause-makes : goal.returns-in_err-cut-clause-makes
returns-in_err-cut-clause-makes g t c =
    let left = c.open-node.result.now.shape in
    let right = cursor_shape c.args.right in
    let tree = subst IsTree (sym c.open-node.ensures.shown) c.requires.left in
    let also = c.requires.right in
    let common = c.common_with-common.ensures
    ∙ ap (λ z. common_length (prefix_of z) (prefix_of right)) c.whole.ensures.shape in
    let s = left_there left right in
    let t = right_there left right in
    let one = ap (λ z. z.entered) c.open-node.ensures.work in
    let none = ap (λ z. z.made) c.open-node.ensures.work in
    let cut = c.in_err-cut.ensures.counted in
    let more_cut = cut.entered_grows in
    let few_cut = cut.entered_at_most in
    let makes_cut = cut.made_grows in
    let made_cut = cut.made_at_most in
    subst (λ z. JoinsBelow z right c.args.stays c.args.work.now c.cut_inside.new.work)
    c.open-node.ensures.shown
    (joins-make left right tree also c.args.stays c.args.work.now c.open-node.new.work
    c.cut_inside.new.work c.cut_inside.new.work c.cut_inside.new.work no_bytes none makes_cut
    (omega arith) (joins-none s t no_bytes c.cut_inside.new.work c.args.stays)
    (last-joined left right tree also c.args.stays c.open-node.new.work c.cut_inside.new.work
    c.cut_inside.new.work c.cut_inside.new.work (omega (arith, made_cut))
    (cut-changes left right tree also c.args.stays c.open-node.new.work c.cut_inside.new.work
    (λ whole. c.in_err-cut.ensures.still (common ∙ whole))) (inl refl)))

pub common_bytes-requires-clause-right : goal.common_bytes-requires-clause-right
common_bytes-requires-clause-right g t c =
    let left = c.open-node.result.now.shape in
    let right = cursor_shape c.args.right in
    let tree = subst IsTree (sym c.open-node.ensures.shown) c.requires.left in
    let also = c.requires.right in
    let common = c.common_with-common.ensures
    ∙ ap (λ z. common_length (prefix_of z) (prefix_of right)) c.whole.ensures.shape in
    let is_t = c.behind-at.ensures ∙ ap (λ n. behind_bytes n right) common in
    let tree_at = subst IsTree (sym is_t) (right-tree left right tree also) in
    ascending (cursor_shape c.behind-at.result) (ordered (cursor_shape c.behind-at.result) tree_at)

pub gain-requires-clause-order : goal.gain-requires-clause-order
gain-requires-clause-order g t c =
    let left = c.open-node.result.now.shape in
    let right = cursor_shape c.args.right in
    let tree = subst IsTree (sym c.open-node.ensures.shown) c.requires.left in
    let also = c.requires.right in
    let common = c.common_with-common.ensures
    ∙ ap (λ z. common_length (prefix_of z) (prefix_of right)) c.whole.ensures.shape in
    let is_s = c.in_ok-cut.ensures.cut ∙ ap (λ n. parted n left) common in
    subst IsOrdered (sym is_s) (parted-ordered left right tree also)

pub gain-requires-clause-tree : goal.gain-requires-clause-tree
gain-requires-clause-tree g t c =
    let left = c.open-node.result.now.shape in
    let right = cursor_shape c.args.right in
    let tree = subst IsTree (sym c.open-node.ensures.shown) c.requires.left in
    let also = c.requires.right in
    let common = c.common_with-common.ensures
    ∙ ap (λ z. common_length (prefix_of z) (prefix_of right)) c.whole.ensures.shape in
    let is_t = c.behind-at.ensures ∙ ap (λ n. behind_bytes n right) common in
    subst IsTree (sym is_t) (right-tree left right tree also)

pub returns-in_err-part-clause-enters : goal.returns-in_err-part-clause-enters
returns-in_err-part-clause-enters g t c =
    let left = c.open-node.result.now.shape in
    let right = cursor_shape c.args.right in
    let tree = subst IsTree (sym c.open-node.ensures.shown) c.requires.left in
    let also = c.requires.right in
    let common = c.common_with-common.ensures
    ∙ ap (λ z. common_length (prefix_of z) (prefix_of right)) c.whole.ensures.shape in
    let s = left_there left right in
    let t = right_there left right in
    let one = ap (λ z. z.entered) c.open-node.ensures.work in
    let none = ap (λ z. z.made) c.open-node.ensures.work in
    let cut = c.in_ok-cut.ensures.counted in
    let more_cut = cut.entered_grows in
    let few_cut = cut.entered_at_most in
    let makes_cut = cut.made_grows in
    let made_cut = cut.made_at_most in
    let gain = c.in_err-part.ensures.counted in
    let more_gain = gain.entered_grows in
    let few_gain = gain.entered_at_most in
    let makes_gain = gain.made_grows in
    let made_gain = gain.made_at_most in
    subst (λ z. EntersBelow (IsGone c.args.stays) z right (spare_of
    c.from_residual-in_err-part.result) c.args.work.now c.gain.new.work)
    c.open-node.ensures.shown
    (subst (λ n. EntersBelow (IsGone c.args.stays) left right n c.args.work.now c.gain.new.work)
    (sym (err-spare c.from_residual-in_err-part.result c.from_residual-in_err-part.ensures.0))
    (joins-enter left right tree also c.args.stays c.args.work.now c.open-node.new.work
    c.gain.new.work c.gain.new.work c.gain.new.work no_bytes false 0 0 0 one (omega (
      arith,
      more_cut,
      few_cut,
      more_gain,
      few_gain,
    ))
    (enters-none s t no_bytes c.gain.new.work (IsGone c.args.stays))
    (λ never. absurd (false≢true never)) (omega arith) (omega arith) (omega arith)))

pub returns-in_err-part-clause-makes : goal.returns-in_err-part-clause-makes
returns-in_err-part-clause-makes g t c =
    let left = c.open-node.result.now.shape in
    let right = cursor_shape c.args.right in
    let tree = subst IsTree (sym c.open-node.ensures.shown) c.requires.left in
    let also = c.requires.right in
    let common = c.common_with-common.ensures
    ∙ ap (λ z. common_length (prefix_of z) (prefix_of right)) c.whole.ensures.shape in
    let is_t = c.behind-at.ensures ∙ ap (λ n. behind_bytes n right) common in
    let is_s = c.in_ok-cut.ensures.cut ∙ ap (λ n. parted n left) common in
    let s = left_there left right in
    let t = right_there left right in
    let one = ap (λ z. z.entered) c.open-node.ensures.work in
    let none = ap (λ z. z.made) c.open-node.ensures.work in
    let cut = c.in_ok-cut.ensures.counted in
    let more_cut = cut.entered_grows in
    let few_cut = cut.entered_at_most in
    let makes_cut = cut.made_grows in
    let made_cut = cut.made_at_most in
    let gain = c.in_err-part.ensures.counted in
    let more_gain = gain.entered_grows in
    let few_gain = gain.entered_at_most in
    let makes_gain = gain.made_grows in
    let made_gain = gain.made_at_most in
    let first = gain-changes left right tree also c.args.stays c.open-node.new.work
    c.cut_inside.new.work c.gain.new.work
    (cut-changes left right tree also c.args.stays c.open-node.new.work c.cut_inside.new.work
    (λ whole. c.in_ok-cut.ensures.still (common ∙ whole)))
    (⊎_elim (λ same. inl same)
    (λ more. inr (subst (HasMore s) is_t
    (subst (λ z. HasMore z (cursor_shape c.behind-at.result)) is_s more)))
    c.in_err-part.ensures.more) in
    subst (λ z. JoinsBelow z right c.args.stays c.args.work.now c.gain.new.work)
    c.open-node.ensures.shown
    (joins-make left right tree also c.args.stays c.args.work.now c.open-node.new.work
    c.gain.new.work c.gain.new.work c.gain.new.work no_bytes none
    (omega (arith, makes_cut, makes_gain)) (omega arith)
    (joins-none s t no_bytes c.gain.new.work c.args.stays)
    (last-joined left right tree also c.args.stays c.open-node.new.work c.gain.new.work
    c.gain.new.work c.gain.new.work (omega (arith, made_cut, made_gain)) first (inl refl)))

pub below-init : goal.below-init
below-init g t c =
    let left = c.open-node.result.now.shape in
    let right = cursor_shape c.args.right in
    let tree = subst IsTree (sym c.open-node.ensures.shown) c.requires.left in
    let also = c.requires.right in
    let common = c.common_with-common.ensures
    ∙ ap (λ z. common_length (prefix_of z) (prefix_of right)) c.whole.ensures.shape in
    let is_t = c.behind-at.ensures ∙ ap (λ n. behind_bytes n right) common in
    let is_s = c.in_ok-cut.ensures.cut ∙ ap (λ n. parted n left) common in
    let s = left_there left right in
    let t = right_there left right in
    let was = shape_now left c.in_ok-part.part in
    let bytes = c.common_bytes.result in
    let is = c.new-bytes.ensures in
    let work = c.gain.new.work in
    let are : AreBytesOfBoth bytes (children_of s) (next_children t) =
    subst (λ z. AreBytesOfBoth bytes (children_of s) (next_children z)) is_t
    (subst (λ z. AreBytesOfBoth bytes (children_of z) (next_children (cursor_shape
    c.behind-at.result)))
    (c.node_now-2.ensures ∙ is_s) c.common_bytes.ensures) in
    let gains : Gains s t was = subst (λ z. Gains s z was) is_t
    (subst (λ z. Gains z (cursor_shape c.behind-at.result) was) is_s c.in_ok-part.ensures.gains) in
    record {
      picked = subst (λ z. IsPickedUpTo (together c.args.stays) s t
          (either (value_of s) (value_here t)) z was) (sym is)
          (joined-start c.args.stays s t was bytes are gains);
      enters = subst (λ n. EntersSoFar (IsGone c.args.stays) s t c.new-bytes.result.left n work
          work)
          (none-lost was)
          (enters-none s t c.new-bytes.result.left work (IsGone c.args.stays));
      makes = joins-none s t c.new-bytes.result.left work c.args.stays;
      fewer = omega arith;
      changed = λ some. ⊎_elim
          (λ cut.
          let less = c.in_ok-cut.ensures.inside cut in
          more-changes c.args.stays s t
          (cut-more left right tree also (omega (arith, less, common))))
          (λ more. more-changes c.args.stays s t (subst (HasMore s) is_t
          (subst (λ z. HasMore z (cursor_shape c.behind-at.result)) is_s more)))
          (c.in_ok-part.ensures.changed some);
      least = λ ends. subst (λ z. EntersLeast left right (passed left right) (steps_ahead s t z)
          work work) (sym is) (joins-least left right tree also bytes are work ends);
      both = λ byte has. bytes-both bytes (children_of s) (next_children t) are byte
          (ap (λ z. has_byte z byte) (sym is) ∙ has);
    }

pub branch-next-requires : goal.branch-next-requires
branch-next-requires g t c =
    let left = c.open-node.result.now.shape in
    let right = cursor_shape c.args.right in
    let tree = subst IsTree (sym c.open-node.ensures.shown) c.requires.left in
    let also = c.requires.right in
    let common = c.common_with-common.ensures
    ∙ ap (λ z. common_length (prefix_of z) (prefix_of right)) c.whole.ensures.shape in
    let is_t = c.behind-at.ensures ∙ ap (λ n. behind_bytes n right) common in
    let tree_at = subst IsTree (sym is_t) (right-tree left right tree also) in
    ascending (cursor_shape c.behind-at.result) (ordered (cursor_shape c.behind-at.result) tree_at)

pub unreachable-requires : goal.unreachable-requires
unreachable-requires g t c =
    let left = c.open-node.result.now.shape in
    let right = cursor_shape c.args.right in
    let tree = subst IsTree (sym c.open-node.ensures.shown) c.requires.left in
    let also = c.requires.right in
    let common = c.common_with-common.ensures
    ∙ ap (λ z. common_length (prefix_of z) (prefix_of right)) c.whole.ensures.shape in
    let is_t = c.behind-at.ensures ∙ ap (λ n. behind_bytes n right) common in
    let s = left_there left right in
    let t = right_there left right in
    let byte = c.in-Some.byte in
    let inv = c.below.invariant in
    let both = inv.both byte c.in-Some.ensures.0 in
    elim c.in_default-2.branch [
      | in_default-2-via-in-Some+in_default w ↦
          false≢true (ap is_some w.in_default-2.ensures'.next
          ∙ ap (λ z. is_some (child_at byte (next_children z))) is_t ∙ both.1)
      | in_default-2-via-in_default w ↦
          false≢true (ap is_some w.in_default-2.ensures
          ∙ ap (λ z. is_some (child_at byte (children_of z))) c.node_now-in-Some.ensures
          ∙ ap is_some (inv.picked.kept byte c.in-Some.ensures.0) ∙ both.0)
    ]

pub unite-requires : goal.unite-requires
unite-requires g t c κs within =
    let left = c.open-node.result.now.shape in
    let right = cursor_shape c.args.right in
    let tree = subst IsTree (sym c.open-node.ensures.shown) c.requires.left in
    let also = c.requires.right in
    let common = c.common_with-common.ensures
    ∙ ap (λ z. common_length (prefix_of z) (prefix_of right)) c.whole.ensures.shape in
    let is_t = c.behind-at.ensures ∙ ap (λ n. behind_bytes n right) common in
    let s = left_there left right in
    let t = right_there left right in
    let byte = c.in-Some.byte in
    let child = c.in-Some-Some.child.now.shape in
    let next = cursor_shape c.in-Some-Some.next in
    let inv = c.below.invariant in
    let takes = c.in-Some.ensures in
    let here = sym (c.in-Some-Some.ensures
    ∙ ap (λ z. child_at byte (children_of z)) c.node_now-in-Some.ensures
    ∙ inv.picked.kept byte takes.0) in
    let there = sym (c.in-Some-Some.ensures'.next
    ∙ ap (λ z. child_at byte (next_children z)) is_t) in
    let order = parted-ordered left right tree also in
    let other = right-tree left right tree also in
    let ahead = c.below.bytes.left in
    let after = c.take_first.new.self.left in
    let was = shape_now left c.in_ok-part.part in
    let now = shape_now left c.below.part in
    let lower = subst (λ z. height child + height next < height z + height right)
    c.open-node.ensures.shown (parted-lower left right tree also byte child next here there) in
    let most = g.P.Partial.MAXIMUM_SIZE in
    let lengths = subst (AreAdmitted most) (sym c.open-node.ensures.shown) c.requires.lengths in (
      omega (arith, lower, c.decreases),
      (
        within.0,
        (
          within.1,
          (
            c.requires.clones,
            (
              (branch s byte child order here).tree,
              (
                (next-begins t next byte other there).0,
                (
                  admitted-behind most left child (prefix_of s)
                      (left-key left right tree also child next byte here there) lengths,
                  admitted-behind most right next (prefix_of s)
                      (right-key left right tree also child next byte here there)
                      c.requires.other_lengths,
                ),
              ),
            ),
          ),
        ),
      ),
    )

pub returns-in_err-made-clause-enters : goal.returns-in_err-made-clause-enters
returns-in_err-made-clause-enters g t c =
    let left = c.open-node.result.now.shape in
    let right = cursor_shape c.args.right in
    let tree = subst IsTree (sym c.open-node.ensures.shown) c.requires.left in
    let also = c.requires.right in
    let common = c.common_with-common.ensures
    ∙ ap (λ z. common_length (prefix_of z) (prefix_of right)) c.whole.ensures.shape in
    let is_t = c.behind-at.ensures ∙ ap (λ n. behind_bytes n right) common in
    let is_s = c.in_ok-cut.ensures.cut ∙ ap (λ n. parted n left) common in
    let s = left_there left right in
    let t = right_there left right in
    let one = ap (λ z. z.entered) c.open-node.ensures.work in
    let none = ap (λ z. z.made) c.open-node.ensures.work in
    let cut = c.in_ok-cut.ensures.counted in
    let more_cut = cut.entered_grows in
    let few_cut = cut.entered_at_most in
    let makes_cut = cut.made_grows in
    let made_cut = cut.made_at_most in
    let gain = c.in_ok-part.ensures.counted in
    let more_gain = gain.entered_grows in
    let few_gain = gain.entered_at_most in
    let makes_gain = gain.made_grows in
    let made_gain = gain.made_at_most in
    let goes = c.value_goes-goes.result in
    let are_gone : goes ≡ (not c.args.stays && (is_some (value_of s) && is_some (value_here t))) =
    c.value_goes-goes.ensures
    ∙ (λ i. not c.args.stays && (is_some (value_of ((c.node_now.ensures ∙ is_s) i))
    && is_some (value_here (is_t i)))) in
    let byte = c.in-Some.byte in
    let child = c.in-Some-Some.child.now.shape in
    let next = cursor_shape c.in-Some-Some.next in
    let inv = c.below.invariant in
    let takes = c.in-Some.ensures in
    let here = sym (c.in-Some-Some.ensures
    ∙ ap (λ z. child_at byte (children_of z)) c.node_now-in-Some.ensures
    ∙ inv.picked.kept byte takes.0) in
    let there = sym (c.in-Some-Some.ensures'.next
    ∙ ap (λ z. child_at byte (next_children z)) is_t) in
    let order = parted-ordered left right tree also in
    let other = right-tree left right tree also in
    let ahead = c.below.bytes.left in
    let after = c.take_first.new.self.left in
    let was = shape_now left c.in_ok-part.part in
    let now = shape_now left c.below.part in
    let steps = enters-next s t child next byte here there order other ahead after takes.0 takes.2
    (IsGone c.args.stays) (gone-carried c.args.stays) (lost was now) (lost was now)
    0 c.gain.new.work c.below.work c.branch-next.new.work
    c.unite.new.work inv.enters c.in-Some-Some.ensures'.counted c.in_err-made.ensures.enters
    (omega arith) in
    subst (λ z. EntersBelow (IsGone c.args.stays) z right (spare_of
    c.from_residual-in_err-made.result) c.args.work.now c.unite.new.work)
    c.open-node.ensures.shown
    (subst (λ n. EntersBelow (IsGone c.args.stays) left right n c.args.work.now c.unite.new.work)
    (sym (err-spare c.from_residual-in_err-made.result c.from_residual-in_err-made.ensures.0))
    (joins-enter left right tree also c.args.stays c.args.work.now c.open-node.new.work
    c.gain.new.work c.unite.new.work c.unite.new.work after goes (lost was now) 0 0 one
    (omega (arith, more_cut, few_cut, more_gain, few_gain)) steps
    (value-gone c.args.stays s t goes are_gone) (omega arith) (omega arith) (omega arith)))

pub returns-in_err-made-clause-makes : goal.returns-in_err-made-clause-makes
returns-in_err-made-clause-makes g t c =
    let left = c.open-node.result.now.shape in
    let right = cursor_shape c.args.right in
    let tree = subst IsTree (sym c.open-node.ensures.shown) c.requires.left in
    let also = c.requires.right in
    let common = c.common_with-common.ensures
    ∙ ap (λ z. common_length (prefix_of z) (prefix_of right)) c.whole.ensures.shape in
    let is_t = c.behind-at.ensures ∙ ap (λ n. behind_bytes n right) common in
    let is_s = c.in_ok-cut.ensures.cut ∙ ap (λ n. parted n left) common in
    let s = left_there left right in
    let t = right_there left right in
    let one = ap (λ z. z.entered) c.open-node.ensures.work in
    let none = ap (λ z. z.made) c.open-node.ensures.work in
    let cut = c.in_ok-cut.ensures.counted in
    let more_cut = cut.entered_grows in
    let few_cut = cut.entered_at_most in
    let makes_cut = cut.made_grows in
    let made_cut = cut.made_at_most in
    let gain = c.in_ok-part.ensures.counted in
    let more_gain = gain.entered_grows in
    let few_gain = gain.entered_at_most in
    let makes_gain = gain.made_grows in
    let made_gain = gain.made_at_most in
    let first = gain-changes left right tree also c.args.stays c.open-node.new.work
    c.cut_inside.new.work c.gain.new.work
    (cut-changes left right tree also c.args.stays c.open-node.new.work c.cut_inside.new.work
    (λ whole. c.in_ok-cut.ensures.still (common ∙ whole)))
    (⊎_elim (λ same. inl same)
    (λ more. inr (subst (HasMore s) is_t
    (subst (λ z. HasMore z (cursor_shape c.behind-at.result)) is_s more)))
    c.in_ok-part.ensures.more) in
    let byte = c.in-Some.byte in
    let child = c.in-Some-Some.child.now.shape in
    let next = cursor_shape c.in-Some-Some.next in
    let inv = c.below.invariant in
    let takes = c.in-Some.ensures in
    let here = sym (c.in-Some-Some.ensures
    ∙ ap (λ z. child_at byte (children_of z)) c.node_now-in-Some.ensures
    ∙ inv.picked.kept byte takes.0) in
    let there = sym (c.in-Some-Some.ensures'.next
    ∙ ap (λ z. child_at byte (next_children z)) is_t) in
    let order = parted-ordered left right tree also in
    let other = right-tree left right tree also in
    let ahead = c.below.bytes.left in
    let after = c.take_first.new.self.left in
    let was = shape_now left c.in_ok-part.part in
    let now = shape_now left c.below.part in
    let steps = joins-next s t child next byte here there order other ahead after takes.0 takes.2
    c.gain.new.work c.below.work c.branch-next.new.work c.unite.new.work
    c.in-Some-Some.ensures'.counted c.args.stays inv.makes c.in_err-made.ensures.makes in
    subst (λ z. JoinsBelow z right c.args.stays c.args.work.now c.unite.new.work)
    c.open-node.ensures.shown
    (joins-make left right tree also c.args.stays c.args.work.now c.open-node.new.work
    c.gain.new.work c.unite.new.work c.unite.new.work after none
    (omega (arith, makes_cut, makes_gain)) (omega arith) steps
    (last-joined left right tree also c.args.stays c.open-node.new.work c.gain.new.work
    c.unite.new.work c.unite.new.work (omega (arith, made_cut, made_gain)) first (inl refl)))

pub with_made-requires-clause-order : goal.with_made-requires-clause-order
with_made-requires-clause-order g t c =
    ascending (shape_now c.open-node.result.now.shape c.below.part) c.below.invariant.picked.order

pub returns-in_err-part-2-clause-enters : goal.returns-in_err-part-2-clause-enters
returns-in_err-part-2-clause-enters g t c =
    let left = c.open-node.result.now.shape in
    let right = cursor_shape c.args.right in
    let tree = subst IsTree (sym c.open-node.ensures.shown) c.requires.left in
    let also = c.requires.right in
    let common = c.common_with-common.ensures
    ∙ ap (λ z. common_length (prefix_of z) (prefix_of right)) c.whole.ensures.shape in
    let is_t = c.behind-at.ensures ∙ ap (λ n. behind_bytes n right) common in
    let is_s = c.in_ok-cut.ensures.cut ∙ ap (λ n. parted n left) common in
    let s = left_there left right in
    let t = right_there left right in
    let one = ap (λ z. z.entered) c.open-node.ensures.work in
    let none = ap (λ z. z.made) c.open-node.ensures.work in
    let cut = c.in_ok-cut.ensures.counted in
    let more_cut = cut.entered_grows in
    let few_cut = cut.entered_at_most in
    let makes_cut = cut.made_grows in
    let made_cut = cut.made_at_most in
    let gain = c.in_ok-part.ensures.counted in
    let more_gain = gain.entered_grows in
    let few_gain = gain.entered_at_most in
    let makes_gain = gain.made_grows in
    let made_gain = gain.made_at_most in
    let goes = c.value_goes-goes.result in
    let are_gone : goes ≡ (not c.args.stays && (is_some (value_of s) && is_some (value_here t))) =
    c.value_goes-goes.ensures
    ∙ (λ i. not c.args.stays && (is_some (value_of ((c.node_now.ensures ∙ is_s) i))
    && is_some (value_here (is_t i)))) in
    let byte = c.in-Some.byte in
    let child = c.in-Some-Some.child.now.shape in
    let next = cursor_shape c.in-Some-Some.next in
    let inv = c.below.invariant in
    let takes = c.in-Some.ensures in
    let here = sym (c.in-Some-Some.ensures
    ∙ ap (λ z. child_at byte (children_of z)) c.node_now-in-Some.ensures
    ∙ inv.picked.kept byte takes.0) in
    let there = sym (c.in-Some-Some.ensures'.next
    ∙ ap (λ z. child_at byte (next_children z)) is_t) in
    let order = parted-ordered left right tree also in
    let other = right-tree left right tree also in
    let ahead = c.below.bytes.left in
    let after = c.take_first.new.self.left in
    let was = shape_now left c.in_ok-part.part in
    let now = shape_now left c.below.part in
    let steps = enters-next s t child next byte here there order other ahead after takes.0 takes.2
    (IsGone c.args.stays) (gone-carried c.args.stays) (lost was now) (lost was now)
    (spare_of {E = AllocError} (Ok c.in_ok-made.made)) c.gain.new.work c.below.work
    c.branch-next.new.work
    c.unite.new.work inv.enters c.in-Some-Some.ensures'.counted c.in_ok-made.ensures.enters
    (omega arith) in
    subst (λ z. EntersBelow (IsGone c.args.stays) z right (spare_of
    c.from_residual-in_err-part-2.result) c.args.work.now c.unite.new.work)
    c.open-node.ensures.shown
    (subst (λ n. EntersBelow (IsGone c.args.stays) left right n c.args.work.now c.unite.new.work)
    (sym (err-spare c.from_residual-in_err-part-2.result c.from_residual-in_err-part-2.ensures.0))
    (joins-enter left right tree also c.args.stays c.args.work.now c.open-node.new.work
    c.gain.new.work c.unite.new.work c.unite.new.work after goes (lost was now) 0 0 one
    (omega (arith, more_cut, few_cut, more_gain, few_gain)) steps
    (value-gone c.args.stays s t goes are_gone) (omega arith) (omega arith) (omega arith)))

pub returns-in_err-part-2-clause-makes : goal.returns-in_err-part-2-clause-makes
returns-in_err-part-2-clause-makes g t c =
    let left = c.open-node.result.now.shape in
    let right = cursor_shape c.args.right in
    let tree = subst IsTree (sym c.open-node.ensures.shown) c.requires.left in
    let also = c.requires.right in
    let common = c.common_with-common.ensures
    ∙ ap (λ z. common_length (prefix_of z) (prefix_of right)) c.whole.ensures.shape in
    let is_t = c.behind-at.ensures ∙ ap (λ n. behind_bytes n right) common in
    let is_s = c.in_ok-cut.ensures.cut ∙ ap (λ n. parted n left) common in
    let s = left_there left right in
    let t = right_there left right in
    let one = ap (λ z. z.entered) c.open-node.ensures.work in
    let none = ap (λ z. z.made) c.open-node.ensures.work in
    let cut = c.in_ok-cut.ensures.counted in
    let more_cut = cut.entered_grows in
    let few_cut = cut.entered_at_most in
    let makes_cut = cut.made_grows in
    let made_cut = cut.made_at_most in
    let gain = c.in_ok-part.ensures.counted in
    let more_gain = gain.entered_grows in
    let few_gain = gain.entered_at_most in
    let makes_gain = gain.made_grows in
    let made_gain = gain.made_at_most in
    let first = gain-changes left right tree also c.args.stays c.open-node.new.work
    c.cut_inside.new.work c.gain.new.work
    (cut-changes left right tree also c.args.stays c.open-node.new.work c.cut_inside.new.work
    (λ whole. c.in_ok-cut.ensures.still (common ∙ whole)))
    (⊎_elim (λ same. inl same)
    (λ more. inr (subst (HasMore s) is_t
    (subst (λ z. HasMore z (cursor_shape c.behind-at.result)) is_s more)))
    c.in_ok-part.ensures.more) in
    let byte = c.in-Some.byte in
    let child = c.in-Some-Some.child.now.shape in
    let next = cursor_shape c.in-Some-Some.next in
    let inv = c.below.invariant in
    let takes = c.in-Some.ensures in
    let here = sym (c.in-Some-Some.ensures
    ∙ ap (λ z. child_at byte (children_of z)) c.node_now-in-Some.ensures
    ∙ inv.picked.kept byte takes.0) in
    let there = sym (c.in-Some-Some.ensures'.next
    ∙ ap (λ z. child_at byte (next_children z)) is_t) in
    let order = parted-ordered left right tree also in
    let other = right-tree left right tree also in
    let ahead = c.below.bytes.left in
    let after = c.take_first.new.self.left in
    let was = shape_now left c.in_ok-part.part in
    let now = shape_now left c.below.part in
    let steps = joins-next s t child next byte here there order other ahead after takes.0 takes.2
    c.gain.new.work c.below.work c.branch-next.new.work c.unite.new.work
    c.in-Some-Some.ensures'.counted c.args.stays inv.makes c.in_ok-made.ensures.makes in
    subst (λ z. JoinsBelow z right c.args.stays c.args.work.now c.unite.new.work)
    c.open-node.ensures.shown
    (joins-make left right tree also c.args.stays c.args.work.now c.open-node.new.work
    c.gain.new.work c.unite.new.work c.unite.new.work after none
    (omega (arith, makes_cut, makes_gain)) (omega arith) steps
    (last-joined left right tree also c.args.stays c.open-node.new.work c.gain.new.work
    c.unite.new.work c.unite.new.work (omega (arith, made_cut, made_gain)) first (inl refl)))

pub below-smaller : goal.below-smaller
below-smaller g t c =
    let left = c.open-node.result.now.shape in
    let right = cursor_shape c.args.right in
    let tree = subst IsTree (sym c.open-node.ensures.shown) c.requires.left in
    let also = c.requires.right in
    let common = c.common_with-common.ensures
    ∙ ap (λ z. common_length (prefix_of z) (prefix_of right)) c.whole.ensures.shape in
    let is_t = c.behind-at.ensures ∙ ap (λ n. behind_bytes n right) common in
    let s = left_there left right in
    let t = right_there left right in
    let byte = c.in-Some.byte in
    let child = c.in-Some-Some.child.now.shape in
    let next = cursor_shape c.in-Some-Some.next in
    let inv = c.below.invariant in
    let takes = c.in-Some.ensures in
    let here = sym (c.in-Some-Some.ensures
    ∙ ap (λ z. child_at byte (children_of z)) c.node_now-in-Some.ensures
    ∙ inv.picked.kept byte takes.0) in
    let there = sym (c.in-Some-Some.ensures'.next
    ∙ ap (λ z. child_at byte (next_children z)) is_t) in
    let order = parted-ordered left right tree also in
    let other = right-tree left right tree also in
    let ahead = c.below.bytes.left in
    let after = c.take_first.new.self.left in
    let was = shape_now left c.in_ok-part.part in
    let now = shape_now left c.below.part in
    let less = weigh-taken (λ byte. 1) ahead after byte takes.2 child (children_of s) takes.0 here
    in
    omega (arith, less)

pub below-preserved : goal.below-preserved
below-preserved g t c =
    let left = c.open-node.result.now.shape in
    let right = cursor_shape c.args.right in
    let tree = subst IsTree (sym c.open-node.ensures.shown) c.requires.left in
    let also = c.requires.right in
    let common = c.common_with-common.ensures
    ∙ ap (λ z. common_length (prefix_of z) (prefix_of right)) c.whole.ensures.shape in
    let is_t = c.behind-at.ensures ∙ ap (λ n. behind_bytes n right) common in
    let is_s = c.in_ok-cut.ensures.cut ∙ ap (λ n. parted n left) common in
    let s = left_there left right in
    let t = right_there left right in
    let byte = c.in-Some.byte in
    let child = c.in-Some-Some.child.now.shape in
    let next = cursor_shape c.in-Some-Some.next in
    let inv = c.below.invariant in
    let takes = c.in-Some.ensures in
    let here = sym (c.in-Some-Some.ensures
    ∙ ap (λ z. child_at byte (children_of z)) c.node_now-in-Some.ensures
    ∙ inv.picked.kept byte takes.0) in
    let there = sym (c.in-Some-Some.ensures'.next
    ∙ ap (λ z. child_at byte (next_children z)) is_t) in
    let order = parted-ordered left right tree also in
    let other = right-tree left right tree also in
    let ahead = c.below.bytes.left in
    let after = c.take_first.new.self.left in
    let was = shape_now left c.in_ok-part.part in
    let now = shape_now left c.below.part in
    let made = c.in_ok-made.made in
    let is = sym c.in_ok-part-2.ensures.made in
    let still = inv.picked.kept byte takes.0 ∙ here in
    let less = made-less AllocError made now child byte inv.picked.order still in
    record {
      picked = subst (λ z. IsPickedUpTo (together c.args.stays) s t
          (either (value_of s) (value_here t)) after z) is
          (picked-made (together c.args.stays) s t (either (value_of s) (value_here t)) ahead after
          byte takes.2 now inv.picked takes.0 child next here there order
          (next-begins t next byte other there).1 made c.in_ok-made.ensures.becomes);
      enters = subst (λ z. EntersSoFar (IsGone c.args.stays) s t after (lost was z)
          c.gain.new.work c.unite.new.work) is
          (enters-next s t child next byte here there order other ahead after takes.0 takes.2
          (IsGone c.args.stays) (gone-carried c.args.stays) (lost was now)
          (lost was (with_made byte made now)) (spare_of {E = AllocError} (Ok made))
          c.gain.new.work c.below.work c.branch-next.new.work c.unite.new.work inv.enters
          c.in-Some-Some.ensures'.counted c.in_ok-made.ensures.enters
          (let few = inv.fewer in let some = less.0 in omega (arith, few, some)));
      makes = joins-next s t child next byte here there order other ahead after takes.0 takes.2
          c.gain.new.work c.below.work c.branch-next.new.work c.unite.new.work
          c.in-Some-Some.ensures'.counted c.args.stays inv.makes c.in_ok-made.ensures.makes;
      fewer = subst (λ z. length (children_of z) ≤ length (children_of was)) is
          (let few = inv.fewer in let some = less.1 in omega (arith, few, some));
      changed = λ changed. ⊎_elim (λ before. inv.changed before)
          (λ differs. let change = c.in_ok-made.ensures.changed differs in (
            change.0,
            changed-child s t child next byte here there order other c.args.stays change.0 change.1,
          ))
          (or-parts (is_some c.below.part) (is_same made)
          (sym c.in_ok-part-2.ensures.changed ∙ changed));
      least = λ ends. joins-step left right tree also ahead after byte child next takes here there
          c.gain.new.work c.below.work c.branch-next.new.work c.unite.new.work (inv.least ends)
          (c.in-Some-Some.ensures'.entered refl
          ∙ ap (λ z. c.below.work.entered + children_next [] (prefix_of z)) is_t)
          c.in_ok-made.ensures.least;
      both = λ z has. inv.both z (was-ahead (z == byte) (has_byte ahead z)
          (sym (takes.2 z) ∙ has));
    }

pub settle-requires-clause-order : goal.settle-requires-clause-order
settle-requires-clause-order g t c =
    let left = c.open-node.result.now.shape in
    let right = cursor_shape c.args.right in
    let tree = subst IsTree (sym c.open-node.ensures.shown) c.requires.left in
    let also = c.requires.right in
    let common = c.common_with-common.ensures
    ∙ ap (λ z. common_length (prefix_of z) (prefix_of right)) c.whole.ensures.shape in
    let is_t = c.behind-at.ensures ∙ ap (λ n. behind_bytes n right) common in
    let is_s = c.in_ok-cut.ensures.cut ∙ ap (λ n. parted n left) common in
    let s = left_there left right in
    let t = right_there left right in
    let goes = c.value_goes-goes.result in
    let are_gone : goes ≡ (not c.args.stays && (is_some (value_of s) && is_some (value_here t))) =
    c.value_goes-goes.ensures
    ∙ (λ i. not c.args.stays && (is_some (value_of ((c.node_now.ensures ∙ is_s) i))
    && is_some (value_here (is_t i)))) in
    let was = shape_now left c.in_ok-part.part in
    let now = shape_now left c.below.part in
    let inv = c.below.invariant in
    let all = c.in_default.ensures.1 in
    let own = either (value_of s) (value_here t) in
    let value = joined-value c.args.stays s t goes are_gone in
    let leads = parted-leads left right tree also in
    let outside = λ (q : List ℕ) (is : strip_prefix (prefix_of s) q ≡ None).
    other-alone c.args.stays (found right q) ∙ parted-outside left right tree also q is in
    ordered-losing (together c.args.stays) s t right now own c.below.bytes.left goes inv.picked all
    leads value outside

pub settle-requires-clause-lengths : goal.settle-requires-clause-lengths
settle-requires-clause-lengths g t c =
    let left = c.open-node.result.now.shape in
    let right = cursor_shape c.args.right in
    let tree = subst IsTree (sym c.open-node.ensures.shown) c.requires.left in
    let also = c.requires.right in
    let common = c.common_with-common.ensures
    ∙ ap (λ z. common_length (prefix_of z) (prefix_of right)) c.whole.ensures.shape in
    let is_t = c.behind-at.ensures ∙ ap (λ n. behind_bytes n right) common in
    let is_s = c.in_ok-cut.ensures.cut ∙ ap (λ n. parted n left) common in
    let s = left_there left right in
    let t = right_there left right in
    let goes = c.value_goes-goes.result in
    let are_gone : goes ≡ (not c.args.stays && (is_some (value_of s) && is_some (value_here t))) =
    c.value_goes-goes.ensures
    ∙ (λ i. not c.args.stays && (is_some (value_of ((c.node_now.ensures ∙ is_s) i))
    && is_some (value_here (is_t i)))) in
    let was = shape_now left c.in_ok-part.part in
    let now = shape_now left c.below.part in
    let inv = c.below.invariant in
    let all = c.in_default.ensures.1 in
    let own = either (value_of s) (value_here t) in
    let value = joined-value c.args.stays s t goes are_gone in
    let leads = parted-leads left right tree also in
    let outside = λ (q : List ℕ) (is : strip_prefix (prefix_of s) q ≡ None).
    other-alone c.args.stays (found right q) ∙ parted-outside left right tree also q is in
    let most = g.P.Partial.MAXIMUM_SIZE in
    let lengths = subst (AreAdmitted most) (sym c.open-node.ensures.shown) c.requires.lengths in
    admitted-losing (together c.args.stays) s t right now own c.below.bytes.left goes inv.picked all
    leads value outside most
    (λ q there. ⊎_elim
    (λ some. lengths q (subst IsSome (parted-found left right tree also q) some))
    (λ some. c.requires.other_lengths q some)
    (together-some c.args.stays (found s q) (found right q) there))

pub returns-clause-becomes : goal.returns-clause-becomes
returns-clause-becomes g t c =
    let left = c.open-node.result.now.shape in
    let right = cursor_shape c.args.right in
    let tree = subst IsTree (sym c.open-node.ensures.shown) c.requires.left in
    let also = c.requires.right in
    let common = c.common_with-common.ensures
    ∙ ap (λ z. common_length (prefix_of z) (prefix_of right)) c.whole.ensures.shape in
    let is_t = c.behind-at.ensures ∙ ap (λ n. behind_bytes n right) common in
    let is_s = c.in_ok-cut.ensures.cut ∙ ap (λ n. parted n left) common in
    let s = left_there left right in
    let t = right_there left right in
    let goes = c.value_goes-goes.result in
    let are_gone : goes ≡ (not c.args.stays && (is_some (value_of s) && is_some (value_here t))) =
    c.value_goes-goes.ensures
    ∙ (λ i. not c.args.stays && (is_some (value_of ((c.node_now.ensures ∙ is_s) i))
    && is_some (value_here (is_t i)))) in
    let was = shape_now left c.in_ok-part.part in
    let now = shape_now left c.below.part in
    let inv = c.below.invariant in
    let all = c.in_default.ensures.1 in
    let own = either (value_of s) (value_here t) in
    let value = joined-value c.args.stays s t goes are_gone in
    let leads = parted-leads left right tree also in
    let outside = λ (q : List ℕ) (is : strip_prefix (prefix_of s) q ≡ None).
    other-alone c.args.stays (found right q) ∙ parted-outside left right tree also q is in
    if-ok c.settle.result
    (λ made settled. subst (λ z. Becomes (together c.args.stays) z right made)
    c.open-node.ensures.shown
    (becomes-settled (together c.args.stays) s t right now own c.below.bytes.left goes inv.picked
    all leads value outside left (parted-found left right tree also)
    (parted-first left right tree also) made settled)) c.settle.ensures.settled

pub returns-clause-changed : goal.returns-clause-changed
returns-clause-changed g t c =
    let left = c.open-node.result.now.shape in
    let right = cursor_shape c.args.right in
    let tree = subst IsTree (sym c.open-node.ensures.shown) c.requires.left in
    let also = c.requires.right in
    let common = c.common_with-common.ensures
    ∙ ap (λ z. common_length (prefix_of z) (prefix_of right)) c.whole.ensures.shape in
    let is_t = c.behind-at.ensures ∙ ap (λ n. behind_bytes n right) common in
    let is_s = c.in_ok-cut.ensures.cut ∙ ap (λ n. parted n left) common in
    let s = left_there left right in
    let t = right_there left right in
    let goes = c.value_goes-goes.result in
    let are_gone : goes ≡ (not c.args.stays && (is_some (value_of s) && is_some (value_here t))) =
    c.value_goes-goes.ensures
    ∙ (λ i. not c.args.stays && (is_some (value_of ((c.node_now.ensures ∙ is_s) i))
    && is_some (value_here (is_t i)))) in
    let inv = c.below.invariant in
    if-ok c.settle.result
    (λ made either differs. subst (λ z. HaveChange c.args.stays z right) c.open-node.ensures.shown
    (change-there left right tree also c.args.stays
    (⊎_elim (λ gone. value-changes c.args.stays s t goes are_gone gone)
    (λ changed. inv.changed changed) (either differs)))) c.settle.ensures.changed

pub returns-clause-enters : goal.returns-clause-enters
returns-clause-enters g t c =
    let left = c.open-node.result.now.shape in
    let right = cursor_shape c.args.right in
    let tree = subst IsTree (sym c.open-node.ensures.shown) c.requires.left in
    let also = c.requires.right in
    let common = c.common_with-common.ensures
    ∙ ap (λ z. common_length (prefix_of z) (prefix_of right)) c.whole.ensures.shape in
    let is_t = c.behind-at.ensures ∙ ap (λ n. behind_bytes n right) common in
    let is_s = c.in_ok-cut.ensures.cut ∙ ap (λ n. parted n left) common in
    let s = left_there left right in
    let t = right_there left right in
    let one = ap (λ z. z.entered) c.open-node.ensures.work in
    let none = ap (λ z. z.made) c.open-node.ensures.work in
    let cut = c.in_ok-cut.ensures.counted in
    let more_cut = cut.entered_grows in
    let few_cut = cut.entered_at_most in
    let makes_cut = cut.made_grows in
    let made_cut = cut.made_at_most in
    let gain = c.in_ok-part.ensures.counted in
    let more_gain = gain.entered_grows in
    let few_gain = gain.entered_at_most in
    let makes_gain = gain.made_grows in
    let made_gain = gain.made_at_most in
    let goes = c.value_goes-goes.result in
    let are_gone : goes ≡ (not c.args.stays && (is_some (value_of s) && is_some (value_here t))) =
    c.value_goes-goes.ensures
    ∙ (λ i. not c.args.stays && (is_some (value_of ((c.node_now.ensures ∙ is_s) i))
    && is_some (value_here (is_t i)))) in
    let was = shape_now left c.in_ok-part.part in
    let now = shape_now left c.below.part in
    let inv = c.below.invariant in
    let all = c.in_default.ensures.1 in
    let own = either (value_of s) (value_here t) in
    let value = joined-value c.args.stays s t goes are_gone in
    let leads = parted-leads left right tree also in
    let outside = λ (q : List ℕ) (is : strip_prefix (prefix_of s) q ≡ None).
    other-alone c.args.stays (found right q) ∙ parted-outside left right tree also q is in
    let gains : Gains s t was = subst (λ z. Gains s z was) is_t
    (subst (λ z. Gains z (cursor_shape c.behind-at.result) was) is_s c.in_ok-part.ensures.gains) in
    let order = ordered-losing (together c.args.stays) s t right now own c.below.bytes.left goes
    inv.picked all leads value outside in
    let last = c.settle.ensures.counted in
    subst (λ z. EntersBelow (IsGone c.args.stays) z right (spare_of c.settle.result) c.args.work.now
    c.settle.new.work)
    c.open-node.ensures.shown
    (joins-enter left right tree also c.args.stays c.args.work.now c.open-node.new.work
    c.gain.new.work c.below.work c.settle.new.work c.below.bytes.left goes (lost was now)
    (merges (losing goes now)) (spare_of c.settle.result) one
    (omega (arith, more_cut, few_cut, more_gain, few_gain)) inv.enters
    (value-gone c.args.stays s t goes are_gone) last.entered_grows last.entered_at_most
    (paid-result c.settle.result left was now goes (gained-tree left right tree also was gains)
    (inv.picked.value ∙ sym gains.value) order inv.fewer c.settle.ensures.settled))

pub returns-clause-makes : goal.returns-clause-makes
returns-clause-makes g t c =
    let left = c.open-node.result.now.shape in
    let right = cursor_shape c.args.right in
    let tree = subst IsTree (sym c.open-node.ensures.shown) c.requires.left in
    let also = c.requires.right in
    let common = c.common_with-common.ensures
    ∙ ap (λ z. common_length (prefix_of z) (prefix_of right)) c.whole.ensures.shape in
    let is_t = c.behind-at.ensures ∙ ap (λ n. behind_bytes n right) common in
    let is_s = c.in_ok-cut.ensures.cut ∙ ap (λ n. parted n left) common in
    let s = left_there left right in
    let t = right_there left right in
    let one = ap (λ z. z.entered) c.open-node.ensures.work in
    let none = ap (λ z. z.made) c.open-node.ensures.work in
    let cut = c.in_ok-cut.ensures.counted in
    let more_cut = cut.entered_grows in
    let few_cut = cut.entered_at_most in
    let makes_cut = cut.made_grows in
    let made_cut = cut.made_at_most in
    let gain = c.in_ok-part.ensures.counted in
    let more_gain = gain.entered_grows in
    let few_gain = gain.entered_at_most in
    let makes_gain = gain.made_grows in
    let made_gain = gain.made_at_most in
    let first = gain-changes left right tree also c.args.stays c.open-node.new.work
    c.cut_inside.new.work c.gain.new.work
    (cut-changes left right tree also c.args.stays c.open-node.new.work c.cut_inside.new.work
    (λ whole. c.in_ok-cut.ensures.still (common ∙ whole)))
    (⊎_elim (λ same. inl same)
    (λ more. inr (subst (HasMore s) is_t
    (subst (λ z. HasMore z (cursor_shape c.behind-at.result)) is_s more)))
    c.in_ok-part.ensures.more) in
    let goes = c.value_goes-goes.result in
    let are_gone : goes ≡ (not c.args.stays && (is_some (value_of s) && is_some (value_here t))) =
    c.value_goes-goes.ensures
    ∙ (λ i. not c.args.stays && (is_some (value_of ((c.node_now.ensures ∙ is_s) i))
    && is_some (value_here (is_t i)))) in
    let now = shape_now left c.below.part in
    let inv = c.below.invariant in
    let last = c.settle.ensures.counted in
    subst (λ z. JoinsBelow z right c.args.stays c.args.work.now c.settle.new.work)
    c.open-node.ensures.shown
    (joins-make left right tree also c.args.stays c.args.work.now c.open-node.new.work
    c.gain.new.work c.below.work c.settle.new.work c.below.bytes.left none
    (omega (arith, makes_cut, makes_gain)) last.made_grows inv.makes
    (last-joined left right tree also c.args.stays c.open-node.new.work c.gain.new.work
    c.below.work c.settle.new.work (omega (arith, made_cut, made_gain)) first
    (last-changed {C = HaveChange c.args.stays (with_prefix [] s) t} goes (is_some c.below.part)
    (losing goes now) c.below.work c.settle.new.work last c.settle.ensures.still
    (value-changes c.args.stays s t goes are_gone) inv.changed)))

pub returns-clause-least : goal.returns-clause-least
returns-clause-least g t c =
    let left = c.open-node.result.now.shape in
    let right = cursor_shape c.args.right in
    let tree = subst IsTree (sym c.open-node.ensures.shown) c.requires.left in
    let also = c.requires.right in
    let common = c.common_with-common.ensures
    ∙ ap (λ z. common_length (prefix_of z) (prefix_of right)) c.whole.ensures.shape in
    let s = left_there left right in
    let t = right_there left right in
    let one = ap (λ z. z.entered) c.open-node.ensures.work in
    let none = ap (λ z. z.made) c.open-node.ensures.work in
    let cut = c.in_ok-cut.ensures.counted in
    let more_cut = cut.entered_grows in
    let few_cut = cut.entered_at_most in
    let makes_cut = cut.made_grows in
    let made_cut = cut.made_at_most in
    let gain = c.in_ok-part.ensures.counted in
    let more_gain = gain.entered_grows in
    let few_gain = gain.entered_at_most in
    let makes_gain = gain.made_grows in
    let made_gain = gain.made_at_most in
    let inv = c.below.invariant in
    let all = c.in_default.ensures.1 in
    whatever c.settle.result (subst (λ z. EntersForCommon z right c.args.work.now c.settle.new.work)
    c.open-node.ensures.shown
    (joins-owed left right tree also c.below.bytes.left c.args.work.now c.gain.new.work c.below.work
    c.settle.new.work all inv.least
    (omega (arith, one, more_cut, few_cut, more_gain, few_gain)) inv.enters.grows
    c.settle.ensures.counted.entered_grows))
