use Rattle.std.proofs.Common.{◌≡◌, ◌≤◌, ◌+◌, [], true, is_some, length}
use Rattle.rart_lockstep.specs.Children.{HaveBoth}
use Rattle.rart_lockstep.specs.TreeCursorFields.{cursor_shape}
use Rattle.rart_lockstep.specs.TreeCursors.{next_children, value_here}
use Rattle.rart_lockstep.proofs.LeastCountLemmas.{EntersLeast}
use Rattle.rart_node.specs.Shape.{children_of, height, value_of, with_prefix}
use Rattle.rart_algebra.specs.Ahead.{HaveChange, IsGone}
use Rattle.rart_algebra.specs.Parts.{shape_now}
use Rattle.rart_algebra.specs.Picks.{either, together}
use Rattle.rart_algebra.proofs.CommonCountLemmas.{steps_ahead}
use Rattle.rart_algebra.proofs.DescentLemmas.{EntersSoFar, JoinsSoFar}
use Rattle.rart_algebra.proofs.JoinCountLemmas.{OneEnds}
use Rattle.rart_algebra.proofs.PaidLemmas.{lost}
use Rattle.rart_algebra.proofs.PartedLemmas.{left_there, passed, right_there}
use Rattle.rart_algebra.proofs.PickLemmas.{IsPickedUpTo}
use Rattle.rart_algebra.proofs.WeightLemmas.{weigh}
use Rattle.rart_algebra.proofs.union.+unite.Given as goal

abbrev pub decreases-unite : goal.decreases-unite
decreases-unite g l = height l.left.now.shape + height (cursor_shape l.right)

abbrev pub invariant-below : goal.invariant-below
invariant-below g l =
    let left = l.node.shape in
    let right = cursor_shape l.fn.right in
    let s = left_there left right in
    let t = right_there left right in
    let was = shape_now left l.initial.part in
    let now = shape_now left l.part in
    record {
      picked : IsPickedUpTo (together l.stays) s t (either (value_of s) (value_here t))
          l.bytes.left now;
      enters : EntersSoFar (IsGone l.stays) s t l.bytes.left (lost was now) l.initial.work l.work;
      makes : JoinsSoFar l.stays s t l.bytes.left l.initial.work l.work;
      fewer : length (children_of now) ≤ length (children_of was);
      changed : is_some l.part ≡ true → HaveChange l.stays (with_prefix [] s) t;
      least : OneEnds left right → EntersLeast left right (passed left right)
          (steps_ahead s t l.bytes.left) l.initial.work l.work;
      both : HaveBoth l.bytes.left (children_of s) (next_children t);
    }

abbrev pub decreases-below : goal.decreases-below
decreases-below g l = weigh (λ byte. 1) l.bytes.left
    (children_of (left_there l.node.shape (cursor_shape l.fn.right)))
