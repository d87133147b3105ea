use Rattle.std.proofs.Common.{◌≡◌, ◌≤◌, [], true, is_some, length}
use Rattle.rart_lockstep.specs.Children.{HaveBoth}
use Rattle.rart_lockstep.specs.TreeCursorFields.{cursor_shape}
use Rattle.rart_lockstep.specs.TreeCursors.{next_children}
use Rattle.rart_node.specs.Shape.{children_of, value_of, height, with_prefix}
use Rattle.rart_lockstep.proofs.LeastCountLemmas.{EntersLeast}
use Rattle.rart_algebra.specs.Ahead.{HaveCommon, IsCommonKey}
use Rattle.rart_algebra.specs.Parts.{shape_now}
use Rattle.rart_algebra.specs.Picks.{unless}
use Rattle.rart_algebra.proofs.CommonCountLemmas.{steps_ahead}
use Rattle.rart_algebra.proofs.DescentLemmas.{StepsUpTo}
use Rattle.rart_algebra.proofs.PaidLemmas.{lost}
use Rattle.rart_algebra.proofs.PickLemmas.{IsPickedUpTo}
use Rattle.rart_algebra.proofs.WeightLemmas.{weigh}
use Rattle.rart_algebra.proofs.difference.+subtract.Given as goal

abbrev pub decreases-subtract : goal.decreases-subtract
decreases-subtract g l = height l.left.now.shape

abbrev pub invariant-below : goal.invariant-below
invariant-below g l =
    let s = l.node.shape in
    let t = cursor_shape l.at in
    let now = shape_now s l.part in
    record {
      picked : IsPickedUpTo unless s t (value_of s) l.bytes.left now;
      steps : StepsUpTo IsCommonKey s t l.bytes.left (lost s now) l.initial.work l.work;
      fewer : length (children_of now) ≤ length (children_of s);
      common : is_some l.part ≡ true → HaveCommon (with_prefix [] s) t;
      least : EntersLeast (with_prefix [] s) t 0 (steps_ahead s t l.bytes.left) l.initial.work
          l.work;
      both : HaveBoth l.bytes.left (children_of s) (next_children t);
    }

abbrev pub decreases-below : goal.decreases-below
decreases-below g l = weigh (λ byte. 1) l.bytes.left (children_of l.node.shape)
