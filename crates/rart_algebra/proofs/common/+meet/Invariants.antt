use Rattle.std.proofs.Common.{[]}
use Rattle.rart_lockstep.specs.Children.{HaveBoth}
use Rattle.rart_lockstep.specs.TreeCursorFields.{cursor_shape}
use Rattle.rart_lockstep.specs.TreeCursors.{next_children}
use Rattle.rart_node.specs.Shape.{children_of, value_of, height, with_prefix}
use Rattle.rart_lockstep.proofs.LeastCountLemmas.{EntersLeast}
use Rattle.rart_algebra.specs.Ahead.{IsPlace}
use Rattle.rart_algebra.specs.Parts.{shape_now}
use Rattle.rart_algebra.specs.Picks.{both}
use Rattle.rart_algebra.proofs.CommonCountLemmas.{steps_ahead}
use Rattle.rart_algebra.proofs.DescentLemmas.{StepsUpTo}
use Rattle.rart_algebra.proofs.PickLemmas.{IsPickedUpTo}
use Rattle.rart_algebra.proofs.WeightLemmas.{weigh}
use Rattle.rart_algebra.proofs.common.+meet.Given as goal

abbrev pub decreases-meet : goal.decreases-meet
decreases-meet g l = height l.left.now.shape

abbrev pub invariant-below : goal.invariant-below
invariant-below g l =
    let s = l.node.shape in
    let t = cursor_shape l.at in
    record {
      picked : IsPickedUpTo both s t (value_of s) l.bytes.left (shape_now s l.part);
      steps : StepsUpTo IsPlace s t l.bytes.left 0 l.initial.work l.work;
      least : EntersLeast (with_prefix [] s) t 0 (steps_ahead s t l.bytes.left) l.initial.work
          l.work;
      both : HaveBoth l.bytes.left (children_of s) (next_children t);
    }

abbrev pub decreases-below : goal.decreases-below
decreases-below g l = weigh (λ byte. 1) l.bytes.left (children_of l.node.shape)
