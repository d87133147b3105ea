use Rattle.std.proofs.Common.{◌+◌, ◌^◌, ◌-◌, length, Ok, Some}
use Rattle.rart_below.specs.declared.visit.VisitControl.TheVariants.{Continue}
use Rattle.rart_maps.specs.Visits.{ByView, AnswersUpTo}
use Rattle.rart_node.specs.KeyPaths.{HoldsSegments, extent_in_segments}
use Rattle.rart_walks.specs.WalkFields.{cursor, at_hand, IsWalk}
use Rattle.rart_walks.proofs.CountedLemmas.{IsCounted}
use Rattle.rart_walks.proofs.VisitEndLemmas.{GoesOn}
use Rattle.rart_walks.proofs.visits.views.visit_views_until.Given as goal

abbrev pub invariant-visiting : goal.invariant-visiting
invariant-visiting g l =
    let left = cursor l.walk in
    let start = cursor l.fn.walk in
    record {
      walk : IsWalk HoldsSegments extent_in_segments (Some (2 ^ 64 - 1)) l.walk;
      calls : AnswersUpTo g.F.FnMut ByView (Ok Continue) l.fn.f start.pairs left.pairs l.f;
      counted : IsCounted (length start.paths) l.fn.work (length left.paths) l.work;
      goes : GoesOn g.F.FnMut ByView l.fn.f start.pairs start.paths (at_hand l.fn.walk) l.fn.work
          left.pairs left.paths (at_hand l.walk) l.work l.f;
    }

abbrev pub decreases-visiting : goal.decreases-visiting
decreases-visiting g l =
    let left = cursor l.walk in length left.pairs + length left.paths
