use Rattle.std.proofs.Common.{◌+◌, length, map, Ok}
use Rattle.rart_below.specs.declared.visit.VisitControl.TheVariants.{Continue}
use Rattle.rart_maps.specs.Visits.{ByValue, AnswersUpTo}
use Rattle.rart_walks.specs.Ends.{ByPairValue}
use Rattle.rart_walks.specs.WalkFields.{cursor, at_hand, IsWalk}
use Rattle.rart_walks.proofs.CountedLemmas.{IsCounted}
use Rattle.rart_walks.proofs.VisitEndLemmas.{GoesOn}
use Rattle.rart_walks.proofs.visits.values.visit_values_until.Given as goal

abbrev pub invariant-visiting : goal.invariant-visiting
invariant-visiting g l =
    let left = cursor l.walk in
    let start = cursor l.fn.walk in
    record {
      walk : IsWalk g.T.KeyPath.holds g.T.KeyPath.extent g.T.KeyPath.greatest l.walk;
      calls : AnswersUpTo g.F.FnMut ByValue (Ok Continue) l.fn.f
          (map (λ pair. pair.1) start.pairs) (map (λ pair. pair.1) left.pairs) l.f;
      counted : IsCounted (length start.paths) l.fn.work (length left.paths) l.work;
      goes : GoesOn g.F.FnMut ByPairValue l.fn.f start.pairs start.paths (at_hand l.fn.walk) l.fn.work
          left.pairs left.paths (at_hand l.walk) l.work l.f;
    }

abbrev pub decreases-visiting : goal.decreases-visiting
decreases-visiting g l =
    let left = cursor l.walk in length left.pairs + length left.paths
