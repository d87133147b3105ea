use Rattle.std.proofs.Common.{length, map}
use Rattle.rart_maps.specs.Visits.{ByValue, AnswersUpTo}
use Rattle.rart_walks.specs.WalkFields.{cursor, IsWalk, EntersForEach}
use Rattle.rart_walks.proofs.CountedLemmas.{IsCounted}
use Rattle.rart_walks.proofs.visits.values.visit_values.Given as goal

abbrev pub invariant-visiting : goal.invariant-visiting
invariant-visiting g l =
    let left = cursor l.walk in
    let start = cursor l.fn.walk in
    record {
      walk : IsWalk g.T.KeyPath.holds g.T.KeyPath.extent g.T.KeyPath.greatest l.walk;
      calls : AnswersUpTo g.F.FnMut ByValue tt l.fn.f (map (λ pair. pair.1) start.pairs)
          (map (λ pair. pair.1) left.pairs) l.f;
      counted : IsCounted (length start.paths) l.fn.work (length left.paths) l.work;
      each : EntersForEach l.fn.walk l.fn.work l.walk l.work;
    }

abbrev pub decreases-visiting : goal.decreases-visiting
decreases-visiting g l = length (cursor l.walk).pairs
