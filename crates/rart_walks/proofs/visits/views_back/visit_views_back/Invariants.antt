use Rattle.std.proofs.Common.{◌^◌, ◌-◌, length, Some}
use Rattle.rart_maps.specs.Visits.{ByView, AnswersUpTo}
use Rattle.rart_walks.specs.BackFields.{back_cursor, IsWalkBack, EntersForEach}
use Rattle.rart_node.specs.KeyPaths.{HoldsSegments}
use Rattle.rart_walks.proofs.CountedLemmas.{IsCounted}
use Rattle.rart_walks.proofs.visits.views_back.visit_views_back.Given as goal

abbrev pub invariant-visiting : goal.invariant-visiting
invariant-visiting g l =
    let left = back_cursor l.walk in
    let start = back_cursor l.fn.walk in
    record {
      walk : IsWalkBack HoldsSegments (Some (2 ^ 64 - 1)) l.walk;
      calls : AnswersUpTo g.F.FnMut ByView tt l.fn.f start.pairs left.pairs l.f;
      counted : IsCounted (length start.paths) l.fn.work (length left.paths) l.work;
      each : EntersForEach l.fn.walk l.fn.work l.walk l.work;
    }

abbrev pub decreases-visiting : goal.decreases-visiting
decreases-visiting g l = length (back_cursor l.walk).pairs
