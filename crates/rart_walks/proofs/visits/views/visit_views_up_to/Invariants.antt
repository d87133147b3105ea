use Rattle.std.proofs.Common.{◌+◌, ◌≤◌, ◌^◌, ◌-◌, length, Some}
use Rattle.std.specs.Range.Bound.{bound_map}
use Rattle.rart_maps.specs.FoundLaws.{KeysAscend}
use Rattle.rart_maps.specs.Visits.{ByView, AnswersUpTo}
use Rattle.rart_maps.proofs.RangeLemmas.{up_to, is_below}
use Rattle.rart_walks.specs.WalkFields.{cursor, at_hand, IsWalk}
use Rattle.rart_node.specs.KeyPaths.{HoldsSegments, extent_in_segments}
use Rattle.rart_walks.proofs.CountedLemmas.{IsCounted}
use Rattle.rart_walks.proofs.UpToLemmas.{IsFew}
use Rattle.rart_walks.proofs.visits.views.visit_views_up_to.Given as goal

abbrev pub invariant-visiting : goal.invariant-visiting
invariant-visiting g l =
    let left = cursor l.walk in
    let start = cursor l.fn.walk in
    let high = bound_map (λ high. high.now) l.high in
    record {
      walk : IsWalk HoldsSegments extent_in_segments (Some (2 ^ 64 - 1)) l.walk;
      ascend : KeysAscend (λ pair. pair.0) left.pairs;
      calls : AnswersUpTo g.F.FnMut ByView tt l.fn.f (up_to high start.pairs)
          (up_to high left.pairs) l.f;
      counted : IsCounted (length start.paths) l.fn.work (length left.paths) l.work;
      few : IsFew (is_below high) start.paths l.fn.work left.paths l.work;
      each : l.fn.work.entered + length (up_to high start.pairs) + at_hand l.walk
          ≤ l.work.entered + length (up_to high left.pairs) + at_hand l.fn.walk;
    }

abbrev pub decreases-visiting : goal.decreases-visiting
decreases-visiting g l =
    let left = cursor l.walk in length left.pairs + length left.paths
