use Rattle.std.proofs.Common.{length}
use Rattle.rart_maps.specs.ChangeVisits.{ByKeyChange}
use Rattle.rart_maps.specs.Visits.{AnswersUpTo}
use Rattle.rart_walks.specs.ChangeFields.{IsChangeWalk, changes_left, nodes_to_enter}
use Rattle.rart_walks.specs.TwoWalks.{changes_ahead, nodes_ahead}
use Rattle.rart_walks.proofs.CountedLemmas.{IsCounted}
use Rattle.rart_walks.proofs.diff.keys.visit_changed_keys.Given as goal

abbrev pub invariant-visiting : goal.invariant-visiting
invariant-visiting g l =
    let same = g.V.PartialEq.eq in
    record {
      walk : IsChangeWalk l.changes;
      calls : AnswersUpTo g.F.FnMut (ByKeyChange g.K.KeyTrait.bytes) tt l.fn.f
          (changes_ahead same l.fn.old l.fn.new) (changes_left same l.changes) l.f;
      counted : IsCounted (nodes_ahead l.fn.old l.fn.new) l.fn.work
          (nodes_to_enter l.changes) l.work;
    }

abbrev pub decreases-visiting : goal.decreases-visiting
decreases-visiting g l = length (changes_left g.V.PartialEq.eq l.changes)
