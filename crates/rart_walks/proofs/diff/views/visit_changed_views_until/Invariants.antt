use Rattle.std.proofs.Common.{◌+◌, ◌≤◌, length, Ok}
use Rattle.rart_below.specs.declared.visit.VisitControl.TheVariants.{Continue}
use Rattle.rart_maps.specs.ChangeVisits.{ByViewChange}
use Rattle.rart_maps.specs.Visits.{AnswersUpTo}
use Rattle.rart_walks.specs.ChangeFields.{IsChangeWalk, GoesFurther, changes_left, nodes_to_enter, hands}
use Rattle.rart_walks.specs.TwoWalks.{changes_ahead, nodes_ahead}
use Rattle.rart_walks.proofs.CountedLemmas.{IsCounted}
use Rattle.rart_walks.proofs.diff.views.visit_changed_views_until.Given as goal

abbrev pub invariant-visiting : goal.invariant-visiting
invariant-visiting g l =
    let same = g.V.PartialEq.eq in
    record {
      walk : IsChangeWalk l.changes;
      calls : AnswersUpTo g.F.FnMut ByViewChange (Ok Continue) l.fn.f
          (changes_ahead same l.fn.old l.fn.new) (changes_left same l.changes) l.f;
      counted : IsCounted (nodes_ahead l.fn.old l.fn.new) l.fn.work
          (nodes_to_enter l.changes) l.work;
      gone : GoesFurther l.initial.changes l.changes;
      each : l.fn.work.entered + length (changes_ahead same l.fn.old l.fn.new) + hands l.changes
          ≤ l.work.entered + length (changes_left same l.changes) + hands l.initial.changes;
    }

abbrev pub decreases-visiting : goal.decreases-visiting
decreases-visiting g l = length (changes_left g.V.PartialEq.eq l.changes)
