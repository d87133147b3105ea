use Rattle.std.proofs.Common.{◌≡◌, ◌+◌, ◌≤◌, length}
use Rattle.rart_walks.specs.ChangeFields.{IsChangeWalk, GoesFurther, changes_left, nodes_to_enter, hands}
use Rattle.rart_walks.specs.SideFields.{pairs_to_give}
use Rattle.rart_walks.proofs.CountedLemmas.{IsCounted}
use Rattle.rart_walks.proofs.diff.changes.ChangeWalk.next.Given as goal

abbrev pub invariant-merging : goal.invariant-merging
invariant-merging g l =
    let same = g.V.PartialEq.eq in
    record {
      walk : IsChangeWalk l.self;
      changes : changes_left same l.initial.self ≡ changes_left same l.self;
      counted : IsCounted (nodes_to_enter l.initial.self) l.initial.work
          (nodes_to_enter l.self) l.work;
      gone : GoesFurther l.initial.self l.self;
      each : l.initial.work.entered + hands l.self ≤ l.work.entered + hands l.initial.self;
    }

abbrev pub decreases-merging : goal.decreases-merging
decreases-merging g l =
    length (pairs_to_give l.self.before) + length (pairs_to_give l.self.after)
