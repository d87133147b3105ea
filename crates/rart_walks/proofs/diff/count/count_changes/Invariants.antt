use Rattle.std.proofs.Common.{◌≡◌, ◌+◌, length}
use Rattle.rart_walks.specs.ChangeFields.{IsChangeWalk, changes_left, nodes_to_enter}
use Rattle.rart_walks.specs.TwoWalks.{changes_ahead, nodes_ahead}
use Rattle.rart_walks.proofs.CountedLemmas.{IsCounted}
use Rattle.rart_walks.proofs.diff.count.count_changes.Given as goal

abbrev pub invariant-counting : goal.invariant-counting
invariant-counting g l =
    let same = g.V.PartialEq.eq in
    record {
      walk : IsChangeWalk l.changes;
      told : l.count + length (changes_left same l.changes)
          ≡ length (changes_ahead same l.fn.old l.fn.new);
      counted : IsCounted (nodes_ahead l.fn.old l.fn.new) l.fn.work
          (nodes_to_enter l.changes) l.work;
    }

abbrev pub decreases-counting : goal.decreases-counting
decreases-counting g l = length (changes_left g.V.PartialEq.eq l.changes)
