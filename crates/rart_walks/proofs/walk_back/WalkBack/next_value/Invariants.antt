use Rattle.std.proofs.Common.{◌≡◌, ◌+◌, ◌≤◌, length}
use Rattle.rart_walks.specs.BackFields.{EntersForEach, IsWalkBack, back_cursor}
use Rattle.rart_walks.proofs.walk_back.WalkBack.next_value.Given as goal

abbrev pub invariant-node : goal.invariant-node
invariant-node g l =
    record {
      walk : IsWalkBack g.T.KeyPath.holds g.T.KeyPath.greatest l.self;
      pairs : (back_cursor l.self).pairs ≡ (back_cursor l.initial.self).pairs;
      counted : l.work.entered + length (back_cursor l.self).paths
          ≡ l.initial.work.entered + length (back_cursor l.initial.self).paths;
      grows : l.initial.work.entered ≤ l.work.entered;
      made : l.work.made ≡ l.initial.work.made;
      each : EntersForEach l.initial.self l.initial.work l.self l.work;
    }

abbrev pub decreases-node : goal.decreases-node
decreases-node g l = length (back_cursor l.self).paths
