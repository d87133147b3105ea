use Rattle.std.proofs.Common.{◌≡◌, ◌+◌, ◌≤◌, length}
use Rattle.rart_walks.specs.WalkFields.{IsWalk, cursor, EntersForEach}
use Rattle.rart_walks.proofs.PassLemmas.{PassesFirst}
use Rattle.rart_walks.proofs.walk.Walk.next_value.Given as goal

abbrev pub invariant-node : goal.invariant-node
invariant-node g l =
    record {
      walk : IsWalk g.T.KeyPath.holds g.T.KeyPath.extent g.T.KeyPath.greatest l.self;
      pairs : (cursor l.self).pairs ≡ (cursor l.initial.self).pairs;
      counted : l.work.entered + length (cursor l.self).paths
          ≡ l.initial.work.entered + length (cursor l.initial.self).paths;
      grows : l.initial.work.entered ≤ l.work.entered;
      made : l.work.made ≡ l.initial.work.made;
      passes : PassesFirst (cursor l.initial.self).pairs (cursor l.initial.self).paths
          (cursor l.self).paths;
      each : EntersForEach l.initial.self l.initial.work l.self l.work;
    }

abbrev pub decreases-node : goal.decreases-node
decreases-node g l = length (cursor l.self).paths
