use Rattle.std.proofs.Common.{◌-◌, ◌≡◌, ◌+◌, ◌≤◌, length, take}
use Rattle.rart_ways.specs.Runs.{run_from, runs}
use Rattle.rart_ways.proofs.sorted.count_runs.Given as goal

abbrev pub invariant-counting : goal.invariant-counting
invariant-counting g l = record {
  from : l.first ≤ l.end;
  within : l.end ≤ length l.pairs;
  counted : l.count + runs (run_from g.K.KeyTrait.bytes l.first l.at (take l.end l.pairs))
      ≡ runs (run_from g.K.KeyTrait.bytes l.first l.at l.pairs);
}

abbrev pub decreases-counting : goal.decreases-counting
decreases-counting g l = l.end - l.first
