use Rattle.std.proofs.Common.{◌-◌, ◌+◌, ◌≤◌, length}
use Rattle.rart_ways.specs.Runs.{AllBegin, run_from}
use Rattle.rart_ways.proofs.sorted.last_run.Given as goal

abbrev pub invariant-going_back : goal.invariant-going_back
invariant-going_back g l = record {
  from : l.first ≤ l.start;
  within : l.start + 1 ≤ length l.pairs;
  alike : AllBegin l.byte (run_from g.K.KeyTrait.bytes l.start l.at l.pairs);
}

abbrev pub decreases-going_back : goal.decreases-going_back
decreases-going_back g l = l.start - l.first
