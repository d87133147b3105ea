use Rattle.std.proofs.Common.{◌-◌, ◌≤◌, length}
use Rattle.rart_versioned.specs.Sorted.{AscendTo}
use Rattle.rart_versioned.proofs.counted.sorted.disorder_in.Given as goal

abbrev pub invariant-comparing : goal.invariant-comparing
invariant-comparing g l = record {
  within : l.at ≤ length l.pairs;
  ascend : AscendTo g.K.KeyTrait.bytes g.K.KeyTrait.MAXIMUM_SIZE l.at l.pairs;
}

abbrev pub decreases-comparing : goal.decreases-comparing
decreases-comparing g l = length l.pairs - l.at
