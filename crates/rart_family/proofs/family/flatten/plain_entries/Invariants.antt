use Rattle.std.proofs.Common.{◌≡◌, ◌++◌, length}
use Rattle.std.specs.FinMap as finite
use Rattle.rart_family.specs.Collections.{pairs_of}
use Rattle.rart_family.proofs.family.flatten.plain_entries.Given as goal

abbrev pub invariant-copying : goal.invariant-copying
invariant-copying g l =
    pairs_of g.K.KeyTrait.bytes l.entries.items ++ l.pairs ≡ finite.entries l.plain

abbrev pub decreases-copying : goal.decreases-copying
decreases-copying g l = length l.pairs
