use Rattle.std.proofs.Common.{length}
use Rattle.example_store.specs.Replays.{IsPlayed}
use Rattle.example_store.proofs.replay.replay.Given as goal

abbrev pub decreases-entries : goal.decreases-entries
decreases-entries l = length l.rest

abbrev pub invariant-entries : goal.invariant-entries
invariant-entries l = IsPlayed l.fn.base l.log l.rest l.replayed
