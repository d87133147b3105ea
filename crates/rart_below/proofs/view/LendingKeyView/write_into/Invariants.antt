use Rattle.std.proofs.Common.{◌≡◌, ◌≤◌, ◌++◌, drop, length}
use Rattle.std.specs.Prelude.{vec_capacity}
use Rattle.rart_below.specs.LendingKeyView.{joined_bytes}
use Rattle.rart_below.proofs.view.LendingKeyView.write_into.Given as goal

abbrev pub invariant-loop-segment : goal.invariant-loop-segment
invariant-loop-segment l = record {
  written : l.bytes.items ++ joined_bytes (drop l.segment-index l.segment-items)
      ≡ joined_bytes l.segment-items;
  room : length (joined_bytes l.segment-items) ≤ vec_capacity l.bytes;
}
