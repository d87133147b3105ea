use Rattle.std.proofs.Common.{◌≡◌, ◌++◌, drop}
use Rattle.rart_below.specs.LendingKeyView.{joined_bytes}
use Rattle.rart_below.proofs.view.LendingKeyView.short_bytes.Given as goal

abbrev pub invariant-loop-segment : goal.invariant-loop-segment
invariant-loop-segment l =
    l.bytes.items ++ joined_bytes (drop l.segment-index l.segment-items)
    ≡ joined_bytes l.segment-items
