use Rattle.std.proofs.Common.{◌≡◌, drop}
use Rattle.rart_below.specs.Bytes.{byte_order}
use Rattle.rart_below.specs.LendingKeyView.{joined_bytes}
use Rattle.rart_below.proofs.view.LendingKeyView.cmp_slice.Given as goal

abbrev pub invariant-loop-segment : goal.invariant-loop-segment
invariant-loop-segment l =
    byte_order (joined_bytes (drop l.segment-index l.segment-items)) l.rest
    ≡ byte_order (joined_bytes l.segment-items) l.fn.slice
