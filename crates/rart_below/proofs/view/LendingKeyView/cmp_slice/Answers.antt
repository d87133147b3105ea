use Rattle.std.proofs.Common.{◌+◌, drop, sym, ap, ◌∙◌}
use Rattle.std.specs.Ordering.{ordering_then}
use Rattle.rart_below.specs.Bytes.{byte_order}
use Rattle.rart_below.specs.LendingKeyView.{joined_bytes}
use Rattle.rart_below.proofs.SegmentLemmas.{joined_bytes-order, joined_bytes-order_longer, ordering_then-decided}
use Rattle.rart_below.proofs.view.LendingKeyView.cmp_slice.Goals as goal

pub returns-then-rest-segment : goal.returns-then-rest-segment
returns-then-rest-segment c =
    let segments = c.segments-segment-items in
    let rest = c.loop-segment.rest.now in
    c.compare_bytes.ensures
    ∙ sym (joined_bytes-order_longer segments.result.now c.loop-segment.segment-index _ rest
    c.loop-segment-test.true c.if-rest-segment.true)
    ∙ c.loop-segment.invariant
    ∙ ap (λ bytes. byte_order bytes c.args.slice.now) segments.ensures

pub returns-in_default : goal.returns-in_default
returns-in_default c =
    let segments = c.segments-segment-items in
    let at = c.loop-segment.segment-index in
    let split = c.split_at in
    let compared = c.compare_bytes-in-loop-segment in
    let later = byte_order (joined_bytes (drop (at + 1) segments.result.now)) split.result.1.now in
    sym (ordering_then-decided compared.result later c.in_default.not-Equal)
    ∙ ap (λ first. ordering_then first later) compared.ensures
    ∙ sym (joined_bytes-order segments.result.now at _ c.loop-segment.rest.now
    c.loop-segment-test.true
    split.result.0.now split.result.1.now c.if-rest-segment.false
    split.ensures.front split.ensures.back)
    ∙ c.loop-segment.invariant
    ∙ ap (λ bytes. byte_order bytes c.args.slice.now) segments.ensures

pub loop-segment-preserved : goal.loop-segment-preserved
loop-segment-preserved c =
    let segments = c.segments-segment-items in
    let at = c.loop-segment.segment-index in
    let split = c.split_at in
    let later = byte_order (joined_bytes (drop (at + 1) segments.result.now)) split.result.1.now in
    ap (λ first. ordering_then first later) (sym c.in-Equal.is ∙ c.compare_bytes-in-loop-segment.ensures)
    ∙ sym (joined_bytes-order segments.result.now at _ c.loop-segment.rest.now
    c.loop-segment-test.true
    split.result.0.now split.result.1.now c.if-rest-segment.false
    split.ensures.front split.ensures.back)
    ∙ c.loop-segment.invariant
