use Rattle.example_uses.proofs.TimelineLemmas.{told-before}
use Rattle.example_uses.proofs.timeline.before.Goals as goal

pub returns : goal.returns
returns c =
    told-before c.args.records.now c.args.id.now c.args.time c.in_ok-last.last _ c.in_ok-key.ensures
    _ _ c.if_begun.result c.as_slice.ensures.value c.in_ok-last.ensures c.deref.ensures.value
    c.if_begun.ensures
