use Rattle.example_uses.proofs.TimelineLemmas.{told-until}
use Rattle.example_uses.proofs.timeline.newest_until.Goals as goal

pub returns : goal.returns
returns c =
    told-until c.args.records.now c.args.id.now c.args.time c.in_ok-last.last _ c.in_ok-key.ensures
    _ _ c.if_begun.result c.as_slice.ensures.value c.in_ok-last.ensures c.deref.ensures.value
    c.if_begun.ensures
