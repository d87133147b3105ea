use Rattle.example_uses.proofs.TimelineLemmas.{begun-dropped, begun-kept}
use Rattle.example_uses.proofs.timeline.if_begun.Goals as goal

pub returns-then-starts_with : goal.returns-then-starts_with
returns-then-starts_with c =
    begun-kept _ _ _ _ _ c.in_ok-record.was c.starts_with.ensures.value c.deref.ensures.value
    c.if-starts_with.true

pub returns-else-starts_with : goal.returns-else-starts_with
returns-else-starts_with c =
    begun-dropped _ _ _ _ _ c.in_ok-record.was c.starts_with.ensures.value c.deref.ensures.value
    c.if-starts_with.false
