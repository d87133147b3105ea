use Rattle.std.proofs.Common.{ap, ◌∙◌}
use Rattle.std.specs.FinMap as finite
use Rattle.rart_changes.proofs.tracked.TrackedTree.touched_count.Goals as goal

pub returns : goal.returns
returns g c =
    c.version.ensures.number ∙ c.self.invariant.counted
    ∙ ap (λ t. finite.len t.touched) c.self.view_is
