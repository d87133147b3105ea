use Rattle.std.proofs.Common.{of_calls, refl, ap, ◌∙◌}
use Rattle.std.specs.List.{concat}
use Rattle.rart_lockstep.proofs.views.ViewsPathAllocErrorIntersectionPath.meet.Goals as goal

pub returns-clause-visits : goal.returns-clause-visits
returns-clause-visits g c = λ segments holds.
    let key = c.new-key.ensures ∙ ap concat (c.segments.ensures ∙ holds) in (
      _,
      ((c.new-key.result, (c.args.left, (c.args.right, tt))), search (of_calls), (key, refl, refl)),
      refl,
    )
