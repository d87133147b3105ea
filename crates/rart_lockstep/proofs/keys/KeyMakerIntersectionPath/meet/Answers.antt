use Rattle.std.proofs.Common.{of_calls, None, refl, ◌∙◌}
use Rattle.rart_maps.specs.Visits.{ByKeyPair}
use Rattle.rart_maps.proofs.VisitLemmas.{up_to-start}
use Rattle.rart_lockstep.proofs.EndingLemmas.{have-ended}
use Rattle.rart_lockstep.proofs.keys.KeyMakerIntersectionPath.meet.Goals as goal

pub returns-in_err-key-clause-visits : goal.returns-in_err-key-clause-visits
returns-in_err-key-clause-visits g c = λ segments holds.
    let Shows = ByKeyPair {V = g.row.V.Denot} g.K.KeyTrait.bytes in
    (have-ended g.F.FnMut Shows tt (λ _. None) (Unit {0}) _ _ _ c.from_residual.result
    c.in_err-key.field-0.0 c.from_residual.ensures.0 c.from_residual.ensures.1
    (_, up_to-start g.F.FnMut Shows tt c.args.f.now _)).0

pub returns-clause-visits : goal.returns-clause-visits
returns-clause-visits g c = λ segments holds.
    let key = c.in_ok-key.ensures ∙ c.as_slice.ensures ∙ holds in (
      _,
      ((c.in_ok-key.key, (c.args.left, (c.args.right, tt))), search (of_calls), (key, refl, refl)),
      refl,
    )
