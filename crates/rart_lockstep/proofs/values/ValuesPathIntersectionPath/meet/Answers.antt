use Rattle.std.proofs.Common.{of_calls, refl}
use Rattle.rart_lockstep.proofs.values.ValuesPathIntersectionPath.meet.Goals as goal

pub returns-clause-visits : goal.returns-clause-visits
returns-clause-visits g c = λ segments holds. (
  _,
  ((c.args.left, (c.args.right, tt)), search (of_calls), (refl, refl)),
  refl,
)
