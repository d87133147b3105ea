use Rattle.std.proofs.Common.{refl, ap}
use Rattle.rart_c.proofs.bytes.handle.RartBytes.table.Goals as goal

pub returns-in-Some : goal.returns-in-Some
returns-in-Some c = let same = c.in-Some.ensures.table in (
  (refl, λ _. tt, ap (λ version. record c.args.self.now { shows = version }) same),
  record { same = tt; table = same },
)
