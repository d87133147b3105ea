use Rattle.std.proofs.Common.{⊎_elim}
use Rattle.rart_versioned.proofs.laws.counting.ends_hold_what_they_say.Goals as goal

pub returns : goal.returns
returns g c f f' members e = (
  λ ends. ⊎_elim (λ whole. whole.1) (λ within. within.3) ends,
  λ within. within.3,
)
