use Rattle.std.proofs.Common.{arith, refl, ⊎_elim}
use Rattle.rart_versioned.proofs.KeptUpdateLemmas.{refused-makes, tried-rises}
use Rattle.rart_versioned.proofs.laws.counting.kept_tries_tell_their_counts.Goals as goal

pub returns : goal.returns
returns g c f v after w refused start now = (
  λ counted. tried-rises v after w counted.0 counted.1 start now counted.3 counted.4,
  λ none counted. ⊎_elim
      (λ looked.
      let kept = looked.made_grows in
      let made = looked.made_at_most in
      omega (arith, kept, made))
      (λ outcome.
      refused-makes _ f v w outcome.0 outcome.1 start now none outcome.2 outcome.3)
      counted,
  λ made. made refl,
)
