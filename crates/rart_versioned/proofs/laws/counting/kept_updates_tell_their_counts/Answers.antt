use Rattle.std.proofs.Common.{arith, ⊎_elim}
use Rattle.rart_maps.specs.Versions.{value_at}
use Rattle.rart_versioned.proofs.KeptUpdateLemmas.{kept-counts}
use Rattle.rart_versioned.proofs.laws.counting.kept_updates_tell_their_counts.Goals as goal

pub returns : goal.returns
returns g c f v after w refused start now = (
  λ counted.
      let none = kept-counts v after w (value_at v w) counted.0 counted.1 counted.3 in
      let looks = none.0 in
      let makes = none.1 in
      let most = counted.4.entered_at_most in
      let kept = counted.4.made_grows in
      let made = counted.4.made_at_most in
      (omega (arith, most, looks), omega (arith, kept, made, makes)),
  λ none counted. ⊎_elim
      (λ looked.
      let kept = looked.made_grows in
      let made = looked.made_at_most in
      omega (arith, kept, made))
      (λ outcome.
      let makes = none outcome.0 outcome.1 outcome.2 in
      let kept = outcome.3.made_grows in
      let made = outcome.3.made_at_most in
      omega (arith, kept, made, makes))
      counted,
)
