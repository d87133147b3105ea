use Rattle.std.proofs.Common.{arith}
use Rattle.rart_versioned.proofs.laws.counting.failed_updates_tell_their_counts.Goals as goal

pub returns : goal.returns
returns g c f v after w e start now = (
  λ counted.
      let most = counted.entered_at_most in
      let kept = counted.made_grows in
      let none = counted.made_at_most in
      (omega (arith, most), omega (arith, kept, none)),
  λ made. made,
)
