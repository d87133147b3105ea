use Rattle.std.proofs.Common.{ℕ, cond, arith, refl, ap}
use Rattle.std.specs.Option.{is_some, option_copied}
use Rattle.rart_walks.specs.WalkFields.{cursor}
use Rattle.rart_walks.specs.SideFields.{key_at}
use Rattle.rart_walks.proofs.SideLemmas.{rest-ascends, taken-leads}
use Rattle.rart_walks.proofs.diff.side.Side.take.Goals as goal

pub returns : goal.returns
returns g c =
    let side = c.args.self.now in
    let ascends = rest-ascends (key_at side) (option_copied side.value)
    (cursor side.walk).pairs c.requires.ascends in
    record {
      side = rw c.take.ensures.after (record { walk = c.requires.walk; ascends = ascends });
      value = ap option_copied c.take.ensures.value;
      key = refl;
      leads = λ some. taken-leads (key_at side) side.value c.take.result c.take.new.self
          (cursor side.walk).pairs c.take.ensures.value c.take.ensures.after
          c.requires.ascends some;
      paths = refl;
      hand = λ some.
          let held = ap {B = ℕ} (λ b. cond b 1 0) some in
          let none = ap {B = ℕ} (λ v. cond (is_some v) 1 0) c.take.ensures.after in
          omega (arith, held, none);
    }
