use Rattle.std.proofs.Common.{◌≡◌, ◌+◌, ◌-◌, ◌++◌, ◌∙◌, ap, length, take, arith, refl, rules}
use Rattle.std.proofs.lemmas.Slice.{drop-put_mid, take-put_mid}
use Rattle.rart_ways.proofs.seeking.least.write_at.Goals as goal

pub returns : goal.returns
returns c =
    let at = c.args.at in
    let fits = c.if-end-room.false in
    let same = ap length c.copy_from_slice.ensures.after in
    let long : length c.copy_from_slice.new.self ≡ at + length c.args.bytes.now - at =
    omega (arith, same) in
    record {
      end = refl;
      written = λ le.
          take-put_mid at (at + length c.args.bytes.now - at) c.args.room.now
          c.copy_from_slice.new.self (at + length c.args.bytes.now) (omega (arith, same))
          (omega (arith, fits)) ∙ ap (λ z. take at c.args.room.now ++ z)
          c.copy_from_slice.ensures.after;
      behind = λ later le.
          drop-put_mid at (at + length c.args.bytes.now - at) c.args.room.now
          c.copy_from_slice.new.self later (omega (arith, le)) (omega (arith, fits)) long;
      same = search rules;
    }
