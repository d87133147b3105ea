use Rattle.std.proofs.Common.{◌≡◌, ◌≤◌, length, ap, sym, ◌∙◌, arith, length-take-le, subst, take, drop, ◌+◌, ◌++◌, rules}
use Rattle.std.specs.List.{insert}
use Rattle.rart_below.proofs.RankedKeysLemmas.{filled-inserted}
use Rattle.rart_below.proofs.mapping.ranked_keys.RankedKeys.insert.Goals as goal

pub invariant_of-self : goal.invariant_of-self
invariant_of-self g c =
    let keys : length c.args.self.now.items ≡ c.self.inside.len =
    ap (λ k. length k.items) (sym c.self.view_is)
    ∙ length-take-le c.self.inside.len c.self.inside.bytes
    (omega (arith, c.self.invariant.fits, c.self.invariant.wide)) in
    let widened : c.from.result ≡ c.self.inside.len = search rules in
    filled-inserted g.row.WIDTH c.self.inside.len c.args.place c.args.byte c.self.inside.bytes _
    c.self.invariant (omega (arith, c.requires.within, keys))
    (omega (arith, c.requires.room, keys))
    (subst (λ k. c.insert_byte.new.bytes
    ≡ insert (take k c.self.inside.bytes) c.args.place c.args.byte
    ++ drop (k + 1) c.self.inside.bytes) widened c.insert_byte.ensures)

pub overflow_add-self : goal.overflow_add-self
overflow_add-self g c =
    let keys : length c.args.self.now.items ≡ c.self.inside.len =
    ap (λ k. length k.items) (sym c.self.view_is)
    ∙ length-take-le c.self.inside.len c.self.inside.bytes
    (omega (arith, c.self.invariant.fits, c.self.invariant.wide)) in
    let few : c.self.inside.len ≤ 256 = omega (arith, c.requires.few, keys) in
    search rules
