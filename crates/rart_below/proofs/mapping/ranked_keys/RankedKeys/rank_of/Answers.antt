use Rattle.std.proofs.Common.{arith, sym, ◌∙◌, ◌≡◌, ap, rules}
use Rattle.std.specs.Prelude.{nat_lt}
use Rattle.std.proofs.lemmas.List.Sums.{count_by-le-length}
use Rattle.rart_below.specs.Layouts.{rank}
use Rattle.rart_below.proofs.RankedKeysLemmas.{rank-filled}
use Rattle.rart_below.proofs.mapping.ranked_keys.RankedKeys.rank_of.Goals as goal

pub rank_in-requires : goal.rank_in-requires
rank_in-requires g c =
    let whole =
    rank-filled g.row.WIDTH c.self.inside.len c.args.byte c.self.inside.bytes c.self.invariant
    (omega (arith, c.ranges.byte.fits)) in
    let keys : rank c.args.byte c.args.self.now.items ≡ rank c.args.byte c.self.inside.bytes =
    ap (λ k. rank c.args.byte k.items) (sym c.self.view_is) ∙ sym whole in
    (search rules, omega (arith, keys, c.requires))

pub returns-clause-value : goal.returns-clause-value
returns-clause-value g c =
    let whole =
    rank-filled g.row.WIDTH c.self.inside.len c.args.byte c.self.inside.bytes c.self.invariant
    (omega (arith, c.ranges.byte.fits)) in
    c.rank_in.ensures
    ∙ (whole ∙ ap (λ k. rank c.args.byte k.items) c.self.view_is)

pub returns-clause-fits : goal.returns-clause-fits
returns-clause-fits g c =
    omega (
      arith,
      count_by-le-length (λ key. nat_lt key c.args.byte) c.args.self.now.items,
      returns-clause-value g c,
    )
