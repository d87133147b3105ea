use Rattle.std.proofs.Common.{◌≡◌, arith, length, subst, sym}
use Rattle.rart_c.proofs.CountUnderLemmas.{KeepsLimit-without, few-under, len-after, none-removed}
use Rattle.rart_c.proofs.table.Table.remove_prefix.Goals as goal
use Rattle.rart_maps.specs.Pairs.{under}
use Rattle.rart_maps.specs.Prefixes.{after_prefix_removal}

pub returns-then-not-contains_prefix-clause-changes :
    goal.returns-then-not-contains_prefix-clause-changes
returns-then-not-contains_prefix-clause-changes g c =
    let p = c.args.prefix.now in
    subst (λ it. (0 ≡ length (under it.version.content p))
    × (it.version ≡ after_prefix_removal it.version p)) c.self.view_is
    (none-removed c.self.inside.tree p (sym c.if-not-contains_prefix.ensures))

pub overflow_sub-self : goal.overflow_sub-self
overflow_sub-self g c =
    let few = few-under c.self.inside.tree c.args.prefix.now in
    let many = c.in-Ok.ensures in
    let all = c.self.invariant.count in
    omega (arith, few, many, all)

pub invariant_of-self-2 : goal.invariant_of-self-2
invariant_of-self-2 g c =
    let p = c.args.prefix.now in
    let tree = c.self.inside.tree in
    let removed = c.in-Ok-remove_prefix.ensures.removed in
    let left = len-after tree p c.remove_prefix.new.self removed
    (sym c.if-not-contains_prefix.ensures) in
    let many = c.in-Ok.ensures in
    let all = c.self.invariant.count in
    record {
      count = omega (arith, left, many, all);
      limit = KeepsLimit-without c.self.inside.longest tree p c.self.invariant.limit
          c.remove_prefix.new.self removed;
    }
