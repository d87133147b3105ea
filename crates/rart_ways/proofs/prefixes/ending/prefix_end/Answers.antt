use Rattle.std.proofs.Common.{◌≡◌, true, Some, arith, refl, subst}
use Rattle.rart_below.specs.Bytes.{begins}
use Rattle.rart_node.specs.Shape.{Shape, prefix_of}
use Rattle.rart_ways.specs.Paths.{step}
use Rattle.rart_ways.specs.Prefixes.{HasNoneUnder}
use Rattle.rart_ways.proofs.UnderPrefixLemmas.{search-few, search-fits, search-stands, search-none, search-counts, search-lower, search-steps-fit, search-goes}
use Rattle.rart_ways.proofs.prefixes.ending.prefix_end.Goals as goal

pub overflow_sub-result : goal.overflow_sub-result
overflow_sub-result g c = search-fits _ _ _ _ _ _ _ c.down.invariant

pub returns-in-Under-clause-stands : goal.returns-in-Under-clause-stands
returns-in-Under-clause-stands g c =
    search-stands _ _ _ _ _ _ _ c.down.invariant _ refl
    (subst (λ (z : Shape g.row.V.Denot). begins c.down.rest.now (prefix_of z) ≡ true)
    c.open-node.ensures.shown c.in-Under.ensures)

pub returns-in-Under-clause-few : goal.returns-in-Under-clause-few
returns-in-Under-clause-few g c = search-few _ _ _ _ _ _ _ c.down.invariant

pub returns-in-Under-clause-counted : goal.returns-in-Under-clause-counted
returns-in-Under-clause-counted g c =
    search-counts _ _ _ _ _ _ _ c.down.invariant _ c.open-node.ensures.work

pub returns-in-Apart-clause-none : goal.returns-in-Apart-clause-none
returns-in-Apart-clause-none g c =
    search-none _ _ _ _ _ _ _ c.down.invariant
    (subst (λ (z : Shape g.row.V.Denot). HasNoneUnder c.down.rest.now z)
    c.open-node.ensures.shown c.in-Apart.ensures)

pub returns-in-Apart-clause-counted : goal.returns-in-Apart-clause-counted
returns-in-Apart-clause-counted g c =
    search-counts _ _ _ _ _ _ _ c.down.invariant _ c.open-node.ensures.work

pub prove-unreachable-requires : goal.prove-unreachable-requires
prove-unreachable-requires g c =
    let goes =
    subst (λ (z : Shape g.row.V.Denot). step c.down.rest.now z
    ≡ Some (c.in-Down.child.now.shape, c.in-Down.left.now))
    c.open-node.ensures.shown c.in-Down.ensures in
    let fits =
    search-steps-fit _ _ _ _ _ _ _ c.down.invariant _ c.open-node.ensures.work _ _ goes in
    let past = c.if-prove.true in
    omega (arith, fits, past)

pub down-smaller : goal.down-smaller
down-smaller g c =
    let goes =
    subst (λ (z : Shape g.row.V.Denot). step c.down.rest.now z
    ≡ Some (c.in-Down.child.now.shape, c.in-Down.left.now))
    c.open-node.ensures.shown c.in-Down.ensures in
    search-lower _ _ _ _ _ _ _ c.down.invariant _ c.open-node.ensures.work _ _ goes

pub down-preserved : goal.down-preserved
down-preserved g c =
    let goes =
    subst (λ (z : Shape g.row.V.Denot). step c.down.rest.now z
    ≡ Some (c.in-Down.child.now.shape, c.in-Down.left.now))
    c.open-node.ensures.shown c.in-Down.ensures in
    search-goes _ _ _ _ _ _ _ c.down.invariant _ c.open-node.ensures.work _ _ goes
