use Rattle.std.proofs.Common.{None, Some, arith, sym, subst}
use Rattle.rart_node.proofs.CountingLemmas.{counts-most, path-most}
use Rattle.rart_ways.proofs.EditLemmas.{on-any}
use Rattle.rart_ways.specs.Prefixes.{IsClearedSo}
use Rattle.rart_versioned.specs.Roots.{HasSomeIn, IsReplacedUnder, IsTreeIn, below_root}
use Rattle.rart_versioned.proofs.RestoringLemmas.{same-emptied}
use Rattle.rart_versioned.proofs.VersionPrefixLemmas.{cleared-part, cleared-whole}
use Rattle.rart_versioned.proofs.counted.restoring.empty_under.Goals as goal

pub returns-in-Nothing-clause-emptied : goal.returns-in-Nothing-clause-emptied
returns-in-Nothing-clause-emptied g c =
    let p = c.args.prefix.now in
    let after = c.clear_below.new.root.shape in
    let tree = subst (λ z. IsTreeIn (below_root z)) c.in-Some.is c.requires.tree in
    let cleared = subst (λ z. IsClearedSo z p c.in-Some.node.shape after) c.in-Nothing.is
    c.in_ok-clear_below.ensures.cleared in
    subst (λ z. IsReplacedUnder p None (below_root z) (Some after)) (sym c.in-Some.is)
    (same-emptied p c.in-Some.node.shape after tree cleared.0 cleared.1)

pub returns-in-Nothing-clause-counted : goal.returns-in-Nothing-clause-counted
returns-in-Nothing-clause-counted g c =
    let most = path-most c.in-Some.node.shape c.args.prefix.now in
    counts-most c.clear_below.ensures.counted (omega (arith, most)) (omega (arith, most))

pub returns-in-Part-clause-emptied : goal.returns-in-Part-clause-emptied
returns-in-Part-clause-emptied g c =
    let p = c.args.prefix.now in
    let after = c.clear_below.new.root.shape in
    let cleared = subst (λ z. IsClearedSo z p c.in-Some.node.shape after) c.in-Part.is
    c.in_ok-clear_below.ensures.cleared in
    subst (λ z. IsReplacedUnder p None (below_root z) (Some after)) (sym c.in-Some.is)
    (cleared-part p c.in-Some.node.shape after cleared.0)

pub returns-in-Part-clause-counted : goal.returns-in-Part-clause-counted
returns-in-Part-clause-counted g c =
    let most = path-most c.in-Some.node.shape c.args.prefix.now in
    counts-most c.clear_below.ensures.counted (omega (arith, most)) (omega (arith, most))

pub returns-in-Whole-clause-emptied : goal.returns-in-Whole-clause-emptied
returns-in-Whole-clause-emptied g c =
    let p = c.args.prefix.now in
    let cleared =
    subst (λ z. IsClearedSo z p c.in-Some.node.shape c.clear_below.new.root.shape) c.in-Whole.is
    c.in_ok-clear_below.ensures.cleared in
    subst (λ z. IsReplacedUnder p None (below_root z) None) (sym c.in-Some.is)
    (cleared-whole p c.in-Some.node.shape cleared.2)

pub returns-in-Whole-clause-counted : goal.returns-in-Whole-clause-counted
returns-in-Whole-clause-counted g c =
    let most = path-most c.in-Some.node.shape c.args.prefix.now in
    counts-most c.clear_below.ensures.counted (omega (arith, most)) (omega (arith, most))

pub returns-in_err-clear_below-clause-present : goal.returns-in_err-clear_below-clause-present
returns-in_err-clear_below-clause-present g c =
    on-any c.from_residual.result
    (subst (λ z. HasSomeIn c.args.prefix.now (below_root z)) (sym c.in-Some.is)
    c.in_err-clear_below.ensures.present)
