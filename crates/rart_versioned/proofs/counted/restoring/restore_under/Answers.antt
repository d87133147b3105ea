use Rattle.std.proofs.Common.{None, Some, sym, subst}
use Rattle.rart_ways.specs.Prefixes.{IsPutUnder}
use Rattle.rart_ways.proofs.EditLemmas.{on-ok}
use Rattle.rart_versioned.specs.Roots.{IsReplacedUnder, below_root}
use Rattle.rart_versioned.proofs.RestoringLemmas.{none-restored, put-part}
use Rattle.rart_versioned.proofs.VersionPrefixLemmas.{under-root}
use Rattle.rart_versioned.proofs.counted.restoring.restore_under.Goals as goal

pub returns-in_default-root-clause-replaced : goal.returns-in_default-root-clause-replaced
returns-in_default-root-clause-replaced g c =
    let p = c.args.prefix.now in
    let from = c.in-Some.from.shape in
    let after = below_root c.in_ok-root.field-0 in
    subst (λ z. IsReplacedUnder p (below_root z) (below_root c.args.root.now) after)
    (sym c.in-Some.is)
    (subst (λ z. IsReplacedUnder p (Some from) (below_root z) after) (sym c.in_default-root.is)
    (under-root p from after c.in_ok-root.ensures.kept))

pub returns-then-branch-clause-replaced : goal.returns-then-branch-clause-replaced
returns-then-branch-clause-replaced g c =
    let p = c.args.prefix.now in
    let from = c.in-Some.from.shape in
    let own = c.in-Some-root.own.shape in
    let after = c.put_under.new.root.shape in
    let put = subst (λ any. IsPutUnder any p from own after) c.if-branch.true
    c.in_ok-put_under.ensures.put in
    subst (λ z. IsReplacedUnder p (below_root z) (below_root c.args.root.now) (Some after))
    (sym c.in-Some.is)
    (subst (λ z. IsReplacedUnder p (Some from) (below_root z) (Some after)) (sym c.in-Some-root.is)
    (put-part p from own after put.0))

pub returns-clause-replaced : goal.returns-clause-replaced
returns-clause-replaced g c =
    let p = c.args.prefix.now in
    let from = c.in-Some.from.shape in
    let own = c.in-Some-root.own.shape in
    let after = below_root c.empty_under-2.new.root in
    let put = subst (λ any. IsPutUnder any p from own c.put_under.new.root.shape) c.if-branch.false
    c.in_ok-put_under.ensures.put in
    on-ok c.empty_under-2.result (λ emptied.
    subst (λ z. IsReplacedUnder p (below_root z) (below_root c.args.root.now) after)
    (sym c.in-Some.is)
    (subst (λ z. IsReplacedUnder p (Some from) (below_root z) after) (sym c.in-Some-root.is)
    (none-restored p from (Some own) after put.1
    (subst (λ z. IsReplacedUnder p None (Some z) after) put.0 emptied))))
    c.empty_under-2.ensures.emptied
