use Rattle.std.proofs.Common.{◌≡◌, true, false, sym, ap, ◌∙◌}
use Rattle.std.specs.declared.result.Result.TheVariants.{Err}
use Rattle.example_store.proofs.ServingLemmas.{error_same, looked_at, midst_broken, midst_next}
use Rattle.example_store.proofs.store.Store.serve.Goals as goal

pub loop-preserved : goal.loop-preserved
loop-preserved g c = midst_next _ _ _ c.deref-in-loop.result.now c.in-Some.line.items _ _ _ _ _ _
    c.loop.invariant
    (looked_at (λ v. v.items) c.in-Ok.line c.in-Some.line _ _ c.in-Some.is c.in-Ok.ensures.taken)
    c.deref-in-loop.ensures.0
    (λ e. let no : false ≡ true = c.if-is_checkpoint.ensures.1 (c.deref.ensures.0 ∙ sym
    c.deref-in-loop.ensures.0 ∙ e) in absurd (cc))
    c.in_ok-reply.ensures.ok

pub returns-in_err-reply-clause-log : goal.returns-in_err-reply-clause-log
returns-in_err-reply-clause-log g c is =
    let told = c.in_err-reply.ensures.log (ap (λ x. Err x)
    (error_same _ _ c.from_residual.ensures.1 is)) in
    midst_broken _ _ _ c.deref-in-loop.result.now c.in-Some.line.items _ _ _ _ _ _
    c.loop.invariant
    (looked_at (λ v. v.items) c.in-Ok.line c.in-Some.line _ _ c.in-Some.is c.in-Ok.ensures.taken)
    c.deref-in-loop.ensures.0 told.0 told.1
