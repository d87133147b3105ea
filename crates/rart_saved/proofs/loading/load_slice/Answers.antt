use Rattle.std.proofs.Common.{subst, sym, ◌∙◌}
use Rattle.rart_saved.specs.Forms.{IsVersionOf}
use Rattle.rart_saved.proofs.LimitLemmas.{limit-none}
use Rattle.rart_saved.proofs.SavedLemmas.{forms-of_one, memory_alone}
use Rattle.rart_saved.proofs.loading.load_slice.Goals as goal

pub returns-in-Ok-clause-gives_back : goal.returns-in-Ok-clause-gives_back
returns-in-Ok-clause-gives_back g c v is stands =
    forms-of_one g.V.SavedValue.written g.met.V.SavedValue.apart g.V.SavedValue.KIND
    c.in-Ok.tree v (sym c.in-Ok.ensures.read ∙ stands)

pub returns-in-Err-clause-gives_back : goal.returns-in-Err-clause-gives_back
returns-in-Err-clause-gives_back g c v is stands =
    memory_alone c.in-Err.error (λ other. c.in-Err.ensures.refused other v
    (subst (λ most. IsVersionOf most v)
    (sym (limit-none g.K.KeyTrait.MAXIMUM_SIZE c.in-Err.error)) is) stands)
