use Rattle.std.proofs.Common.{ℕ, Option, drop, sym, subst, ◌∙◌}
use Rattle.rart_saved.specs.ChangeForms.{both_written}
use Rattle.rart_saved.specs.Forms.{entry}
use Rattle.rart_saved.specs.Loads.{LacksPair}
use Rattle.rart_saved.specs.Parts.{HasPart}
use Rattle.rart_saved.proofs.LimitLemmas.{limit-none}
use Rattle.rart_saved.proofs.LoadLemmas.{other_passed}
use Rattle.rart_saved.proofs.changes.loading.take_change.Goals as goal

pub returns-in_err-before-clause-refused : goal.returns-in_err-before-clause-refused
returns-in_err-before-clause-refused g c =
    let lacks : Option ℕ → Type 0 =
    λ most. LacksPair (both_written g.V.SavedValue.written) most c.args.is_first
    c.args.key.now.items (drop c.args.at c.args.bytes.now) in
    other_passed _ c.in_err-before.field-0.0 (lacks g.K.KeyTrait.MAXIMUM_SIZE)
    c.from_residual.ensures.1
    (λ other. subst lacks (limit-none g.K.KeyTrait.MAXIMUM_SIZE c.in_err-before.field-0.0)
    (c.in_err-before.ensures.refused other))

pub returns-clause-read : goal.returns-clause-read
returns-clause-read g c =
    let values : Option g.row.V.Denot × Option g.row.V.Denot =
    (c.in_ok-before.before, c.in_ok-before.after) in
    subst (λ k. HasPart c.args.bytes.now c.args.at
    (entry (both_written g.V.SavedValue.written) c.args.key.now.items (k, values))
    c.in_ok-before.end)
    (sym (c.in_ok-key.ensures ∙ c.as_slice.ensures.value)) c.in_ok-before.ensures.read
