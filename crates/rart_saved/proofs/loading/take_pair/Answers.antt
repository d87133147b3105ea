use Rattle.std.proofs.Common.{drop, sym, ap, subst, ◌∙◌}
use Rattle.rart_maps.specs.Versions.{has_no_key, with_key}
use Rattle.rart_saved.specs.Keys.{IsNext}
use Rattle.rart_saved.specs.Loads.{LacksPair}
use Rattle.rart_saved.proofs.LimitLemmas.{within_passed}
use Rattle.rart_saved.proofs.loading.take_pair.Goals as goal

pub returns-in_err-value-clause-refused : goal.returns-in_err-value-clause-refused
returns-in_err-value-clause-refused g c =
    within_passed c.args.longest g.K.KeyTrait.MAXIMUM_SIZE _ c.in_err-value.field-0.0
    (λ most. LacksPair g.V.SavedValue.written most (has_no_key c.args.tree.now)
    c.args.key.now.items (drop c.args.at c.args.bytes.now))
    c.from_residual.ensures.1
    (λ other key x rest next. c.in_err-value.ensures.refused other key x rest
    (subst (λ f. IsNext f c.args.key.now.items key) (sym c.is_empty.ensures) next))

pub returns-clause-read : goal.returns-clause-read
returns-clause-read g c = (
  c.in_ok-value.value,
  c.in_ok-value.ensures.read,
  c.in_ok-insert_bytes.ensures.set
      ∙ ap (λ k. with_key c.args.tree.now k c.in_ok-value.value 1) c.as_slice.ensures.value,
)
