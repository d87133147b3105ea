use Rattle.std.proofs.Common.{drop, length, sym, subst, ◌∙◌}
use Rattle.std.proofs.lemmas.Bool.{false≢true}
use Rattle.rart_below.specs.Bytes.{IsAdmitted}
use Rattle.rart_saved.specs.Forms.{key_form}
use Rattle.rart_saved.specs.Keys.{LacksAdmittedKey}
use Rattle.rart_saved.proofs.SharedKeyLemmas.{key_form-apart, narrowed-both}
use Rattle.rart_saved.proofs.FormLengthLemmas.{key_form-long, part-inside}
use Rattle.rart_saved.proofs.LimitLemmas.{within_passed}
use Rattle.rart_saved.proofs.keys.take_key.Goals as goal

pub returns-in_err-end-clause-refused : goal.returns-in_err-end-clause-refused
returns-in_err-end-clause-refused g c =
    within_passed c.args.longest g.K.KeyTrait.MAXIMUM_SIZE _ c.in_err-end.field-0.0
    (λ most. LacksAdmittedKey most c.args.is_first c.args.key.now.items
    (drop c.args.at c.args.bytes.now))
    c.from_residual.ensures.1
    (λ other key rest next long. c.in_err-end.ensures.refused other key rest next)

pub returns-then-not-is_admitted-clause-refused : goal.returns-then-not-is_admitted-clause-refused
returns-then-not-is_admitted-clause-refused g c _ key rest next long stands =
    let same =
    (key_form-apart c.args.key.now.items c.take_any_key.new.key.items key
    (drop c.in_ok-end.end c.args.bytes.now) rest
    (sym c.in_ok-end.ensures.read.stands ∙ stands)).0 in
    let admitted : IsAdmitted c.MAXIMUM_SIZE.result (length c.as_slice-count.result.now) =
    subst (λ m. IsAdmitted m (length c.as_slice-count.result.now)) (sym c.MAXIMUM_SIZE.ensures)
    (subst (λ k. IsAdmitted g.K.KeyTrait.MAXIMUM_SIZE (length k))
    (sym (c.as_slice-count.ensures.value ∙ same)) long.0) in
    false≢true (sym c.if-not-is_admitted.true ∙ c.is_admitted.ensures.1 admitted)

pub returns-then-not-is_admitted-clause-points : goal.returns-then-not-is_admitted-clause-points
returns-then-not-is_admitted-clause-points g c =
    part-inside c.args.bytes.now
    (key_form c.args.key.now.items c.take_any_key.new.key.items) c.args.at c.in_ok-end.end
    c.requires.inside (key_form-long c.args.key.now.items c.take_any_key.new.key.items)
    c.in_ok-end.ensures.read

pub returns-then-not-is_admitted-2-clause-refused : goal.returns-then-not-is_admitted-2-clause-refused
returns-then-not-is_admitted-2-clause-refused g c _ key rest next long stands =
    let same =
    (key_form-apart c.args.key.now.items c.take_any_key.new.key.items key
    (drop c.in_ok-end.end c.args.bytes.now) rest
    (sym c.in_ok-end.ensures.read.stands ∙ stands)).0 in
    let admitted : IsAdmitted c.args.longest (length c.as_slice-count.result.now) =
    subst (λ k. IsAdmitted c.args.longest (length k)) (sym (c.as_slice-count.ensures.value ∙ same))
    (narrowed-both c.args.longest g.K.KeyTrait.MAXIMUM_SIZE (length key) long.0).0 in
    false≢true (sym c.if-not-is_admitted-2.true ∙ c.is_admitted-2.ensures.1 admitted)

pub returns-then-not-is_admitted-2-clause-points : goal.returns-then-not-is_admitted-2-clause-points
returns-then-not-is_admitted-2-clause-points g c =
    part-inside c.args.bytes.now
    (key_form c.args.key.now.items c.take_any_key.new.key.items) c.args.at c.in_ok-end.end
    c.requires.inside (key_form-long c.args.key.now.items c.take_any_key.new.key.items)
    c.in_ok-end.ensures.read

pub returns-clause-admitted : goal.returns-clause-admitted
returns-clause-admitted g c =
    subst (λ k. IsAdmitted g.K.KeyTrait.MAXIMUM_SIZE (length k)) c.as_slice-count.ensures.value
    (subst (λ m. IsAdmitted m (length c.as_slice-count.result.now)) c.MAXIMUM_SIZE.ensures
    (c.is_admitted.ensures.0 c.if-not-is_admitted.false))

pub returns-clause-short : goal.returns-clause-short
returns-clause-short g c =
    subst (λ k. IsAdmitted c.args.longest (length k)) c.as_slice-count.ensures.value
    (c.is_admitted-2.ensures.0 c.if-not-is_admitted-2.false)
