use Rattle.std.proofs.Common.{ℕ, List, Option, drop, sym, ap, ◌∙◌, arith}
use Rattle.std.proofs.lemmas.Bool.{false≢true}
use Rattle.rart_maps.specs.ChangeLists.{differ}
use Rattle.rart_maps.specs.Lookups.{with_value}
use Rattle.rart_maps.specs.Versions.{value_at}
use Rattle.rart_saved.specs.FamilyForms.{optional}
use Rattle.rart_saved.specs.FamilyLoads.{LacksSetting}
use Rattle.rart_saved.specs.Forms.{entry}
use Rattle.rart_saved.proofs.EntryLemmas.{entry-apart}
use Rattle.rart_saved.proofs.FormLengthLemmas.{entry-long, part-end, part-inside}
use Rattle.rart_saved.proofs.LimitLemmas.{within_passed}
use Rattle.rart_saved.proofs.OptionalLemmas.{optional-apart}
use Rattle.rart_saved.proofs.families.changing.take_setting.Goals as goal

pub returns-in_err-now-clause-refused : goal.returns-in_err-now-clause-refused
returns-in_err-now-clause-refused g c =
    within_passed c.args.longest g.K.KeyTrait.MAXIMUM_SIZE _ c.in_err-now.field-0.0
    (λ most. LacksSetting g.V.SavedValue.written g.V.PartialEq.eq most
    c.args.before.now.content c.args.is_first c.args.key.now.items
    (drop c.args.at c.args.bytes.now))
    c.from_residual.ensures.1
    (λ other key now rest next long differs. c.in_err-now.ensures.refused other key now rest next
    long)

pub returns-then-not-do_differ-clause-refused : goal.returns-then-not-do_differ-clause-refused
returns-then-not-do_differ-clause-refused g c other key now rest next long differs stands =
    let pair : List ℕ × Option g.row.V.Denot = (c.take_entry.new.key.items, c.in_ok-now.now) in
    let read =
    (entry-apart (optional g.V.SavedValue.written)
    (optional-apart g.V.SavedValue.written g.met.V.SavedValue.apart) c.args.key.now.items pair
    (key, now) (drop c.in_ok-now.end c.args.bytes.now) rest
    (sym c.in_ok-now.ensures.read.stands ∙ stands)).0 in
    false≢true (sym c.if-not-do_differ.true ∙ c.do_differ.ensures
    ∙ (λ i. differ g.V.PartialEq.eq
    ((c.get_bytes.ensures ∙ ap (value_at c.args.before.now) (c.as_slice.ensures.value
    ∙ ap (λ p. p.0) read)) i)
    ((c.as_ref.ensures.value ∙ ap (λ p. p.1) read) i))
    ∙ differs)

pub returns-then-not-do_differ-clause-points : goal.returns-then-not-do_differ-clause-points
returns-then-not-do_differ-clause-points g c =
    let written = optional g.V.SavedValue.written in
    let pair : List ℕ × Option g.row.V.Denot = (c.take_entry.new.key.items, c.in_ok-now.now) in
    part-inside c.args.bytes.now (entry written c.args.key.now.items pair) c.args.at
    c.in_ok-now.end c.requires.inside (entry-long written c.args.key.now.items pair)
    c.in_ok-now.ensures.read

pub returns-clause-read : goal.returns-clause-read
returns-clause-read g c = (
  c.in_ok-now.now,
  c.in_ok-now.ensures.read,
  (λ i. differ g.V.PartialEq.eq
      (sym (c.get_bytes.ensures ∙ ap (value_at c.args.before.now) c.as_slice.ensures.value) i)
      (sym c.as_ref.ensures.value i))
      ∙ sym c.do_differ.ensures ∙ c.if-not-do_differ.false,
  c.in_ok-put.ensures.set
      ∙ ap (λ k. with_value c.args.latest.now.tree.content k c.in_ok-now.now)
      c.as_slice-2.ensures.value,
)

pub returns-clause-room : goal.returns-clause-room
returns-clause-room g c =
    let pair : List ℕ × Option g.row.V.Denot = (c.take_entry.new.key.items, c.in_ok-now.now) in
    omega (
      arith,
      c.requires.room,
      c.in_ok-put.ensures.most,
      entry-long (optional g.V.SavedValue.written) c.args.key.now.items pair,
      part-end c.args.bytes.now (entry (optional g.V.SavedValue.written) c.args.key.now.items pair)
          c.args.at c.in_ok-now.end c.requires.inside c.in_ok-now.ensures.read,
    )
