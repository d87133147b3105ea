use Rattle.std.proofs.Common.{[], Some, drop, subst, sym, ap, ◌∙◌}
use Rattle.rart_maps.specs.Versions.{Version}
use Rattle.rart_saved.specs.Loads.{LacksPairs}
use Rattle.rart_saved.specs.Refusals.{limit_of}
use Rattle.rart_saved.proofs.EntryLemmas.{last_key}
use Rattle.rart_saved.proofs.LimitLemmas.{within_passed}
use Rattle.rart_saved.proofs.LoadLemmas.{IsTaken, lacks-pairs, none-paired, taken-none, taken-next, within-none, within-set}
use Rattle.rart_saved.proofs.loading.take_pairs.Goals as goal

pub taking-init : goal.taking-init
taking-init g c = (
  subst (λ key. IsTaken g.V.SavedValue.written c.args.bytes.now c.args.at c.args.at
      c.args.tree.now.number 0 key c.args.tree.now) (sym c.new-key.ensures.items)
      (taken-none g.V.SavedValue.written c.args.bytes.now c.args.at c.args.tree.now
      c.requires.inside c.requires.empty),
  within-none c.args.longest c.args.tree.now c.requires.empty,
)

pub take_pair-requires-clause-first : goal.take_pair-requires-clause-first
unfolding last_key
take_pair-requires-clause-first g c none =
    c.taking.invariant.0.last ∙ ap (last_key []) (none-paired c.taking.tree none)

pub returns-in_err-end-clause-refused : goal.returns-in_err-end-clause-refused
returns-in_err-end-clause-refused g c =
    within_passed c.args.longest g.K.KeyTrait.MAXIMUM_SIZE _ c.in_err-end.field-0.0
    (λ most. LacksPairs g.V.SavedValue.written most c.args.count (drop c.args.at c.args.bytes.now))
    c.from_residual.ensures.1
    (λ other. lacks-pairs g.V.SavedValue.written g.met.V.SavedValue.apart
    (limit_of c.args.longest g.K.KeyTrait.MAXIMUM_SIZE c.in_err-end.field-0.0)
    c.args.bytes.now c.args.at c.taking.end
    c.args.tree.now.number c.taking._done c.args.count c.taking.key.items c.taking.tree
    c.taking.invariant.0 c.taking-test.true (c.in_err-end.ensures.refused other))

pub taking-preserved : goal.taking-preserved
taking-preserved g c =
    let read = c.in_ok-end.ensures.read in (
      taken-next g.V.SavedValue.written c.args.bytes.now c.args.at c.taking.end c.in_ok-end.end
          c.args.tree.now.number c.taking._done c.taking.key.items c.take_pair.new.key.items
          c.taking.tree c.take_pair.new.tree read.0 c.taking.invariant.0 read.1 read.2
          c.in_ok-end.ensures.next,
      within-set c.args.longest c.taking.tree c.take_pair.new.tree c.take_pair.new.key.items
          (Some read.0) c.taking.invariant.1
          (ap (λ (w : Version g.row.V.Denot). w.content) read.2) c.in_ok-end.ensures.short,
    )
