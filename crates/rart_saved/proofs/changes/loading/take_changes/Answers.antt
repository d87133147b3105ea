use Rattle.std.proofs.Common.{◌+◌, [], ◌∷◌, ◌++◌, drop, map, sym, ap, subst, ◌∙◌, rules}
use Rattle.std.specs.Prelude.{◌==◌}
use Rattle.rart_changes.specs.Shown.{shown_change}
use Rattle.rart_saved.specs.ChangeForms.{as_pair, both_written}
use Rattle.rart_saved.specs.ChangeLoads.{LacksEntries, shown_pairs}
use Rattle.rart_saved.specs.Keys.{IsNext}
use Rattle.rart_saved.proofs.ChangeFormLemmas.{both-apart, chain-ascends, shown-next}
use Rattle.rart_saved.proofs.EntryLemmas.{last_key}
use Rattle.rart_saved.proofs.ListedLemmas.{IsRead, first-read, lacks-entries, read-first, read-none, read-next}
use Rattle.rart_saved.proofs.LoadLemmas.{other_memory, other_passed}
use Rattle.rart_saved.proofs.changes.loading.take_changes.Goals as goal

pub taking-init : goal.taking-init
taking-init g c =
    let written = both_written g.V.SavedValue.written in
    subst (λ list. IsRead written c.args.bytes.now c.args.at c.args.at 0 c.new-key.result.items
    (shown_pairs {V = g.row.V.Denot} g.K.KeyTrait.bytes list)) (sym c.new-list.ensures.items)
    (subst (λ key. IsRead written c.args.bytes.now c.args.at c.args.at 0 key [])
    (sym c.new-key.ensures.items)
    (read-none written c.args.bytes.now c.args.at c.requires))

pub take_change-requires-clause-first : goal.take_change-requires-clause-first
unfolding last_key
take_change-requires-clause-first g c none =
    let list = shown_pairs {V = g.row.V.Denot} g.K.KeyTrait.bytes c.taking.list.items in
    c.taking.invariant.last
    ∙ ap (last_key []) (read-first list c.taking.done c.taking.invariant.count none)

pub returns-in_err-change-clause-refused : goal.returns-in_err-change-clause-refused
returns-in_err-change-clause-refused g c =
    let written = both_written g.V.SavedValue.written in
    let list = shown_pairs {V = g.row.V.Denot} g.K.KeyTrait.bytes c.taking.list.items in
    other_passed _ c.in_err-change.field-0.0
    (LacksEntries written g.K.KeyTrait.MAXIMUM_SIZE c.args.count
    (drop c.args.at c.args.bytes.now))
    c.from_residual.ensures.1
    (λ other. lacks-entries written
    (both-apart g.V.SavedValue.written g.met.V.SavedValue.apart)
    g.K.KeyTrait.MAXIMUM_SIZE c.args.bytes.now c.args.at c.taking.end c.taking.done c.args.count
    c.taking.key.items list (c.taking.done == 0) c.taking.invariant c.taking-test.true
    (first-read list c.taking.done c.taking.invariant.count)
    (c.in_err-change.ensures.refused other))

pub returns-in_err-push_one-clause-refused : goal.returns-in_err-push_one-clause-refused
returns-in_err-push_one-clause-refused g c =
    other_memory _
    (LacksEntries (both_written g.V.SavedValue.written) g.K.KeyTrait.MAXIMUM_SIZE c.args.count
    (drop c.args.at c.args.bytes.now))
    (search rules)

pub taking-preserved : goal.taking-preserved
taking-preserved g c =
    let written = both_written g.V.SavedValue.written in
    let bytes = g.K.KeyTrait.bytes in
    let change = c.in_ok-change.change in
    let list = shown_pairs {V = g.row.V.Denot} bytes c.taking.list.items in
    let read =
    read-next written c.args.bytes.now c.args.at c.taking.end c.in_ok-change.behind c.taking.done
    c.taking.key.items (as_pair (shown_change bytes change)) list (c.taking.done == 0)
    c.taking.invariant c.in_ok-change.ensures.read
    (subst (IsNext (c.taking.done == 0) c.taking.key.items) (sym c.in_ok-change.ensures.key)
    c.in_ok-change.ensures.next)
    (read-first list c.taking.done c.taking.invariant.count) in
    subst (λ all. IsRead written c.args.bytes.now c.args.at c.in_ok-change.behind
    (c.taking.done + 1) c.take_change.new.key.items all)
    (sym (shown-next bytes c.taking.list.items change)
    ∙ ap (shown_pairs bytes) (sym c.in_ok-push_one.ensures))
    (subst (λ key. IsRead written c.args.bytes.now c.args.at c.in_ok-change.behind
    (c.taking.done + 1) key (list ++ as_pair (shown_change bytes change) ∷ []))
    c.in_ok-change.ensures.key read)

pub returns-clause-ascends : goal.returns-clause-ascends
returns-clause-ascends g c =
    chain-ascends as_pair _ []
    (map (shown_change {V = g.row.V.Denot} g.K.KeyTrait.bytes) c.taking.list.items)
    c.taking.invariant.chain
