use Rattle.rart_saved.specs.ChangeForms.{both_written}
use Rattle.rart_saved.specs.ChangeLoads.{shown_pairs}
use Rattle.rart_saved.proofs.ListedLemmas.{IsRead}
use Rattle.rart_saved.proofs.changes.loading.take_changes.Given as goal

abbrev pub invariant-taking : goal.invariant-taking
invariant-taking g l =
    IsRead (both_written g.V.SavedValue.written) l.bytes l.at l.end l.done l.key.items
    (shown_pairs {V = g.row.V.Denot} g.K.KeyTrait.bytes l.list.items)
