use Rattle.std.proofs.Common.{◌++◌, length, map, take}
use Rattle.rart_changes.specs.Shown.{shown_change}
use Rattle.rart_saved.specs.ChangeForms.{as_pair, both_written, changes_head}
use Rattle.rart_saved.specs.Numbers.{leb}
use Rattle.rart_saved.proofs.EntryLemmas.{IsListed}
use Rattle.rart_saved.proofs.changes.saving.save_changes_slice.Given as goal

abbrev pub invariant-listing : goal.invariant-listing
invariant-listing g l =
    IsListed (both_written g.V.SavedValue.written)
    (changes_head g.V.SavedValue.KIND ++ leb (length l.list)) l.bytes.items l.before.items
    l.change-index
    (map as_pair (map (shown_change {V = g.row.V.Denot} g.K.KeyTrait.bytes)
    (take l.change-index l.list)))
