use Rattle.std.proofs.Common.{map}
use Rattle.rart_changes.specs.Shown.{shown_change}
use Rattle.rart_saved.proofs.ChangeFormLemmas.{changes-given}
use Rattle.rart_saved.proofs.changes.loading.load_changes_slice.Goals as goal

pub returns-clause-gives_back : goal.returns-clause-gives_back
returns-clause-gives_back g c =
    changes-given g.V.SavedValue.written g.V.SavedValue.KIND g.K.KeyTrait.MAXIMUM_SIZE
    c.read_changes.result (λ list. map (shown_change g.K.KeyTrait.bytes) list.items)
    c.args.bytes.now g.met.V.SavedValue.apart c.read_changes.ensures.read
    c.read_changes.ensures.refused
