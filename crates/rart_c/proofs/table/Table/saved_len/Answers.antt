use Rattle.std.proofs.Common.{◌≡◌, length, subst}
use Rattle.std.specs.Prelude.{IfOk}
use Rattle.rart_saved.specs.Forms.{saved}
use Rattle.rart_c.proofs.table.Table.saved_len.Goals as goal

pub saved_len-requires : goal.saved_len-requires
saved_len-requires g c = c.self.invariant.count

pub returns : goal.returns
returns g c =
    subst (λ it. IfOk c.saved_len.result (λ len. len
    ≡ length (saved g.V.SavedValue.written g.V.SavedValue.KIND it.version))) c.self.view_is
    c.saved_len.ensures
