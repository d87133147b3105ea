use Rattle.std.proofs.Common.{◌≡◌, length, subst}
use Rattle.std.specs.Prelude.{IfOk}
use Rattle.rart_saved.specs.Forms.{saved}
use Rattle.rart_c.proofs.SaveLemmas.{length-told}
use Rattle.rart_c.proofs.calls.saved_len.Goals as goal

pub returns-clause-length : goal.returns-clause-length
returns-clause-length g c =
    let written = g.H.Value.SavedValue.written in
    let kind = g.H.Value.SavedValue.KIND in
    length-told c.len.result (saved written kind (g.H.Handle.shows c.args.tree.now).version)
    c.tell_length.result c.args.len.now c.tell_length.new.len
    (subst (λ tree. IfOk c.len.result (λ n. n ≡ length (saved written kind tree.version)))
    c.table.ensures.table c.len.ensures) c.tell_length.ensures
