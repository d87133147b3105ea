use Rattle.std.proofs.Common.{◌≡◌, Some, arith, length, subst}
use Rattle.std.specs.Prelude.{IfOk}
use Rattle.rart_c.specs.Answers.{TellsWritten}
use Rattle.rart_saved.specs.Fills.{Fills}
use Rattle.rart_saved.specs.Forms.{IsVersionOf, saved}
use Rattle.rart_c.proofs.SaveLemmas.{saves-told}
use Rattle.rart_c.proofs.calls.save.Goals as goal

pub returns-clause-saved : goal.returns-clause-saved
returns-clause-saved g c =
    let written = g.H.Value.SavedValue.written in
    let kind = g.H.Value.SavedValue.KIND in
    let same : length c.save-written.new.room ≡ length c.args.into.now = omega arith in
    saves-told c.save-written.result (saved written kind (g.H.Handle.shows c.args.tree.now).version)
    c.tell_written.result c.args.into.now c.save-written.new.room c.args.len.now
    c.tell_written.new.len
    (subst (λ tree. IfOk c.save-written.result
    (Fills c.args.into.now (saved written kind tree.version) c.save-written.new.room))
    c.table.ensures.table c.save-written.ensures.saved)
    (subst (λ n. TellsWritten c.save-written.result n c.tell_written.result c.args.len.now
    c.tell_written.new.len) same c.tell_written.ensures)

pub returns-clause-loadable : goal.returns-clause-loadable
returns-clause-loadable g c =
    subst (λ tree. IsVersionOf (Some tree.longest) tree.version) c.table.ensures.table
    c.save-written.ensures.loadable
