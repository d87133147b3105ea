use Rattle.std.proofs.Common.{◌++◌, ap, ◌∙◌}
use Rattle.rart_saved.specs.Forms.{key_form}
use Rattle.rart_saved.proofs.LoadLemmas.{entry-written}
use Rattle.rart_saved.proofs.entries.put_entry.Goals as goal

pub returns-clause-written : goal.returns-clause-written
returns-clause-written g c =
    entry-written g.F.LentForm.written c.args.before.now.items c.args.key.now
    c.args.out.now.items c.put_key.new.out.items c.put.new.out.items c.args.form
    (c.in_ok-put_key.ensures
    ∙ ap (λ k. c.args.out.now.items ++ key_form k c.args.key.now) c.as_slice.ensures.value)
    c.in_ok-put.ensures
