use Rattle.std.proofs.Common.{ap, refl, subst, sym, ◌∙◌}
use Rattle.rart_c.specs.Saves.{ExplainsLoad}
use Rattle.rart_saved.specs.Forms.{saved}
use Rattle.rart_c.proofs.SaveLemmas.{gives-read, gives-refused, load-told, unread_tells}
use Rattle.rart_c.proofs.calls.load.Goals as goal

pub returns-in-Ok-clause-loaded : goal.returns-in-Ok-clause-loaded
returns-in-Ok-clause-loaded g c _ =
    let written = g.H.Value.SavedValue.written in
    let kind = g.H.Value.SavedValue.KIND in (
      c.in-Ok.ensures.read ∙ ap (λ tree. saved written kind tree.version) (sym c.of.ensures),
      ap (λ tree. tree.longest) c.of.ensures ∙ c.in-Ok.ensures.longest
          ∙ c.longest_key.ensures.longest ∙ ap (λ tree. tree.longest) c.table.ensures.table,
    )

pub returns-in-Ok-clause-gives_back : goal.returns-in-Ok-clause-gives_back
returns-in-Ok-clause-gives_back g c =
    let written = g.H.Value.SavedValue.written in
    let kind = g.H.Value.SavedValue.KIND in
    let apart = g.met.H.Value.SavedValue.apart in
    gives-read written apart kind (g.H.Handle.shows c.args.tree.now).longest c.args.bytes.now
    (g.H.Handle.shows c.of.result).version _ refl
    (c.in-Ok.ensures.read ∙ ap (λ tree. saved written kind tree.version) (sym c.of.ensures))

pub returns-in-Err-clause-loaded : goal.returns-in-Err-clause-loaded
returns-in-Err-clause-loaded g c done =
    absurd ((unread_tells c.in-Err.error c.tell_unread.result c.args.offset.now c.tell_unread.new.at
    c.tell_unread.ensures).0 done)

pub returns-in-Err-clause-gives_back : goal.returns-in-Err-clause-gives_back
returns-in-Err-clause-gives_back g c =
    let written = g.H.Value.SavedValue.written in
    let kind = g.H.Value.SavedValue.KIND in
    let apart = g.met.H.Value.SavedValue.apart in
    let longest = c.longest_key.ensures.longest ∙ ap (λ tree. tree.longest) c.table.ensures.table
    in
    gives-refused written apart kind (g.H.Handle.shows c.args.tree.now).longest c.args.bytes.now
    c.in-Err.error _ c.tell_unread.result c.args.offset.now
    c.tell_unread.new.at c.tell_unread.ensures
    (subst (λ n. ExplainsLoad written kind n c.args.bytes.now c.in-Err.error) longest
    c.in-Err.ensures.refused)

pub returns-in-Err-clause-tells : goal.returns-in-Err-clause-tells
returns-in-Err-clause-tells g c =
    load-told c.in-Err.error c.args.bytes.now c.tell_unread.result c.args.offset.now
    c.tell_unread.new.at c.in-Err.ensures.points c.tell_unread.ensures
