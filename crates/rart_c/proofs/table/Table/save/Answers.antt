use Rattle.std.proofs.Common.{Some, subst}
use Rattle.std.specs.Prelude.{IfOk}
use Rattle.rart_saved.specs.Fills.{Fills}
use Rattle.rart_saved.specs.Forms.{IsVersionOf, saved}
use Rattle.rart_c.proofs.table.Table.save.Goals as goal

pub save_into-requires : goal.save_into-requires
save_into-requires g c = c.self.invariant.count

pub returns-clause-saved : goal.returns-clause-saved
returns-clause-saved g c =
    subst (λ it. IfOk c.save_into.result (Fills c.args.room.now
    (saved g.V.SavedValue.written g.V.SavedValue.KIND it.version) c.save_into.new.room))
    c.self.view_is c.save_into.ensures

pub returns-clause-loadable : goal.returns-clause-loadable
returns-clause-loadable g c =
    subst (λ it. IsVersionOf (Some it.longest) it.version) c.self.view_is (record {
      few = c.know_keys_for_proof.ensures.few;
      fits = c.know_keys_for_proof.ensures.fits;
      lengths = λ key there. (
        c.self.invariant.limit key there,
        (c.know_keys_for_proof.ensures.lengths key there).1,
      );
    })
