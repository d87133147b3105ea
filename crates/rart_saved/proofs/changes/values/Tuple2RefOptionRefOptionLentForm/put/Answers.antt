use Rattle.rart_saved.proofs.ChangeFormLemmas.{values-written}
use Rattle.rart_saved.proofs.changes.values.Tuple2RefOptionRefOptionLentForm.put.Goals as goal

pub returns : goal.returns
returns g c =
    values-written g.V.SavedValue.written c.args.out.now.items c.push.new.self.items
    c.put_value.new.out.items c.put_value-2.new.out.items c.deed_of.result c.args.self.0.now
    c.args.self.1.now c.deed_of.ensures c.in_ok-push.ensures.items c.in_ok-put_value.ensures
    c.in_ok-put_value-2.ensures
