use Rattle.rart_changes.proofs.SetKeyLemmas.{set-by-insertion, set-by-deletion}
use Rattle.rart_changes.proofs.merging.setting.put.Goals as goal

pub returns-in_ok-insert-in-Some : goal.returns-in_ok-insert-in-Some
returns-in_ok-insert-in-Some g c =
    rw c.in-Some.is (set-by-insertion c.args.tree.now c.insert.new.self
    (g.K.KeyTrait.bytes c.args.key) _ c.in_ok-insert-in-Some.ensures.set)

pub returns-in_ok-delete-in-None : goal.returns-in_ok-delete-in-None
returns-in_ok-delete-in-None g c =
    rw c.in-None.is (set-by-deletion c.args.tree.now c.delete.new.self
    (g.K.KeyTrait.bytes c.args.key) c.in_ok-delete-in-None.ensures.removed)
