use Rattle.rart_walks.specs.SideFields.{key_at}
use Rattle.rart_walks.proofs.DiffPassLemmas.{goes-next, goes-value}
use Rattle.rart_walks.proofs.diff.side.Side.advance.Goals as goal
use Rattle.rart_walks.specs.WalkFields.{cursor}

pub returns-in_ok-self-clause-way : goal.returns-in_ok-self-clause-way
returns-in_ok-self-clause-way g c =
    let side = c.args.self.now in
    goes-next (key_at side) side.value (cursor side.walk) (cursor c.next_value.new.self)
    c.if-is_none.ensures
    (goes-value (cursor side.walk) (cursor c.next_value.new.self) c.in_ok-self.field-0
    c.in_ok-self.ensures.gives c.in_ok-self.ensures.on_way)
