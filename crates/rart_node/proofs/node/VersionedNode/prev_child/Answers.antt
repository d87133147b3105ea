use Rattle.std.specs.Option.{option_copied}
use Rattle.rart_node.proofs.ContentLemmas.{shape-copied, takes_last-seen}
use Rattle.rart_node.proofs.node.VersionedNode.prev_child.Goals as goal

pub returns : goal.returns
returns g c =
    rw (shape-copied c.prev_child.result)
    (takes_last-seen c.self.inside.content c.self.view_is _ _ (option_copied c.prev_child.result)
    c.requires c.prev_child.ensures)
