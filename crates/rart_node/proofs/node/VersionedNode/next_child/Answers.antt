use Rattle.std.specs.Option.{option_copied}
use Rattle.rart_node.proofs.ContentLemmas.{shape-copied, takes-seen}
use Rattle.rart_node.proofs.node.VersionedNode.next_child.Goals as goal

pub returns : goal.returns
returns g c =
    rw (shape-copied c.next_child.result)
    (takes-seen c.self.inside.content c.self.view_is _ _ (option_copied c.next_child.result)
    c.requires c.next_child.ensures)
