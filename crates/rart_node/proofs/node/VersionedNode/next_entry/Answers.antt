use Rattle.rart_below.specs.Layouts.{entry_copied}
use Rattle.rart_node.proofs.ContentLemmas.{entry-copied, takes_entry-seen}
use Rattle.rart_node.proofs.node.VersionedNode.next_entry.Goals as goal

pub returns : goal.returns
returns g c =
    rw (entry-copied c.next_entry.result)
    (takes_entry-seen c.self.inside.content c.self.view_is _ _ (entry_copied c.next_entry.result)
    c.requires c.next_entry.ensures)
