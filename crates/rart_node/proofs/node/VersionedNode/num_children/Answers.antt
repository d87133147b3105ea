use Rattle.std.proofs.Common.{sym, ◌∙◌}
use Rattle.rart_node.proofs.ContentLemmas.{length-seen}
use Rattle.rart_node.proofs.WidthLemmas.{fits_width}
use Rattle.rart_node.proofs.node.VersionedNode.num_children.Goals as goal

pub returns-clause-count : goal.returns-clause-count
returns-clause-count g c =
    c.num_children.ensures ∙ sym (length-seen c.self.inside.content c.self.view_is c.requires)

pub returns-clause-width : goal.returns-clause-width
returns-clause-width g c = fits_width c.self.inside.content c.self.view_is
