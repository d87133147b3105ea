use Rattle.rart_node.proofs.WidthLemmas.{fits_width}
use Rattle.rart_node.proofs.node.VersionedNode.is_leaf.Goals as goal

pub returns-clause-width : goal.returns-clause-width
returns-clause-width g c = fits_width c.self.inside.content c.self.view_is
