use Rattle.rart_node.proofs.ContentLemmas.{full-seen}
use Rattle.rart_node.proofs.WidthLemmas.{fits_width}
use Rattle.rart_node.proofs.node.VersionedNode.is_full.Goals as goal

pub returns-clause-full : goal.returns-clause-full
returns-clause-full g c =
    full-seen c.self.inside.content c.self.view_is c.is_full.result c.requires c.is_full.ensures

pub returns-clause-width : goal.returns-clause-width
returns-clause-width g c = fits_width c.self.inside.content c.self.view_is
