use Rattle.rart_node.specs.Shape.{children_of, width_of}
use Rattle.rart_node.proofs.ChildMapLemmas.{left_at-zero}
use Rattle.rart_node.proofs.node.VersionedNode.iter.Goals as goal

pub returns-clause-children : goal.returns-clause-children
returns-clause-children g c =
    let shape = c.args.self.now.shape in
    left_at-zero (width_of shape) (children_of shape)
