use Rattle.std.proofs.Common.{sym}
use Rattle.rart_node.specs.NodeShapes.{entry_shape}
use Rattle.rart_node.specs.Shape.{children_of}
use Rattle.rart_node.proofs.SkipLemmas.{skipped, unskipped}
use Rattle.rart_walks.proofs.walk.path.later_children.Goals as goal

pub returns-in-Some : goal.returns-in-Some
returns-in-Some g c =
    skipped entry_shape c.args.byte c.in-Some._child.now.shape
    (children_of c.args.node.now.shape) _ _ c.next.result c.requires
    (sym c.in-Some.ensures) c.iter_from-children.ensures.children c.next.ensures.steps

pub returns-in_default : goal.returns-in_default
returns-in_default g c =
    unskipped c.args.byte (children_of c.args.node.now.shape) _
    (sym c.in_default.ensures) c.iter_from-children.ensures.children
