use Rattle.std.proofs.Common.{sym}
use Rattle.rart_node.specs.NodeShapes.{entry_shape}
use Rattle.rart_node.specs.Shape.{children_of}
use Rattle.rart_node.proofs.SkipLemmas.{skipped, unskipped}
use Rattle.rart_ways.proofs.seeking.start.around.Goals as goal

pub returns-in-Some-clause-later : goal.returns-in-Some-clause-later
returns-in-Some-clause-later g c =
    skipped entry_shape c.args.byte c.in-Some.child.now.shape
    (children_of c.args.node.now.shape) _ _ c.next.result c.requires
    (sym c.in-Some.ensures) c.iter_from-later.ensures.children c.next.ensures.steps

pub returns-in-None-clause-later : goal.returns-in-None-clause-later
returns-in-None-clause-later g c =
    unskipped c.args.byte (children_of c.args.node.now.shape) _
    (sym c.in-None.ensures) c.iter_from-later.ensures.children
