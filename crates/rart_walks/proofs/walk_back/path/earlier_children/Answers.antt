use Rattle.std.proofs.Common.{◌∙◌}
use Rattle.rart_node.specs.Shape.{children_of}
use Rattle.rart_walks.proofs.BackPartLemmas.{below-zero}
use Rattle.rart_walks.proofs.walk_back.path.earlier_children.Goals as goal

pub returns-else-has_lower : goal.returns-else-has_lower
returns-else-has_lower g c =
    let none = c.iter_rev_below-else-has_lower.ensures.children
    ∙ below-zero (children_of c.args.node.now.shape) in
    rw c.if-has_lower.false none
