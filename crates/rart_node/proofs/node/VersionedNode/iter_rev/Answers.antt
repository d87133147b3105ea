use Rattle.std.proofs.Common.{rules, arith}
use Rattle.rart_node.proofs.ContentLemmas.{back-of-all, in_order}
use Rattle.rart_node.proofs.node.VersionedNode.iter_rev.Goals as goal

pub cursor_below-requires : goal.cursor_below-requires
cursor_below-requires g c =
    let order = in_order c.self.inside.content c.self.view_is c.requires in search rules

pub invariant_of-result : goal.invariant_of-result
invariant_of-result g c = record { order = c.requires }

pub returns-clause-children : goal.returns-clause-children
returns-clause-children g c =
    back-of-all c.self.inside.content c.self.view_is c.cursor_below.result c.requires
    (c.cursor_below.ensures.all (omega arith))
