use Rattle.std.proofs.Common.{rules}
use Rattle.rart_node.proofs.ContentLemmas.{cursor-seen, in_order}
use Rattle.rart_node.proofs.node.VersionedNode.iter_from.Goals as goal

pub cursor_from-requires : goal.cursor_from-requires
cursor_from-requires g c =
    let order = in_order c.self.inside.content c.self.view_is c.requires in search rules

pub invariant_of-result : goal.invariant_of-result
invariant_of-result g c = record { order = c.requires }

pub returns-clause-children : goal.returns-clause-children
returns-clause-children g c =
    cursor-seen c.self.inside.content c.self.view_is c.args.least c.cursor_from.result c.requires
    c.cursor_from.ensures
