use Rattle.std.proofs.Common.{ap, sym, ◌∙◌}
use Rattle.std.specs.Option.{option_map}
use Rattle.rart_node.specs.Seen.{shape_of}
use Rattle.rart_node.proofs.ContentLemmas.{child_at-seen, with_deleted-seen}
use Rattle.rart_node.proofs.node.VersionedNode.delete_child.Goals as goal

pub returns-clause-seen : goal.returns-clause-seen
returns-clause-seen g c =
    with_deleted-seen c.self.inside.content c.self.view_is c.delete_child.new.self c.args.byte
    c.requires c.delete_child.ensures.content

pub returns-clause-deleted : goal.returns-clause-deleted
returns-clause-deleted g c =
    ap (option_map shape_of) c.delete_child.ensures.deleted
    ∙ sym (child_at-seen c.self.inside.content c.self.view_is c.args.byte c.requires)
