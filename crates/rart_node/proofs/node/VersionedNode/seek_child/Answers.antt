use Rattle.std.proofs.Common.{ap, sym, ◌∙◌}
use Rattle.std.specs.Option.{option_map}
use Rattle.rart_node.specs.Seen.{shape_of}
use Rattle.rart_node.proofs.ContentLemmas.{shape-copied, child_at-seen}
use Rattle.rart_node.proofs.node.VersionedNode.seek_child.Goals as goal

pub returns : goal.returns
returns g c =
    shape-copied c.seek_child.result
    ∙ ap (option_map shape_of) c.seek_child.ensures
    ∙ sym (child_at-seen c.self.inside.content c.self.view_is c.args.byte c.requires)
