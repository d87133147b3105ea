use Rattle.std.proofs.Common.{ap, sym, ◌∙◌}
use Rattle.std.specs.Option.{option_map}
use Rattle.rart_node.specs.Seen.{shape_of}
use Rattle.rart_node.proofs.ContentLemmas.{entry-copied, first-seen}
use Rattle.rart_node.proofs.node.VersionedNode.next_from.Goals as goal

pub returns : goal.returns
returns g c =
    entry-copied c.next_from.result
    ∙ ap (option_map (λ e. (e.0, shape_of e.1))) c.next_from.ensures
    ∙ sym (first-seen c.self.inside.content c.self.view_is c.args.from c.requires)
