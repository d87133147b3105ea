use Rattle.std.proofs.Common.{ap, sym, ◌∙◌}
use Rattle.std.specs.Prelude.{◌&&◌, is_some}
use Rattle.rart_node.specs.Seen.{shape_of}
use Rattle.rart_node.proofs.ContentLemmas.{child_at-seen}
use Rattle.rart_node.proofs.ChildMapLemmas.{is_some-mapped}
use Rattle.rart_node.proofs.node.VersionedNode.common_bytes.Goals as goal

pub returns : goal.returns
returns g c =
    λ byte.
    let here = is_some-mapped shape_of _
    ∙ sym (ap is_some (child_at-seen c.self.inside.content c.self.view_is byte
    c.requires.order)) in
    let there = is_some-mapped shape_of _
    ∙ sym (ap is_some (child_at-seen c.other.inside.content c.other.view_is byte
    c.requires.other_order)) in
    c.common_bytes.ensures byte ∙ (λ i. here i && there i)
