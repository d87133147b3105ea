use Rattle.std.proofs.Common.{ap, ◌∙◌}
use Rattle.std.specs.Prelude.{◌&&◌}
use Rattle.rart_below.specs.ByteSets.{has_byte}
use Rattle.rart_node.specs.Shape.{children_of}
use Rattle.rart_lockstep.proofs.ChildLemmas.{where-all}
use Rattle.rart_lockstep.proofs.children.CommonChildren.new.Goals as goal

pub returns : goal.returns
returns g c =
    let left = children_of c.args.left.now.shape in
    let right = children_of c.args.right.now.shape in
    where-all _ left right (λ byte in_left in_right.
    ap (λ set. has_byte set byte) c.new.ensures
    ∙ c.common_bytes.ensures byte
    ∙ (λ i. in_left i && in_right i))
