use Rattle.std.proofs.Common.{◌∙◌}
use Rattle.rart_node.proofs.KeyPathLemmas.{bytes-cut}
use Rattle.rart_node.proofs.key_path.BytesPathKeyPath.cut.Goals as goal

pub returns : goal.returns
returns c =
    λ kept gone same is. c.truncate.ensures.items
    ∙ bytes-cut _ kept gone c.args.mark (c.self.view_is ∙ same) is
