use Rattle.std.proofs.Common.{◌∙◌}
use Rattle.std.specs.Prelude.{is_ok}
use Rattle.rart_node.proofs.KeyPathLemmas.{bytes-push}
use Rattle.rart_node.proofs.key_path.BytesPathKeyPath.push.Goals as goal

pub returns-clause-keeps : goal.returns-clause-keeps
returns-clause-keeps c =
    λ segments holds. bytes-push (is_ok c.extend_from_slice.result) _ _ c.args.segment.now segments
    c.extend_from_slice.ensures.items (c.self.view_is ∙ holds)
