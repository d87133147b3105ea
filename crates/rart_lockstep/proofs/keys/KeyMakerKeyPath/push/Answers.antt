use Rattle.std.specs.Prelude.{is_ok}
use Rattle.rart_node.proofs.KeyPathLemmas.{bytes-push}
use Rattle.rart_lockstep.proofs.keys.KeyMakerKeyPath.push.Goals as goal

pub returns-clause-keeps : goal.returns-clause-keeps
returns-clause-keeps g c =
    λ segments holds. bytes-push (is_ok c.push_short.result) _ _ c.args.segment.now segments
    c.push_short.ensures holds
