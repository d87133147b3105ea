use Rattle.std.proofs.Common.{take, sym, ap, ◌∙◌}
use Rattle.std.proofs.lemmas.Result.{IfOk-weaker}
use Rattle.rart_node.specs.Shape.{with_prefix}
use Rattle.rart_ways.proofs.PutPartLemmas.{tail-lifted}
use Rattle.rart_ways.proofs.prefixes.ending.PrefixEnd.node_behind.Goals as goal

pub returns : goal.returns
returns g c =
    let end = c.args.self.now in
    let s = end.node.now.shape in
    let bytes = c.in_ok-prefix.ensures in
    let lifted = ap (λ z. with_prefix z s) bytes
    ∙ sym (tail-lifted s (take end.above end.prefix.now) c.args.count) in
    IfOk-weaker c.copy_under.result _ _ (λ it shown. shown c.requires.clones ∙ lifted)
    c.copy_under.ensures
