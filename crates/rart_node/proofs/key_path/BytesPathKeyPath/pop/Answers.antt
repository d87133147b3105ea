use Rattle.std.proofs.Common.{◌-◌, length, arith, ap, ◌∙◌}
use Rattle.rart_node.proofs.KeyPathLemmas.{bytes-fit, bytes-pop}
use Rattle.rart_node.proofs.key_path.BytesPathKeyPath.pop.Goals as goal

pub overflow_sub-kept : goal.overflow_sub-kept
overflow_sub-kept c =
    let fits =
    bytes-fit c.self.inside.bytes.items c.args.segment.now c.requires.0
    (c.self.view_is ∙ c.requires.1) in
    let len = c.len.ensures in
    omega (arith, fits, len)

pub returns : goal.returns
returns c = λ segments holds.
    c.truncate.ensures.items ∙ bytes-pop c.self.inside.bytes.items c.args.segment.now segments _
    (ap (λ n. n - length c.args.segment.now) (c.len.ensures ∙ c.self.inside.bytes.ok.0))
    (c.self.view_is ∙ holds)
