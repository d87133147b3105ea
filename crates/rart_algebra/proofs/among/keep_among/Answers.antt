use Rattle.std.proofs.Common.{sym, ◌∙◌}
use Rattle.rart_algebra.proofs.AmongLemmas.{keeps-all}
use Rattle.rart_algebra.proofs.among.keep_among.Goals as goal

pub returns-then-count-num_children-clause-kept : goal.returns-then-count-num_children-clause-kept
returns-then-count-num_children-clause-kept g c =
    keeps-all c.args.bytes.now c.args.node.now.shape
    (sym c.requires.count ∙ c.if-count-num_children.true ∙ c.num_children.ensures.count)
