use Rattle.std.proofs.Common.{arith, ◌∙◌}
use Rattle.rart_node.proofs.CountingLemmas.{counts-entered, counts-then}
use Rattle.rart_ways.proofs.EditLemmas.{if-ok}
use Rattle.rart_ways.proofs.PlanLemmas.{counts-made}
use Rattle.rart_ways.proofs.removal.plan.merge.Goals as goal

pub returns : goal.returns
returns g c =
    record {
      merged = if-ok c.new.result
          (λ pointer is byte child only. is
          ∙ c.in_ok-merge_child.ensures.merged c.requires.clones byte child only)
          c.new.ensures.shown;
      counted = counts-then (counts-entered _ _ c.in_ok-merge_child.ensures.work)
          (counts-made _ _ c.new.ensures.work) (omega arith) (omega arith);
    }
