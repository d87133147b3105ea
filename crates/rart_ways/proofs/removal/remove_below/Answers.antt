use Rattle.std.proofs.Common.{[], is_some, refl, sym, ap, arith, subst, ◌∙◌}
use Rattle.rart_ways.specs.Plans.{IsPlan, plan_cost}
use Rattle.rart_ways.proofs.PlanLemmas.{leaf-alone, not-none, counts-carried}
use Rattle.rart_node.proofs.CountingLemmas.{entered-then}
use Rattle.rart_node.proofs.MatchLemmas.{found-here}
use Rattle.rart_ways.proofs.removal.remove_below.Goals as goal

pub returns-in_ok-take-in-Leaf : goal.returns-in_ok-take-in-Leaf
returns-in_ok-take-in-Leaf g c =
    let s = c.args.root.now.shape in
    let key = c.args.key.now in
    let leaf =
    subst (λ z. IsPlan z key s) c.in-Leaf.is c.in_ok-plan_below.ensures.plan in
    let here = found-here s key [] leaf.2 refl in
    let there = ap is_some here ∙ leaf.1 in
    let cost = ap plan_cost c.in-Leaf.is in
    record {
      taken = leaf-alone s c.take.new.at.shape key c.requires.tree leaf
          c.in_ok-take-in-Leaf.ensures.taken;
      value = c.in_ok-take-in-Leaf.ensures.value ∙ sym here;
      refused = tt;
      present = tt;
      counted = counts-carried c.in_ok-plan_below.ensures.counted
          c.in_ok-take-in-Leaf.ensures.counted (omega (arith, cost));
      entered = entered-then c.args.work.now c.in_ok-plan_below.ensures.entered
          c.in_ok-take-in-Leaf.ensures.counted;
      absent = λ none. absurd (not-none _ there none);
      absent_makes_none = λ none. absurd (not-none _ there none);
    }
