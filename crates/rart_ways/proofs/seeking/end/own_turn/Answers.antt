use Rattle.std.proofs.Common.{◌++◌, ap, sym}
use Rattle.rart_node.specs.PairsBehind.{pending_pair}
use Rattle.rart_ways.proofs.seeking.end.own_turn.Goals as goal

pub returns-in-Some-clause-end : goal.returns-in-Some-clause-end
returns-in-Some-clause-end g c =
    λ passed at. (
      passed,
      ap (λ o. passed ++ pending_pair c.args.path.now o) (sym c.in-Some.ensures),
    )
