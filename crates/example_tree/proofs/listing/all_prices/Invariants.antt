use Rattle.std.proofs.Common.{map}
use Rattle.rart_maps.specs.Iterations.{IsTakenFrom}
use Rattle.rart_maps.specs.Pairs.{pairs}
use Rattle.example_tree.proofs.listing.all_prices.Given as goal

abbrev pub invariant-loop-price : goal.invariant-loop-price
invariant-loop-price l =
    IsTakenFrom (map (λ pair. pair.1) (pairs l.list.content)) l.prices.items l.price-iterator
