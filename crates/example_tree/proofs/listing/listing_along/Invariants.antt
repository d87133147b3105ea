use Rattle.std.proofs.Common.{map}
use Rattle.rart_maps.specs.Iterations.{IsTakenFrom}
use Rattle.rart_maps.specs.Pairs.{prefix_matches}
use Rattle.example_tree.specs.Listing.{line_of}
use Rattle.example_tree.proofs.listing.listing_along.Given as goal

abbrev pub invariant-loop-item : goal.invariant-loop-item
invariant-loop-item l =
    IsTakenFrom (prefix_matches l.list.content l.text.bytes.items)
    (map line_of l.lines.items) l.item-iterator
