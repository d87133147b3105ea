use Rattle.std.proofs.Common.{map}
use Rattle.rart_maps.specs.Iterations.{IsTakenFrom}
use Rattle.rart_maps.specs.Pairs.{under}
use Rattle.example_tree.specs.Listing.{line_of}
use Rattle.example_tree.proofs.listing.listing_under.Given as goal

abbrev pub invariant-loop-item : goal.invariant-loop-item
invariant-loop-item l =
    IsTakenFrom (under l.list.content l.prefix.bytes.items)
    (map line_of l.lines.items) l.item-iterator
