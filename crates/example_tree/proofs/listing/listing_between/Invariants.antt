use Rattle.std.specs.declared.ops.Bound.TheVariants.{Included, Excluded}
use Rattle.std.proofs.Common.{map}
use Rattle.rart_maps.specs.Iterations.{IsTakenFrom}
use Rattle.rart_maps.specs.Pairs.{within}
use Rattle.example_tree.specs.Listing.{line_of}
use Rattle.example_tree.proofs.listing.listing_between.Given as goal

abbrev pub invariant-loop-item : goal.invariant-loop-item
invariant-loop-item l =
    IsTakenFrom (within l.list.content (Included l.fn.first.bytes.items)
    (Excluded l.fn.end.bytes.items)) (map line_of l.lines.items) l.item-iterator
