use Rattle.rart_node.specs.Shape.{height}
use Rattle.rart_ways.proofs.prefixes.grafting.+put_below.Given as goal

abbrev pub decreases-put_below : goal.decreases-put_below
decreases-put_below g l = height l.at.now.shape
