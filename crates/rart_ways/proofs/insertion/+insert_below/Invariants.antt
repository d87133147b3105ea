use Rattle.rart_node.specs.Shape.{height}
use Rattle.rart_ways.proofs.insertion.+insert_below.Given as goal

abbrev pub decreases-insert_below : goal.decreases-insert_below
decreases-insert_below g l = height l.at.now.shape
