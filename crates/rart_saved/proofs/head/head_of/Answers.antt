use Rattle.std.proofs.Common.{rules}
use Rattle.rart_saved.specs.Forms.{head}
use Rattle.rart_saved.proofs.head.head_of.Goals as goal

pub returns : goal.returns
unfolding head
returns c = search rules
