use Rattle.std.proofs.Common.{rules}
use Rattle.rart_saved.specs.ChangeForms.{changes_head}
use Rattle.rart_saved.proofs.head.changes_head_of.Goals as goal

pub returns : goal.returns
unfolding changes_head
returns c = search rules
