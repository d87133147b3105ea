use Rattle.std.proofs.Common.{rules}
use Rattle.rart_saved.specs.FamilyForms.{family_head}
use Rattle.rart_saved.proofs.head.family_head_of.Goals as goal

pub returns : goal.returns
unfolding family_head
returns c = search rules
