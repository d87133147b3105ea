use Rattle.vtree_lines.proofs.ServingLawLemmas.{refusals_are_of_memory}
use Rattle.vtree_lines.proofs.laws.refusals_are_of_memory.Goals as goal

pub returns : goal.returns
returns c = refusals_are_of_memory
