use Rattle.rart_changes.proofs.laws.merging.merges_ask_in_order.Goals as goal
use Rattle.rart_changes.proofs.MergedVersionLemmas.{answers_are_kept, asks_in_order}
use Rattle.rart_versioned.proofs.ReplyLemmas.{answerable_step_by_step, asks_first_members}

pub returns-clause-asked : goal.returns-clause-asked
returns-clause-asked g c = asks_in_order _ _ _

pub returns-clause-answerable : goal.returns-clause-answerable
returns-clause-answerable g c = answerable_step_by_step _ _

pub returns-clause-refused : goal.returns-clause-refused
returns-clause-refused g c = asks_first_members _ _

pub returns-clause-kept : goal.returns-clause-kept
returns-clause-kept g c = answers_are_kept _ _ _
