use Rattle.rart_versioned.proofs.ReplyLemmas.{answerable_step_by_step, asks_first_members}
use Rattle.rart_versioned.proofs.RetainLawLemmas.{asks_in_order}
use Rattle.rart_versioned.proofs.laws.retain_asks_in_order.Goals as goal

pub returns-clause-asked : goal.returns-clause-asked
returns-clause-asked g c = asks_in_order _ _

pub returns-clause-refused : goal.returns-clause-refused
returns-clause-refused g c = asks_first_members _ _

pub returns-clause-answerable : goal.returns-clause-answerable
returns-clause-answerable g c = answerable_step_by_step _ _
