use Rattle.rart_versioned.proofs.RetainLawLemmas.{worked_replies}
use Rattle.rart_versioned.proofs.laws.worked_replies.Goals as goal

pub returns : goal.returns
returns c = worked_replies
