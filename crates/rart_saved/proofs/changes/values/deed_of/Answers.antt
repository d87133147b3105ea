use Rattle.std.proofs.Common.{rules}
use Rattle.rart_saved.specs.ChangeForms.{deed}
use Rattle.rart_saved.proofs.changes.values.deed_of.Goals as goal

pub returns-in-None-None : goal.returns-in-None-None
unfolding deed
returns-in-None-None g c = search rules

pub returns-in-None-Some : goal.returns-in-None-Some
unfolding deed
returns-in-None-Some g c = search rules

pub returns-in-Some-None : goal.returns-in-Some-None
unfolding deed
returns-in-Some-None g c = search rules

pub returns-in-Some-Some : goal.returns-in-Some-Some
unfolding deed
returns-in-Some-Some g c = search rules
