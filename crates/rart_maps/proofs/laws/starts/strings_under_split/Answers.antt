use Rattle.rart_maps.proofs.laws.starts.strings_under_split.Goals as goal
use Rattle.rart_maps.proofs.StartLemmas.{strings_under_split, strings_under_are_apart}

pub returns-clause-split : goal.returns-clause-split
returns-clause-split c = strings_under_split

pub returns-clause-apart : goal.returns-clause-apart
returns-clause-apart c = strings_under_are_apart
