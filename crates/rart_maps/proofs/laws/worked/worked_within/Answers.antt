use Rattle.rart_maps.proofs.laws.worked.worked_within.Goals as goal
use Rattle.rart_maps.proofs.WorkedPairLemmas.{within_included, within_excluded, within_other_keys, within_low_alone, within_high_alone, within_reversed, within_one_key, within_no_key}

pub returns-clause-included : goal.returns-clause-included
returns-clause-included c = within_included

pub returns-clause-excluded : goal.returns-clause-excluded
returns-clause-excluded c = within_excluded

pub returns-clause-other_keys : goal.returns-clause-other_keys
returns-clause-other_keys c = within_other_keys

pub returns-clause-low_alone : goal.returns-clause-low_alone
returns-clause-low_alone c = within_low_alone

pub returns-clause-high_alone : goal.returns-clause-high_alone
returns-clause-high_alone c = within_high_alone

pub returns-clause-reversed : goal.returns-clause-reversed
returns-clause-reversed c = within_reversed

pub returns-clause-one_key : goal.returns-clause-one_key
returns-clause-one_key c = within_one_key

pub returns-clause-no_key : goal.returns-clause-no_key
returns-clause-no_key c = within_no_key
