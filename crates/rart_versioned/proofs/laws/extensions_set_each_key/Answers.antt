use Rattle.rart_versioned.proofs.ExtendLemmas.{last_pair_stays, other_keys_stay, pairs_are_insertions, pairs_go_part_by_part}
use Rattle.rart_versioned.proofs.laws.extensions_set_each_key.Goals as goal

pub returns-clause-last : goal.returns-clause-last
returns-clause-last g c = last_pair_stays _

pub returns-clause-others : goal.returns-clause-others
returns-clause-others g c = other_keys_stay _

pub returns-clause-single : goal.returns-clause-single
returns-clause-single g c = pairs_are_insertions _

pub returns-clause-parts : goal.returns-clause-parts
returns-clause-parts g c = pairs_go_part_by_part _
