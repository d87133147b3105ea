use Rattle.rart_maps.specs.Iterations.{ByKey, ByReference}
use Rattle.rart_maps.proofs.IterationLawLemmas.{members_are_given, nothing_is_given_behind}
use Rattle.rart_maps.proofs.laws.iterations.iterators_give_their_members.Goals as goal

pub returns-clause-values : goal.returns-clause-values
returns-clause-values g c = members_are_given ByReference

pub returns-clause-no_value_behind : goal.returns-clause-no_value_behind
returns-clause-no_value_behind g c = nothing_is_given_behind ByReference

pub returns-clause-pairs : goal.returns-clause-pairs
returns-clause-pairs g c = members_are_given (ByKey g.K.KeyTrait.bytes)

pub returns-clause-no_pair_behind : goal.returns-clause-no_pair_behind
returns-clause-no_pair_behind g c = nothing_is_given_behind (ByKey g.K.KeyTrait.bytes)
