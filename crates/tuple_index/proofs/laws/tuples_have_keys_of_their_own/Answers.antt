use Rattle.tuple_index.proofs.TupleKeyLemmas.{own-keys}
use Rattle.tuple_index.proofs.laws.tuples_have_keys_of_their_own.Goals as goal

pub returns : goal.returns
returns c = own-keys c.args.one c.args.other c.key.ensures.narrow c.key-2.ensures.narrow
