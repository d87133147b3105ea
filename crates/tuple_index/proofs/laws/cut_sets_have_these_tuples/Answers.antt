use Rattle.tuple_index.proofs.CutLawLemmas.{columns_are_first, with_has, without_has, restored_has, tuples_fix_the_set, some_with_is_a_tuple}
use Rattle.tuple_index.proofs.laws.cut_sets_have_these_tuples.Goals as goal

pub returns : goal.returns
returns c = record {
  columns = columns_are_first;
  with_columns = with_has;
  without = without_has;
  restored = restored_has;
  all = tuples_fix_the_set;
  some = some_with_is_a_tuple;
}
