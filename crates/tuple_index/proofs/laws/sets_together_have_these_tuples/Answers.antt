use Rattle.tuple_index.proofs.TogetherLawLemmas.{common_are_listed, common_has, either_has, one_alone_has, without_others_has}
use Rattle.tuple_index.proofs.laws.sets_together_have_these_tuples.Goals as goal

pub returns : goal.returns
returns c = record {
  either = either_has;
  both = common_has;
  without = without_others_has;
  alone = one_alone_has;
  listed = common_are_listed;
}
