use Rattle.rart_saved.proofs.WorkedFamilyLemmas.{discarded_place, empty_family, one_empty_version, one_of_each_step}
use Rattle.rart_saved.proofs.laws.families.worked_family_forms.Goals as goal

pub returns : goal.returns
returns c = record {
  none = empty_family;
  empty = one_empty_version;
  discarded = discarded_place;
  step = one_of_each_step;
}
