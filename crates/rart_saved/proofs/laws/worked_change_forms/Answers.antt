use Rattle.rart_saved.proofs.WorkedFormLemmas.{no_change, one_of_each}
use Rattle.rart_saved.proofs.laws.worked_change_forms.Goals as goal

pub returns : goal.returns
returns c = record { none = no_change; each = one_of_each }
