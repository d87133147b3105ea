use Rattle.rart_saved.proofs.SavedLemmas.{forms-of_one, forms-apart}
use Rattle.rart_saved.proofs.laws.forms_stand_apart.Goals as goal

pub returns-clause-one : goal.returns-clause-one
returns-clause-one g c = forms-of_one g.V.SavedValue.written g.met.V.SavedValue.apart
    g.V.SavedValue.KIND

pub returns-clause-apart : goal.returns-clause-apart
returns-clause-apart g c = forms-apart g.V.SavedValue.written g.met.V.SavedValue.apart
    g.V.SavedValue.KIND
