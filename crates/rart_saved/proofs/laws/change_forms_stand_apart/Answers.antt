use Rattle.rart_saved.proofs.ChangeFormLemmas.{changes-apart, changes-no_version, changes-of_one}
use Rattle.rart_saved.proofs.laws.change_forms_stand_apart.Goals as goal

pub returns-clause-one : goal.returns-clause-one
returns-clause-one g c = changes-of_one g.V.SavedValue.written g.V.SavedValue.KIND
    g.met.V.SavedValue.apart

pub returns-clause-apart : goal.returns-clause-apart
returns-clause-apart g c = changes-apart g.V.SavedValue.written g.V.SavedValue.KIND
    g.met.V.SavedValue.apart

pub returns-clause-version : goal.returns-clause-version
returns-clause-version g c = changes-no_version g.V.SavedValue.written g.V.SavedValue.KIND
