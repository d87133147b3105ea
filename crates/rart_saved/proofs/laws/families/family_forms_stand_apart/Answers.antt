use Rattle.rart_saved.proofs.FamilyFormLemmas.{families-apart, families-no_changes, families-no_version, families-of_one}
use Rattle.rart_saved.proofs.laws.families.family_forms_stand_apart.Goals as goal

pub returns-clause-one : goal.returns-clause-one
returns-clause-one g c = families-of_one g.V.SavedValue.written g.V.PartialEq.eq
    g.V.SavedValue.KIND g.met.V.SavedValue.apart

pub returns-clause-apart : goal.returns-clause-apart
returns-clause-apart g c = families-apart g.V.SavedValue.written g.V.PartialEq.eq
    g.V.SavedValue.KIND g.met.V.SavedValue.apart

pub returns-clause-version : goal.returns-clause-version
returns-clause-version g c = families-no_version g.V.SavedValue.written g.V.PartialEq.eq
    g.V.SavedValue.KIND

pub returns-clause-changes : goal.returns-clause-changes
returns-clause-changes g c = families-no_changes g.V.SavedValue.written g.V.PartialEq.eq
    g.V.SavedValue.KIND
