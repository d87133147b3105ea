use Rattle.std.proofs.Common.{arith, subst}
use Rattle.std.proofs.lemmas.List.{take_all}
use Rattle.std.specs.Prelude.{IfSome}
use Rattle.rart_family.specs.Families.{Family}
use Rattle.rart_saved.specs.FamilyForms.{IsFamilyOf}
use Rattle.rart_saved.specs.Forms.{IsVersionOf}
use Rattle.rart_saved.proofs.FamilyReadLemmas.{family-more, family-none}
use Rattle.rart_saved.proofs.laws.families.families_are_of_trees.Goals as goal

pub knowing-init : goal.knowing-init
knowing-init g c = family-none g.K.KeyTrait.MAXIMUM_SIZE

pub knowing-preserved : goal.knowing-preserved
knowing-preserved g c =
    family-more g.K.KeyTrait.MAXIMUM_SIZE c.args.family.now c.knowing.place
    (omega (arith, c.knowing-test.true, c.len-place-end.ensures))
    c.knowing.invariant
    (subst (λ o. IfSome o (IsVersionOf g.K.KeyTrait.MAXIMUM_SIZE)) c.version_at.ensures
    c.know_version.ensures)

pub returns : goal.returns
returns g c =
    subst (λ (ps : Family g.row.V.Denot). IsFamilyOf g.K.KeyTrait.MAXIMUM_SIZE ps)
    (take_all c.knowing.place c.args.family.now
    (omega (arith, c.knowing-test.false, c.len-place-end.ensures))) c.knowing.invariant
