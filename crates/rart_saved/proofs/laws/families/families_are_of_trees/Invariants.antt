use Rattle.std.proofs.Common.{take}
use Rattle.rart_saved.specs.FamilyForms.{IsFamilyOf}
use Rattle.rart_saved.proofs.laws.families.families_are_of_trees.Given as goal

abbrev pub invariant-knowing : goal.invariant-knowing
invariant-knowing g l = IsFamilyOf {V = g.row.V.Denot} g.K.KeyTrait.MAXIMUM_SIZE (take l.place l.family)
