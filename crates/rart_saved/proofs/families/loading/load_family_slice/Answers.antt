use Rattle.rart_saved.proofs.FamilyReadLemmas.{family-given}
use Rattle.rart_saved.proofs.families.loading.load_family_slice.Goals as goal

pub returns-clause-gives_back : goal.returns-clause-gives_back
returns-clause-gives_back g c =
    family-given g.V.SavedValue.written g.V.PartialEq.eq g.V.SavedValue.KIND
    g.met.V.SavedValue.apart c.requires.decides g.K.KeyTrait.MAXIMUM_SIZE c.read_family.result
    c.args.bytes.now c.read_family.ensures.read c.read_family.ensures.refused
