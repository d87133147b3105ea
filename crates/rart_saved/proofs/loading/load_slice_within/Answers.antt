use Rattle.std.proofs.Common.{Some}
use Rattle.rart_saved.proofs.LimitLemmas.{given-within}
use Rattle.rart_saved.proofs.loading.load_slice_within.Goals as goal

pub returns-clause-gives_back : goal.returns-clause-gives_back
returns-clause-gives_back g c =
    given-within g.V.SavedValue.written g.met.V.SavedValue.apart g.V.SavedValue.KIND
    (Some c.args.longest) g.K.KeyTrait.MAXIMUM_SIZE c.args.bytes.now c.read_version.result
    c.read_version.ensures.read c.read_version.ensures.refused
