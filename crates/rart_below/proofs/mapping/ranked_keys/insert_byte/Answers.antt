use Rattle.rart_below.proofs.RotationLemmas.{inserted}
use Rattle.rart_below.proofs.mapping.ranked_keys.insert_byte.Goals as goal

pub returns : goal.returns
returns c =
    inserted c.args.place c.args.len c.args.bytes.now _ c.args.byte c.requires.within
    c.requires.room c.rotate_right.ensures.after
