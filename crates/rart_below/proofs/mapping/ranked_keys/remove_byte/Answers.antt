use Rattle.rart_below.proofs.RotationLemmas.{taken_out}
use Rattle.rart_below.proofs.mapping.ranked_keys.remove_byte.Goals as goal

pub returns : goal.returns
returns c =
    taken_out c.args.place c.args.len c.args.bytes.now _ 255 c.requires.within c.requires.room
    c.rotate_left.ensures.after
