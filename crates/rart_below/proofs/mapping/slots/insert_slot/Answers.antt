use Rattle.std.proofs.Common.{Some}
use Rattle.rart_below.proofs.RotationLemmas.{inserted}
use Rattle.rart_below.proofs.mapping.slots.insert_slot.Goals as goal

pub returns : goal.returns
returns g c =
    inserted c.args.place c.args.len c.args.slots.now _
    (Some c.args.child) c.requires.within c.requires.room c.rotate_right.ensures.after
