use Rattle.std.proofs.Common.{None}
use Rattle.rart_below.proofs.RotationLemmas.{taken_out}
use Rattle.rart_below.proofs.mapping.slots.remove_slot.Goals as goal

pub returns-clause-after : goal.returns-clause-after
returns-clause-after g c =
    let turned = rw c.take-child.ensures.after at c.rotate_left.ensures.after in
    rw c.take-child.ensures.after (taken_out c.args.place c.args.len c.args.slots.now _ None
    c.requires.within c.requires.room turned)
