use Rattle.std.proofs.Common.{arith, refl}
use Rattle.rart_below.proofs.IndexedMappingLemmas.{kept_from_order, free_place, added}
use Rattle.rart_below.proofs.mapping.indexed.IndexedMappingNodeMapping.add_child.Goals as goal

pub replace_slot-requires : goal.replace_slot-requires
replace_slot-requires g c =
    let mapping = c.args.self.now in
    let kept = kept_from_order mapping.index mapping.children.slots mapping.used mapping.bytes c.requires.order in
    let free =
    rw (← c.trailing_ones-place.ensures) at
    (free_place mapping.index mapping.children.slots mapping.used kept c.requires.room) in
    omega (arith, free.0, kept.enough)

pub overflow_shl-self : goal.overflow_shl-self
overflow_shl-self g c =
    let mapping = c.args.self.now in
    let kept = kept_from_order mapping.index mapping.children.slots mapping.used mapping.bytes c.requires.order in
    let free =
    rw (← c.trailing_ones-place.ensures) at
    (free_place mapping.index mapping.children.slots mapping.used kept c.requires.room) in
    omega (arith, free.0)

pub returns-clause-order : goal.returns-clause-order
returns-clause-order g c =
    let mapping = c.args.self.now in
    let kept = kept_from_order mapping.index mapping.children.slots mapping.used mapping.bytes c.requires.order in
    let free =
    rw (← c.trailing_ones-place.ensures) at
    (free_place mapping.index mapping.children.slots mapping.used kept c.requires.room) in
    (added c.args.byte c.trailing_ones-place.result c.args.child _ _ _ _ _ _ _ _ c.requires.order
    (omega (arith, c.ranges.byte.fits)) free.0 free.1 c.requires.absent refl
    c.replace_slot.ensures.after refl c.insert.ensures).0

pub returns-clause-children : goal.returns-clause-children
returns-clause-children g c =
    let mapping = c.args.self.now in
    let kept = kept_from_order mapping.index mapping.children.slots mapping.used mapping.bytes c.requires.order in
    let free =
    rw (← c.trailing_ones-place.ensures) at
    (free_place mapping.index mapping.children.slots mapping.used kept c.requires.room) in
    (added c.args.byte c.trailing_ones-place.result c.args.child _ _ _ _ _ _ _ _ c.requires.order
    (omega (arith, c.ranges.byte.fits)) free.0 free.1 c.requires.absent refl
    c.replace_slot.ensures.after refl c.insert.ensures).1
