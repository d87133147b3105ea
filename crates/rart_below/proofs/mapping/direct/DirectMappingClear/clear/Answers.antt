use Rattle.std.proofs.Common.{length, sym, ap, ◌∙◌}
use Rattle.rart_below.proofs.DirectMappingLemmas.{kept_from_order, order_from}
use Rattle.rart_below.proofs.SlotByteLemmas.{marked-empty, marked-none}
use Rattle.rart_below.proofs.SlotLemmas.{no_slots}
use Rattle.rart_below.proofs.mapping.direct.DirectMappingClear.clear.Goals as goal

pub returns-clause-dropped : goal.returns-clause-dropped
returns-clause-dropped g c order =
    let kept = kept_from_order _ _ _ order in
    marked-empty _ _ _ kept.marked (c.empty_slots.auto.slots) c.empty_slots.ensures

pub returns-clause-empty : goal.returns-clause-empty
returns-clause-empty g c order = no_slots 0 _ (returns-clause-dropped g c order)

pub returns-clause-order : goal.returns-clause-order
returns-clause-order g c order =
    let kept = kept_from_order _ _ _ order in
    let empty = returns-clause-dropped g c order in
    order_from _ 0 _ (c.empty_slots.auto.slots ∙ kept.wide)
    (sym (ap length (no_slots 0 _ empty)))
    (marked-none _ _ c.new-self.ensures empty)
