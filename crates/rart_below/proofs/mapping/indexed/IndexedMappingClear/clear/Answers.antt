use Rattle.std.proofs.Common.{refl, replicate, ◌∙◌}
use Rattle.rart_below.proofs.IndexedMappingLemmas.{kept_from_order, starts}
use Rattle.rart_below.proofs.SlotLemmas.{no_named_slots}
use Rattle.rart_below.proofs.mapping.indexed.IndexedMappingClear.clear.Goals as goal

pub returns-clause-empty : goal.returns-clause-empty
returns-clause-empty g c order = no_named_slots 0 _ (replicate 256 48) c.clear_slots.ensures

pub returns-clause-order : goal.returns-clause-order
returns-clause-order g c order =
    let kept = kept_from_order _ _ _ _ order in
    (starts 256 _ _ refl (c.clear_slots.auto.slots ∙ kept.enough) c.clear_slots.ensures
    c.new-self.ensures).0
