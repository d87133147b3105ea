use Rattle.std.proofs.Common.{refl, arith}
use Rattle.rart_below.specs.Layouts.{slot_children}
use Rattle.rart_below.proofs.ChildrenBelowLemmas.{all_below}
use Rattle.rart_below.proofs.DirectMappingLemmas.{kept_from_order, none_past}
use Rattle.rart_below.proofs.mapping.direct.DirectMappingNodeMapping.cursor_below.Goals as goal

pub returns : goal.returns
returns g c =
    let mapping = c.args.self.now in
    let slots = mapping.children.slots in
    let kept = kept_from_order slots mapping.count mapping.bytes c.requires in
    record {
      below = refl;
      all = λ past. all_below c.args.end (slot_children 0 slots)
          (λ byte le. none_past byte slots mapping.count mapping.bytes kept
          (omega (arith, past, le)));
    }
