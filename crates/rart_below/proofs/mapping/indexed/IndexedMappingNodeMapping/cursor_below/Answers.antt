use Rattle.std.proofs.Common.{refl, arith}
use Rattle.rart_below.specs.IndexedMapping.{indexed_children}
use Rattle.rart_below.proofs.ChildrenBelowLemmas.{all_below}
use Rattle.rart_below.proofs.IndexedMappingLemmas.{kept_from_order, none_past}
use Rattle.rart_below.proofs.mapping.indexed.IndexedMappingNodeMapping.cursor_below.Goals as goal

pub returns : goal.returns
returns g c =
    let mapping = c.args.self.now in
    let kept = kept_from_order mapping.index mapping.children.slots mapping.used mapping.bytes c.requires in
    record {
      below = refl;
      all = λ past. all_below c.args.end (indexed_children mapping)
          (λ byte le. none_past byte mapping.index mapping.children.slots mapping.used kept
          (omega (arith, past, le)));
    }
