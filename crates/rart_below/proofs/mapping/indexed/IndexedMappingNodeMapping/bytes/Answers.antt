use Rattle.std.proofs.Common.{inl, inr, ap, sym, ◌∙◌}
use Rattle.std.specs.Prelude.{is_some}
use Rattle.std.proofs.lemmas.Bool.{cases_lt}
use Rattle.rart_below.specs.ByteSets.{has_byte}
use Rattle.rart_below.proofs.IndexedMappingLemmas.{bytes_are, kept_from_order, none_past}
use Rattle.rart_below.proofs.mapping.indexed.IndexedMappingNodeMapping.bytes.Goals as goal

pub returns : goal.returns
returns g c =
    let mapping = c.args.self.now in
    let slots = mapping.children.slots in
    let kept = kept_from_order mapping.index slots mapping.used mapping.bytes c.requires in
    λ byte. elim (cases_lt byte 256) [
      | inl low ↦
          ap (λ set. has_byte set byte) c.copy.ensures.same
          ∙ bytes_are byte mapping.index slots mapping.used mapping.bytes c.requires low
      | inr high ↦
          c.copy.ensures.bytes byte high
          ∙ sym (ap is_some (none_past byte mapping.index slots mapping.used kept high))
    ]
