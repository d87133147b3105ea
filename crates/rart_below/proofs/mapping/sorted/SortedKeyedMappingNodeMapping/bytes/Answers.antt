use Rattle.std.proofs.Common.{◌<◌, ℕ, length, take, get_or, add-one, sym, ap, ◌∙◌, arith}
use Rattle.std.specs.Prelude.{Bool, ◌==◌, ◌||◌}
use Rattle.std.proofs.lemmas.List.{take_all}
use Rattle.rart_below.proofs.ByteSetLemmas.{holds_key, holds-next, keys-some}
use Rattle.rart_below.proofs.SortedMappingLemmas.{kept_from_order}
use Rattle.rart_below.proofs.mapping.sorted.SortedKeyedMappingNodeMapping.bytes.Goals as goal

pub loop-key-preserved : goal.loop-key-preserved
loop-key-preserved g c =
    λ byte.
    let keys = c.as_slice-key-items.result.now in
    let place = c.loop-key.key-index in
    let within : place < length keys = omega (arith, c.loop-key-test.true) in
    c.insert.ensures byte
    ∙ (ap (λ (t : Bool). byte == get_or keys place 0 || t) (c.loop-key.invariant byte)
    ∙ (sym (holds-next byte place keys within)
    ∙ ap (λ (n : ℕ). holds_key byte (take n keys)) (sym (add-one place))))

pub returns : goal.returns
returns g c =
    λ byte.
    let mapping = c.args.self.now in
    let keys = c.as_slice-key-items.result.now in
    let kept = kept_from_order g.row.WIDTH mapping.keys.items mapping.children.slots c.requires in
    c.loop-key.invariant byte
    ∙ (ap (holds_key byte) (take_all c.loop-key.key-index keys
    (omega (arith, c.loop-key-test.false)) ∙ c.as_slice-key-items.ensures.value)
    ∙ keys-some byte mapping.keys.items mapping.children.slots kept.filled)
