use Rattle.std.proofs.Common.{◌≡◌, ◌<◌, ℕ, length, take, get_or, add-one, sym, ap, ◌∙◌, arith, refl}
use Rattle.std.specs.Borrow.{Bor}
use Rattle.std.specs.Prelude.{Bool, ◌==◌, ◌||◌, ◌&&◌, Option, Some, None, is_some, option_copied}
use Rattle.std.proofs.lemmas.List.{take_all}
use Rattle.rart_below.specs.ByteSets.{has_byte}
use Rattle.rart_below.specs.Children.{child_at}
use Rattle.rart_below.proofs.ByteSetLemmas.{both-next, both-skips, holds_key, holds-next, keys-some}
use Rattle.rart_below.proofs.SortedMappingLemmas.{kept_from_order}
use Rattle.rart_below.proofs.mapping.sorted.SortedKeyedMapping.common_bytes.Goals as goal
use Rattle.rart_below.proofs.mapping.sorted.SortedKeyedMapping.common_bytes.Goals.{then-is_some, else-is_some}

is_some-copied : {A : Type 0} (o : Option (Bor A)) → is_some o ≡ is_some (option_copied o)
is_some-copied None = refl
is_some-copied (Some x) = refl

pub loop-key-preserved : goal.loop-key-preserved
loop-key-preserved g c =
    λ byte.
    let keys = c.as_slice-key-items.result.now in
    let place = c.loop-key.key-index in
    let key = get_or keys place 0 in
    let within : place < length keys = omega (arith, c.loop-key-test.true) in
    let has : ℕ → Bool = λ k. is_some (child_at k (g.M.NodeMapping.children c.args.other.now)) in
    let held = holds_key byte (take place keys) in
    let next =
    ap (λ (n : ℕ). holds_key byte (take n keys)) (add-one place)
    ∙ holds-next byte place keys within in
    let found = c.is_some.ensures ∙ is_some-copied c.seek_child.result
    ∙ ap is_some c.seek_child.ensures in
    elim c.if-is_some.branch [
      | then-is_some w ↦
          ap (λ set. has_byte set byte) w.bytes-is
          ∙ w.insert.ensures byte
          ∙ ap (λ (t : Bool). byte == key || t) (c.loop-key.invariant byte)
          ∙ both-next byte key held has (sym found ∙ w.if-is_some.true)
          ∙ sym (ap (λ (t : Bool). t && has byte) next)
      | else-is_some w ↦
          ap (λ set. has_byte set byte) w.bytes-is
          ∙ c.loop-key.invariant byte
          ∙ both-skips byte key held has (sym found ∙ w.if-is_some.false)
          ∙ sym (ap (λ (t : Bool). t && has byte) next)
    ]

pub returns : goal.returns
returns g c =
    λ byte.
    let mapping = c.args.self.now in
    let keys = c.as_slice-key-items.result.now in
    let kept =
    kept_from_order g.row.WIDTH mapping.keys.items mapping.children.slots c.requires.order in
    let has = is_some (child_at byte (g.M.NodeMapping.children c.args.other.now)) in
    c.loop-key.invariant byte
    ∙ ap (λ (t : Bool). t && has) (ap (holds_key byte) (take_all c.loop-key.key-index keys
    (omega (arith, c.loop-key-test.false)) ∙ c.as_slice-key-items.ensures.value)
    ∙ keys-some byte mapping.keys.items mapping.children.slots kept.filled)
