use Rattle.std.proofs.Common.{◌≡◌, ◌-◌, suc, length, refl, arith}
use Rattle.std.specs.Prelude.{min}
use Rattle.rart_below.proofs.SortedMappingLemmas.{kept_from_order, last_taken}
use Rattle.rart_below.proofs.mapping.sorted.SortedKeyedMappingNodeMapping.prev_child.Goals as goal

pub returns : goal.returns
returns g c =
    let mapping = c.args.self.now in
    let keys = mapping.keys.items in
    let kept = kept_from_order g.row.WIDTH keys mapping.children.slots c.requires in
    let last : min (length keys) c.args.end.now ≡ suc (c.min-places.result - 1) =
    grind (arith, c.len.ensures.value, c.min-places.ensures, c.if-places-eq0.false) in
    rw c.as_ref.ensures.value
    (last_taken g.row.WIDTH c.args.end.now keys mapping.children.slots (c.min-places.result - 1) _
    c.index-self-places.result kept last refl)
