use Rattle.std.proofs.Common.{rules, ap, refl, sym, ◌∙◌}
use Rattle.rart_below.proofs.SortedMappingLemmas.{rank-in_order, kept_from_order, absent, found, replaced}
use Rattle.rart_below.proofs.LentLemmas.{of_lent, set_as_was}
use Rattle.rart_below.proofs.mapping.sorted.SortedKeyedMappingNodeMapping.seek_child_mut.Goals as goal

pub place_of-requires : goal.place_of-requires
place_of-requires g c = (
  search rules,
  rank-in_order g.row.WIDTH c.args.byte c.args.self.now.keys.items
      c.args.self.now.children.slots c.requires,
)

pub returns-in_default : goal.returns-in_default
returns-in_default g c =
    let mapping = c.args.self.now in
    let kept = kept_from_order g.row.WIDTH mapping.keys.items mapping.children.slots c.requires in
    let missing = c.in_default.ensures {u = tt} in (
      (refl, (λ left. tt), refl),
      record {
        writes_back = tt;
        value = sym (absent _ c.args.byte _ _ kept missing);
      },
    )

pub returns : goal.returns
returns g c =
    let mapping = c.args.self.now in
    let keys = mapping.keys.items in
    let slots = mapping.children.slots in
    let slot = c.slot_mut.result.now in
    let was = c.slot_mut.ensures.value in
    let copied = c.as_mut.ensures.value in
    let kept = kept_from_order g.row.WIDTH keys slots c.requires in
    let place = c.in-Some.ensures {u = tt} in
    let written =
    λ (left : g.row.C.Denot). of_lent c.as_mut.result slot _ copied
    (λ child held. replaced _ c.args.byte left keys slots _ c.in-Some.place kept place refl) in
    let as_was =
    ap (λ ended. record mapping { children = record { slots = ended } })
    (set_as_was slots c.in-Some.place slot was) in (
      (refl, written, as_was),
      record {
        writes_back = tt;
        value = copied ∙ found _ c.args.byte _ _ _ slot kept place was;
      },
    )
