use Rattle.std.proofs.Common.{rules, sym, ◌∙◌, ap, option_copied}
use Rattle.rart_below.proofs.SortedMappingLemmas.{rank-in_order, kept_from_order, found, absent}
use Rattle.rart_below.proofs.mapping.sorted.SortedKeyedMappingNodeMapping.seek_child.Goals as goal

pub place_of-requires : goal.place_of-requires
place_of-requires g c = (
  search rules,
  rank-in_order g.row.WIDTH c.args.byte c.args.self.now.keys.items
      c.args.self.now.children.slots c.requires,
)

pub returns-in_err-place : goal.returns-in_err-place
returns-in_err-place g c =
    let kept =
    kept_from_order g.row.WIDTH c.args.self.now.keys.items c.args.self.now.children.slots
    c.requires in
    let missing = c.in_err-place.ensures {u = tt} in
    ap option_copied c.from_residual.ensures ∙ sym (absent _ _ _ _ kept missing)

pub returns : goal.returns
returns g c =
    let kept =
    kept_from_order g.row.WIDTH c.args.self.now.keys.items c.args.self.now.children.slots
    c.requires in
    let place = c.in_ok-place.ensures in
    c.as_ref.ensures.value ∙ (sym c.index-self-place.is
    ∙ found _ _ _ _ _ _ kept place c.index-self-place.is)
