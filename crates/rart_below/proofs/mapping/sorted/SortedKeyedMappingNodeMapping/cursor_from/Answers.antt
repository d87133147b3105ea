use Rattle.std.proofs.Common.{rules, ap, drop, ℕ, ◌∙◌}
use Rattle.rart_below.specs.SortedKeyedMapping.{sorted_children}
use Rattle.rart_below.proofs.SortedMappingLemmas.{kept_from_order, left_at-rank, rank-in_order}
use Rattle.rart_below.proofs.mapping.sorted.SortedKeyedMappingNodeMapping.cursor_from.Goals as goal

pub rank_of-requires : goal.rank_of-requires
rank_of-requires g c = (
  search rules,
  rank-in_order g.row.WIDTH c.args.least c.args.self.now.keys.items
      c.args.self.now.children.slots c.requires,
)

pub returns : goal.returns
returns g c =
    let mapping = c.args.self.now in
    let kept = kept_from_order g.row.WIDTH mapping.keys.items mapping.children.slots c.requires in
    ap (λ (n : ℕ). drop n (sorted_children mapping)) c.rank_of.ensures.value
    ∙ left_at-rank g.row.WIDTH c.args.least mapping.keys.items mapping.children.slots kept
