use Rattle.std.proofs.Common.{rules, arith, ap, take, ℕ, ◌∙◌}
use Rattle.std.proofs.lemmas.List.{take_all}
use Rattle.rart_below.specs.SortedKeyedMapping.{sorted_children}
use Rattle.rart_below.proofs.SortedMappingLemmas.{before-rank, kept_from_order, length-kept, rank-in_order}
use Rattle.rart_below.proofs.mapping.sorted.SortedKeyedMappingNodeMapping.cursor_below.Goals as goal

pub rank_from-requires : goal.rank_from-requires
rank_from-requires g c = (
  search rules,
  λ byte. rank-in_order g.row.WIDTH byte c.args.self.now.keys.items
      c.args.self.now.children.slots c.requires,
)

pub returns : goal.returns
returns g c =
    let mapping = c.args.self.now in
    let kept = kept_from_order g.row.WIDTH mapping.keys.items mapping.children.slots c.requires in
    record {
      below =
          ap (λ (n : ℕ). take n (sorted_children mapping)) c.rank_from.ensures.value
          ∙ before-rank g.row.WIDTH c.args.end mapping.keys.items mapping.children.slots kept;
      all = λ past.
          let count = c.rank_from.ensures.all past in
          let long = length-kept g.row.WIDTH mapping.keys.items mapping.children.slots kept in
          take_all c.rank_from.result (sorted_children mapping) (omega (arith, count, long));
    }
