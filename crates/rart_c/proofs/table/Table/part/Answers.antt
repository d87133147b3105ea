use Rattle.std.proofs.Common.{◌∙◌, Err, ap, arith, subst, sym}
use Rattle.rart_c.proofs.DifferenceLemmas.{few-items, items-ascend, items-counted, keys-of}
use Rattle.rart_c.proofs.table.Table.part.Goals as goal
use Rattle.rart_c.specs.Differences.{ArePairsOf, by_key}

pub from_sorted_at-requires : goal.from_sorted_at-requires
from_sorted_at-requires g c =
    let list = by_key {V = g.row.V.Denot} c.args.pairs.items in
    let of = subst (λ it. ArePairsOf it.version.content list) (sym c.self.view_is) c.requires in
    let few = few-items c.self.inside.tree.content c.args.pairs.items of in
    let most = c.version.ensures.few in
    omega (arith, few, most)

pub invariant_of-result : goal.invariant_of-result
invariant_of-result g c =
    let list = by_key {V = g.row.V.Denot} c.args.pairs.items in
    let of = subst (λ it. ArePairsOf it.version.content list) (sym c.self.view_is) c.requires in
    record {
      count = c.len-len.ensures ∙ c.args.pairs.ok.0
          ∙ items-counted c.self.inside.tree.content c.args.pairs.items of
          c.in-Ok.tree.content c.in-Ok.ensures.pairs;
      limit = λ key there. c.self.invariant.limit key
          (keys-of c.self.inside.tree.content list of c.in-Ok.tree.content c.in-Ok.ensures.pairs
          key there);
    }

pub unreachable-requires : goal.unreachable-requires
unreachable-requires g c =
    let list = by_key {V = g.row.V.Denot} c.args.pairs.items in
    let of = subst (λ it. ArePairsOf it.version.content list) (sym c.self.view_is) c.requires in
    items-ascend c.self.inside.tree.content c.args.pairs.items of
    c.in-Err-NotAscending.field-0-0
    (c.from_sorted_at.ensures.disorder c.in-Err-NotAscending.field-0-0
    (c.in-Err-NotAscending.is ∙ ap Err c.in-Err-NotAscending.field-0-is))
