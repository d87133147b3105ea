use Rattle.std.proofs.Common.{subst}
use Rattle.rart_c.proofs.DifferenceLemmas.{combined}
use Rattle.rart_c.proofs.table.Table.intersection.Goals as goal
use Rattle.rart_c.specs.Differences.{ArePairsOf, by_key, intersection}
use Rattle.std.specs.FinMap as finite

pub part-requires : goal.part-requires
part-requires g c =
    subst
    (λ it. ArePairsOf it.version.content (by_key {V = g.row.V.Denot} c.in_ok-pairs.pairs.items))
    c.self.view_is
    (finite.contains_key c.other.inside.tree.content, c.in_ok-pairs.ensures)

pub returns : goal.returns
returns g c =
    combined intersection _ _ _ _ _ c.part.result c.self.view_is c.other.view_is
    c.in_ok-pairs.ensures c.part.ensures.pairs c.part.ensures.others
