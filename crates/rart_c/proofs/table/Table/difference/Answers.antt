use Rattle.std.proofs.Common.{subst}
use Rattle.rart_c.proofs.DifferenceLemmas.{combined}
use Rattle.rart_c.proofs.table.Table.difference.Goals as goal
use Rattle.rart_c.specs.Differences.{ArePairsOf, by_key, difference}
use Rattle.std.specs.FinMap as finite
use Rattle.rart_maps.specs.ChangeLists.{differ}

pub part-requires : goal.part-requires
part-requires g c =
    subst
    (λ it. ArePairsOf it.version.content (by_key {V = g.row.V.Denot} c.in_ok-pairs.pairs.items))
    c.self.view_is (
      λ key. differ g.V.PartialEq.eq (finite.get c.self.inside.tree.content key)
          (finite.get c.other.inside.tree.content key),
      c.in_ok-pairs.ensures,
    )

pub returns : goal.returns
returns g c =
    combined (difference g.V.PartialEq.eq) _ _ _ _ _ c.part.result c.self.view_is c.other.view_is
    c.in_ok-pairs.ensures c.part.ensures.pairs c.part.ensures.others
