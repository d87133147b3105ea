-- Rules by which maps and sets of byte strings that are written out compute.
use Rattle.std.specs.Cmp.Lexicographic.{nat_list_cmp_total}
use Rattle.std.specs.FinMap as finite
use Rattle.std.specs.FinSet as set
use Rattle.rart_maps.proofs.OrderLemmas.{byte_order-IsAntisymmetric}
use Rattle.rart_maps.proofs.PairLawLemmas.{pairs-empty}
use Rattle.rart_maps.proofs.SetLemmas.{retain-empty, retain-insert, intersection-empty, intersection-insert}

-- what a map has, and its pairs
pub ruleset maps =
    (pairs-empty, finite.entries-insert, finite.get-empty, finite.get-insert, nat_list_cmp_total)

-- what a set has, what a test keeps of it, what it has in common with another, and how many that is
pub ruleset sets = (
  retain-empty,
  retain-insert,
  intersection-empty,
  intersection-insert,
  set.contains-empty,
  set.contains-insert,
  set.len-empty,
  set.len-insert,
  nat_list_cmp_total,
  byte_order-IsAntisymmetric,
)
