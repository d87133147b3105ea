-- The map of a tree has the values that are found in it.
use Rattle.std.proofs.Common.{◌≡◌, ℕ, List, Option, Some, None, sym, subst, ◌∙◌}
use Rattle.std.specs.Prelude.{T}
use Rattle.std.proofs.lemmas.Cmp.{nat_list_cmp_total}
use Rattle.std.specs.FinMap as finite
use Rattle.std.specs.FinMap.Entries.{same_entries}
use Rattle.rart_below.specs.Bytes.{byte_order}
use Rattle.rart_node.specs.Shape.{Shape}
use Rattle.rart_node.specs.Trees.{pairs_of}
use Rattle.rart_node.proofs.PairLemmas.{find-pairs}
use Rattle.rart_node.proofs.PairOrderLemmas.{sorted-pairs}
use Rattle.rart_maps.specs.Pairs.{pairs}
use Rattle.rart_maps.proofs.OrderLemmas.{byte_order-IsAntisymmetric}
use Rattle.rart_maps.proofs.PairLawLemmas.{pairs-empty}
use Rattle.rart_versioned.specs.Roots.{found_in, map_of, pairs_in, IsTreeIn}

module _ {V : Type 0} where
  pub get-found : (o : Option (Shape V)) (q : List ℕ) → IsTreeIn o
      → finite.get (map_of o) q ≡ found_in o q
  get-found None q tree = finite.get-empty byte_order q
  get-found (Some root) q tree = finite.get-from_entries nat_list_cmp_total (pairs_of root) q
      ∙ find-pairs root q tree

  -- The pairs of the map are those of the tree, in the order of the tree.
  pub pairs-map : (o : Option (Shape V)) → IsTreeIn o → pairs (map_of o) ≡ pairs_in o
  pairs-map None tree = pairs-empty V
  pairs-map (Some root) tree =
      same_entries byte_order nat_list_cmp_total byte_order-IsAntisymmetric
      (pairs (map_of (Some root))) (pairs_of root)
      (finite.entries_sorted (map_of (Some root))) (subst T (sym (sorted-pairs root tree)) tt)
      (λ q. sym (finite.get-entries (map_of (Some root)) q)
      ∙ finite.get-from_entries nat_list_cmp_total (pairs_of root) q)
