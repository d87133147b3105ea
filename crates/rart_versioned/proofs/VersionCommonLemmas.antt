-- What two trees have in common and share, in the words of the maps that their roots stand for.
use Rattle.std.proofs.Common.{◌≡◌, ℕ, List, Some}
use Rattle.std.specs.List.{filter_map}
use Rattle.std.specs.Option.{option_map}
use Rattle.std.specs.FinSet as set
use Rattle.rart_maps.specs.Pairs.{common, shared}
use Rattle.rart_node.specs.Shape.{Shape}
use Rattle.rart_node.specs.Trees.{IsTree}
use Rattle.rart_lockstep.specs.CommonPairs.{common_pairs, starts_of, shared_of}
use Rattle.rart_versioned.specs.Roots.{map_of}
use Rattle.rart_versioned.proofs.VersionMapLemmas.{get-found, pairs-map}

module _ {V : Type 0} (left right : Shape V) (tree : IsTree left) (also : IsTree right) where
  pub common-roots : common (map_of (Some left)) (map_of (Some right)) ≡ common_pairs left right
  common-roots = λ i. filter_map {Y = List ℕ × V × V}
      (λ pair. option_map (λ x. (pair.0, pair.1, x)) (get-found (Some right) pair.0 also i))
      (pairs-map (Some left) tree i)

  pub shared-roots : shared (map_of (Some left)) (map_of (Some right)) ≡ shared_of left right
  shared-roots = λ i. set.intersection (starts_of (pairs-map (Some left) tree i))
      (starts_of (pairs-map (Some right) also i))
