-- What is known of two versions that are intersected, by their roots.
use Rattle.std.specs.Prelude.{◌≡◌, ◌⊎◌, ◌^◌, ◌-◌, ◌≤◌, ℕ, true, [], Option, Some, length}
use Rattle.rart_lockstep.specs.CommonPairs.{common_pairs, shared_of}
use Rattle.rart_maps.specs.Pairs.{common, shared}
use Rattle.rart_maps.specs.Versions.{Version, has_no_key}
use Rattle.rart_node.specs.Shape.{Shape}
use Rattle.rart_node.specs.Trees.{IsTree, pairs_of}
use Rattle.rart_walks.specs.Walks.{AreShort}

module _ {V : Type 0} where
  -- These are the trees of two versions, whose keys are no longer than that: what the trees have in
  -- common and share is what the versions do.
  pub record AreRoots (most : Option ℕ) (left right : Shape V) (one other : Version V)
      : Type 0 where
    pub left_tree : IsTree left
    pub right_tree : IsTree right
    pub admitted : AreShort most (pairs_of left)
    pub short : AreShort (Some (2 ^ 64 - 1)) (pairs_of left)
    pub common_pairs_are : common_pairs left right ≡ common one.content other.content
    pub shared_are : shared_of left right ≡ shared one.content other.content
    pub few : length (common_pairs left right) ≤ one.number

  -- Either has no key, and so they have none in common.
  pub record HaveNoCommon (one other : Version V) : Type 0 where
    pub lacking : (has_no_key one ≡ true) ⊎ (has_no_key other ≡ true)
    pub none : common one.content other.content ≡ []
