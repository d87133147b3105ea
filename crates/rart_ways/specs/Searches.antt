-- What searches along a key find, and how many nodes they enter.
use Rattle.std.specs.Prelude.{ℕ, ◌+◌, ◌≤◌, List, filter, length}
use Rattle.rart_below.specs.Bytes.{begins}
use Rattle.rart_node.specs.Counts.{Counts}
use Rattle.rart_node.specs.Shape.{Shape}
use Rattle.rart_node.specs.Trees.{pairs_of}

module _ {V : Type 0} where
  -- the pairs of a tree whose keys begin the probe, the shortest first
  abbrev pub prefix_matches : List ℕ → Shape V → List (List ℕ × V)
  prefix_matches probe s = filter (λ pair. begins pair.0 probe) (pairs_of s)

  -- One node at least was entered for each of these pairs.
  abbrev pub EntersEach : List (List ℕ × V) → Counts → Counts → Type 0
  EntersEach pairs start now = start.entered + length pairs ≤ now.entered
