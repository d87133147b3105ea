use Rattle.std.proofs.Common.{◌≡◌, ◌++◌, [], ℕ, List, None, length}
use Rattle.rart_walks.specs.Frames.{OpenNode, AreSpent}
use Rattle.rart_walks.specs.WalkFields.{AreMarked, and_inner, open_nodes}
use Rattle.rart_walks.proofs.walk.take_ahead.Given as goal

abbrev pub invariant-leaving : goal.invariant-leaving
invariant-leaving g l =
    record {
      spent : (left : List (OpenNode g.row.V.Denot)) × AreSpent left
          × (open_nodes (and_inner l.initial.outer.items l.initial.inner)
          ≡ open_nodes (and_inner l.outer.items l.inner) ++ left);
      marked : (extent : List (List ℕ) → ℕ)
          → AreMarked extent [] (and_inner l.initial.outer.items l.initial.inner)
          → AreMarked extent [] (and_inner l.outer.items l.inner);
      innermost : l.inner ≡ None → l.outer.items ≡ [];
    }

abbrev pub decreases-leaving : goal.decreases-leaving
decreases-leaving g l = length (and_inner l.outer.items l.inner)
