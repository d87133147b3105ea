-- The next steps of a way down two trees.
use Rattle.std.specs.Prelude.{ℕ, List, [], ◌∷◌, Some, None}
use Rattle.rart_node.specs.Shape.{Shape, prefix_of}
use Rattle.rart_lockstep.specs.declared.branches.Branches.{Branches}
use Rattle.rart_lockstep.specs.declared.branches.Branches.TheVariants.{Left, Right, Both}
use Rattle.rart_lockstep.specs.ChildFields.{pairs_left}
use Rattle.rart_lockstep.specs.TreeCursorFields.{cursor_shape}

-- the first byte, where there is one
abbrev pub first_byte : List ℕ → ℕ
first_byte [] = 0
first_byte (b ∷ w) = b

-- `partial` is what is known of prefixes, which the type takes for its ghost field
module _ {P V : Type 0} {partial : _} where
  -- each byte that leads on in both, with what it leads to on either side
  abbrev pub branches_left : Branches P V partial → List (ℕ × (Shape V × Shape V))
  branches_left (Left None) = []
  branches_left (Left (Some step)) = (
    first_byte (prefix_of (cursor_shape step.1)),
    (step.0.now.shape, cursor_shape step.1),
  ) ∷ []
  branches_left (Right None) = []
  branches_left (Right (Some step)) = (
    first_byte (prefix_of (cursor_shape step.0)),
    (cursor_shape step.0, step.1.now.shape),
  ) ∷ []
  branches_left (Both children) = pairs_left children

  -- how many nodes the next step enters: the child of one side, or that of either
  abbrev pub nodes_a_step : Branches P V partial → ℕ
  nodes_a_step (Left step) = 1
  nodes_a_step (Right step) = 1
  nodes_a_step (Both children) = 2
