-- Where one more child makes no node: laws on what nodes are seen as.
use Rattle.std.specs.Prelude.{◌≡◌, ◌<◌, length}
use Rattle.rart_node.specs.Shape.{Shape, FitsWidth, IsFull, width_of, children_of, widenings}

-- An inner node that is not full has room for one more child.
abbrev pub InnerNodesHaveRoom : Type 0 → Type 0
InnerNodesHaveRoom V =
    (shape : Shape V) → FitsWidth shape → 0 < width_of shape → ¬ IsFull shape
    → widenings shape ≡ 0

-- An inner node with fewer than 4 children has room for one more.
abbrev pub FewChildrenLeaveRoom : Type 0 → Type 0
FewChildrenLeaveRoom V =
    (shape : Shape V) → FitsWidth shape → 0 < width_of shape → length (children_of shape) < 4
    → widenings shape ≡ 0
