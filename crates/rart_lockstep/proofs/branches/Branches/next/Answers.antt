use Rattle.std.proofs.Common.{◌∙◌, rules}
use Rattle.rart_node.specs.Shape.{prefix_of}
use Rattle.rart_lockstep.specs.Branches.{first_byte}
use Rattle.rart_lockstep.specs.TreeCursorFields.{cursor_shape}
use Rattle.rart_lockstep.proofs.branches.Branches.next.Goals as goal

pub returns-in_ok-child-in-Left-clause-takes : goal.returns-in_ok-child-in-Left-clause-takes
returns-in_ok-child-in-Left-clause-takes g c =
    let byte = first_byte (prefix_of (cursor_shape c.in_ok-child-in-Left.right)) in
    let shown = c.whole-left.ensures.shape ∙ c.open.ensures.shown in
    (byte, search (rules, shown))

pub returns-in_ok-left-in-Right-clause-takes : goal.returns-in_ok-left-in-Right-clause-takes
returns-in_ok-left-in-Right-clause-takes g c =
    let byte = first_byte (prefix_of (cursor_shape c.in_ok-left-in-Right.left)) in
    let shown = c.whole-right.ensures.shape ∙ c.open-in-Right.ensures.shown in
    (byte, search (rules, shown))
