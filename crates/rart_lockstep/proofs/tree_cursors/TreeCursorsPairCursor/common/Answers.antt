use Rattle.std.proofs.Common.{rules, ◌≡◌, false, length}
use Rattle.std.specs.Prelude.{nat_lt}
use Rattle.rart_node.specs.Shape.{prefix_of}
use Rattle.rart_lockstep.specs.TreeCursorFields.{cursor_shape}
use Rattle.rart_lockstep.proofs.TreeCursorLemmas.{common-ends_left, common-ends_right}
use Rattle.rart_lockstep.proofs.tree_cursors.TreeCursorsPairCursor.common.Goals as goal

pub returns-then-not-is_longer : goal.returns-then-not-is_longer
returns-then-not-is_longer g c =
    let s = cursor_shape c.args.self.now.left in
    let t = cursor_shape c.args.self.now.right in
    let ends : nat_lt c.common_with-common.result (length (prefix_of s)) ≡ false = search rules in
    common-ends_left s t _ c.common_with-common.ensures ends

pub returns-then-not-is_longer-2 : goal.returns-then-not-is_longer-2
returns-then-not-is_longer-2 g c =
    let s = cursor_shape c.args.self.now.left in
    let t = cursor_shape c.args.self.now.right in
    let ends : nat_lt c.common_with-common.result (length (prefix_of t)) ≡ false = search rules in
    common-ends_right s t _ c.common_with-common.ensures ends
