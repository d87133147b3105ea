use Rattle.std.proofs.Common.{◌≡◌, length, sym, ap, ◌∙◌}
use Rattle.rart_below.specs.Bytes.{common_length}
use Rattle.rart_node.specs.Shape.{prefix_of}
use Rattle.rart_lockstep.specs.TreeCursorFields.{cursor_shape}
use Rattle.rart_lockstep.proofs.PairLeafLemmas.{common-self, same-from-common}
use Rattle.rart_lockstep.proofs.tree_cursors.TreeCursorsPairCursor.same.Goals as goal
use Rattle.rart_lockstep.proofs.tree_cursors.TreeCursorsPairCursor.same.Goals.{else-rest-len-via-then-rest-len+else-common_length-len, else-rest-len-via-else-rest-len}

pub returns-then-common_length-len : goal.returns-then-common_length-len
returns-then-common_length-len g c =
    let p = prefix_of (cursor_shape c.args.self.now.left) in
    let q = prefix_of (cursor_shape c.args.self.now.right) in
    let len : length c.rest-len.result.now ≡ length p = ap length c.rest-len.ensures in
    let long : length q ≡ length p =
    sym (ap length c.rest.ensures) ∙ (c.if-rest-len.true ∙ len) in
    let all : common_length p q ≡ length p =
    sym c.common_length.ensures ∙ (c.if-common_length-len.true ∙ len) in
    (same-from-common p q long all, len)

pub returns-else-rest-len : goal.returns-else-rest-len
returns-else-rest-len g c =
    let p = prefix_of (cursor_shape c.args.self.now.left) in
    λ same. elim c.else-rest-len.branch [
      | else-rest-len-via-then-rest-len+else-common_length-len w ↦
          w.if-common_length-len.false (w.common_length.ensures
          ∙ (ap (common_length p) (sym same) ∙ (common-self p
          ∙ sym (ap length c.rest-len.ensures))))
      | else-rest-len-via-else-rest-len w ↦
          w.if-rest-len.false (ap length c.rest.ensures
          ∙ (sym (ap length same) ∙ sym (ap length c.rest-len.ensures)))
    ]
