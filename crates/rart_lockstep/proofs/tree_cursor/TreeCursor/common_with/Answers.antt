use Rattle.std.proofs.Common.{ap, ◌∙◌, sym, ⊎_elim}
use Rattle.rart_below.specs.Bytes.{common_length}
use Rattle.rart_node.specs.Shape.{prefix_of}
use Rattle.rart_lockstep.specs.TreeCursorFields.{cursor_shape}
use Rattle.rart_lockstep.proofs.TreeCursorLemmas.{common_length-swaps, whole-prefix}
use Rattle.rart_lockstep.proofs.tree_cursor.TreeCursor.common_with.Goals as goal

pub returns-else-self-eq0 : goal.returns-else-self-eq0
returns-else-self-eq0 g c =
    let one = prefix_of (cursor_shape c.args.self.now) in
    let node = c.args.other.now.node.now.shape in
    let read = c.prefix_length_slice-else-self-eq0.ensures in
    ⊎_elim (λ none. absurd (c.if-self-eq0.false none))
    (λ none. read
    ∙ (λ i. common_length (c.prefix-else-self-eq0.ensures i) (c.rest-else-self-eq0.ensures i))
    ∙ common_length-swaps (prefix_of node) one
    ∙ ap (common_length one) (sym (whole-prefix node _ none)))
    c.requires.whole
