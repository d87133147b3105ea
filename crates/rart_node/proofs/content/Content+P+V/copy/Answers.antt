use Rattle.std.proofs.Common.{ap, sym, ◌∙◌}
use Rattle.rart_node.specs.Contents.{content_shape}
use Rattle.rart_node.specs.NodeShapes.{shapes_of_content}
use Rattle.rart_node.proofs.CopyLemmas.{content_shape-copies}
use Rattle.rart_node.proofs.content.Content+P+V.copy.Goals as goal

pub returns-in_ok-clone-in-Node4 : goal.returns-in_ok-clone-in-Node4
returns-in_ok-clone-in-Node4 g c =
    let copied = (c.in_ok-clone-in-Node4.ensures {u = tt}).cases in
    content_shape-copies 4 _ _ _ _ copied.0 copied.1
    ∙ ap (λ k. shapes_of_content (content_shape k)) (sym c.in-Node4.is)

pub returns-in_ok-clone-in-Node16 : goal.returns-in_ok-clone-in-Node16
returns-in_ok-clone-in-Node16 g c =
    let copied = (c.in_ok-clone-in-Node16.ensures {u = tt}).cases in
    rw c.new.ensures (content_shape-copies 16 _ _ _ _ copied.0 copied.1
    ∙ ap (λ k. shapes_of_content (content_shape k)) (sym c.in-Node16.is))

pub returns-in_ok-clone-in-Node48 : goal.returns-in_ok-clone-in-Node48
returns-in_ok-clone-in-Node48 g c =
    let copied = (c.in_ok-clone-in-Node48.ensures {u = tt}).cases in
    rw c.new-in-Node48.ensures (content_shape-copies 48 _ _ _ _ copied.0 copied.1
    ∙ ap (λ k. shapes_of_content (content_shape k)) (sym c.in-Node48.is))

pub returns-in_ok-clone-in-Node256 : goal.returns-in_ok-clone-in-Node256
returns-in_ok-clone-in-Node256 g c =
    let copied = (c.in_ok-clone-in-Node256.ensures {u = tt}).cases in
    rw c.new-in-Node256.ensures
    (content_shape-copies 256 _ _ _ _ copied.0 copied.1
    ∙ ap (λ k. shapes_of_content (content_shape k)) (sym c.in-Node256.is))
