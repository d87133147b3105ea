use Rattle.std.proofs.Common.{◌+◌, length, ap, ◌∙◌, arith}
use Rattle.rart_below.specs.ByteSets.{has_byte}
use Rattle.rart_node.specs.Shape.{children_of, prefix_of, value_of}
use Rattle.rart_algebra.proofs.AmongLemmas.{among-few, if-both}
use Rattle.rart_algebra.proofs.GainLemmas.{keeps-whole, room-made}
use Rattle.rart_algebra.proofs.gain.with_room_for.Goals as goal

pub made_among-requires-clause-room : goal.made_among-requires-clause-room
made_among-requires-clause-room g c =
    let few = among-few (has_byte c.bytes.result) (children_of c.node_now-now.result.now.shape) in
    let count = c.num_children.ensures.count in
    omega (arith, few, count)

pub returns-clause-room : goal.returns-clause-room
returns-clause-room g c =
    let now = c.node_now-now.result.now.shape in
    let is = c.node_now-now.ensures in
    let all = keeps-whole c.bytes.result now c.bytes.ensures in
    if-both c.made_among.result
    (λ copy keeps width. record {
      prefix = keeps.prefix ∙ ap prefix_of is;
      value = keeps.value ∙ ap value_of is;
      children = keeps.children ∙ all ∙ ap children_of is;
      room = room-made copy.shape (c.num_children.result + c.args.count) c.args.count width
          (let count = c.num_children.ensures.count in
          let same = ap length (keeps.children ∙ all) in
          omega (arith, count, same));
    }) c.made_among.ensures.kept c.made_among.ensures.width
