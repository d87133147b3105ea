use Rattle.std.proofs.Common.{arith, ap, sym, ◌∙◌}
use Rattle.std.specs.Option.{option_map}
use Rattle.rart_node.specs.Seen.{shape_of}
use Rattle.rart_node.proofs.ContentLemmas.{in_order, some-in, child_at-seen, with_replaced-seen}
use Rattle.rart_node.proofs.node.VersionedNode.replace_child.Goals as goal

pub replace_child-requires : goal.replace_child-requires
replace_child-requires g c =
    let content = c.self.inside.content in
    let order = in_order content c.self.view_is c.requires.order in
    let present =
    some-in content c.self.view_is c.args.byte c.requires.order c.requires.present in
    (omega arith, (omega arith, (omega arith, (omega arith, (order, present)))))

pub returns-clause-seen : goal.returns-clause-seen
returns-clause-seen g c =
    with_replaced-seen c.self.inside.content c.self.view_is c.replace_child.new.self c.args.byte
    c.args.child c.requires.order c.replace_child.ensures.content

pub returns-clause-replaced : goal.returns-clause-replaced
returns-clause-replaced g c =
    ap (option_map shape_of) c.replace_child.ensures.replaced
    ∙ sym (child_at-seen c.self.inside.content c.self.view_is c.args.byte c.requires.order)
