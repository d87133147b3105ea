use Rattle.std.proofs.Common.{rules}
use Rattle.std.specs.Option.{option_copied}
use Rattle.rart_node.proofs.ContentLemmas.{in_order, last-of-all, last-seen, shape-copied}
use Rattle.rart_node.proofs.node.VersionedNode.last_child_below.Goals as goal

pub cursor_below-cursor-requires : goal.cursor_below-cursor-requires
cursor_below-cursor-requires g c =
    let order = in_order c.self.inside.content c.self.view_is c.requires in search rules

pub returns : goal.returns
returns g c =
    let from = c.cursor_below-cursor.result in
    rw (shape-copied c.prev_child.result) (record {
      below =
          last-seen c.self.inside.content c.self.view_is c.args.end from _
          (option_copied c.prev_child.result) c.requires c.cursor_below-cursor.ensures.below
          c.prev_child.ensures;
      all = λ past.
          last-of-all c.self.inside.content c.self.view_is from _
          (option_copied c.prev_child.result) c.requires (c.cursor_below-cursor.ensures.all past)
          c.prev_child.ensures;
    })
