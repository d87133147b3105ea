use Rattle.std.proofs.Common.{◌+◌, ap, arith, sym, ◌∙◌}
use Rattle.std.proofs.lemmas.Bool.{false≢true}
use Rattle.rart_node.proofs.ContentLemmas.{widenings-seen}
use Rattle.rart_node.proofs.RoomLemmas.{ready, added}
use Rattle.rart_node.proofs.WidthLemmas.{content_shape-not_full}
use Rattle.rart_node.proofs.node.VersionedNode.add_child.Goals as goal

pub returns-in_err-make_room-clause-made : goal.returns-in_err-make_room-clause-made
returns-in_err-make_room-clause-made g c =
    ap (λ w. w.made) c.make_room.ensures.work
    ∙ ap (λ k. c.args.work.now.made + k)
    (sym (widenings-seen c.self.inside.content c.self.view_is c.requires.order))

pub returns-in_err-make_room-clause-succeeds : goal.returns-in_err-make_room-clause-succeeds
returns-in_err-make_room-clause-succeeds g c none =
    absurd (false≢true (c.in_err-make_room.ensures.succeeds
    (content_shape-not_full c.self.inside.content c.self.view_is c.requires.order none)))

pub add_child-requires : goal.add_child-requires
add_child-requires g c =
    let roomy = (c.in_ok-make_room.ensures {u = tt}).ok in
    let is =
    ready c.self.inside.content c.self.view_is c.make_room.new.self c.args.byte c.args.child
    c.requires.order c.ranges.byte.fits c.requires.absent roomy in
    (omega arith, (omega arith, (omega arith, (omega arith, (is.order, (is.absent, is.room))))))

pub returns-clause-ok : goal.returns-clause-ok
returns-clause-ok g c =
    added c.self.inside.content c.self.view_is c.make_room.new.self c.add_child.new.self
    c.args.byte c.args.child c.requires.order (c.in_ok-make_room.ensures {u = tt}).ok
    c.add_child.ensures

pub returns-clause-made : goal.returns-clause-made
returns-clause-made g c =
    ap (λ w. w.made) c.make_room.ensures.work
    ∙ ap (λ k. c.args.work.now.made + k)
    (sym (widenings-seen c.self.inside.content c.self.view_is c.requires.order))
