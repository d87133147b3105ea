use Rattle.std.proofs.Common.{ℕ, [], length, refl, sym, ap, ◌∙◌, arith}
use Rattle.rart_below.specs.ByteSets.{has_byte}
use Rattle.rart_node.specs.Shape.{children_of, node_of, with_added, width_for}
use Rattle.rart_algebra.proofs.AmongLemmas.{among-next, filled-absent, filled-all, filled-next, filled-none, filled-order, filled-room, filled-width, have-less, no-work}
use Rattle.rart_algebra.proofs.among.made_among.Goals as goal

pub adding-init : goal.adding-init
adding-init g c =
    let s = c.args.node.now.shape in
    let same = λ (byte : ℕ). ap (λ z. has_byte z byte) c.new-left.ensures ∙ c.again.ensures byte in
    record {
      there = λ byte has. c.requires.there byte (sym (same byte) ∙ has);
      filled = filled-none s c.args.bytes.now c.args.count c.new-left.result.left same
          c.in_ok-made.made.shape
          (c.in_ok-made.ensures
          ∙ (λ i. node_of ((c.in_ok-prefix.ensures ∙ c.prefix.ensures) i) (c.in_ok-value.ensures i)
          (width_for c.args.count) []));
      still = refl;
    }

pub add_child-requires-clause-order : goal.add_child-requires-clause-order
add_child-requires-clause-order g c =
    filled-order c.args.node.now.shape c.args.bytes.now c.args.count c.requires.order
    c.adding.left.left c.adding.made.shape c.adding.invariant.filled

pub add_child-requires-clause-absent : goal.add_child-requires-clause-absent
add_child-requires-clause-absent g c =
    filled-absent c.args.node.now.shape c.args.bytes.now c.args.count c.requires.order
    c.requires.room c.adding.left.left c.take_first.new.self.left c.in-Some.byte c.in-Some.ensures
    c.in-Some-seek_child.child.now.shape c.adding.made.shape (sym c.in-Some-seek_child.ensures)
    c.adding.invariant.filled

pub adding-smaller : goal.adding-smaller
adding-smaller g c =
    let next = ap length (among-next c.adding.left.left c.take_first.new.self.left c.in-Some.byte
    c.in-Some.ensures c.in-Some-seek_child.child.now.shape (children_of c.args.node.now.shape)
    c.requires.order (sym c.in-Some-seek_child.ensures)) in
    omega (arith, next)

pub adding-preserved : goal.adding-preserved
adding-preserved g c =
    let s = c.args.node.now.shape in
    let child = c.in-Some-seek_child.child.now.shape in
    let now = c.adding.made.shape in
    let here = sym c.in-Some-seek_child.ensures in
    let filled = c.adding.invariant.filled in
    let ahead = c.adding.left.left in
    let rest = c.take_first.new.self.left in
    let room = filled-room s c.args.bytes.now c.args.count c.requires.order c.requires.room ahead
    rest c.in-Some.byte c.in-Some.ensures child now here filled in
    let made = c.in_ok-add_child.ensures.made in
    record {
      there = have-less ahead rest c.in-Some.byte c.in-Some.ensures (children_of s)
          c.adding.invariant.there;
      filled = filled-next s c.args.bytes.now c.args.count c.requires.order c.requires.room ahead
          rest c.in-Some.byte c.in-Some.ensures child now here filled c.add_child.new.self.shape
          (c.in_ok-add_child.ensures.ok
          ∙ ap (λ z. with_added c.in-Some.byte z now) c.in_ok-copy.ensures);
      still = no-work c.adding.work c.add_child.new.work c.in_ok-add_child.ensures.entered
          (omega (arith, made, room)) ∙ c.adding.invariant.still;
    }

pub returns-in_err-add_child-clause-still : goal.returns-in_err-add_child-clause-still
returns-in_err-add_child-clause-still g c =
    let made = c.in_err-add_child.ensures.made in
    let room = filled-room c.args.node.now.shape c.args.bytes.now c.args.count c.requires.order
    c.requires.room c.adding.left.left c.take_first.new.self.left c.in-Some.byte c.in-Some.ensures
    c.in-Some-seek_child.child.now.shape c.adding.made.shape (sym c.in-Some-seek_child.ensures)
    c.adding.invariant.filled in
    no-work c.adding.work c.add_child.new.work c.in_err-add_child.ensures.entered
    (omega (arith, made, room)) ∙ c.adding.invariant.still

pub returns-clause-kept : goal.returns-clause-kept
returns-clause-kept g c =
    filled-all c.args.node.now.shape c.args.bytes.now c.args.count c.adding.left.left
    c.in_default.ensures.1 c.adding.made.shape c.adding.invariant.filled

pub returns-clause-width : goal.returns-clause-width
returns-clause-width g c =
    filled-width c.args.node.now.shape c.args.bytes.now c.args.count c.adding.left.left
    c.adding.made.shape c.adding.invariant.filled
