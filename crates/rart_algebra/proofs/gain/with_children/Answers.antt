use Rattle.std.proofs.Common.{length, refl, sym, ap, ◌∙◌, arith}
use Rattle.rart_node.specs.Shape.{children_of, with_added}
use Rattle.rart_node.proofs.FindLemmas.{ascending}
use Rattle.rart_algebra.proofs.AmongLemmas.{among-next, no-work}
use Rattle.rart_algebra.proofs.GainLemmas.{joining-next, joining-none, joining-room}
use Rattle.rart_algebra.proofs.gain.with_children.Goals as goal

pub adding-init : goal.adding-init
adding-init g c = record {
  joining = joining-none c.args.bytes c.args.other.now.shape c.args.node.shape
      c.new-left.result.left c.new-left.ensures c.requires.order c.requires.there
      c.requires.absent c.requires.room;
  still = refl;
}

pub adding-smaller : goal.adding-smaller
adding-smaller g c =
    let other = c.args.other.now.shape in
    let next = ap length (among-next c.adding.left.left c.take_first.new.self.left
    c.in-Some.byte c.in-Some.ensures c.in-Some-seek_child.child.now.shape (children_of other)
    (ascending other c.requires.other_order) (sym c.in-Some-seek_child.ensures)) in
    omega (arith, next)

pub adding-preserved : goal.adding-preserved
adding-preserved g c =
    let other = c.args.other.now.shape in
    let child = c.in-Some-seek_child.child.now.shape in
    let now = c.adding.joined.shape in
    let here = sym c.in-Some-seek_child.ensures in
    let joining = c.adding.invariant.joining in
    let ahead = c.adding.left.left in
    let rest = c.take_first.new.self.left in
    let room = joining-room c.args.bytes other c.args.node.shape c.requires.other_order ahead rest
    c.in-Some.byte c.in-Some.ensures child now here joining in
    let made = c.in_ok-add_child.ensures.made in
    record {
      joining = joining-next c.args.bytes other c.args.node.shape c.requires.other_order ahead rest
          c.in-Some.byte c.in-Some.ensures child now here joining c.add_child.new.self.shape
          (c.in_ok-add_child.ensures.ok
          ∙ ap (λ z. with_added c.in-Some.byte z now) c.in_ok-copy.ensures);
      still = no-work c.adding.work c.add_child.new.work c.in_ok-add_child.ensures.entered
          (omega (arith, made, room)) ∙ c.adding.invariant.still;
    }

pub returns-in_err-add_child-clause-still : goal.returns-in_err-add_child-clause-still
returns-in_err-add_child-clause-still g c =
    let room = joining-room c.args.bytes c.args.other.now.shape c.args.node.shape
    c.requires.other_order c.adding.left.left c.take_first.new.self.left
    c.in-Some.byte c.in-Some.ensures c.in-Some-seek_child.child.now.shape c.adding.joined.shape
    (sym c.in-Some-seek_child.ensures) c.adding.invariant.joining in
    let made = c.in_err-add_child.ensures.made in
    no-work c.adding.work c.add_child.new.work c.in_err-add_child.ensures.entered
    (omega (arith, made, room)) ∙ c.adding.invariant.still
