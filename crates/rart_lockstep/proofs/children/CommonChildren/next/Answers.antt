use Rattle.std.proofs.Common.{sym}
use Rattle.rart_below.specs.ByteSets.{has_byte}
use Rattle.rart_node.specs.Shape.{children_of}
use Rattle.rart_lockstep.specs.Children.{common_children}
use Rattle.rart_lockstep.proofs.ChildLemmas.{where-none, where-next}
use Rattle.rart_lockstep.proofs.children.CommonChildren.next.Goals as goal

pub returns-in_err-byte : goal.returns-in_err-byte
returns-in_err-byte g c =
    let left = children_of c.args.self.now.left.now.shape in
    let right = children_of c.args.self.now.right.now.shape in
    let none = where-none (has_byte c.args.self.now.bytes.left) (common_children left right)
    c.in_err-byte.ensures.1 in
    rw c.from_residual.ensures none

pub returns : goal.returns
returns g c =
    let left = children_of c.args.self.now.left.now.shape in
    let right = children_of c.args.self.now.right.now.shape in
    let taken = c.in_ok-byte.ensures in (
      c.in_ok-byte.byte,
      where-next (has_byte c.args.self.now.bytes.left) (has_byte c.take_first.new.self.left) c.in_ok-byte.byte
          _ _ left right c.args.self.now.left_order taken.0 taken.1 taken.2
          (sym c.in_ok-left.ensures) (sym c.in_ok-right.ensures),
    )
