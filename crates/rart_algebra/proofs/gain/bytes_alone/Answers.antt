use Rattle.std.proofs.Common.{◌≡◌, ℕ, Bool, true, false, not, ◌&&◌, is_some, length, refl, sym, ap, ◌∙◌, arith}
use Rattle.std.specs.Prelude.{◌==◌, ◌||◌}
use Rattle.rart_below.specs.ByteSets.{has_byte}
use Rattle.rart_below.specs.Children.{child_at}
use Rattle.rart_node.specs.Shape.{children_of}
use Rattle.rart_algebra.proofs.AmongLemmas.{among-next, have-less, some-value}
use Rattle.rart_algebra.proofs.GainLemmas.{alone-next, shown-some}
use Rattle.rart_algebra.proofs.gain.bytes_alone.Goals as goal

and-true : (t : Bool) → (t && true) ≡ t
and-true true = refl
and-true false = refl

and-false : (t : Bool) → (t && false) ≡ false
and-false true = refl
and-false false = refl

pub finding-smaller-then-is_none : goal.finding-smaller-then-is_none
finding-smaller-then-is_none g c =
    let other = c.args.other.now.shape in
    let takes = c.in-Some.ensures in
    let child = some-value _ (c.finding.invariant.there c.in-Some.byte takes.0) in
    let next = ap length (among-next c.finding.left.left c.take_first.new.self.left
    c.in-Some.byte takes child.0 (children_of other) c.requires.other_order child.1) in
    omega (arith, next)

pub finding-smaller : goal.finding-smaller
finding-smaller g c =
    let other = c.args.other.now.shape in
    let takes = c.in-Some.ensures in
    let child = some-value _ (c.finding.invariant.there c.in-Some.byte takes.0) in
    let next = ap length (among-next c.finding.left.left c.take_first.new.self.left
    c.in-Some.byte takes child.0 (children_of other) c.requires.other_order child.1) in
    omega (arith, next)

pub finding-preserved-then-is_none : goal.finding-preserved-then-is_none
finding-preserved-then-is_none g c =
    let node = c.args.node.now.shape in
    let other = c.args.other.now.shape in
    let byte = c.in-Some.byte in
    let takes = c.in-Some.ensures in
    let inv = c.finding.invariant in
    let is_alone : ℕ → Bool = λ z. is_some (child_at z (children_of other))
    && not (is_some (child_at z (children_of node))) in
    let none : is_some (child_at byte (children_of node)) ≡ false =
    shown-some (λ child. child.now.shape) c.seek_child.result (child_at byte (children_of node))
    c.seek_child.ensures ∙ grind (arith, c.is_none.ensures, c.if-is_none.true) in
    let here : is_alone byte ≡ true =
    (λ i. inv.there byte takes.0 i && not (none i)) in
    record {
      there = have-less c.finding.left.left c.take_first.new.self.left byte takes
          (children_of other) inv.there;
      alone = alone-next c.finding.left.left c.take_first.new.self.left c.finding.alone
          c.insert.new.self byte is_alone takes inv.alone
          (λ z. c.insert.ensures z ∙ ap (λ t. t || has_byte c.finding.alone z)
          (sym (ap (λ t. z == byte && t) here ∙ and-true (z == byte))));
    }

pub finding-preserved : goal.finding-preserved
finding-preserved g c =
    let node = c.args.node.now.shape in
    let other = c.args.other.now.shape in
    let byte = c.in-Some.byte in
    let takes = c.in-Some.ensures in
    let inv = c.finding.invariant in
    let is_alone : ℕ → Bool = λ z. is_some (child_at z (children_of other))
    && not (is_some (child_at z (children_of node))) in
    let some : is_some (child_at byte (children_of node)) ≡ true =
    shown-some (λ child. child.now.shape) c.seek_child.result (child_at byte (children_of node))
    c.seek_child.ensures ∙ grind (arith, c.is_none.ensures, c.if-is_none.false) in
    let here : is_alone byte ≡ false =
    (λ i. inv.there byte takes.0 i && not (some i)) in
    record {
      there = have-less c.finding.left.left c.take_first.new.self.left byte takes
          (children_of other) inv.there;
      alone = alone-next c.finding.left.left c.take_first.new.self.left c.finding.alone
          c.finding.alone byte is_alone takes inv.alone
          (λ z. ap (λ t. t || has_byte c.finding.alone z)
          (sym (ap (λ t. z == byte && t) here ∙ and-false (z == byte))));
    }
