use Rattle.std.proofs.Common.{◌≡◌, ◌+◌, ◌-◌, ◌/◌, suc, None, Some, IsSome, drop, refl, sym, ap, subst, ◌∙◌, arith}
use Rattle.std.specs.Option.{OnSome, option_map}
use Rattle.std.specs.Result.{is_ok}
use Rattle.std.proofs.lemmas.Bool.{false≢true}
use Rattle.std.proofs.lemmas.Result.{IfOk-weaker, IfErr-weaker}
use Rattle.rart_below.specs.Children.{child_at}
use Rattle.rart_node.specs.Seen.{Seen, shape_of}
use Rattle.rart_node.specs.Shape.{children_of, with_replaced}
use Rattle.rart_ways.specs.Grafts.{graft}
use Rattle.rart_ways.specs.Paths.{step, path_end, first_byte}
use Rattle.rart_node.specs.Trees.{IsTree}
use Rattle.rart_node.proofs.CountingLemmas.{counts-then}
use Rattle.rart_node.proofs.FindLemmas.{branch, ordered, ascending}
use Rattle.rart_node.proofs.InsertionLemmas.{replaced-same}
use Rattle.rart_ways.proofs.LookupPathLemmas.{back-is}
use Rattle.rart_ways.proofs.LentPathLemmas.{front-there, step-there, below-is, tree-along, graft-add, graft-below, graft-same}
use Rattle.rart_ways.proofs.lending.path.TwicePath.down.Goals as goal

pub down-requires : goal.down-requires
down-requires g c =
    let w = c.args.key.now in
    let s = c.args.at.now.shape in
    let key = drop c.args.passed.now w in
    let steps = c.args.steps in
    let half = (steps - 1) / 2 in
    let rest = steps - 1 - half in
    let few = c.requires.few in
    let parts : steps ≡ half + suc rest = omega (arith, c.if-steps-eq0.false) in
    record {
      clones = c.requires.clones;
      within = c.requires.within;
      tree = c.requires.tree;
      few = omega (arith, few);
      there = front-there half (suc rest) steps key s parts c.requires.there;
    }

pub next_byte-byte-requires : goal.next_byte-byte-requires
next_byte-byte-requires g c =
    let w = c.args.key.now in
    let s = c.args.at.now.shape in
    let key = drop c.args.passed.now w in
    let steps = c.args.steps in
    let half = (steps - 1) / 2 in
    let rest = steps - 1 - half in
    let parts : steps ≡ half + suc rest = omega (arith, c.if-steps-eq0.false) in
    let middle = c.in_ok-middle.middle.now.shape in
    let left = drop c.down.new.passed w in
    let reached : path_end half key s ≡ Some (middle, left) =
    c.in_ok-middle.ensures.reached in
    let further : IsSome (path_end (suc rest) left middle) =
    subst IsSome (back-is half (suc rest) steps key s (middle, left) parts reached)
    c.requires.there in
    record {
      within = c.in_ok-middle.ensures.within;
      there = step-there rest left middle further;
    }

pub seek_child_mut-requires : goal.seek_child_mut-requires
seek_child_mut-requires g c =
    let w = c.args.key.now in
    let s = c.args.at.now.shape in
    let key = drop c.args.passed.now w in
    let steps = c.args.steps in
    let half = (steps - 1) / 2 in
    let rest = steps - 1 - half in
    let parts : steps ≡ half + suc rest = omega (arith, c.if-steps-eq0.false) in
    let middle = c.in_ok-middle.middle.now.shape in
    let left = drop c.down.new.passed w in
    let reached : path_end half key s ≡ Some (middle, left) =
    c.in_ok-middle.ensures.reached in
    let tree : IsTree middle = tree-along half key s (middle, left) c.requires.tree reached in
    ascending middle (ordered middle tree)

pub down-requires-in-Some : goal.down-requires-in-Some
down-requires-in-Some g c =
    let w = c.args.key.now in
    let s = c.args.at.now.shape in
    let key = drop c.args.passed.now w in
    let steps = c.args.steps in
    let half = (steps - 1) / 2 in
    let rest = steps - 1 - half in
    let parts : steps ≡ half + suc rest = omega (arith, c.if-steps-eq0.false) in
    let middle = c.in_ok-middle.middle.now.shape in
    let left = drop c.down.new.passed w in
    let reached : path_end half key s ≡ Some (middle, left) =
    c.in_ok-middle.ensures.reached in
    let further : IsSome (path_end (suc rest) left middle) =
    subst IsSome (back-is half (suc rest) steps key s (middle, left) parts reached)
    c.requires.there in
    let byte = c.next_byte-byte.result in
    let child = c.in-Some.child.now.shape in
    let below = drop c.next_byte-byte.new.passed w in
    let here : child_at byte (children_of middle) ≡ Some child = sym c.in-Some.ensures.value in
    let goes : step left middle ≡ Some (child, below) =
    c.next_byte-byte.ensures.next ∙ ap (option_map (λ z. (z, below))) here in
    let tree : IsTree middle = tree-along half key s (middle, left) c.requires.tree reached in
    let few = c.requires.few in
    record {
      clones = c.requires.clones;
      within = c.next_byte-byte.ensures.within;
      tree = (branch middle byte child (ordered middle tree) here).tree;
      few = omega (arith, few);
      there = subst IsSome (below-is rest left middle (child, below) goes) further;
    }

pub unreachable-requires : goal.unreachable-requires
unreachable-requires g c =
    let w = c.args.key.now in
    let s = c.args.at.now.shape in
    let key = drop c.args.passed.now w in
    let steps = c.args.steps in
    let half = (steps - 1) / 2 in
    let rest = steps - 1 - half in
    let parts : steps ≡ half + suc rest = omega (arith, c.if-steps-eq0.false) in
    let middle = c.in_ok-middle.middle.now.shape in
    let left = drop c.down.new.passed w in
    let reached : path_end half key s ≡ Some (middle, left) =
    c.in_ok-middle.ensures.reached in
    let further : IsSome (path_end (suc rest) left middle) =
    subst IsSome (back-is half (suc rest) steps key s (middle, left) parts reached)
    c.requires.there in
    let gone : step left middle ≡ None =
    c.next_byte-byte.ensures.next ∙ ap
    (option_map (λ z. (z, drop c.next_byte-byte.new.passed w))) (sym c.in-None.ensures.value) in
    false≢true (subst IsSome gone (step-there rest left middle further))

pub returns : goal.returns
returns g c =
    let w = c.args.key.now in
    let s = c.args.at.now.shape in
    let key = drop c.args.passed.now w in
    let steps = c.args.steps in
    let half = (steps - 1) / 2 in
    let rest = steps - 1 - half in
    let parts : steps ≡ half + suc rest = omega (arith, c.if-steps-eq0.false) in
    let middle = c.in_ok-middle.middle.now.shape in
    let left = drop c.down.new.passed w in
    let reached : path_end half key s ≡ Some (middle, left) =
    c.in_ok-middle.ensures.reached in
    let further : IsSome (path_end (suc rest) left middle) =
    subst IsSome (back-is half (suc rest) steps key s (middle, left) parts reached)
    c.requires.there in
    let tree : IsTree middle = tree-along half key s (middle, left) c.requires.tree reached in
    let byte = c.next_byte-byte.result in
    let child = c.in-Some.child.now.shape in
    let below = drop c.next_byte-byte.new.passed w in
    let here : child_at byte (children_of middle) ≡ Some child = sym c.in-Some.ensures.value in
    let goes : step left middle ≡ Some (child, below) =
    c.next_byte-byte.ensures.next ∙ ap (option_map (λ z. (z, below))) here in
    let first : first_byte below ≡ byte = c.next_byte-byte.ensures.first in
    let put-back : (pointer : Seen g.row.V.Denot)
    → shape_of (c.seek_child_mut.follows.lender pointer)
    ≡ with_replaced byte pointer.shape middle =
    λ pointer. subst (λ r. OnSome r
    (shape_of (c.seek_child_mut.follows.lender pointer)
    ≡ with_replaced byte pointer.shape middle)) c.in-Some.is
    (c.seek_child_mut.follows.holds pointer) in
    let above : (node : Seen g.row.V.Denot) → shape_of (c.down.follows.lender node)
    ≡ graft half node.shape key s =
    λ node. c.down.follows.holds node (ap is_ok c.in_ok-middle.was) in (
      (
        refl,
        (λ node ok.
            let pointer = c.down-in-Some.follows.lender node in
            let at-middle = c.seek_child_mut.follows.lender pointer in
            let whole : graft steps node.shape key s
            ≡ graft half (graft (suc rest) node.shape left middle) key s =
            ap (λ n. graft n node.shape key s) parts
            ∙ graft-add half (suc rest) node.shape key s (middle, left) reached in
            let one : graft (suc rest) node.shape left middle
            ≡ with_replaced byte (graft rest node.shape below child) middle =
            graft-below rest node.shape left middle (child, below) goes
            ∙ ap (λ b. with_replaced b (graft rest node.shape below child) middle)
            first in
            above at-middle ∙ ap (λ z. graft half z key s)
            (put-back pointer ∙ ap (λ z. with_replaced byte z middle)
            (c.down-in-Some.follows.holds node ok) ∙ sym one) ∙ sym whole),
        IfErr-weaker c.down-in-Some.result _ _ (λ _ kept.
            let pointer = c.down-in-Some.follows.lender-at-none in
            let at-middle = c.seek_child_mut.follows.lender pointer in
            above at-middle ∙ ap (λ z. graft half z key s)
            (put-back pointer ∙ ap (λ z. with_replaced byte z middle) kept
            ∙ replaced-same middle byte child (ordered middle tree) here)
            ∙ graft-same half key s (middle, left) c.requires.tree reached)
            c.down-in-Some.follows.holds-at-none,
      ),
      record {
        writes_back = tt;
        reached = IfOk-weaker c.down-in-Some.result _ _
            (λ end there. back-is half (suc rest) steps key s (middle, left) parts reached
            ∙ below-is rest left middle (child, below) goes ∙ there)
            c.down-in-Some.ensures.reached;
        within = c.down-in-Some.ensures.within;
        counted = counts-then c.in_ok-middle.ensures.counted
            c.down-in-Some.ensures.counted (omega (arith, parts)) (omega (arith, parts));
      },
    )
