use Rattle.std.proofs.Common.{◌++◌, arith, refl, sym, ap, subst, ◌∙◌}
use Rattle.rart_node.specs.Shape.{prefix_of, with_added}
use Rattle.rart_node.specs.Trees.{IsPut}
use Rattle.rart_node.proofs.FindLemmas.{ascending}
use Rattle.rart_node.proofs.InsertionLemmas.{put-end, put-leaf}
use Rattle.rart_node.proofs.PrefixRestLemmas.{no-first}
use Rattle.rart_ways.proofs.InsertionStepLemmas.{found-at-end, found-at-leaf, ending-more}
use Rattle.rart_ways.proofs.insertion.finish.Goals as goal

pub add_child-requires-clause-order : goal.add_child-requires-clause-order
add_child-requires-clause-order g c = ascending _ c.requires.order

pub returns-in-None : goal.returns-in-None
returns-in-None g c =
    let s = c.args.node.now.shape in
    let rest = c.args.rest.now in
    let end = sym c.in-None.ensures.value in
    record {
      puts = (
        subst (IsPut (prefix_of s ++ rest) c.args.value s) (sym c.set_value.ensures.new)
            (put-end s (prefix_of s ++ rest) rest c.args.value c.requires.order refl
            (no-first rest end)),
        c.set_value.ensures.old ∙ sym (found-at-end s rest end),
      );
      counted = record {
        entered_grows = omega arith;
        entered_at_most = omega arith;
        made_grows = omega arith;
        made_at_most = omega arith;
      };
    }

pub returns-in_ok-add_child-in-Some : goal.returns-in_ok-add_child-in-Some
returns-in_ok-add_child-in-Some g c =
    let s = c.args.node.now.shape in
    let rest = c.args.rest.now in
    let next = sym c.in-Some.ensures.value in
    let absent = c.requires.absent c.in-Some.byte.now next in
    let after =
    c.in_ok-add_child-in-Some.ensures.ok
    ∙ ap (λ leaf. with_added c.in-Some.byte.now leaf s) c.in_ok-leaf-in-Some.ensures.leaf in
    let leaf = c.in_ok-leaf-in-Some.ensures.counted in
    let entered = c.in_ok-add_child-in-Some.ensures.entered in
    let made = c.in_ok-add_child-in-Some.ensures.made in
    let most = ending-more s rest c.in-Some.byte.now next in
    let a = leaf.entered_grows in
    let b = leaf.entered_at_most in
    let d = leaf.made_grows in
    let e = leaf.made_at_most in
    record {
      puts = (
        subst (IsPut (prefix_of s ++ rest) c.args.value s) (sym after)
            (put-leaf s (prefix_of s ++ rest) rest c.in-Some.byte.now c.args.value
            c.requires.order c.requires.some refl next absent),
        sym (found-at-leaf s rest c.in-Some.byte.now next absent),
      );
      counted = record {
        entered_grows = omega (arith, a, entered);
        entered_at_most = omega (arith, b, entered);
        made_grows = omega (arith, d, made);
        made_at_most = omega (arith, e, made, most);
      };
    }
