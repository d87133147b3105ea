use Rattle.std.proofs.Common.{◌<◌, arith, sym, ap, subst, ◌∙◌}
use Rattle.rart_node.specs.Shape.{Shape}
use Rattle.rart_node.specs.Trees.{IsTaken}
use Rattle.rart_node.proofs.CountingLemmas.{counts-most, counts-opened, counts-then}
use Rattle.rart_ways.specs.Plans.{Removes, edit_cost}
use Rattle.rart_ways.proofs.EditLemmas.{when-ok, when-some, on-ok, on-err, if-ok, kept-is, branch-is, found-below-is, taken-deeper, removes-here, steps-within, steps-down, no-end, no-gap, down-goes, down-removes}
use Rattle.rart_ways.proofs.removal.edit.+edit_below.Goals as goal

pub returns-then-depth-eq0 : goal.returns-then-depth-eq0
returns-then-depth-eq0 g t c =
    let s = c.args.at.now.shape in
    let was = sym c.replace.ensures.value in
    let removes =
    subst (λ z. Removes z c.args.key.now s) was
    (removes-here c.args.edit.now c.args.depth c.args.key.now s c.if-depth-eq0.true
    c.requires.planned) in
    let cost = ap edit_cost was in
    record {
      taken = on-ok c.edit_here.result
          (λ is. subst (λ (z : Shape g.row.V.Denot). IsTaken c.args.key.now s z) (sym is)
          removes.taken)
          c.edit_here.ensures.taken;
      value = if-ok c.edit_here.result (λ value is. is ∙ removes.value) c.edit_here.ensures.value;
      refused = c.edit_here.ensures.refused;
      counted = counts-most c.edit_here.ensures.counted (omega (arith, cost)) (omega (arith, cost));
    }

pub rest_of-rest-requires : goal.rest_of-rest-requires
rest_of-rest-requires g t c =
    let s = c.args.at.now.shape in
    let some : 0 < c.args.depth = omega (arith, c.if-depth-eq0.false) in
    steps-within c.args.edit.now c.args.depth s _ c.args.key.now _ _ some
    c.requires.planned c.in_ok-node.ensures.shown c.prefix.ensures c.len.ensures

pub unreachable-requires : goal.unreachable-requires
unreachable-requires g t c =
    let s = c.args.at.now.shape in
    let some : 0 < c.args.depth = omega (arith, c.if-depth-eq0.false) in
    let down =
    steps-down c.args.edit.now c.args.depth s _ c.args.key.now _ _ some
    c.requires.planned c.in_ok-node.ensures.shown c.prefix.ensures c.len.ensures
    c.rest_of-rest.result.now c.rest_of-rest.ensures in
    no-end c.args.edit.now down c.in_default.ensures.value

pub unreachable-requires-in_default-seek_child_mut :
    goal.unreachable-requires-in_default-seek_child_mut
unreachable-requires-in_default-seek_child_mut g t c =
    let s = c.args.at.now.shape in
    let some : 0 < c.args.depth = omega (arith, c.if-depth-eq0.false) in
    let down =
    steps-down c.args.edit.now c.args.depth s _ c.args.key.now _ _ some
    c.requires.planned c.in_ok-node.ensures.shown c.prefix.ensures c.len.ensures
    c.rest_of-rest.result.now c.rest_of-rest.ensures in
    no-gap c.args.edit.now down _ _ c.in_ok-node.ensures.shown
    c.in-Some.ensures.value c.in_default-seek_child_mut.ensures.value

pub edit_below-requires : goal.edit_below-requires
edit_below-requires g t c κs within =
    let s = c.args.at.now.shape in
    let some : 0 < c.args.depth = omega (arith, c.if-depth-eq0.false) in
    let down =
    steps-down c.args.edit.now c.args.depth s _ c.args.key.now _ _ some
    c.requires.planned c.in_ok-node.ensures.shown c.prefix.ensures c.len.ensures
    c.rest_of-rest.result.now c.rest_of-rest.ensures in
    let goes =
    down-goes c.args.edit.now down _ _ c.in_ok-node.ensures.shown
    c.in-Some.ensures.value _ c.in-Some-seek_child_mut.ensures.value in
    let removes =
    down-removes c.args.edit.now down _ _ c.in_ok-node.ensures.shown
    c.in-Some.ensures.value _ c.in-Some-seek_child_mut.ensures.value in (
      omega (arith, some, c.decreases),
      (
        within.0,
        (
          within.1,
          (c.requires.clones, ((branch-is c.requires.tree goes).tree, removes)),
        ),
      ),
    )

pub returns : goal.returns
returns g t c =
    let s = c.args.at.now.shape in
    let some : 0 < c.args.depth = omega (arith, c.if-depth-eq0.false) in
    let down =
    steps-down c.args.edit.now c.args.depth s _ c.args.key.now _ _ some
    c.requires.planned c.in_ok-node.ensures.shown c.prefix.ensures c.len.ensures
    c.rest_of-rest.result.now c.rest_of-rest.ensures in
    let goes =
    down-goes c.args.edit.now down _ _ c.in_ok-node.ensures.shown
    c.in-Some.ensures.value _ c.in-Some-seek_child_mut.ensures.value in
    let replaced =
    when-some c.seek_child_mut.result _ c.in-Some-seek_child_mut.is
    (c.seek_child_mut.follows.holds c.edit_below.new.at) in
    let shows =
    when-ok c.open_mut.result _ c.in_ok-node.was
    (c.open_mut.follows.holds (c.seek_child_mut.follows.lender c.edit_below.new.at)) in
    record {
      taken = on-ok c.edit_below.result
          (taken-deeper c.requires.tree goes _ _ _ _ c.in_ok-node.ensures.shown replaced shows)
          c.edit_below.ensures.taken;
      value = if-ok c.edit_below.result
          (λ value is. is ∙ sym (found-below-is c.requires.tree goes))
          c.edit_below.ensures.value;
      refused = on-err c.edit_below.result
          (kept-is s _ _ _ _ _ _ c.in_ok-node.ensures.shown c.requires.tree
          c.in-Some-seek_child_mut.ensures.value replaced shows) c.edit_below.ensures.refused;
      counted = counts-then (counts-opened _ _ c.in_ok-node.ensures.work)
          c.edit_below.ensures.counted (omega (arith, some)) (omega (arith, some));
    }
