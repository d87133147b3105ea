use Rattle.std.proofs.Common.{◌≡◌, [], Some, drop, refl, sym, ap, subst, ◌∙◌}
use Rattle.std.specs.Option.{OnSome}
use Rattle.std.specs.Result.{is_ok}
use Rattle.std.proofs.lemmas.Option.{same_Some}
use Rattle.rart_node.specs.Seen.{shape_of}
use Rattle.rart_node.specs.Shape.{prefix_of, with_value}
use Rattle.rart_ways.specs.Grafts.{graft}
use Rattle.rart_ways.specs.Paths.{path_end}
use Rattle.rart_node.specs.Trees.{strip_prefix, IsTree, IsPut}
use Rattle.rart_ways.proofs.LentPathLemmas.{tree-along, found-along, put-along, found-ended, put-ended}
use Rattle.rart_ways.proofs.lending.lend_below.Goals as goal

pub returns : goal.returns
returns g c =
    let w = c.args.key.now in
    let s = c.args.at.now.shape in
    let steps = c.args.steps in
    let node = c.in_ok-node.node.now.shape in
    let left = drop c.down.new.passed w in
    let reached : path_end steps w s ≡ Some (node, left) = c.in_ok-node.ensures.reached in
    let same : c.requires.arrives.0 ≡ (node, left) =
    same_Some c.requires.arrives.0 (node, left) (sym c.requires.arrives.1 ∙ reached) in
    let ended : strip_prefix (prefix_of node) left ≡ Some [] =
    subst (λ end. strip_prefix (prefix_of end.0) end.1 ≡ Some []) same c.requires.arrives.2 in
    let tree : IsTree node = tree-along steps w s (node, left) c.requires.tree reached in
    let put-back : (value : g.row.V.Denot)
    → shape_of (c.value_mut.follows.lender value) ≡ with_value (Some value) node =
    λ value. subst (λ r. OnSome r (shape_of (c.value_mut.follows.lender value)
    ≡ with_value (Some value) node)) c.in-Some.is (c.value_mut.follows.holds value) in (
      (
        refl,
        (λ value ok.
            let after : shape_of
            (c.down.follows.lender (c.value_mut.follows.lender value))
            ≡ graft steps (with_value (Some value) node) w s =
            c.down.follows.holds (c.value_mut.follows.lender value) (ap is_ok c.in_ok-node.was)
            ∙ ap (λ z. graft steps z w s) (put-back value) in
            subst (IsPut w value s) (sym after)
            (put-along steps w s (node, left)
            (with_value (Some value) node) value c.requires.tree reached
            (put-ended node left value tree ended))),
        tt,
      ),
      record {
        writes_back = tt;
        value = found-along steps w s (node, left) reached ∙ found-ended node left ended
            ∙ sym c.in-Some.ensures.value;
        counted = c.in_ok-node.ensures.counted;
      },
    )
