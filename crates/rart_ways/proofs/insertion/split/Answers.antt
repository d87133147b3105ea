use Rattle.std.proofs.Common.{◌≡◌, ◌<◌, ◌≤◌, ◌++◌, Some, slice_get, length, drop, sym, ap, subst, ◌∙◌, arith}
use Rattle.rart_below.specs.Bytes.{IsAdmitted}
use Rattle.rart_below.specs.Children.{child_at}
use Rattle.rart_node.specs.Shape.{Shape, prefix_of, children_of}
use Rattle.rart_node.specs.Trees.{IsOrdered, IsPut, found, cut_at, ending}
use Rattle.rart_node.proofs.CountingLemmas.{counts-then, ending-cut}
use Rattle.rart_ways.proofs.CutNodeLemmas.{cut-ordered, cut-child, cut-absent, put-cut}
use Rattle.rart_ways.proofs.InsertionStepLemmas.{common-fits, rest-admitted, found-at-cut}
use Rattle.rart_ways.proofs.insertion.split.Goals as goal

pub rest_of-requires : goal.rest_of-requires
rest_of-requires g c =
    common-fits c.args.node.now.shape c.args.key.now c.args.common
    c.requires.common

pub finish-requires : goal.finish-requires
finish-requires g c =
    let s = c.args.node.now.shape in
    let key = c.args.key.now in
    record {
      admitted = subst (λ rest. IsAdmitted g.P.Partial.MAXIMUM_SIZE (length rest))
          (sym c.rest_of.ensures)
          (rest-admitted s key c.args.common c.requires.common _ c.requires.admitted);
      order = subst IsOrdered (sym c.in_ok-upper.ensures.cut)
          (cut-ordered s _ c.requires.tree c.requires.inside);
      some = λ none. subst (λ (z : Shape g.row.V.Denot). 0 < length (children_of z))
          (sym c.in_ok-upper.ensures.cut) (cut-child s _);
      absent = λ byte next. ap (λ z. child_at byte (children_of z)) c.in_ok-upper.ensures.cut
          ∙ cut-absent s c.args.common key byte c.requires.common c.requires.inside
          (subst (λ rest. slice_get rest 0 ≡ Some byte) c.rest_of.ensures next);
    }

pub returns : goal.returns
returns g c =
    let s = c.args.node.now.shape in
    let after = c.finish.new.node.shape in
    let key = c.args.key.now in
    let rest = drop c.args.common key in
    let left = c.rest_of.ensures in
    let puts : IsPut (prefix_of (cut_at c.args.common s) ++ rest) c.args.value
    (cut_at c.args.common s) after =
    subst (λ (z : Shape g.row.V.Denot). IsPut (prefix_of z ++ rest) c.args.value z after)
    c.in_ok-upper.ensures.cut
    (subst (λ rest. IsPut (prefix_of c.in_ok-upper.upper.shape ++ rest)
    c.args.value c.in_ok-upper.upper.shape after) left
    c.in_ok-old.ensures.puts.0) in
    let most =
    subst (λ (z : Shape g.row.V.Denot). ending z c.rest_of.result.now ≤ length rest)
    (sym c.in_ok-upper.ensures.cut)
    (subst (λ r. ending (cut_at c.args.common s) r ≤ length rest) (sym left)
    (ending-cut s c.args.common rest)) in
    record {
      puts = (
        put-cut s after c.args.common key c.args.value c.requires.common
            c.requires.inside puts,
        c.in_ok-old.ensures.puts.1
            ∙ ap (λ (z : Shape g.row.V.Denot). found z (prefix_of z ++ c.rest_of.result.now))
            c.in_ok-upper.ensures.cut
            ∙ ap (λ r. found (cut_at c.args.common s)
            (prefix_of (cut_at c.args.common s) ++ r)) left
            ∙ found-at-cut s key c.args.common c.requires.common c.requires.inside,
      );
      counted = counts-then c.in_ok-upper.ensures.counted c.in_ok-old.ensures.counted (omega arith)
          (omega (arith, most));
    }
