use Rattle.std.proofs.Common.{◌∙◌, length, arith, ap}
use Rattle.rart_versioned.proofs.VersionDiffLemmas.{changes-few}
use Rattle.std.proofs.lemmas.Result.{IfOk-weaker}
use Rattle.rart_node.proofs.CountingLemmas.{entered-then}
use Rattle.rart_versioned.proofs.VersionVisitLemmas.{OnOk-weaker, counts-through}
use Rattle.rart_versioned.proofs.counted.tree.VersionedAdaptiveRadixTree.diff_count_counted.Goals as goal

pub count_changes-requires-clause-fits : goal.count_changes-requires-clause-fits
count_changes-requires-clause-fits g c =
    let same = ap length c.in_ok-old.ensures.walks.changes_are in
    let few = changes-few g.V.PartialEq.eq c.args.self.now.content c.args.other.now.content in
    omega (arith, same, few)

pub returns : goal.returns
returns g c =
    let both = c.in_ok-old.ensures in
    let told = c.count_changes.ensures in
    record {
      count = IfOk-weaker c.count_changes.result _ _
          (λ count is. is ∙ ap length both.walks.changes_are) told.count;
      counted = counts-through both.counted both.nodes told.counted;
      entered = λ keyed. entered-then c.args.work.now (both.entered keyed) told.counted;
      entered_other = λ keyed.
          entered-then c.args.work.now (both.entered_other keyed) told.counted;
      exact = let nodes = both.nodes in
          OnOk-weaker c.count_changes.result (λ through. omega (arith, through, nodes)) told.exact;
    }
