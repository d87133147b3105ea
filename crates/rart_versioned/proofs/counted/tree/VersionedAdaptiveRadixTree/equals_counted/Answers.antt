use Rattle.std.proofs.Common.{◌≡◌, ◌↔◌, [], IsTrue, subst}
use Rattle.std.proofs.lemmas.Result.{IfOk-weaker}
use Rattle.rart_node.proofs.CountingLemmas.{entered-then}
use Rattle.rart_maps.specs.ChangeLists.{changes}
use Rattle.rart_walks.specs.DiffEnds.{EntersToFirst}
use Rattle.rart_versioned.proofs.EndedDiffLemmas.{diff-first}
use Rattle.rart_versioned.proofs.VersionVisitLemmas.{OnOk-weaker, counts-through}
use Rattle.rart_versioned.proofs.counted.tree.VersionedAdaptiveRadixTree.equals_counted.Goals as goal

pub returns : goal.returns
returns g c =
    let both = c.in_ok-old.ensures in
    let told = c.are_equal.ensures in
    record {
      equal = IfOk-weaker c.are_equal.result _ _
          (λ equal is. subst (λ list. IsTrue equal ↔ (list ≡ [])) both.walks.changes_are is)
          told.equal;
      counted = counts-through both.counted both.nodes told.counted;
      entered = λ keyed. entered-then c.args.work.now (both.entered keyed) told.counted;
      entered_other = λ keyed.
          entered-then c.args.work.now (both.entered_other keyed) told.counted;
      ends =
          let m = c.args.self.now.content in
          let n = c.args.other.now.content in
          let old = c.in_ok-old.old in
          let new = c.in_ok-old.new in
          let between = c.both_walks.new.work in
          let after = c.are_equal.new.work in
          OnOk-weaker c.are_equal.result
          (λ enters. diff-first m n old new c.args.work.now between after _ both.counted
          both.to both.held both.nodes (changes g.V.PartialEq.eq m n)
          (subst (EntersToFirst old new between after) both.walks.changes_are enters))
          told.ends;
    }
