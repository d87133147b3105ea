use Rattle.std.proofs.Common.{◌≡◌, ◌<◌, ◌≤◌, inl, true, false, cond, ◌&&◌, ◌++◌, length, arith, sym, ap, subst, ◌∙◌}
use Rattle.std.specs.Prelude.{◌==◌, slice_index_or}
use Rattle.std.specs.List.{concat}
use Rattle.rart_node.specs.Shape.{prefix_of}
use Rattle.std.proofs.lemmas.Result.{on_ok_weaker}
use Rattle.rart_node.specs.Trees.{pairs_of}
use Rattle.rart_node.proofs.PrefixRestLemmas.{common_fits}
use Rattle.rart_walks.specs.Frames.{behind_path, under_path, pairs_inside}
use Rattle.rart_walks.specs.WalkFields.{cursor}
use Rattle.rart_walks.specs.Parts.{is_strict, goes_on}
use Rattle.rart_node.proofs.PartingLemmas.{common-front, parts-at}
use Rattle.rart_walks.proofs.EndLemmas.{end-within, end-within-paths, end-above, end-below, end-off, entered-end}
use Rattle.rart_walks.proofs.walk.path.finish.Goals as goal

pub bounds-rest-common : goal.bounds-rest-common
bounds-rest-common g c =
    let s = c.args.node.now.shape in
    let fits = common_fits (prefix_of s) c.args.rest.now in
    let is = c.requires.here.common in
    omega (arith, fits, is, c.if-common-rest.false)

pub returns-then-common-rest : goal.returns-then-common-rest
returns-then-common-rest g c =
    let s = c.args.node.now.shape in
    let front =
    common-front (prefix_of s) c.args.rest.now
    (sym c.requires.here.common ∙ c.if-common-rest.true) in
    let whole : c.len.result ≡ length (prefix_of s) = c.len.ensures ∙ ap length c.prefix.ensures in
    let passed : c.passes_own-is_passed.result
    ≡ (is_strict c.args.part && (length c.args.rest.now == length (prefix_of s))) =
    c.passes_own-is_passed.ensures
    ∙ ap (λ n. is_strict c.args.part && (n == c.len.result)) c.if-common-rest.true
    ∙ ap (λ n. is_strict c.args.part && (length c.args.rest.now == n)) whole in
    let kept = end-within c.args.part s c.args.rest.now front c.requires.above.tree in
    let placed = end-within-paths c.args.part s c.args.rest.now front c.requires.above.tree in
    let old = cursor c.args.walk.now in
    record {
      walk = c.enter_end.ensures.walk;
      pairs =
          on_ok_weaker c.enter_end.result
          (λ is. is ∙ ap (λ t. behind_path (concat old.segments)
          (cond t (pairs_inside s) (pairs_of s)) ++ old.pairs) passed
          ∙ ap (λ z. behind_path (concat old.segments) z ++ old.pairs) (sym kept))
          c.enter_end.ensures.pairs;
      paths =
          on_ok_weaker c.enter_end.result
          (λ is. entered-end s (concat old.segments) _ _ old.paths _ is placed)
          c.enter_end.ensures.paths;
    }

pub returns-then-rest-common : goal.returns-then-rest-common
returns-then-rest-common g c =
    let s = c.args.node.now.shape in
    let old = cursor c.args.walk.now in
    let parts =
    parts-at (prefix_of s) c.args.rest.now c.args.common c.requires.here.common
    c.requires.here.ends c.if-common-rest.false in
    let less : slice_index_or c.args.rest.now c.args.common 0
    < slice_index_or (prefix_of s) c.args.common 0 =
    subst (λ p. slice_index_or c.args.rest.now c.args.common 0 < slice_index_or p c.args.common 0)
    c.prefix-2.ensures (subst (λ n. slice_index_or c.args.rest.now c.args.common 0 < n)
    c.at.ensures c.if-rest-common.true) in
    let on : goes_on c.args.part ≡ true = sym c.goes_on.ensures ∙ c.if-not-goes_on.false in
    let all = end-above c.args.part s c.args.rest.now _ _ parts less on in
    record {
      walk = c.enter_end-then-rest-common.ensures.walk;
      pairs =
          on_ok_weaker c.enter_end-then-rest-common.result
          (λ is. is ∙ ap (λ z. behind_path (concat old.segments) z ++ old.pairs) (sym all.0))
          c.enter_end-then-rest-common.ensures.pairs;
      paths =
          on_ok_weaker c.enter_end-then-rest-common.result
          (λ is. entered-end s (concat old.segments) _ _ old.paths _ is (inl all.1))
          c.enter_end-then-rest-common.ensures.paths;
    }

pub returns-then-not-goes_on : goal.returns-then-not-goes_on
returns-then-not-goes_on g c =
    let s = c.args.node.now.shape in
    let old = cursor c.args.walk.now in
    let parts =
    parts-at (prefix_of s) c.args.rest.now c.args.common c.requires.here.common
    c.requires.here.ends c.if-common-rest.false in
    let off : goes_on c.args.part ≡ false = sym c.goes_on.ensures ∙ c.if-not-goes_on.true in
    let none = end-off c.args.part s c.args.rest.now _ _ parts off in
    record {
      walk = c.requires.above.walk;
      pairs = ap (λ z. behind_path (concat old.segments) z ++ old.pairs) (sym none.0);
      paths = inl (ap (λ z. under_path (concat old.segments) z ++ old.paths) none.1);
    }

pub returns : goal.returns
returns g c =
    let s = c.args.node.now.shape in
    let old = cursor c.args.walk.now in
    let parts =
    parts-at (prefix_of s) c.args.rest.now c.args.common c.requires.here.common
    c.requires.here.ends c.if-common-rest.false in
    let most : slice_index_or (prefix_of s) c.args.common 0
    ≤ slice_index_or c.args.rest.now c.args.common 0 =
    subst (λ p. slice_index_or p c.args.common 0 ≤ slice_index_or c.args.rest.now c.args.common 0)
    c.prefix-2.ensures (subst (λ n. n ≤ slice_index_or c.args.rest.now c.args.common 0)
    c.at.ensures c.if-rest-common.false) in
    let none = end-below c.args.part s c.args.rest.now _ _ parts most in
    record {
      walk = c.requires.above.walk;
      pairs = ap (λ z. behind_path (concat old.segments) z ++ old.pairs) (sym none.0);
      paths = inl (ap (λ z. under_path (concat old.segments) z ++ old.paths) none.1);
    }
