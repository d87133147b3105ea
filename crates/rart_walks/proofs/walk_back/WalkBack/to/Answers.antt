use Rattle.std.proofs.Common.{◌≡◌, true, [], ◌∷◌, List, filter, reverse, arith, refl, sym, ap, ◌∙◌}
use Rattle.std.specs.Prelude.{count_by}
use Rattle.std.proofs.Math.Nat.{le_refl}
use Rattle.std.proofs.lemmas.Result.{IfOk-weaker}
use Rattle.rart_node.proofs.CountingLemmas.{counts-most, path-most}
use Rattle.rart_node.specs.Trees.{pairs_of}
use Rattle.rart_walks.specs.Walks.{paths_of}
use Rattle.rart_walks.proofs.BackCountLemmas.{back-counts, end-counts}
use Rattle.rart_walks.proofs.walk_back.WalkBack.to.Goals as goal

all-kept : {A : Type 0} (xs : List A) → filter (λ x. true) xs ≡ xs
all-kept [] = refl
all-kept (x ∷ xs) = ap (λ rest. x ∷ rest) (all-kept xs)

pub returns-in-Included : goal.returns-in-Included
returns-in-Included g c =
    let starts = c.along_path.ensures in
    let most = path-most c.args.root.now.shape c.in-Included.high.now in
    rw c.in-Included.is (record {
      walk = starts.walk;
      pairs = starts.pairs;
      few = starts.few;
      counted = counts-most starts.counted most (le_refl 0);
      entered = starts.entered;
      at_hand = starts.at_hand;
    })

pub returns-in-Excluded : goal.returns-in-Excluded
returns-in-Excluded g c =
    let starts = c.along_path-in-Excluded.ensures in
    let most = path-most c.args.root.now.shape c.in-Excluded.high.now in
    rw c.in-Excluded.is (record {
      walk = starts.walk;
      pairs = starts.pairs;
      few = starts.few;
      counted = counts-most starts.counted most (le_refl 0);
      entered = starts.entered;
      at_hand = starts.at_hand;
    })

pub returns-in-Unbounded : goal.returns-in-Unbounded
returns-in-Unbounded g c =
    let starts = c.whole.ensures in
    let s = c.args.root.now.shape in
    let entered = ap (λ counts. counts.entered) starts.work in
    let made = ap (λ counts. counts.made) starts.work in
    rw c.in-Unbounded.is (record {
      walk = starts.walk;
      pairs = IfOk-weaker c.whole.result _ _
          (λ walk is. is ∙ ap reverse (sym (all-kept (pairs_of s)))) starts.pairs;
      few = IfOk-weaker c.whole.result _ _
          (λ walk end test.
          let fewer = end-counts test end in
          let same = back-counts test s in
          let all = ap (count_by test) (all-kept (paths_of s)) in
          omega (arith, fewer, same, all))
          starts.paths;
      counted = record {
        entered_grows = omega (arith, entered);
        entered_at_most = omega (arith, entered);
        made_grows = omega (arith, made);
        made_at_most = omega (arith, made);
      };
      entered = omega (arith, entered);
      at_hand = IfOk-weaker c.whole.result _ _ (λ walk one. omega (arith, entered, one))
          starts.at_hand;
    })
