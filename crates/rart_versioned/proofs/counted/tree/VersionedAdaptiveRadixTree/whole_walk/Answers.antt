use Rattle.std.proofs.Common.{ℕ, [], cond, rules, length, arith, refl, sym, ap, subst, ◌∙◌}
use Rattle.std.specs.FinSet as set
use Rattle.std.specs.Option.{is_some}
use Rattle.std.specs.Prelude.{count_by}
use Rattle.std.proofs.lemmas.Result.{IfOk-weaker}
use Rattle.rart_walks.specs.DiffEnds.{pairs_from, is_up_to_first}
use Rattle.rart_maps.specs.Points.{points}
use Rattle.rart_maps.proofs.RangeLemmas.{is_below}
use Rattle.rart_node.specs.Seen.{shape_of}
use Rattle.rart_node.specs.Trees.{pairs_of}
use Rattle.rart_versioned.specs.VisitCounts.{node_count_to}
use Rattle.rart_walks.proofs.BackCountLemmas.{end-counts}
use Rattle.rart_versioned.proofs.EndedDiffLemmas.{one-hand, whole-to}
use Rattle.rart_versioned.proofs.NodePointLemmas.{nodes-kept, nodes-under-to}
use Rattle.rart_versioned.specs.TreeWalks.{AreAdmitted}
use Rattle.rart_versioned.proofs.VersionIterationLemmas.{content-admitted, no-pairs, root-sound, root-pairs, root-short}
use Rattle.rart_versioned.proofs.VersionVisitLemmas.{OnErr-always, content-found, none-keyed, none-walk, root-walk, some-node}
use Rattle.rart_versioned.proofs.counted.tree.VersionedAdaptiveRadixTree.whole_walk.Goals as goal

pub whole-requires : goal.whole-requires
whole-requires g c κs =
    let most = g.K.KeyTrait.MAXIMUM_SIZE in
    let sound = root-sound shape_of most c.self.inside.version c.self.inside.root c.args.self.now
    c.self.invariant c.self.view_is c.in-Some.root c.in-Some.is in
    let short = root-short shape_of most c.self.inside.version c.self.inside.root c.args.self.now
    c.self.invariant c.self.view_is c.in-Some.root c.in-Some.is in
    ((refl, tt), (sound.0, short g.T.KeyPath.greatest c.requires))

pub returns-in-None : goal.returns-in-None
returns-in-None g c =
    record {
      walk = c.new.ensures.walk;
      pairs =
          let most = g.K.KeyTrait.MAXIMUM_SIZE in
          let none = no-pairs shape_of most c.self.inside.version c.self.inside.root c.args.self.now
          c.self.invariant c.self.view_is c.in-None.is in
          ap (λ stand. stand.pairs) c.new.ensures.ended ∙ sym (none);
      admitted = subst (AreAdmitted g.K.KeyTrait.MAXIMUM_SIZE)
          (sym (ap (λ stand. stand.pairs) c.new.ensures.ended)) (search rules);
      nodes =
          let none = none-walk shape_of
          g.K.KeyTrait.MAXIMUM_SIZE
          c.self.inside.version c.self.inside.root c.args.self.now
          c.self.invariant c.self.view_is c.in-None.is in
          let left = ap (λ stand. length stand.paths) c.new.ensures.ended in
          omega (arith, none, left);
      few_up_to = λ high.
          let none = ap (λ stand. count_by (is_below high) stand.paths) c.new.ensures.ended in
          omega (arith, none);
      counted = search rules;
      to = λ key.
          let none = ap (λ stand. count_by (is_up_to_first (pairs_from key stand.pairs))
          stand.paths) c.new.ensures.ended in
          omega (arith, none);
      one = search rules;
      entered = λ keyed.
          absurd (none-keyed shape_of g.K.KeyTrait.MAXIMUM_SIZE
          c.self.inside.version c.self.inside.root c.args.self.now c.self.invariant c.self.view_is
          c.in-None.is keyed);
      at_hand = let none = ap {B = ℕ} (λ value. cond (is_some value) 1 0) c.new.ensures.pending in
          omega (arith, none);
      refused = tt;
    }

pub returns-in-Some : goal.returns-in-Some
returns-in-Some g c =
    record {
      walk = c.whole.ensures.walk;
      pairs =
          let most = g.K.KeyTrait.MAXIMUM_SIZE in
          let all = root-pairs shape_of most c.self.inside.version c.self.inside.root
          c.args.self.now c.self.invariant c.self.view_is c.in-Some.root c.in-Some.is in
          IfOk-weaker c.whole.result _ _ (λ walk is. is ∙ sym (all)) c.whole.ensures.pairs;
      admitted =
          let most = g.K.KeyTrait.MAXIMUM_SIZE in
          let all = root-pairs shape_of most c.self.inside.version c.self.inside.root
          c.args.self.now c.self.invariant c.self.view_is c.in-Some.root c.in-Some.is in
          let whole = content-admitted shape_of most c.self.inside.version c.self.inside.root
          c.args.self.now
          c.self.invariant c.self.view_is in
          let kept = whole in
          IfOk-weaker c.whole.result _ _
          (λ walk is. subst (AreAdmitted most) (sym (is ∙ sym (all))) kept)
          c.whole.ensures.pairs;
      nodes =
          let all = root-walk shape_of
          g.K.KeyTrait.MAXIMUM_SIZE
          c.self.inside.version c.self.inside.root c.args.self.now
          c.self.invariant c.self.view_is c.in-Some.root c.in-Some.is in
          let entered = ap (λ counts. counts.entered) c.whole.ensures.work in
          IfOk-weaker c.whole.result _ _ (λ walk left. omega (arith, all, left, entered))
          c.whole.ensures.nodes;
      few_up_to =
          let most = g.K.KeyTrait.MAXIMUM_SIZE in
          let s = c.in-Some.root.shape in
          let tree = (root-sound shape_of most c.self.inside.version c.self.inside.root
          c.args.self.now c.self.invariant c.self.view_is c.in-Some.root c.in-Some.is).0 in
          let found = content-found shape_of most c.self.inside.version c.self.inside.root
          c.args.self.now c.self.invariant c.self.view_is c.in-Some.root c.in-Some.is in
          IfOk-weaker c.whole.result _ _
          (λ walk end high.
          let fewer = end-counts (is_below high) end in
          let few = nodes-under-to c.args.self.now.content s tree found [] high in
          omega (arith, fewer, few))
          c.whole.ensures.paths;
      counted =
          let root = c.in-Some.root.shape in
          let all = root-walk shape_of
          g.K.KeyTrait.MAXIMUM_SIZE
          c.self.inside.version c.self.inside.root c.args.self.now
          c.self.invariant c.self.view_is c.in-Some.root c.in-Some.is in
          let entered = ap (λ counts. counts.entered) c.whole.ensures.work in
          let made = ap (λ counts. counts.made) c.whole.ensures.work in
          let some = some-node root in
          record {
            entered_grows = omega (arith, entered);
            entered_at_most = omega (arith, all, entered, some);
            made_grows = omega (arith, made);
            made_at_most = omega (arith, made);
          };
      to =
          let most = g.K.KeyTrait.MAXIMUM_SIZE in
          let s = c.in-Some.root.shape in
          let m = c.args.self.now.content in
          let tree = (root-sound shape_of most c.self.inside.version c.self.inside.root
          c.args.self.now c.self.invariant c.self.view_is c.in-Some.root c.in-Some.is).0 in
          let all = root-pairs shape_of most c.self.inside.version c.self.inside.root
          c.args.self.now c.self.invariant c.self.view_is c.in-Some.root c.in-Some.is in
          let found = content-found shape_of most c.self.inside.version c.self.inside.root
          c.args.self.now c.self.invariant c.self.view_is c.in-Some.root c.in-Some.is in
          whole-to s c.args.work.now c.whole.new.work (node_count_to m)
          (λ key. nodes-kept m s tree found (is_up_to_first (pairs_from key (pairs_of s)))
          ∙ ap (λ list. set.len (set.retain (points m) (is_up_to_first (pairs_from key list))))
          (sym all))
          (ap (λ counts. counts.entered) c.whole.ensures.work) c.whole.result
          c.whole.ensures.pairs c.whole.ensures.nodes c.whole.ensures.paths;
      one = let entered = ap (λ counts. counts.entered) c.whole.ensures.work in
          let made = ap (λ counts. counts.made) c.whole.ensures.work in
          record {
            entered_grows = omega (arith, entered);
            entered_at_most = omega (arith, entered);
            made_grows = omega (arith, made);
            made_at_most = omega (arith, made);
          };
      entered = λ keyed.
          let entered = ap (λ counts. counts.entered) c.whole.ensures.work in
          omega (arith, entered);
      at_hand =
          let entered = ap (λ counts. counts.entered) c.whole.ensures.work in
          IfOk-weaker c.whole.result _ _
          (λ walk _. let one = one-hand walk.pending in omega (arith, entered, one))
          c.whole.ensures.walk;
      refused = let entered = ap (λ counts. counts.entered) c.whole.ensures.work in
          OnErr-always c.whole.result (omega (arith, entered));
    }
