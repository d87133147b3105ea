use Rattle.std.proofs.Common.{rules, length, reverse, arith, refl, sym, ap, subst, ◌∙◌}
use Rattle.std.specs.Prelude.{count_by}
use Rattle.std.proofs.lemmas.Result.{IfOk-weaker}
use Rattle.rart_below.specs.Bytes.{IsAdmitted}
use Rattle.rart_node.specs.Seen.{shape_of}
use Rattle.rart_walks.specs.Descending.{leads_from}
use Rattle.rart_versioned.specs.TreeWalks.{AreAdmitted}
use Rattle.rart_walks.proofs.BackCountLemmas.{back-counts, end-counts}
use Rattle.rart_walks.proofs.DescendLemmas.{All-reverse}
use Rattle.rart_versioned.proofs.NodePointLemmas.{nodes-leading}
use Rattle.rart_versioned.proofs.VersionIterationLemmas.{content-admitted, no-pairs, root-sound, root-pairs, root-short}
use Rattle.rart_versioned.proofs.VersionVisitLemmas.{content-found, none-keyed, none-walk, root-walk, some-node}
use Rattle.rart_versioned.proofs.counted.tree.VersionedAdaptiveRadixTree.whole_walk_back.Goals as goal

pub whole-requires : goal.whole-requires
whole-requires g c κs =
    let most = g.K.KeyTrait.MAXIMUM_SIZE in
    let sound = root-sound shape_of most c.self.inside.version c.self.inside.root c.args.self.now
    c.self.invariant c.self.view_is c.in-Some.root c.in-Some.is in
    let short = root-short shape_of most c.self.inside.version c.self.inside.root c.args.self.now
    c.self.invariant c.self.view_is c.in-Some.root c.in-Some.is in
    ((refl, tt), (sound.0, short g.T.KeyPath.greatest c.requires))

pub returns-in-None : goal.returns-in-None
returns-in-None g c =
    record {
      walk = c.new.ensures.walk;
      pairs =
          let most = g.K.KeyTrait.MAXIMUM_SIZE in
          let none = no-pairs shape_of most c.self.inside.version c.self.inside.root c.args.self.now
          c.self.invariant c.self.view_is c.in-None.is in
          ap (λ stand. stand.pairs) c.new.ensures.ended ∙ sym (ap reverse none);
      admitted = subst (AreAdmitted g.K.KeyTrait.MAXIMUM_SIZE)
          (sym (ap (λ stand. stand.pairs) c.new.ensures.ended)) (search rules);
      nodes =
          let none = none-walk shape_of
          g.K.KeyTrait.MAXIMUM_SIZE
          c.self.inside.version c.self.inside.root c.args.self.now
          c.self.invariant c.self.view_is c.in-None.is in
          let left = ap (λ stand. length stand.paths) c.new.ensures.ended in
          omega (arith, none, left);
      counted = search rules;
      few = λ key.
          let none = ap (λ stand. count_by (leads_from key) stand.paths) c.new.ensures.ended in
          omega (arith, none);
      one = search rules;
      entered = λ keyed.
          absurd (none-keyed shape_of g.K.KeyTrait.MAXIMUM_SIZE
          c.self.inside.version c.self.inside.root c.args.self.now c.self.invariant c.self.view_is
          c.in-None.is keyed);
      at_hand = rw (c.new.ensures.leaf, c.new.ensures.frames) (omega arith);
    }

pub returns-in-Some : goal.returns-in-Some
returns-in-Some g c =
    record {
      walk = c.whole.ensures.walk;
      pairs =
          let most = g.K.KeyTrait.MAXIMUM_SIZE in
          let all = root-pairs shape_of most c.self.inside.version c.self.inside.root
          c.args.self.now c.self.invariant c.self.view_is c.in-Some.root c.in-Some.is in
          IfOk-weaker c.whole.result _ _ (λ walk is. is ∙ ap reverse (sym all))
          c.whole.ensures.pairs;
      admitted =
          let most = g.K.KeyTrait.MAXIMUM_SIZE in
          let all = root-pairs shape_of most c.self.inside.version c.self.inside.root
          c.args.self.now c.self.invariant c.self.view_is c.in-Some.root c.in-Some.is in
          let whole = content-admitted shape_of most c.self.inside.version c.self.inside.root
          c.args.self.now
          c.self.invariant c.self.view_is in
          let kept = All-reverse (λ pair. IsAdmitted most (length pair.0)) _ whole in
          IfOk-weaker c.whole.result _ _
          (λ walk is. subst (AreAdmitted most) (sym (is ∙ ap reverse (sym all))) kept)
          c.whole.ensures.pairs;
      nodes =
          let all = root-walk shape_of
          g.K.KeyTrait.MAXIMUM_SIZE
          c.self.inside.version c.self.inside.root c.args.self.now
          c.self.invariant c.self.view_is c.in-Some.root c.in-Some.is in
          let entered = ap (λ counts. counts.entered) c.whole.ensures.work in
          IfOk-weaker c.whole.result _ _ (λ walk left. omega (arith, all, left, entered))
          c.whole.ensures.nodes;
      counted =
          let root = c.in-Some.root.shape in
          let all = root-walk shape_of
          g.K.KeyTrait.MAXIMUM_SIZE
          c.self.inside.version c.self.inside.root c.args.self.now
          c.self.invariant c.self.view_is c.in-Some.root c.in-Some.is in
          let entered = ap (λ counts. counts.entered) c.whole.ensures.work in
          let made = ap (λ counts. counts.made) c.whole.ensures.work in
          let some = some-node root in
          record {
            entered_grows = omega (arith, entered);
            entered_at_most = omega (arith, all, entered, some);
            made_grows = omega (arith, made);
            made_at_most = omega (arith, made);
          };
      few =
          let most = g.K.KeyTrait.MAXIMUM_SIZE in
          let s = c.in-Some.root.shape in
          let tree = (root-sound shape_of most c.self.inside.version c.self.inside.root
          c.args.self.now c.self.invariant c.self.view_is c.in-Some.root c.in-Some.is).0 in
          let found = content-found shape_of most c.self.inside.version c.self.inside.root
          c.args.self.now c.self.invariant c.self.view_is c.in-Some.root c.in-Some.is in
          IfOk-weaker c.whole.result _ _
          (λ walk end key.
          let fewer = end-counts (leads_from key) end in
          let same = back-counts (leads_from key) s in
          let few = nodes-leading c.args.self.now.content s tree found key in
          omega (arith, fewer, same, few))
          c.whole.ensures.paths;
      one = let entered = ap (λ counts. counts.entered) c.whole.ensures.work in
          let made = ap (λ counts. counts.made) c.whole.ensures.work in
          record {
            entered_grows = omega (arith, entered);
            entered_at_most = omega (arith, entered);
            made_grows = omega (arith, made);
            made_at_most = omega (arith, made);
          };
      entered = λ keyed.
          let entered = ap (λ counts. counts.entered) c.whole.ensures.work in
          omega (arith, entered);
      at_hand =
          let entered = ap (λ counts. counts.entered) c.whole.ensures.work in
          IfOk-weaker c.whole.result _ _ (λ walk one. omega (arith, entered, one))
          c.whole.ensures.at_hand;
    }
