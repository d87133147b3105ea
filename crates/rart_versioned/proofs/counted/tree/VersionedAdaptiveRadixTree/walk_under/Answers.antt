use Rattle.std.proofs.Common.{◌≡◌, cond, is_some, arith, rules, ℕ, List, refl, sym, ap, subst, ◌∙◌}
use Rattle.std.specs.Prelude.{filter, length}
use Rattle.std.proofs.lemmas.List.Elements.{All-filter}
use Rattle.std.proofs.lemmas.Result.{IfOk-weaker}
use Rattle.rart_below.specs.Bytes.{IsAdmitted, begins, byte_order}
use Rattle.rart_node.specs.Seen.{shape_of}
use Rattle.rart_maps.specs.Pairs.{pairs}
use Rattle.rart_versioned.specs.TreeWalks.{AreAdmitted}
use Rattle.rart_versioned.proofs.VersionVisitLemmas.{none-keyed, root-reach, root-reach_by_pairs, root-under}
use Rattle.rart_versioned.proofs.VersionIterationLemmas.{content-admitted, no-pairs, root-sound, root-pairs, root-short}
use Rattle.std.specs.Prelude.{count_by}
use Rattle.std.specs.Range.Bound.{is_up_to_end}
use Rattle.std.specs.Ordering.{as_partial_cmp}
use Rattle.rart_walks.specs.WalkFields.{at_hand}
use Rattle.rart_versioned.proofs.counted.tree.VersionedAdaptiveRadixTree.walk_under.Goals as goal

pub under-requires : goal.under-requires
under-requires g c κs =
    let most = g.K.KeyTrait.MAXIMUM_SIZE in
    let sound = root-sound shape_of most c.self.inside.version c.self.inside.root c.args.self.now
    c.self.invariant c.self.view_is c.in-Some.root c.in-Some.is in
    let short = root-short shape_of most c.self.inside.version c.self.inside.root c.args.self.now
    c.self.invariant c.self.view_is c.in-Some.root c.in-Some.is in
    ((refl, tt), (sound.0, short g.T.KeyPath.greatest c.requires))

pub returns-in-None : goal.returns-in-None
returns-in-None g c =
    record {
      walk = c.new.ensures.walk;
      pairs =
          let most = g.K.KeyTrait.MAXIMUM_SIZE in
          let test = λ (pair : List ℕ × g.row.V.Denot). begins c.args.prefix.now pair.0 in
          let none = no-pairs shape_of most c.self.inside.version c.self.inside.root c.args.self.now
          c.self.invariant c.self.view_is c.in-None.is in
          ap (λ stand. stand.pairs) c.new.ensures.ended ∙ sym (ap (filter test) none);
      admitted = subst (AreAdmitted g.K.KeyTrait.MAXIMUM_SIZE)
          (sym (ap (λ stand. stand.pairs) c.new.ensures.ended)) (search rules);
      nodes = let left = ap (λ stand. length stand.paths) c.new.ensures.ended in
          omega (arith, left);
      few = let left = ap (λ stand. length stand.paths) c.new.ensures.ended in
          omega (arith, left);
      few_up_to = λ high.
          let left = ap (λ stand. count_by (is_up_to_end (as_partial_cmp byte_order) high)
          stand.paths)
          c.new.ensures.ended in
          omega (arith, left);
      counted = search rules;
      entered = λ keyed.
          absurd (none-keyed shape_of g.K.KeyTrait.MAXIMUM_SIZE
          c.self.inside.version c.self.inside.root c.args.self.now c.self.invariant c.self.view_is
          c.in-None.is keyed);
      at_hand = let none : at_hand c.new.result ≡ 0 = ap (λ pending. cond (is_some pending) 1 0)
          c.new.ensures.pending in
          omega (arith, none);
    }

pub returns-in-Some : goal.returns-in-Some
returns-in-Some g c =
    record {
      walk = c.under.ensures.walk;
      pairs =
          let most = g.K.KeyTrait.MAXIMUM_SIZE in
          let test = λ (pair : List ℕ × g.row.V.Denot). begins c.args.prefix.now pair.0 in
          let all = root-pairs shape_of most c.self.inside.version c.self.inside.root
          c.args.self.now c.self.invariant c.self.view_is c.in-Some.root c.in-Some.is in
          IfOk-weaker c.under.result _ _ (λ walk is. is ∙ sym (ap (filter test) all))
          c.under.ensures.pairs;
      admitted =
          let most = g.K.KeyTrait.MAXIMUM_SIZE in
          let test = λ (pair : List ℕ × g.row.V.Denot). begins c.args.prefix.now pair.0 in
          let all = root-pairs shape_of most c.self.inside.version c.self.inside.root
          c.args.self.now c.self.invariant c.self.view_is c.in-Some.root c.in-Some.is in
          let whole = content-admitted shape_of most c.self.inside.version c.self.inside.root
          c.args.self.now
          c.self.invariant c.self.view_is in
          let kept = All-filter test (λ (pair : List ℕ × g.row.V.Denot). IsAdmitted most (length
          pair.0))
          (pairs c.args.self.now.content) whole in
          IfOk-weaker c.under.result _ _
          (λ walk is. subst (AreAdmitted most) (sym (is ∙ sym (ap (filter test) all))) kept)
          c.under.ensures.pairs;
      nodes =
          let within = root-reach shape_of
          g.K.KeyTrait.MAXIMUM_SIZE
          c.self.inside.version
          c.self.inside.root c.args.self.now c.self.invariant c.self.view_is
          c.in-Some.root c.in-Some.is c.args.prefix.now in
          IfOk-weaker c.under.result _ _ (λ walk most. within _ most) c.under.ensures.nodes;
      few =
          let within = root-reach_by_pairs shape_of
          g.K.KeyTrait.MAXIMUM_SIZE
          c.self.inside.version
          c.self.inside.root c.args.self.now c.self.invariant c.self.view_is
          c.in-Some.root c.in-Some.is c.args.prefix.now in
          IfOk-weaker c.under.result _ _ (λ walk most. within _ most) c.under.ensures.nodes;
      few_up_to =
          let within = root-under shape_of
          g.K.KeyTrait.MAXIMUM_SIZE
          c.self.inside.version c.self.inside.root c.args.self.now c.self.invariant c.self.view_is
          c.in-Some.root c.in-Some.is c.args.prefix.now in
          IfOk-weaker c.under.result _ _ (λ walk end high. within high _ end) c.under.ensures.paths;
      counted = c.under.ensures.counted;
      entered = λ keyed. c.under.ensures.entered;
      at_hand = c.under.ensures.at_hand;
    }
