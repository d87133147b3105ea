use Rattle.std.proofs.Common.{◌≡◌, cond, is_some, arith, rules, ℕ, List, refl, sym, ap, subst, ◌∙◌}
use Rattle.std.specs.Prelude.{filter, length}
use Rattle.std.specs.Ordering.{as_partial_cmp}
use Rattle.std.specs.Range.Bound.{is_from_start, is_up_to_end, bound_map}
use Rattle.std.proofs.lemmas.List.Elements.{All-filter}
use Rattle.std.proofs.lemmas.Result.{IfOk-weaker}
use Rattle.rart_below.specs.Bytes.{IsAdmitted, byte_order}
use Rattle.rart_node.specs.Seen.{shape_of}
use Rattle.rart_maps.specs.Pairs.{pairs}
use Rattle.rart_versioned.specs.TreeWalks.{AreAdmitted}
use Rattle.rart_versioned.proofs.VersionIterationLemmas.{content-admitted, no-pairs, root-sound, root-pairs, root-short}
use Rattle.rart_versioned.proofs.VersionVisitLemmas.{none-keyed, root-range}
use Rattle.std.specs.Prelude.{count_by}
use Rattle.rart_node.proofs.CountingLemmas.{counts-most}
use Rattle.rart_walks.specs.WalkFields.{at_hand}
use Rattle.rart_versioned.proofs.counted.tree.VersionedAdaptiveRadixTree.walk_from.Goals as goal

pub from-requires : goal.from-requires
from-requires g c κs =
    let most = g.K.KeyTrait.MAXIMUM_SIZE in
    let sound = root-sound shape_of most c.self.inside.version c.self.inside.root c.args.self.now
    c.self.invariant c.self.view_is c.in-Some.root c.in-Some.is in
    let short = root-short shape_of most c.self.inside.version c.self.inside.root c.args.self.now
    c.self.invariant c.self.view_is c.in-Some.root c.in-Some.is in
    ((refl, tt), (sound.0, short g.T.KeyPath.greatest c.requires))

pub returns-in-None : goal.returns-in-None
returns-in-None g c =
    record {
      walk = c.new.ensures.walk;
      pairs =
          let most = g.K.KeyTrait.MAXIMUM_SIZE in
          let test = λ (pair : List ℕ × g.row.V.Denot). is_from_start (as_partial_cmp byte_order)
          (bound_map (λ low. low.now) c.args.low) pair.0 in
          let none = no-pairs shape_of most c.self.inside.version c.self.inside.root c.args.self.now
          c.self.invariant c.self.view_is c.in-None.is in
          ap (λ stand. stand.pairs) c.new.ensures.ended ∙ sym (ap (filter test) none);
      admitted = subst (AreAdmitted g.K.KeyTrait.MAXIMUM_SIZE)
          (sym (ap (λ stand. stand.pairs) c.new.ensures.ended)) (search rules);
      few = λ high.
          let left = ap (λ stand. count_by (is_up_to_end (as_partial_cmp byte_order) high)
          stand.paths)
          c.new.ensures.ended in
          omega (arith, left);
      counted = search rules;
      entered = λ keyed.
          absurd (none-keyed shape_of g.K.KeyTrait.MAXIMUM_SIZE
          c.self.inside.version c.self.inside.root c.args.self.now c.self.invariant c.self.view_is
          c.in-None.is keyed);
      at_hand = let none : at_hand c.new.result ≡ 0 = ap (λ pending. cond (is_some pending) 1 0)
          c.new.ensures.pending in
          omega (arith, none);
    }

pub returns-in-Some : goal.returns-in-Some
returns-in-Some g c =
    record {
      walk = c.from.ensures.walk;
      pairs =
          let most = g.K.KeyTrait.MAXIMUM_SIZE in
          let test = λ (pair : List ℕ × g.row.V.Denot). is_from_start (as_partial_cmp byte_order)
          (bound_map (λ low. low.now) c.args.low) pair.0 in
          let all = root-pairs shape_of most c.self.inside.version c.self.inside.root
          c.args.self.now c.self.invariant c.self.view_is c.in-Some.root c.in-Some.is in
          IfOk-weaker c.from.result _ _ (λ walk is. is ∙ sym (ap (filter test) all))
          c.from.ensures.pairs;
      admitted =
          let most = g.K.KeyTrait.MAXIMUM_SIZE in
          let test = λ (pair : List ℕ × g.row.V.Denot). is_from_start (as_partial_cmp byte_order)
          (bound_map (λ low. low.now) c.args.low) pair.0 in
          let all = root-pairs shape_of most c.self.inside.version c.self.inside.root
          c.args.self.now c.self.invariant c.self.view_is c.in-Some.root c.in-Some.is in
          let whole = content-admitted shape_of most c.self.inside.version c.self.inside.root
          c.args.self.now
          c.self.invariant c.self.view_is in
          let kept = All-filter test (λ (pair : List ℕ × g.row.V.Denot). IsAdmitted most (length
          pair.0))
          (pairs c.args.self.now.content) whole in
          IfOk-weaker c.from.result _ _
          (λ walk is. subst (AreAdmitted most) (sym (is ∙ sym (ap (filter test) all))) kept)
          c.from.ensures.pairs;
      few =
          let most = g.K.KeyTrait.MAXIMUM_SIZE in
          let low = bound_map (λ low. low.now) c.args.low in
          let within = root-range shape_of most c.self.inside.version c.self.inside.root
          c.args.self.now
          c.self.invariant c.self.view_is c.in-Some.root c.in-Some.is low in
          IfOk-weaker c.from.result _ _ (λ walk end high. within high _ end) c.from.ensures.paths;
      counted = counts-most c.from.ensures.counted (omega arith) (omega arith);
      entered = λ keyed. c.from.ensures.entered;
      at_hand = c.from.ensures.at_hand;
    }
