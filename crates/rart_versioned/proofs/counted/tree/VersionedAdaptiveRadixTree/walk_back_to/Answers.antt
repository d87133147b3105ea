use Rattle.std.proofs.Common.{rules, ℕ, List, filter, length, reverse, arith, refl, sym, ap, subst, ◌∙◌}
use Rattle.std.specs.Ordering.{as_partial_cmp}
use Rattle.std.specs.Range.Bound.{bound_map, is_up_to_end}
use Rattle.std.proofs.lemmas.List.Elements.{All-filter}
use Rattle.std.proofs.lemmas.Result.{IfOk-weaker}
use Rattle.rart_below.specs.Bytes.{IsAdmitted, byte_order}
use Rattle.rart_node.specs.Seen.{shape_of}
use Rattle.rart_maps.specs.Pairs.{pairs}
use Rattle.rart_walks.proofs.DescendLemmas.{All-reverse}
use Rattle.rart_versioned.specs.TreeWalks.{AreAdmitted}
use Rattle.rart_versioned.proofs.VersionIterationLemmas.{content-admitted, no-pairs, root-sound, root-pairs, root-short}
use Rattle.rart_node.proofs.CountingLemmas.{counts-most}
use Rattle.rart_versioned.proofs.VersionVisitLemmas.{none-keyed}
use Rattle.rart_versioned.proofs.counted.tree.VersionedAdaptiveRadixTree.walk_back_to.Goals as goal

pub to-requires : goal.to-requires
to-requires g c κs =
    let most = g.K.KeyTrait.MAXIMUM_SIZE in
    let sound = root-sound shape_of most c.self.inside.version c.self.inside.root c.args.self.now
    c.self.invariant c.self.view_is c.in-Some.root c.in-Some.is in
    let short = root-short shape_of most c.self.inside.version c.self.inside.root c.args.self.now
    c.self.invariant c.self.view_is c.in-Some.root c.in-Some.is in
    ((refl, tt), (sound.0, short g.T.KeyPath.greatest c.requires))

pub returns-in-None : goal.returns-in-None
returns-in-None g c =
    record {
      walk = c.new.ensures.walk;
      pairs =
          let most = g.K.KeyTrait.MAXIMUM_SIZE in
          let test = λ (pair : List ℕ × g.row.V.Denot). is_up_to_end (as_partial_cmp byte_order)
          (bound_map (λ high. high.now) c.args.high) pair.0 in
          let none = no-pairs shape_of most c.self.inside.version c.self.inside.root c.args.self.now
          c.self.invariant c.self.view_is c.in-None.is in
          ap (λ stand. stand.pairs) c.new.ensures.ended
          ∙ sym (ap (λ list. reverse (filter test list)) none);
      admitted = subst (AreAdmitted g.K.KeyTrait.MAXIMUM_SIZE)
          (sym (ap (λ stand. stand.pairs) c.new.ensures.ended)) (search rules);
      counted = search rules;
      entered = λ keyed.
          absurd (none-keyed shape_of g.K.KeyTrait.MAXIMUM_SIZE
          c.self.inside.version c.self.inside.root c.args.self.now c.self.invariant c.self.view_is
          c.in-None.is keyed);
    }

pub returns-in-Some : goal.returns-in-Some
returns-in-Some g c =
    let most = g.K.KeyTrait.MAXIMUM_SIZE in
    let test = λ (pair : List ℕ × g.row.V.Denot). is_up_to_end (as_partial_cmp byte_order)
    (bound_map (λ high. high.now) c.args.high) pair.0 in
    let all = root-pairs shape_of most c.self.inside.version c.self.inside.root
    c.args.self.now c.self.invariant c.self.view_is c.in-Some.root c.in-Some.is in
    let same = sym (ap (λ list. reverse (filter test list)) all) in
    let starts = c.to.ensures in
    record {
      walk = starts.walk;
      pairs = IfOk-weaker c.to.result _ _ (λ walk is. is ∙ same) starts.pairs;
      admitted =
          let admits = λ (pair : List ℕ × g.row.V.Denot). IsAdmitted most (length pair.0) in
          let whole = content-admitted shape_of most c.self.inside.version c.self.inside.root
          c.args.self.now c.self.invariant c.self.view_is in
          let kept = All-reverse admits _
          (All-filter test admits (pairs c.args.self.now.content) whole) in
          IfOk-weaker c.to.result _ _
          (λ walk is. subst (AreAdmitted most) (sym (is ∙ same)) kept) starts.pairs;
      counted = counts-most starts.counted (omega arith) (omega arith);
      entered = λ keyed. starts.entered;
    }
