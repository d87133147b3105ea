use Rattle.std.proofs.Common.{◌≡◌, Bool, true, false, ℕ, List, [], ◌∷◌, length, refl, arith, sym, ap, ◌∙◌}
use Rattle.std.proofs.lemmas.Bool.Decides.{nat_tests}
use Rattle.std.specs.Prelude.{◌-◌, ◌^◌, ◌==◌, Some, not, filter}
use Rattle.std.specs.Ordering.{as_partial_cmp}
use Rattle.std.specs.Range.Bound.{bound_map, bounds_contain}
use Rattle.std.specs.declared.ops.Bound.{Bound}
use Rattle.rart_below.specs.Bytes.{byte_order}
use Rattle.rart_node.specs.Seen.{shape_of}
use Rattle.rart_maps.proofs.RangeLemmas.{from, from-ascends, is_below, up_to, up_to-first, up_to-past, within-from}
use Rattle.rart_maps.specs.FoundLaws.{KeysAscend}
use Rattle.rart_maps.specs.Pairs.{pairs}
use Rattle.rart_ways.specs.Firsts.{first_passes}
use Rattle.rart_node.proofs.CountingLemmas.{counts-most, path-most}
use Rattle.rart_maps.specs.Bounds.{bound_string}
use Rattle.rart_versioned.proofs.VersionIterationLemmas.{no-pairs, root-sound, root-pairs, root-short}
use Rattle.rart_versioned.proofs.VersionVisitLemmas.{none-keyed}
use Rattle.rart_versioned.proofs.counted.tree.VersionedAdaptiveRadixTree.has_within_counted.Goals as goal

-- a list that begins so has an element
some-not_none : {A : Type 0} (x : A) (xs : List A) → true ≡ not (length (x ∷ xs) == 0)
some-not_none x xs = grind (arith, nat_tests)

-- Where keys ascend, some meet an upper bound exactly where the first does.
passes-up_to : {V : Type 0} (high : Bound (List ℕ)) (list : List (List ℕ × V))
    → KeysAscend (λ pair. pair.0) list
    → first_passes (is_below high) list ≡ not (length (up_to high list) == 0)
passes-up_to high [] ascends = refl
passes-up_to {V} high (pair ∷ list) ascends =
    let P : Bool → Type 0 = λ t. is_below high pair.0 ≡ t
    → t ≡ not (length (up_to high (pair ∷ list)) == 0) in
    let both : (t : Bool) → P t = elim [
      | true ↦ (λ meets. some-not_none pair (up_to high list)
          ∙ sym (ap (λ (kept : List (List ℕ × V)). not (length kept == 0))
          (up_to-first high pair list ascends meets)))
      | false ↦ (λ past. sym (ap (λ (kept : List (List ℕ × V)). not (length kept == 0))
          (up_to-past high pair list ascends past)))
    ] in
    both (is_below high pair.0) refl

pub has_within-requires-clause-tree : goal.has_within-requires-clause-tree
has_within-requires-clause-tree g c =
    (root-sound shape_of g.K.KeyTrait.MAXIMUM_SIZE
    c.self.inside.version c.self.inside.root c.args.self.now c.self.invariant c.self.view_is
    c.in-Some.root c.in-Some.is).0

pub has_within-requires-clause-short : goal.has_within-requires-clause-short
has_within-requires-clause-short g c =
    root-short shape_of g.K.KeyTrait.MAXIMUM_SIZE
    c.self.inside.version c.self.inside.root c.args.self.now c.self.invariant c.self.view_is
    c.in-Some.root c.in-Some.is (Some (2 ^ 64 - 1)) (λ count less. omega (arith, less))

pub returns-in-None-clause-answer : goal.returns-in-None-clause-answer
returns-in-None-clause-answer g c =
    let most = g.K.KeyTrait.MAXIMUM_SIZE in
    let test = λ (pair : List ℕ × g.row.V.Denot). bounds_contain (as_partial_cmp byte_order)
    (bound_map (λ low. low.now) c.args.low) (bound_map (λ high. high.now) c.args.high) pair.0
    in
    let none = no-pairs shape_of most c.self.inside.version c.self.inside.root c.args.self.now
    c.self.invariant c.self.view_is c.in-None.is in
    sym (ap (λ list. not (length (filter test list) == 0)) none)

pub returns-in-None-clause-entered : goal.returns-in-None-clause-entered
returns-in-None-clause-entered g c =
    λ keyed.
    absurd (none-keyed shape_of g.K.KeyTrait.MAXIMUM_SIZE
    c.self.inside.version c.self.inside.root c.args.self.now c.self.invariant c.self.view_is
    c.in-None.is keyed)

pub returns-in-Some-clause-answer : goal.returns-in-Some-clause-answer
returns-in-Some-clause-answer g c =
    let most = g.K.KeyTrait.MAXIMUM_SIZE in
    let low = bound_map (λ low. low.now) c.args.low in
    let high = bound_map (λ high. high.now) c.args.high in
    let all = root-pairs shape_of most c.self.inside.version c.self.inside.root
    c.args.self.now c.self.invariant c.self.view_is c.in-Some.root c.in-Some.is in
    let content = c.args.self.now.content in
    c.has_within.ensures.passes
    ∙ sym (ap (λ list. first_passes (is_below high) (from low list)) all)
    ∙ passes-up_to high (from low (pairs content)) (from-ascends content low)
    ∙ sym (ap (λ list. not (length list == 0)) (within-from content low high))

pub returns-in-Some-clause-counted : goal.returns-in-Some-clause-counted
returns-in-Some-clause-counted g c =
    let s = c.in-Some.root.shape in
    let low = bound_map (λ low. low.now) c.args.low in
    let high = bound_map (λ high. high.now) c.args.high in
    let most = path-most s (bound_string low) in
    counts-most c.has_within.ensures.counted (omega (arith, most)) (omega arith)
