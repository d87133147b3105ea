use Rattle.std.proofs.Common.{◌≡◌, ℕ, List, [], ◌∷◌, arith, refl, sym, ap, subst, ◌∙◌}
use Rattle.std.specs.Prelude.{◌-◌, ◌^◌, Some, filter}
use Rattle.std.specs.Ordering.{as_partial_cmp}
use Rattle.std.specs.Range.Bound.{bound_map, bounds_contain}
use Rattle.std.specs.declared.ops.Bound.TheVariants.{Unbounded}
use Rattle.rart_below.specs.Bytes.{byte_order}
use Rattle.rart_node.specs.Seen.{shape_of}
use Rattle.rart_maps.proofs.RangeLemmas.{from, up_to, within-from}
use Rattle.rart_ways.specs.Firsts.{Finds}
use Rattle.rart_node.proofs.CountingLemmas.{counts-most, path-most}
use Rattle.rart_maps.specs.Bounds.{bound_string}
use Rattle.rart_versioned.proofs.VersionIterationLemmas.{no-pairs, root-sound, root-pairs, root-short}
use Rattle.rart_versioned.proofs.VersionVisitLemmas.{none-keyed}
use Rattle.rart_versioned.proofs.counted.tree.VersionedAdaptiveRadixTree.first_from_counted.Goals as goal

-- without an upper bound all are kept
up_to-all : {V : Type 0} (list : List (List ℕ × V)) → up_to Unbounded list ≡ list
up_to-all [] = refl
up_to-all (pair ∷ list) = ap (λ rest. pair ∷ rest) (up_to-all list)

pub first_from-requires-clause-tree : goal.first_from-requires-clause-tree
first_from-requires-clause-tree g c =
    (root-sound shape_of g.K.KeyTrait.MAXIMUM_SIZE
    c.self.inside.version c.self.inside.root c.args.self.now c.self.invariant c.self.view_is
    c.in-Some.root c.in-Some.is).0

pub first_from-requires-clause-short : goal.first_from-requires-clause-short
first_from-requires-clause-short g c =
    root-short shape_of g.K.KeyTrait.MAXIMUM_SIZE
    c.self.inside.version c.self.inside.root c.args.self.now c.self.invariant c.self.view_is
    c.in-Some.root c.in-Some.is (Some (2 ^ 64 - 1)) (λ count less. omega (arith, less))

pub returns-in-None-clause-first : goal.returns-in-None-clause-first
returns-in-None-clause-first g c =
    let most = g.K.KeyTrait.MAXIMUM_SIZE in
    let test = λ (pair : List ℕ × g.row.V.Denot). bounds_contain (as_partial_cmp byte_order)
    (bound_map (λ low. low.now) c.args.low) Unbounded pair.0 in
    let none = no-pairs shape_of most c.self.inside.version c.self.inside.root c.args.self.now
    c.self.invariant c.self.view_is c.in-None.is in
    (ap (filter test) none, refl)

pub returns-in-None-clause-entered : goal.returns-in-None-clause-entered
returns-in-None-clause-entered g c =
    λ keyed.
    absurd (none-keyed shape_of g.K.KeyTrait.MAXIMUM_SIZE
    c.self.inside.version c.self.inside.root c.args.self.now c.self.invariant c.self.view_is
    c.in-None.is keyed)

pub returns-in-Some-clause-first : goal.returns-in-Some-clause-first
returns-in-Some-clause-first g c =
    let most = g.K.KeyTrait.MAXIMUM_SIZE in
    let low = bound_map (λ low. low.now) c.args.low in
    let all = root-pairs shape_of most c.self.inside.version c.self.inside.root
    c.args.self.now c.self.invariant c.self.view_is c.in-Some.root c.in-Some.is in
    subst (λ list. Finds list c.first_from.result c.args.room.now c.first_from.new.room)
    (sym (within-from c.args.self.now.content low Unbounded ∙ up_to-all _ ∙ ap (from low)
    all))
    c.first_from.ensures.first

pub returns-in-Some-clause-counted : goal.returns-in-Some-clause-counted
returns-in-Some-clause-counted g c =
    let s = c.in-Some.root.shape in
    let low = bound_map (λ low. low.now) c.args.low in
    let most = path-most s (bound_string low) in
    counts-most c.first_from.ensures.counted (omega (arith, most)) (omega arith)
