use Rattle.std.proofs.Common.{◌≡◌, ℕ, List, [], ◌∷◌, arith, refl, reverse, sym, ap, subst, ◌∙◌}
use Rattle.std.specs.Prelude.{◌-◌, ◌^◌, Some, filter}
use Rattle.std.specs.Ordering.{as_partial_cmp}
use Rattle.std.specs.Range.Bound.{bound_map, bounds_contain}
use Rattle.std.specs.declared.ops.Bound.TheVariants.{Unbounded}
use Rattle.rart_below.specs.Bytes.{byte_order}
use Rattle.rart_node.specs.Seen.{shape_of}
use Rattle.rart_maps.proofs.RangeLemmas.{from, up_to, within-from}
use Rattle.rart_ways.specs.Firsts.{Finds}
use Rattle.rart_node.proofs.CountingLemmas.{counts-most, path-most}
use Rattle.rart_maps.specs.Bounds.{bound_string}
use Rattle.rart_versioned.proofs.VersionIterationLemmas.{no-pairs, root-sound, root-pairs, root-short}
use Rattle.rart_versioned.proofs.VersionVisitLemmas.{none-keyed}
use Rattle.rart_versioned.proofs.counted.tree.VersionedAdaptiveRadixTree.last_to_counted.Goals as goal

-- without a lower bound all are kept
from-all : {V : Type 0} (list : List (List ℕ × V)) → from Unbounded list ≡ list
from-all [] = refl
from-all (pair ∷ list) = ap (λ rest. pair ∷ rest) (from-all list)

pub last_to-requires-clause-tree : goal.last_to-requires-clause-tree
last_to-requires-clause-tree g c =
    (root-sound shape_of g.K.KeyTrait.MAXIMUM_SIZE
    c.self.inside.version c.self.inside.root c.args.self.now c.self.invariant c.self.view_is
    c.in-Some.root c.in-Some.is).0

pub last_to-requires-clause-short : goal.last_to-requires-clause-short
last_to-requires-clause-short g c =
    root-short shape_of g.K.KeyTrait.MAXIMUM_SIZE
    c.self.inside.version c.self.inside.root c.args.self.now c.self.invariant c.self.view_is
    c.in-Some.root c.in-Some.is (Some (2 ^ 64 - 1)) (λ count less. omega (arith, less))

pub returns-in-None-clause-last : goal.returns-in-None-clause-last
returns-in-None-clause-last g c =
    let most = g.K.KeyTrait.MAXIMUM_SIZE in
    let test = λ (pair : List ℕ × g.row.V.Denot). bounds_contain (as_partial_cmp byte_order)
    Unbounded (bound_map (λ high. high.now) c.args.high) pair.0 in
    let none = no-pairs shape_of most c.self.inside.version c.self.inside.root c.args.self.now
    c.self.invariant c.self.view_is c.in-None.is in
    (ap (λ list. reverse (filter test list)) none, refl)

pub returns-in-None-clause-entered : goal.returns-in-None-clause-entered
returns-in-None-clause-entered g c =
    λ keyed.
    absurd (none-keyed shape_of g.K.KeyTrait.MAXIMUM_SIZE
    c.self.inside.version c.self.inside.root c.args.self.now c.self.invariant c.self.view_is
    c.in-None.is keyed)

pub returns-in-Some-clause-last : goal.returns-in-Some-clause-last
returns-in-Some-clause-last g c =
    let most = g.K.KeyTrait.MAXIMUM_SIZE in
    let high = bound_map (λ high. high.now) c.args.high in
    let all = root-pairs shape_of most c.self.inside.version c.self.inside.root
    c.args.self.now c.self.invariant c.self.view_is c.in-Some.root c.in-Some.is in
    subst (λ list. Finds (reverse list) c.last_to.result c.args.room.now c.last_to.new.room)
    (sym (within-from c.args.self.now.content Unbounded high ∙ ap (up_to high) (from-all _ ∙ all)))
    c.last_to.ensures.last

pub returns-in-Some-clause-counted : goal.returns-in-Some-clause-counted
returns-in-Some-clause-counted g c =
    let s = c.in-Some.root.shape in
    let high = bound_map (λ high. high.now) c.args.high in
    let most = path-most s (bound_string high) in
    counts-most c.last_to.ensures.counted (omega (arith, most)) (omega arith)
