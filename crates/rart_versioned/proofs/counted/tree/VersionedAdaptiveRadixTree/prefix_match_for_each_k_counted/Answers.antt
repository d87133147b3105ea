use Rattle.std.proofs.Common.{◌+◌, ◌≤◌, ℕ, List, length, ap, sym, subst, arith}
use Rattle.rart_node.specs.Seen.{shape_of}
use Rattle.rart_maps.specs.Visits.{BySlice, Visit, Visitable}
use Rattle.rart_maps.proofs.VisitLemmas.{up_to-over, up_to-start}
use Rattle.rart_node.specs.Trees.{path_bound}
use Rattle.rart_node.proofs.CountingLemmas.{counts-most, path-most}
use Rattle.rart_versioned.proofs.VersionVisitLemmas.{none-keyed, none-prefix_matches, root-prefix_matches}
use Rattle.rart_versioned.proofs.counted.tree.VersionedAdaptiveRadixTree.prefix_match_for_each_k_counted.Goals as goal

pub visit_prefix_matches-requires-clause-visitable :
    goal.visit_prefix_matches-requires-clause-visitable
visit_prefix_matches-requires-clause-visitable g c =
    let same = root-prefix_matches shape_of
    g.K.KeyTrait.MAXIMUM_SIZE
    c.self.inside.version
    c.self.inside.root c.args.self.now c.self.invariant c.self.view_is
    c.in-Some.root c.in-Some.is _ _ c.as_ref.ensures in
    subst (Visitable g.F.FnMut BySlice c.args.f.now) same c.requires.visitable

pub returns-in-None-clause-visits : goal.returns-in-None-clause-visits
returns-in-None-clause-visits g c =
    let none = none-prefix_matches shape_of
    g.K.KeyTrait.MAXIMUM_SIZE
    c.self.inside.version
    c.self.inside.root c.args.self.now c.self.invariant c.self.view_is
    (g.K.KeyTrait.bytes c.args.probe.now) c.in-None.is in
    up_to-over g.F.FnMut BySlice tt none (up_to-start g.F.FnMut BySlice tt c.args.f.now _)

pub returns-in-None-clause-entered : goal.returns-in-None-clause-entered
returns-in-None-clause-entered g c =
    λ keyed.
    absurd (none-keyed shape_of g.K.KeyTrait.MAXIMUM_SIZE
    c.self.inside.version
    c.self.inside.root c.args.self.now c.self.invariant c.self.view_is
    c.in-None.is keyed)

pub returns-in-Some-clause-visits : goal.returns-in-Some-clause-visits
returns-in-Some-clause-visits g c =
    let same = root-prefix_matches shape_of
    g.K.KeyTrait.MAXIMUM_SIZE
    c.self.inside.version
    c.self.inside.root c.args.self.now c.self.invariant c.self.view_is
    c.in-Some.root c.in-Some.is _ _ c.as_ref.ensures in
    subst (λ list. Visit g.F.FnMut BySlice c.args.f.now list c.visit_prefix_matches.new.f)
    (sym same)
    c.visit_prefix_matches.ensures.visits

pub returns-in-Some-clause-counted : goal.returns-in-Some-clause-counted
returns-in-Some-clause-counted g c =
    let s = c.in-Some.root.shape in
    let probe = c.as_ref.result.now in
    let most = subst (λ (k : List ℕ). path_bound s probe ≤ length k + 1) c.as_ref.ensures
    (path-most s probe) in
    counts-most c.visit_prefix_matches.ensures.counted most (omega arith)

pub returns-in-None-clause-each : goal.returns-in-None-clause-each
returns-in-None-clause-each g c =
    let none = ap length (none-prefix_matches shape_of g.K.KeyTrait.MAXIMUM_SIZE
    c.self.inside.version c.self.inside.root c.args.self.now c.self.invariant c.self.view_is
    (g.K.KeyTrait.bytes c.args.probe.now) c.in-None.is) in
    omega (arith, none)

pub returns-in-Some-clause-each : goal.returns-in-Some-clause-each
returns-in-Some-clause-each g c =
    let all = ap length (root-prefix_matches shape_of g.K.KeyTrait.MAXIMUM_SIZE
    c.self.inside.version c.self.inside.root c.args.self.now c.self.invariant c.self.view_is
    c.in-Some.root c.in-Some.is (g.K.KeyTrait.bytes c.args.probe.now) _ c.as_ref.ensures) in
    let each = c.visit_prefix_matches.ensures.each in
    omega (arith, all, each)
