use Rattle.std.proofs.Common.{None, length, refl, sym, ap, ◌∙◌, arith}
use Rattle.std.specs.List.{last_or}
use Rattle.rart_node.specs.Seen.{shape_of}
use Rattle.rart_node.proofs.CountingLemmas.{counts-most, path-most}
use Rattle.rart_versioned.proofs.VersionVisitLemmas.{none-keyed, none-prefix_matches, root-prefix_matches}
use Rattle.rart_versioned.proofs.counted.tree.VersionedAdaptiveRadixTree.longest_prefix_counted.Goals as goal

pub returns-in-None-clause-found : goal.returns-in-None-clause-found
returns-in-None-clause-found g c =
    sym (ap (last_or None) (none-prefix_matches shape_of
    g.K.KeyTrait.MAXIMUM_SIZE c.self.inside.version c.self.inside.root c.args.self.now
    c.self.invariant c.self.view_is c.args.probe.now c.in-None.is))

pub returns-in-None-clause-entered : goal.returns-in-None-clause-entered
returns-in-None-clause-entered g c =
    λ keyed.
    absurd (none-keyed shape_of g.K.KeyTrait.MAXIMUM_SIZE
    c.self.inside.version c.self.inside.root c.args.self.now c.self.invariant c.self.view_is
    c.in-None.is keyed)

pub returns-in-Some-clause-found : goal.returns-in-Some-clause-found
returns-in-Some-clause-found g c =
    c.longest_prefix_match.ensures.longest
    ∙ sym (ap (last_or None) (root-prefix_matches shape_of
    g.K.KeyTrait.MAXIMUM_SIZE c.self.inside.version c.self.inside.root c.args.self.now
    c.self.invariant c.self.view_is c.in-Some.root c.in-Some.is _ _ refl))

pub returns-in-Some-clause-counted : goal.returns-in-Some-clause-counted
returns-in-Some-clause-counted g c =
    let s = c.in-Some.root.shape in
    counts-most c.longest_prefix_match.ensures.counted (path-most s c.args.probe.now)
    (omega arith)

pub returns-in-None-clause-each : goal.returns-in-None-clause-each
returns-in-None-clause-each g c =
    let none = ap length (none-prefix_matches shape_of g.K.KeyTrait.MAXIMUM_SIZE
    c.self.inside.version c.self.inside.root c.args.self.now c.self.invariant c.self.view_is
    c.args.probe.now c.in-None.is) in
    omega (arith, none)

pub returns-in-Some-clause-each : goal.returns-in-Some-clause-each
returns-in-Some-clause-each g c =
    let all = ap length (root-prefix_matches shape_of g.K.KeyTrait.MAXIMUM_SIZE
    c.self.inside.version c.self.inside.root c.args.self.now c.self.invariant c.self.view_is
    c.in-Some.root c.in-Some.is c.args.probe.now c.args.probe.now refl) in
    let each = c.longest_prefix_match.ensures.each in
    omega (arith, all, each)
