use Rattle.std.proofs.Common.{◌≡◌, None, true, length, refl, sym, ap, ◌∙◌, arith}
use Rattle.std.proofs.lemmas.Bool.{true≢false}
use Rattle.std.specs.Option.{option_map}
use Rattle.rart_node.specs.Seen.{shape_of}
use Rattle.rart_versioned.specs.Roots.{found_in}
use Rattle.rart_maps.specs.Versions.{has_no_key}
use Rattle.rart_node.proofs.CountingLemmas.{counts-most, path-most}
use Rattle.rart_versioned.proofs.VersionMapLemmas.{get-found}
use Rattle.rart_versioned.proofs.SoundLemmas.{value-in, no-key}
use Rattle.rart_versioned.proofs.VersionVisitLemmas.{none-prefix_matches, root-prefix_matches}
use Rattle.rart_versioned.proofs.counted.tree.VersionedAdaptiveRadixTree.get_bytes_counted.Goals as goal

pub returns-in-None-clause-value : goal.returns-in-None-clause-value
returns-in-None-clause-value g c =
    rw (← c.self.view_is, c.in-None.is)
    (sym (get-found None c.args.key.now tt))

pub returns-in-None-clause-entered : goal.returns-in-None-clause-entered
returns-in-None-clause-entered g c =
    λ keyed.
    let none : has_no_key c.args.self.now ≡ true =
    rw (← c.self.view_is, c.in-None.is) (no-key g.row.V.Denot c.self.inside.version) in
    absurd (true≢false (sym none ∙ keyed))

pub returns-in-Some-clause-value : goal.returns-in-Some-clause-value
returns-in-Some-clause-value g c =
    let w = c.args.key.now in
    let o = option_map shape_of c.self.inside.root in
    rw (← c.self.view_is) (c.get_below.ensures.value
    ∙ sym (value-in g.K.KeyTrait.MAXIMUM_SIZE c.self.inside.version o c.self.inside.version w
    c.self.invariant ∙ ap (λ z. found_in (option_map shape_of z) w) c.in-Some.is))

pub returns-in-Some-clause-counted : goal.returns-in-Some-clause-counted
returns-in-Some-clause-counted g c =
    let s = c.in-Some.root.shape in
    counts-most c.get_below.ensures.counted (path-most s c.args.key.now) (omega arith)

pub returns-in-None-clause-each : goal.returns-in-None-clause-each
returns-in-None-clause-each g c =
    let none = ap length (none-prefix_matches shape_of g.K.KeyTrait.MAXIMUM_SIZE
    c.self.inside.version c.self.inside.root c.args.self.now c.self.invariant c.self.view_is
    c.args.key.now c.in-None.is) in
    omega (arith, none)

pub returns-in-Some-clause-each : goal.returns-in-Some-clause-each
returns-in-Some-clause-each g c =
    let all = ap length (root-prefix_matches shape_of g.K.KeyTrait.MAXIMUM_SIZE
    c.self.inside.version c.self.inside.root c.args.self.now c.self.invariant c.self.view_is
    c.in-Some.root c.in-Some.is c.args.key.now c.args.key.now refl) in
    let each = c.get_below.ensures.each in
    omega (arith, all, each)
