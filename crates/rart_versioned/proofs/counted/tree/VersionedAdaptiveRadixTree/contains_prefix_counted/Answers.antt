use Rattle.std.proofs.Common.{◌≡◌, ℕ, List, None, true, false, ap, arith, refl, sym, ◌∙◌}
use Rattle.std.specs.Option.{option_map}
use Rattle.rart_maps.specs.Prefixes.{has_under}
use Rattle.rart_maps.specs.Versions.{value_at}
use Rattle.rart_node.specs.Seen.{shape_of}
use Rattle.rart_node.proofs.CountingLemmas.{counts-most, path-most}
use Rattle.rart_versioned.specs.Roots.{found_in}
use Rattle.rart_versioned.proofs.VersionIterationLemmas.{root-value, root-sound, value-found}
use Rattle.rart_versioned.proofs.VersionPrefixLemmas.{some-there, none-there, no-root-none}
use Rattle.rart_versioned.proofs.VersionVisitLemmas.{none-keyed}
use Rattle.rart_versioned.proofs.counted.tree.VersionedAdaptiveRadixTree.contains_prefix_counted.Goals as goal

pub returns-in-None-clause-there : goal.returns-in-None-clause-there
returns-in-None-clause-there g c =
    let none : (w : List ℕ) → value_at c.args.self.now w ≡ None =
    λ w. value-found shape_of g.K.KeyTrait.MAXIMUM_SIZE c.self.inside.version c.self.inside.root
    c.args.self.now c.self.invariant c.self.view_is w
    ∙ ap (λ root. found_in (option_map shape_of root) w) c.in-None.is in
    sym (no-root-none c.args.self.now c.args.prefix.now none)

pub returns-in-None-clause-entered : goal.returns-in-None-clause-entered
returns-in-None-clause-entered g c keyed =
    absurd (none-keyed shape_of g.K.KeyTrait.MAXIMUM_SIZE c.self.inside.version
    c.self.inside.root c.args.self.now c.self.invariant c.self.view_is c.in-None.is keyed)

pub has_under-requires : goal.has_under-requires
has_under-requires g c = record {
  tree = (root-sound shape_of g.K.KeyTrait.MAXIMUM_SIZE c.self.inside.version c.self.inside.root
      c.args.self.now c.self.invariant c.self.view_is c.in-Some.root c.in-Some.is).0;
}

pub returns-in-Some-clause-there : goal.returns-in-Some-clause-there
returns-in-Some-clause-there g c =
    let v = c.args.self.now in
    let root = c.in-Some.root.shape in
    let p = c.args.prefix.now in
    let values =
    root-value shape_of g.K.KeyTrait.MAXIMUM_SIZE c.self.inside.version c.self.inside.root
    v c.self.invariant c.self.view_is c.in-Some.root c.in-Some.is in
    elim c.has_under.result as (λ t. c.has_under.result ≡ t → t ≡ has_under v p) [
      | true ↦ λ is. sym (some-there v root p values (c.has_under.ensures.there is))
      | false ↦ λ is. sym (none-there v root p values (c.has_under.ensures.none is))
    ] refl

pub returns-in-Some-clause-counted : goal.returns-in-Some-clause-counted
returns-in-Some-clause-counted g c =
    let most = path-most c.in-Some.root.shape c.args.prefix.now in
    counts-most c.has_under.ensures.counted (omega (arith, most)) (omega arith)
