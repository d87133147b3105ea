use Rattle.std.proofs.Common.{◌+◌, None, arith, sym, ap, subst, ◌∙◌}
use Rattle.std.specs.Option.{option_map}
use Rattle.rart_maps.specs.Prefixes.{pairs_under, under_prefix}
use Rattle.rart_maps.specs.Versions.{Version}
use Rattle.rart_node.specs.Seen.{shape_of}
use Rattle.rart_node.proofs.CountingLemmas.{counts-most, path-most}
use Rattle.rart_ways.proofs.EditLemmas.{on-any}
use Rattle.rart_versioned.specs.Roots.{IsUnderIn, map_of}
use Rattle.rart_versioned.proofs.SoundLemmas.{tree-in}
use Rattle.rart_versioned.proofs.VersionIterationLemmas.{root-value}
use Rattle.rart_versioned.proofs.VersionPrefixLemmas.{under-none, under-root, map-under, sound-under, some-there, there-none}
use Rattle.rart_versioned.proofs.VersionVisitLemmas.{none-keyed}
use Rattle.rart_versioned.proofs.counted.tree.VersionedAdaptiveRadixTree.prefix_snapshot_counted.Goals as goal

pub returns-in_default-clause-kept : goal.returns-in_default-clause-kept
returns-in_default-clause-kept g c =
    let p = c.args.prefix.now in
    c.new_at.ensures.empty
    ∙ ap (λ m. record { content = m; number = c.self.inside.version + 1 })
    (map-under {V = g.row.V.Denot} None None p tt (under-none p))
    ∙ ap (λ o. record {
      content = pairs_under (map_of (option_map shape_of o)) p;
      number = c.self.inside.version + 1;
    }) (sym c.in_default.is)
    ∙ ap (λ (v : Version g.row.V.Denot). under_prefix v p 1) c.self.view_is

pub returns-in_default-clause-entered : goal.returns-in_default-clause-entered
returns-in_default-clause-entered g c keyed =
    absurd (none-keyed shape_of g.K.KeyTrait.MAXIMUM_SIZE c.self.inside.version
    c.self.inside.root c.args.self.now c.self.invariant c.self.view_is c.in_default.is keyed)

pub returns-in_err-root-clause-present : goal.returns-in_err-root-clause-present
returns-in_err-root-clause-present g c =
    on-any c.from_residual.result
    (some-there c.args.self.now c.in-Some.root.shape c.args.prefix.now
    (root-value shape_of g.K.KeyTrait.MAXIMUM_SIZE c.self.inside.version c.self.inside.root
    c.args.self.now c.self.invariant c.self.view_is c.in-Some.root c.in-Some.is)
    c.in_err-root.ensures.present)

pub returns-in_err-root-clause-absent_makes_none :
    goal.returns-in_err-root-clause-absent_makes_none
returns-in_err-root-clause-absent_makes_none g c none =
    c.keep_under.ensures.absent_makes_none
    (there-none c.args.self.now c.in-Some.root.shape c.args.prefix.now
    (root-value shape_of g.K.KeyTrait.MAXIMUM_SIZE c.self.inside.version c.self.inside.root
    c.args.self.now c.self.invariant c.self.view_is c.in-Some.root c.in-Some.is) none)

pub invariant_of-result : goal.invariant_of-result
invariant_of-result g c =
    let p = c.args.prefix.now in
    let before = option_map shape_of c.self.inside.root in
    let after = option_map shape_of c.in_ok-root.root in
    let under : IsUnderIn p before after =
    subst (λ o. IsUnderIn p (option_map shape_of o) after) (sym c.in-Some.is)
    (under-root p c.in-Some.root.shape after c.in_ok-root.ensures.kept) in
    sound-under g.K.KeyTrait.MAXIMUM_SIZE c.self.inside.version _ before after p
    c.self.invariant (omega arith) under

pub returns-clause-kept : goal.returns-clause-kept
returns-clause-kept g c =
    let p = c.args.prefix.now in
    let before = option_map shape_of c.self.inside.root in
    let after = option_map shape_of c.in_ok-root.root in
    let tree = tree-in g.K.KeyTrait.MAXIMUM_SIZE c.self.inside.version before c.self.invariant in
    let under : IsUnderIn p before after =
    subst (λ o. IsUnderIn p (option_map shape_of o) after) (sym c.in-Some.is)
    (under-root p c.in-Some.root.shape after c.in_ok-root.ensures.kept) in
    ap (λ m. record { content = m; number = c.self.inside.version + 1 })
    (map-under before after p tree under)
    ∙ ap (λ (v : Version g.row.V.Denot). under_prefix v p 1) c.self.view_is

pub returns-clause-counted : goal.returns-clause-counted
returns-clause-counted g c =
    counts-most c.keep_under.ensures.counted
    (path-most c.in-Some.root.shape c.args.prefix.now) (omega arith)

pub returns-clause-absent_makes_none : goal.returns-clause-absent_makes_none
returns-clause-absent_makes_none g c none =
    c.keep_under.ensures.absent_makes_none
    (there-none c.args.self.now c.in-Some.root.shape c.args.prefix.now
    (root-value shape_of g.K.KeyTrait.MAXIMUM_SIZE c.self.inside.version c.self.inside.root
    c.args.self.now c.self.invariant c.self.view_is c.in-Some.root c.in-Some.is) none)
