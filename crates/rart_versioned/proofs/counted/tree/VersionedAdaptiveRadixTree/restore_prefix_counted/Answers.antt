use Rattle.std.proofs.Common.{◌+◌, ⊎_elim, inl, inr, length, arith, sym, ap, subst, ◌∙◌}
use Rattle.std.specs.Option.{option_map}
use Rattle.rart_below.specs.Bytes.{IsAdmitted}
use Rattle.rart_maps.specs.Prefixes.{after_prefix_restoring}
use Rattle.rart_node.specs.Seen.{shape_of}
use Rattle.rart_versioned.specs.Roots.{IsSound}
use Rattle.rart_versioned.proofs.RestoringLemmas.{some-in, map-restored, sound-restored}
use Rattle.rart_ways.proofs.EditLemmas.{on-any}
use Rattle.rart_versioned.proofs.VersionIterationLemmas.{value-found}
use Rattle.rart_versioned.proofs.SoundLemmas.{tree-in, admitted, has-root}
use Rattle.rart_versioned.proofs.counted.tree.VersionedAdaptiveRadixTree.restore_prefix_counted.Goals as goal

pub restore_under-requires-clause-tree : goal.restore_under-requires-clause-tree
restore_under-requires-clause-tree g c =
    tree-in g.K.KeyTrait.MAXIMUM_SIZE c.self.inside.version
    (option_map shape_of c.self.inside.root) c.self.invariant

pub restore_under-requires-clause-lengths : goal.restore_under-requires-clause-lengths
restore_under-requires-clause-lengths g c = λ key there.
    subst (λ most. IsAdmitted most (length key)) (sym g.met.K.KeyTrait.maximum_of_partial)
    (admitted g.K.KeyTrait.MAXIMUM_SIZE c.self.inside.version
    (option_map shape_of c.self.inside.root) c.self.invariant key there).0.0

pub restore_under-requires-clause-tree_from : goal.restore_under-requires-clause-tree_from
restore_under-requires-clause-tree_from g c =
    tree-in g.K.KeyTrait.MAXIMUM_SIZE c.from.inside.version
    (option_map shape_of c.from.inside.root) c.from.invariant

pub restore_under-requires-clause-lengths_from : goal.restore_under-requires-clause-lengths_from
restore_under-requires-clause-lengths_from g c = λ key there.
    subst (λ most. IsAdmitted most (length key)) (sym g.met.K.KeyTrait.maximum_of_partial)
    (admitted g.K.KeyTrait.MAXIMUM_SIZE c.from.inside.version
    (option_map shape_of c.from.inside.root) c.from.invariant key there).0.0

pub invariant_of-self : goal.invariant_of-self
invariant_of-self g c =
    subst (IsSound g.K.KeyTrait.MAXIMUM_SIZE c.self.inside.version)
    (sym c.in_err-restore_under.ensures.refused) c.self.invariant

pub invariant_of-self-2 : goal.invariant_of-self-2
invariant_of-self-2 g c =
    let mine = option_map shape_of c.self.inside.root in
    let other = option_map shape_of c.from.inside.root in
    let after = option_map shape_of c.restore_under.new.root in
    sound-restored g.K.KeyTrait.MAXIMUM_SIZE c.self.inside.version c.from.inside.version _
    c.args.prefix.now other mine after c.self.invariant c.from.invariant (omega arith)
    c.in_ok-restore_under.ensures.replaced

pub returns-clause-restored : goal.returns-clause-restored
returns-clause-restored g c =
    let p = c.args.prefix.now in
    let most = g.K.KeyTrait.MAXIMUM_SIZE in
    let mine = option_map shape_of c.self.inside.root in
    let other = option_map shape_of c.from.inside.root in
    let after = option_map shape_of c.restore_under.new.root in
    ap (λ m. record { content = m; number = c.self.inside.version + c.from.inside.version })
    (map-restored p other mine after (tree-in most c.from.inside.version other c.from.invariant)
    (tree-in most c.self.inside.version mine c.self.invariant)
    c.in_ok-restore_under.ensures.replaced)
    ∙ (λ i. after_prefix_restoring (c.self.view_is i) p (c.from.view_is i))

pub returns-clause-entered : goal.returns-clause-entered
returns-clause-entered g c keyed =
    c.restore_under.ensures.entered (has-root shape_of c.self.inside.root
    c.self.inside.version c.args.self.now c.self.view_is keyed)

pub returns-clause-entered_other : goal.returns-clause-entered_other
returns-clause-entered_other g c keyed =
    c.restore_under.ensures.entered_from (has-root shape_of c.from.inside.root
    c.from.inside.version c.args.from.now c.from.view_is keyed)

-- ---- refused

pub returns-in_err-restore_under-clause-entered :
    goal.returns-in_err-restore_under-clause-entered
returns-in_err-restore_under-clause-entered g c keyed =
    c.restore_under.ensures.entered (has-root shape_of c.self.inside.root
    c.self.inside.version c.args.self.now c.self.view_is keyed)

pub returns-in_err-restore_under-clause-entered_other :
    goal.returns-in_err-restore_under-clause-entered_other
returns-in_err-restore_under-clause-entered_other g c keyed =
    c.restore_under.ensures.entered_from (has-root shape_of c.from.inside.root
    c.from.inside.version c.args.from.now c.from.view_is keyed)

pub returns-in_err-restore_under-clause-present : goal.returns-in_err-restore_under-clause-present
returns-in_err-restore_under-clause-present g c =
    on-any c.from_residual.result
    (⊎_elim
    (λ mine. inl (some-in c.args.self.now c.args.prefix.now (option_map shape_of c.self.inside.root)
    (value-found shape_of g.K.KeyTrait.MAXIMUM_SIZE c.self.inside.version c.self.inside.root
    c.args.self.now c.self.invariant c.self.view_is) mine))
    (λ other. inr (some-in c.args.from.now c.args.prefix.now
    (option_map shape_of c.from.inside.root)
    (value-found shape_of g.K.KeyTrait.MAXIMUM_SIZE c.from.inside.version c.from.inside.root
    c.args.from.now c.from.invariant c.from.view_is) other))
    c.in_err-restore_under.ensures.present)
