use Rattle.std.proofs.Common.{arith, is_some, Some, None, ◌≡◌, ◌+◌, sym, ap, subst, ◌∙◌}
use Rattle.std.specs.Option.{option_map}
use Rattle.rart_node.specs.Seen.{shape_of}
use Rattle.rart_ways.specs.Removals.{IsTakenOr}
use Rattle.rart_ways.proofs.EditLemmas.{on-any}
use Rattle.rart_ways.proofs.PlanLemmas.{not_some-None}
use Rattle.rart_versioned.specs.Roots.{map_of, IsSound}
use Rattle.rart_maps.specs.Versions.{Version, value_at, without_key}
use Rattle.rart_node.proofs.CountingLemmas.{counts-most, path-most}
use Rattle.rart_versioned.proofs.VersionMapLemmas.{get-found}
use Rattle.rart_versioned.proofs.SoundLemmas.{tree-in}
use Rattle.rart_versioned.proofs.VersionIterationLemmas.{root-value}
use Rattle.rart_versioned.proofs.VersionVisitLemmas.{none-keyed}
use Rattle.rart_versioned.proofs.VersionRemovalLemmas.{IsTakenIn, kept, root-taken, map-taken, sound-taken, sound-admitted, absent-stays, present-outcome}
use Rattle.rart_versioned.proofs.counted.tree.VersionedAdaptiveRadixTree.take_in.Goals as goal
use Rattle.rart_versioned.proofs.counted.tree.VersionedAdaptiveRadixTree.take_in.Goals.{then-removed+in-Some-1, then-removed+in-None-1, else-removed}

pub remove_below-requires : goal.remove_below-requires
remove_below-requires g c =
    let most = g.K.KeyTrait.MAXIMUM_SIZE in
    let sound : IsSound most c.self.inside.version (Some c.in-Some.root.shape) =
    subst (λ o. IsSound g.K.KeyTrait.MAXIMUM_SIZE c.self.inside.version (option_map shape_of o))
    c.in-Some.is c.self.invariant in
    record {
      clones = c.requires.clones;
      tree = sound.0;
      lengths =
          sound-admitted g.K.KeyTrait.MAXIMUM_SIZE _ c.self.inside.version c.in-Some.root.shape
          sound g.met.K.KeyTrait.maximum_of_partial;
    }

pub invariant_of-self-2 : goal.invariant_of-self-2
invariant_of-self-2 g c =
    let w = c.args.key.now in
    let before = option_map shape_of c.self.inside.root in
    let tree = tree-in g.K.KeyTrait.MAXIMUM_SIZE c.self.inside.version before c.self.invariant in
    let after = option_map shape_of c.if-removed.self-inside.root in
    let left = c.in_ok-removed.removed.left_empty in
    let root_is : after ≡ kept left c.remove_below.new.root.shape = elim c.if-removed.branch [
      | then-removed+in-Some-1 b ↦ ap (λ (i : _). option_map shape_of i.root) b.self-inside-is
          ∙ ap (λ t. kept t c.remove_below.new.root.shape) (sym b.if-removed.true)
      | then-removed+in-None-1 b ↦ ap (λ (i : _). option_map shape_of i.root) b.self-inside-is
          ∙ ap (λ t. kept t c.remove_below.new.root.shape) (sym b.if-removed.true)
      | else-removed b ↦ ap (λ (i : _). option_map shape_of i.root) b.self-inside-is
          ∙ ap (λ t. kept t c.remove_below.new.root.shape) (sym b.if-removed.false)
    ] in
    let at_root : IsTakenOr left w c.in-Some.root.shape c.remove_below.new.root.shape =
    c.in_ok-removed.ensures.taken in
    let taken : IsTakenIn w before after =
    subst (λ o. IsTakenIn w (option_map shape_of o) after) (sym c.in-Some.is)
    (root-taken w c.in-Some.root.shape
    c.remove_below.new.root.shape left after at_root root_is) in
    sound-taken g.K.KeyTrait.MAXIMUM_SIZE c.self.inside.version _ before after w c.self.invariant
    (omega arith) taken

pub returns-in_default-clause-answer : goal.returns-in_default-clause-answer
returns-in_default-clause-answer g c =
    rw (← c.self.view_is, c.in_default.is) (sym (get-found None c.args.key.now tt))

pub returns-in_default-clause-removed : goal.returns-in_default-clause-removed
returns-in_default-clause-removed g c =
    let w = c.args.key.now in
    let none : value_at c.args.self.now w ≡ None =
    rw (← c.self.view_is, c.in_default.is) (get-found None w tt) in
    c.self.view_is ∙ absent-stays c.args.self.now w c.args.more none

pub returns-in_default-clause-entered : goal.returns-in_default-clause-entered
returns-in_default-clause-entered g c keyed =
    absurd (none-keyed shape_of g.K.KeyTrait.MAXIMUM_SIZE c.self.inside.version
    c.self.inside.root c.args.self.now c.self.invariant c.self.view_is c.in_default.is keyed)

pub returns-in_err-removed-clause-present : goal.returns-in_err-removed-clause-present
returns-in_err-removed-clause-present g c =
    let value_is = root-value shape_of g.K.KeyTrait.MAXIMUM_SIZE c.self.inside.version
    c.self.inside.root c.args.self.now c.self.invariant c.self.view_is c.in-Some.root c.in-Some.is c.args.key.now in
    on-any c.from_residual.result
    (sym (ap is_some value_is) ∙ c.in_err-removed.ensures.present)

pub returns-in_err-removed-clause-counted : goal.returns-in_err-removed-clause-counted
returns-in_err-removed-clause-counted g c =
    let most = path-most c.in-Some.root.shape c.args.key.now in
    counts-most c.remove_below.ensures.counted (omega (arith, most)) most

pub returns-in_err-removed-clause-absent_makes_none :
    goal.returns-in_err-removed-clause-absent_makes_none
returns-in_err-removed-clause-absent_makes_none g c none =
    c.remove_below.ensures.absent_makes_none
    (root-value shape_of g.K.KeyTrait.MAXIMUM_SIZE c.self.inside.version c.self.inside.root
    c.args.self.now c.self.invariant c.self.view_is c.in-Some.root c.in-Some.is c.args.key.now
    ∙ none)

pub returns-then-is_none-clause-answer : goal.returns-then-is_none-clause-answer
returns-then-is_none-clause-answer g c =
    let gone = not_some-None c.in_ok-removed.removed.value c.if-is_none.ensures in
    sym gone ∙ c.in_ok-removed.ensures.value
    ∙ root-value shape_of g.K.KeyTrait.MAXIMUM_SIZE c.self.inside.version c.self.inside.root
    c.args.self.now c.self.invariant c.self.view_is c.in-Some.root c.in-Some.is c.args.key.now

pub returns-then-is_none-clause-removed : goal.returns-then-is_none-clause-removed
returns-then-is_none-clause-removed g c =
    let w = c.args.key.now in
    let value_is = root-value shape_of g.K.KeyTrait.MAXIMUM_SIZE c.self.inside.version
    c.self.inside.root c.args.self.now c.self.invariant c.self.view_is c.in-Some.root c.in-Some.is w in
    let gone = not_some-None c.in_ok-removed.removed.value c.if-is_none.ensures in
    let none = sym c.in_ok-removed.ensures.value ∙ gone in
    ap (λ z. record { content = map_of (Some z); number = c.self.inside.version })
    (c.in_ok-removed.ensures.absent none)
    ∙ ap (λ o. record { content = map_of (option_map shape_of o); number = c.self.inside.version })
    (sym c.in-Some.is) ∙ c.self.view_is
    ∙ absent-stays c.args.self.now w c.args.more (sym value_is ∙ none)

pub returns-then-is_none-clause-counted : goal.returns-then-is_none-clause-counted
returns-then-is_none-clause-counted g c =
    let most = path-most c.in-Some.root.shape c.args.key.now in
    counts-most c.remove_below.ensures.counted (omega (arith, most)) most

pub returns-then-is_none-clause-absent_makes_none :
    goal.returns-then-is_none-clause-absent_makes_none
returns-then-is_none-clause-absent_makes_none g c none =
    c.remove_below.ensures.absent_makes_none
    (root-value shape_of g.K.KeyTrait.MAXIMUM_SIZE c.self.inside.version c.self.inside.root
    c.args.self.now c.self.invariant c.self.view_is c.in-Some.root c.in-Some.is c.args.key.now
    ∙ none)

pub returns-clause-answer : goal.returns-clause-answer
returns-clause-answer g c =
    c.in_ok-removed.ensures.value
    ∙ root-value shape_of g.K.KeyTrait.MAXIMUM_SIZE c.self.inside.version c.self.inside.root
    c.args.self.now c.self.invariant c.self.view_is c.in-Some.root c.in-Some.is c.args.key.now

pub returns-clause-removed : goal.returns-clause-removed
returns-clause-removed g c =
    let w = c.args.key.now in
    let before = option_map shape_of c.self.inside.root in
    let tree = tree-in g.K.KeyTrait.MAXIMUM_SIZE c.self.inside.version before c.self.invariant in
    let answer_is = c.in_ok-removed.ensures.value
    ∙ root-value shape_of g.K.KeyTrait.MAXIMUM_SIZE c.self.inside.version c.self.inside.root
    c.args.self.now c.self.invariant c.self.view_is c.in-Some.root c.in-Some.is w in
    let after = option_map shape_of c.if-removed.self-inside.root in
    let left = c.in_ok-removed.removed.left_empty in
    let root_is : after ≡ kept left c.remove_below.new.root.shape = elim c.if-removed.branch [
      | then-removed+in-Some-1 b ↦ ap (λ (i : _). option_map shape_of i.root) b.self-inside-is
          ∙ ap (λ t. kept t c.remove_below.new.root.shape) (sym b.if-removed.true)
      | then-removed+in-None-1 b ↦ ap (λ (i : _). option_map shape_of i.root) b.self-inside-is
          ∙ ap (λ t. kept t c.remove_below.new.root.shape) (sym b.if-removed.true)
      | else-removed b ↦ ap (λ (i : _). option_map shape_of i.root) b.self-inside-is
          ∙ ap (λ t. kept t c.remove_below.new.root.shape) (sym b.if-removed.false)
    ] in
    let at_root : IsTakenOr left w c.in-Some.root.shape c.remove_below.new.root.shape =
    c.in_ok-removed.ensures.taken in
    let taken : IsTakenIn w before after =
    subst (λ o. IsTakenIn w (option_map shape_of o) after) (sym c.in-Some.is)
    (root-taken w c.in-Some.root.shape
    c.remove_below.new.root.shape left after at_root root_is) in
    ap (λ m. record { content = m; number = c.self.inside.version + c.args.more })
    (map-taken before after w tree taken)
    ∙ ap (λ (v : Version g.row.V.Denot). without_key v w c.args.more) c.self.view_is
    ∙ present-outcome c.args.self.now w c.args.more
    (sym (ap is_some answer_is) ∙ c.if-is_none.ensures)

pub returns-clause-counted : goal.returns-clause-counted
returns-clause-counted g c =
    let most = path-most c.in-Some.root.shape c.args.key.now in
    counts-most c.remove_below.ensures.counted (omega (arith, most)) most

pub returns-clause-absent_makes_none : goal.returns-clause-absent_makes_none
returns-clause-absent_makes_none g c none =
    c.remove_below.ensures.absent_makes_none
    (root-value shape_of g.K.KeyTrait.MAXIMUM_SIZE c.self.inside.version c.self.inside.root
    c.args.self.now c.self.invariant c.self.view_is c.in-Some.root c.in-Some.is c.args.key.now
    ∙ none)
