use Rattle.std.proofs.Common.{◌≡◌, ◌+◌, ℕ, List, Some, None, arith, sym, ap, subst, ◌∙◌}
use Rattle.std.specs.Option.{option_map}
use Rattle.rart_maps.specs.Prefixes.{without_prefix}
use Rattle.rart_maps.specs.Versions.{Version, value_at}
use Rattle.rart_node.specs.Seen.{shape_of}
use Rattle.rart_ways.specs.Prefixes.{HasSomeUnder, IsClearedSo}
use Rattle.rart_ways.proofs.EditLemmas.{on-any}
use Rattle.rart_versioned.specs.Roots.{found_in, map_of}
use Rattle.rart_versioned.proofs.SoundLemmas.{tree-in}
use Rattle.rart_versioned.proofs.VersionIterationLemmas.{root-value, value-found}
use Rattle.rart_versioned.proofs.VersionPrefixLemmas.{IsClearedIn, cleared-part, cleared-whole, map-cleared, sound-cleared, some-there, none-there, there-none, no-root-none, nothing-stays, something-goes}
use Rattle.rart_versioned.proofs.VersionVisitLemmas.{none-keyed}
use Rattle.rart_versioned.proofs.counted.tree.VersionedAdaptiveRadixTree.remove_prefix_counted.Goals as goal
use Rattle.rart_versioned.proofs.counted.tree.VersionedAdaptiveRadixTree.remove_prefix_counted.Goals.{in-Part, in-Whole+in-Some-1, in-Whole+in-None-1}

-- ---- without a root

pub returns-in_default-clause-answer : goal.returns-in_default-clause-answer
returns-in_default-clause-answer g c =
    let none : (w : List ℕ) → value_at c.args.self.now w ≡ None =
    λ w. value-found shape_of g.K.KeyTrait.MAXIMUM_SIZE c.self.inside.version c.self.inside.root
    c.args.self.now c.self.invariant c.self.view_is w
    ∙ ap (λ root. found_in (option_map shape_of root) w) c.in_default.is in
    sym (no-root-none c.args.self.now c.args.prefix.now none)

pub returns-in_default-clause-removed : goal.returns-in_default-clause-removed
returns-in_default-clause-removed g c =
    let none : (w : List ℕ) → value_at c.args.self.now w ≡ None =
    λ w. value-found shape_of g.K.KeyTrait.MAXIMUM_SIZE c.self.inside.version c.self.inside.root
    c.args.self.now c.self.invariant c.self.view_is w
    ∙ ap (λ root. found_in (option_map shape_of root) w) c.in_default.is in
    c.self.view_is
    ∙ nothing-stays c.args.self.now c.args.prefix.now
    (no-root-none c.args.self.now c.args.prefix.now none)

pub returns-in_default-clause-entered : goal.returns-in_default-clause-entered
returns-in_default-clause-entered g c keyed =
    absurd (none-keyed shape_of g.K.KeyTrait.MAXIMUM_SIZE c.self.inside.version
    c.self.inside.root c.args.self.now c.self.invariant c.self.view_is c.in_default.is keyed)

-- ---- refused

pub returns-in_err-clear_below-clause-present : goal.returns-in_err-clear_below-clause-present
returns-in_err-clear_below-clause-present g c =
    on-any c.from_residual.result
    (some-there c.args.self.now c.in-Some.root.shape c.args.prefix.now
    (root-value shape_of g.K.KeyTrait.MAXIMUM_SIZE c.self.inside.version c.self.inside.root
    c.args.self.now c.self.invariant c.self.view_is c.in-Some.root c.in-Some.is)
    c.in_err-clear_below.ensures.present)

pub returns-in_err-clear_below-clause-absent_makes_none :
    goal.returns-in_err-clear_below-clause-absent_makes_none
returns-in_err-clear_below-clause-absent_makes_none g c none =
    c.clear_below.ensures.absent_makes_none
    (there-none c.args.self.now c.in-Some.root.shape c.args.prefix.now
    (root-value shape_of g.K.KeyTrait.MAXIMUM_SIZE c.self.inside.version c.self.inside.root
    c.args.self.now c.self.invariant c.self.view_is c.in-Some.root c.in-Some.is) none)

-- ---- nothing is there

pub returns-in-Nothing-clause-answer : goal.returns-in-Nothing-clause-answer
returns-in-Nothing-clause-answer g c =
    let cleared =
    subst (λ z. IsClearedSo z c.args.prefix.now c.in-Some.root.shape c.clear_below.new.root.shape)
    c.in-Nothing.is c.in_ok-clear_below.ensures.cleared in
    sym (none-there c.args.self.now c.in-Some.root.shape c.args.prefix.now
    (root-value shape_of g.K.KeyTrait.MAXIMUM_SIZE c.self.inside.version c.self.inside.root
    c.args.self.now c.self.invariant c.self.view_is c.in-Some.root c.in-Some.is) cleared.1)

pub returns-in-Nothing-clause-removed : goal.returns-in-Nothing-clause-removed
returns-in-Nothing-clause-removed g c =
    let cleared =
    subst (λ z. IsClearedSo z c.args.prefix.now c.in-Some.root.shape c.clear_below.new.root.shape)
    c.in-Nothing.is c.in_ok-clear_below.ensures.cleared in
    let none = none-there c.args.self.now c.in-Some.root.shape c.args.prefix.now
    (root-value shape_of g.K.KeyTrait.MAXIMUM_SIZE c.self.inside.version c.self.inside.root
    c.args.self.now c.self.invariant c.self.view_is c.in-Some.root c.in-Some.is) cleared.1 in
    ap (λ z. record { content = map_of (Some z); number = c.self.inside.version }) cleared.0
    ∙ ap (λ o. record { content = map_of (option_map shape_of o); number = c.self.inside.version })
    (sym c.in-Some.is) ∙ c.self.view_is
    ∙ nothing-stays c.args.self.now c.args.prefix.now none

-- ---- something was there

pub invariant_of-self-2 : goal.invariant_of-self-2
invariant_of-self-2 g c =
    let p = c.args.prefix.now in
    let root = c.in-Some.root.shape in
    let new = c.clear_below.new.root.shape in
    let before = option_map shape_of c.self.inside.root in
    let after = option_map shape_of c.match-branch-2.self-inside.root in
    let at_root : IsClearedIn p (Some root) after = elim c.match-branch-2.branch [
      | in-Part w ↦ subst (IsClearedIn p (Some root))
          (sym (ap (λ (i : _). option_map shape_of i.root) w.self-inside-is))
          (cleared-part p root new (subst (λ z. IsClearedSo z p root new) w.in-Part.is
          c.in_ok-clear_below.ensures.cleared).0)
      | in-Whole+in-Some-1 w ↦ subst (IsClearedIn p (Some root))
          (sym (ap (λ (i : _). option_map shape_of i.root) w.self-inside-is))
          (cleared-whole p root (subst (λ z. IsClearedSo z p root new) w.in-Whole.is
          c.in_ok-clear_below.ensures.cleared).2)
      | in-Whole+in-None-1 w ↦ subst (IsClearedIn p (Some root))
          (sym (ap (λ (i : _). option_map shape_of i.root) w.self-inside-is))
          (cleared-whole p root (subst (λ z. IsClearedSo z p root new) w.in-Whole.is
          c.in_ok-clear_below.ensures.cleared).2)
    ] in
    let cleared : IsClearedIn p before after =
    subst (λ o. IsClearedIn p (option_map shape_of o) after) (sym c.in-Some.is) at_root in
    sound-cleared g.K.KeyTrait.MAXIMUM_SIZE c.self.inside.version _ before after p
    c.self.invariant (omega arith) cleared

pub returns-clause-answer : goal.returns-clause-answer
returns-clause-answer g c =
    let p = c.args.prefix.now in
    let root = c.in-Some.root.shape in
    let new = c.clear_below.new.root.shape in
    let some : HasSomeUnder p root = elim c.match-branch-2.branch [
      | in-Part w ↦ (subst (λ z. IsClearedSo z p root new) w.in-Part.is
          c.in_ok-clear_below.ensures.cleared).1
      | in-Whole+in-Some-1 w ↦ (subst (λ z. IsClearedSo z p root new) w.in-Whole.is
          c.in_ok-clear_below.ensures.cleared).1
      | in-Whole+in-None-1 w ↦ (subst (λ z. IsClearedSo z p root new) w.in-Whole.is
          c.in_ok-clear_below.ensures.cleared).1
    ] in
    sym (some-there c.args.self.now root p
    (root-value shape_of g.K.KeyTrait.MAXIMUM_SIZE c.self.inside.version c.self.inside.root
    c.args.self.now c.self.invariant c.self.view_is c.in-Some.root c.in-Some.is) some)

pub returns-clause-removed : goal.returns-clause-removed
returns-clause-removed g c =
    let p = c.args.prefix.now in
    let root = c.in-Some.root.shape in
    let new = c.clear_below.new.root.shape in
    let before = option_map shape_of c.self.inside.root in
    let after = option_map shape_of c.match-branch-2.self-inside.root in
    let tree = tree-in g.K.KeyTrait.MAXIMUM_SIZE c.self.inside.version before c.self.invariant in
    let some : HasSomeUnder p root = elim c.match-branch-2.branch [
      | in-Part w ↦ (subst (λ z. IsClearedSo z p root new) w.in-Part.is
          c.in_ok-clear_below.ensures.cleared).1
      | in-Whole+in-Some-1 w ↦ (subst (λ z. IsClearedSo z p root new) w.in-Whole.is
          c.in_ok-clear_below.ensures.cleared).1
      | in-Whole+in-None-1 w ↦ (subst (λ z. IsClearedSo z p root new) w.in-Whole.is
          c.in_ok-clear_below.ensures.cleared).1
    ] in
    let at_root : IsClearedIn p (Some root) after = elim c.match-branch-2.branch [
      | in-Part w ↦ subst (IsClearedIn p (Some root))
          (sym (ap (λ (i : _). option_map shape_of i.root) w.self-inside-is))
          (cleared-part p root new (subst (λ z. IsClearedSo z p root new) w.in-Part.is
          c.in_ok-clear_below.ensures.cleared).0)
      | in-Whole+in-Some-1 w ↦ subst (IsClearedIn p (Some root))
          (sym (ap (λ (i : _). option_map shape_of i.root) w.self-inside-is))
          (cleared-whole p root (subst (λ z. IsClearedSo z p root new) w.in-Whole.is
          c.in_ok-clear_below.ensures.cleared).2)
      | in-Whole+in-None-1 w ↦ subst (IsClearedIn p (Some root))
          (sym (ap (λ (i : _). option_map shape_of i.root) w.self-inside-is))
          (cleared-whole p root (subst (λ z. IsClearedSo z p root new) w.in-Whole.is
          c.in_ok-clear_below.ensures.cleared).2)
    ] in
    let cleared : IsClearedIn p before after =
    subst (λ o. IsClearedIn p (option_map shape_of o) after) (sym c.in-Some.is) at_root in
    ap (λ m. record { content = m; number = c.self.inside.version + 1 })
    (map-cleared before after p tree cleared)
    ∙ ap (λ (v : Version g.row.V.Denot). record {
      content = without_prefix v.content p;
      number = v.number + 1;
    }) c.self.view_is
    ∙ something-goes c.args.self.now p
    (some-there c.args.self.now root p
    (root-value shape_of g.K.KeyTrait.MAXIMUM_SIZE c.self.inside.version c.self.inside.root
    c.args.self.now c.self.invariant c.self.view_is c.in-Some.root c.in-Some.is) some)

pub returns-clause-absent_makes_none : goal.returns-clause-absent_makes_none
returns-clause-absent_makes_none g c none =
    c.clear_below.ensures.absent_makes_none
    (there-none c.args.self.now c.in-Some.root.shape c.args.prefix.now
    (root-value shape_of g.K.KeyTrait.MAXIMUM_SIZE c.self.inside.version c.self.inside.root
    c.args.self.now c.self.invariant c.self.view_is c.in-Some.root c.in-Some.is) none)
