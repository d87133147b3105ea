use Rattle.std.proofs.Common.{ℕ, List, length, sym, ap, subst, ◌∙◌}
use Rattle.std.specs.Range.Bound.{bound_map}
use Rattle.rart_below.specs.Bytes.{IsAdmitted}
use Rattle.rart_versioned.specs.Walkers.{AreInOrder, pairs_within}
use Rattle.rart_versioned.proofs.VersionIterationLemmas.{first-admitted}
use Rattle.rart_versioned.proofs.WalkerLemmas.{range_walk-next}
use Rattle.rart_versioned.proofs.plain.iterators.range.next_within.Goals as goal

pub new_from_slice-requires : goal.new_from_slice-requires
new_from_slice-requires g c =
    let gives = rw c.in-Some.is at c.in_ok-value.ensures.gives in
    let most = g.K.KeyTrait.MAXIMUM_SIZE in
    subst (λ (key : List ℕ). IsAdmitted most (length key)) (sym c.key_bytes-bytes.ensures)
    (first-admitted most _ _ _ gives c.requires.keyed.admitted)

pub returns-in_default-clause-walk : goal.returns-in_default-clause-walk
returns-in_default-clause-walk g c =
    range_walk-next g.W.Walker.left g.W.Walker.is_sound g.K.KeyTrait.MAXIMUM_SIZE g.W.Walker.value
    _ _ _ g.W.RangeWalker.comes_before _ c.in_ok-value.ensures.gives c.in_ok-value.ensures.sound
    c.requires

pub returns-then-not-meets-clause-walk : goal.returns-then-not-meets-clause-walk
returns-then-not-meets-clause-walk g c =
    range_walk-next g.W.Walker.left g.W.Walker.is_sound g.K.KeyTrait.MAXIMUM_SIZE g.W.Walker.value
    _ _ _ g.W.RangeWalker.comes_before _ c.in_ok-value.ensures.gives c.in_ok-value.ensures.sound
    c.requires

pub returns-clause-walk : goal.returns-clause-walk
returns-clause-walk g c =
    range_walk-next g.W.Walker.left g.W.Walker.is_sound g.K.KeyTrait.MAXIMUM_SIZE g.W.Walker.value
    _ _ _ g.W.RangeWalker.comes_before _ c.in_ok-value.ensures.gives c.in_ok-value.ensures.sound
    c.requires

pub returns-then-not-meets-clause-gives : goal.returns-then-not-meets-clause-gives
returns-then-not-meets-clause-gives g c =
    let gives = rw c.in-Some.is at c.in_ok-value.ensures.gives in
    let end = bound_map (λ end. end.now) c.args.end in
    let ordered = subst (AreInOrder g.W.RangeWalker.comes_before) gives c.requires.ordered in
    let past = ap (g.W.RangeWalker.is_within end) (sym c.key_bytes-bytes.ensures)
    ∙ sym c.meets.ensures ∙ c.if-not-meets.true in
    ap (pairs_within (g.W.RangeWalker.is_within end)) gives
    ∙ g.met.W.RangeWalker.past end _ _ ordered past
