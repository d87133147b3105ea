use Rattle.std.proofs.Common.{◌≡◌, ◌+◌, List, [], ◌∷◌, length, arith, refl, sym, ap, subst, ◌∙◌}
use Rattle.std.specs.Prelude.{vec_len}
use Rattle.std.specs.FinMap as finite
use Rattle.std.specs.FinSet as set
use Rattle.std.proofs.lemmas.Bool.{eqb-true}
use Rattle.rart_below.specs.Bytes.{byte_order}
use Rattle.rart_below.specs.Plain.{by_bytes}
use Rattle.rart_maps.specs.Disorders.{IsDisorderAt}
use Rattle.rart_maps.specs.Pairs.{pairs}
use Rattle.rart_maps.specs.Points.{points}
use Rattle.rart_maps.proofs.PairLawLemmas.{pairs-empty}
use Rattle.rart_maps.proofs.PointLemmas.{points_are_few}
use Rattle.rart_versioned.specs.Sorted.{AscendTo}
use Rattle.rart_versioned.proofs.SortedLemmas.{ascend-sorted, long-none, pairs-root, points-root, sound-root}
use Rattle.rart_versioned.proofs.counted.tree.VersionedAdaptiveRadixTree.from_sorted_counted.Goals as goal

none-of : {A : Type 0} (xs : List A) → length xs ≡ 0 → xs ≡ []
none-of [] none = refl
none-of (x ∷ xs) none = absurd (omega (arith, none))

pub returns-in-Some-clause-disorder : goal.returns-in-Some-clause-disorder
returns-in-Some-clause-disorder g c at same =
    let place : c.in-Some.at ≡ at = cc in
    subst (λ n. IsDisorderAt g.K.KeyTrait.bytes n c.args.pairs.items) place
    (subst (IsDisorderAt g.K.KeyTrait.bytes c.in-Some.at) c.as_slice.ensures.value
    c.in-Some.ensures.disorder)

pub returns-then-is_empty-clause-pairs : goal.returns-then-is_empty-clause-pairs
returns-then-is_empty-clause-pairs g c =
    let zero_of = eqb-true (vec_len c.args.pairs) 0 (sym c.is_empty.ensures ∙ c.if-is_empty.true) in
    let none =
    none-of c.args.pairs.items
    (ap length (sym c.as_slice.ensures.value) ∙ c.as_slice.ensures.len ∙ zero_of) in
    ap (λ v. pairs v.content) c.new_at.ensures.empty ∙ pairs-empty g.row.V.Denot
    ∙ ap (by_bytes g.K.KeyTrait.bytes) (sym none)

pub returns-then-is_empty-clause-made : goal.returns-then-is_empty-clause-made
returns-then-is_empty-clause-made g c =
    let few = points_are_few g.row.V.Denot finite.empty in
    let zero_of = finite.len-empty byte_order g.row.V.Denot in
    let none = ap (λ v. set.len (points v.content)) c.new_at.ensures.empty in
    omega (arith, few, zero_of, none)

pub tree_of-requires-clause-long : goal.tree_of-requires-clause-long
tree_of-requires-clause-long g c = long-none g.K.KeyTrait.bytes c.args.pairs.items

pub tree_of-requires-clause-ascending : goal.tree_of-requires-clause-ascending
tree_of-requires-clause-ascending g c =
    ascend-sorted g.K.KeyTrait.bytes g.K.KeyTrait.MAXIMUM_SIZE c.args.pairs.items
    (subst (λ xs. AscendTo g.K.KeyTrait.bytes g.K.KeyTrait.MAXIMUM_SIZE (length xs) xs)
    c.as_slice.ensures.value c.in_default.ensures.ascend)

pub invariant_of-result : goal.invariant_of-result
invariant_of-result g c =
    sound-root g.K.KeyTrait.bytes g.K.KeyTrait.MAXIMUM_SIZE c.args.number c.args.pairs.items
    c.in_ok-root.root.shape c.in_ok-root.ensures.tree c.in_ok-root.ensures.pairs
    (subst (λ xs. AscendTo g.K.KeyTrait.bytes g.K.KeyTrait.MAXIMUM_SIZE (length xs) xs)
    c.as_slice.ensures.value c.in_default.ensures.ascend) c.requires

pub returns-clause-pairs : goal.returns-clause-pairs
returns-clause-pairs g c =
    pairs-root g.K.KeyTrait.bytes g.K.KeyTrait.MAXIMUM_SIZE c.args.number c.args.pairs.items
    c.in_ok-root.root.shape c.in_ok-root.ensures.tree c.in_ok-root.ensures.pairs

pub returns-clause-made : goal.returns-clause-made
returns-clause-made g c =
    c.in_ok-root.ensures.made
    ∙ ap (λ n. c.args.work.now.made + n)
    (sym (points-root g.K.KeyTrait.bytes g.K.KeyTrait.MAXIMUM_SIZE c.args.number c.args.pairs.items
    c.in_ok-root.root.shape c.in_ok-root.ensures.tree c.in_ok-root.ensures.pairs))
