use Rattle.std.proofs.Common.{[], ◌∷◌, ◌++◌, ap, ◌∙◌, ◌≡◌}
use Rattle.std.proofs.lemmas.List.{map-append}
use Rattle.std.proofs.lemmas.Result.{IfOk-weaker}
use Rattle.std.specs.FinMap as finite
use Rattle.rart_below.specs.Plain.{by_bytes, put_all}
use Rattle.rart_maps.specs.Pairs.{pairs}
use Rattle.rart_maps.proofs.IterationLemmas.{taken-all, taken-pair}
use Rattle.rart_versioned.proofs.UnversionedLemmas.{put_all-pairs}
use Rattle.rart_versioned.proofs.counted.tree.VersionedAdaptiveRadixTree.plain_copy.Goals as goal

pub gathering-preserved : goal.gathering-preserved
gathering-preserved g c =
    let bytes = g.K.KeyTrait.bytes in
    let key = c.in_ok-key.key in
    let value = c.in_ok-key.value in
    let copy = c.in_ok-clone.field-0 in
    let before = c.gathering.pairs.items in
    let gives = rw c.in_ok-key.was at c.in-Some.ensures.steps in
    let taken = taken-pair bytes _ _ _ _ (key, value) c.gathering.invariant gives in
    let same = c.requires.clones value.now copy c.in_ok-clone.ensures.cases in
    let more =
    ap (by_bytes bytes) c.in_ok-push.ensures.items
    ∙ map-append (λ pair. (bytes pair.0, pair.1)) before ((key, copy) ∷ [])
    ∙ ap (λ shown. by_bytes bytes before ++ (bytes key, shown) ∷ []) same in
    (taken.0, taken.1, ap (λ gathered. gathered ++ taken.0) more ∙ taken.2)

pub returns : goal.returns
returns g c =
    let bytes = g.K.KeyTrait.bytes in
    let whole = c.args.self.now.content in
    let gathered = by_bytes bytes c.gathering.pairs.items in
    IfOk-weaker c.from_pairs.result (λ plain. plain ≡ put_all finite.empty gathered)
    (λ plain. plain ≡ whole)
    (λ plain made. made
    ∙ ap (put_all finite.empty) (taken-all (pairs whole) gathered c.gathering.items
    c.gathering.invariant c.in_default.ensures.steps.0)
    ∙ put_all-pairs whole)
    c.from_pairs.ensures
