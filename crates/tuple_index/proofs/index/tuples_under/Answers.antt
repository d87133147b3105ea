use Rattle.std.proofs.Common.{[], ◌∷◌, ◌++◌, sym, ap, ◌∙◌}
use Rattle.std.proofs.lemmas.List.{map-append}
use Rattle.rart_maps.proofs.CallerLemmas.{taken-pair}
use Rattle.rart_versioned.specs.declared.ArrayKey.{ArrayKey}
use Rattle.tuple_index.specs.Decoding.{tuple_at}
use Rattle.tuple_index.specs.Indexes.{Pair}
use Rattle.tuple_index.proofs.index.tuples_under.Goals as goal

pub loop-item-preserved : goal.loop-item-preserved
loop-item-preserved c =
    let gives = rw c.in_ok-key.was at c.in-Some.ensures.steps in
    let before = c.loop-item.invariant in
    let pair : Pair = (c.in_ok-key.key.bytes.items, c.in_ok-key._unit.now) in (
      before.0 ++ pair ∷ [],
      taken-pair (λ (key : ArrayKey 16). key.bytes.items) _ _ _ _
          (c.in_ok-key.key, c.in_ok-key._unit) before.1 gives,
      c.in_ok-push.ensures.items
          ∙ (λ i. before.2 i ++ (c.of_key.ensures ∙ ap tuple_at c.as_ref.ensures) i ∷ [])
          ∙ sym (map-append (λ (pair : Pair). tuple_at pair.0) before.0 (pair ∷ [])),
    )
