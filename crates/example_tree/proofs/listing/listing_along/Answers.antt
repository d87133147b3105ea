use Rattle.std.proofs.Common.{◌∷◌, ℕ, []}
use Rattle.std.proofs.lemmas.List.{map-append}
use Rattle.rart_maps.proofs.CallerLemmas.{taken-pair}
use Rattle.rart_versioned.specs.declared.VectorKey.{VectorKey}
use Rattle.example_tree.specs.Listing.{line_of}
use Rattle.example_tree.proofs.listing.listing_along.Goals as goal

pub loop-item-preserved : goal.loop-item-preserved
loop-item-preserved c =
    let gives = rw c.in_ok-name.was at c.in-Some.ensures.steps in
    let line : VectorKey × ℕ = (c.in_ok-name.name, c.in_ok-name.price.now) in
    rw (c.in_ok-push.ensures.items, map-append line_of c.loop-item.lines.items (line ∷ []))
    (taken-pair (λ (name : VectorKey). name.bytes.items) _ _ _ _
    (c.in_ok-name.name, c.in_ok-name.price) c.loop-item.invariant gives)
