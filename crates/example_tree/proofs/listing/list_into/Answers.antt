use Rattle.std.proofs.Common.{◌∷◌, ℕ, [], refl}
use Rattle.std.proofs.lemmas.List.{map-append}
use Rattle.std.specs.Prelude.{Result, Ok, Err, OnErr}
use Rattle.rart_maps.specs.Pairs.{pairs}
use Rattle.rart_maps.proofs.CallerLemmas.{taken-pair}
use Rattle.rart_versioned.specs.declared.VectorKey.{VectorKey}
use Rattle.example_tree.specs.Listing.{line_of}
use Rattle.example_tree.proofs.listing.list_into.Goals as goal

-- what holds at a refusal
on-err : {A E Q : Type 0} (r : Result A E) → Q → OnErr r Q
on-err (Ok x) holds = tt
on-err (Err e) holds = holds

pub returns-in_err-item-items-clause-prefix : goal.returns-in_err-item-items-clause-prefix
returns-in_err-item-items-clause-prefix c =
    on-err c.from_residual.result (pairs c.args.list.now.content, rw c.requires.empty refl)

pub loop-item-preserved : goal.loop-item-preserved
loop-item-preserved c =
    let gives = rw c.in_ok-name.was at c.in-Some.ensures.steps in
    let line : VectorKey × ℕ = (c.in_ok-name.name, c.in_ok-name.price.now) in
    rw (c.in_ok-push.ensures.items, map-append line_of c.loop-item.lines.items (line ∷ []))
    (taken-pair (λ (name : VectorKey). name.bytes.items) _ _ _ _
    (c.in_ok-name.name, c.in_ok-name.price) c.loop-item.invariant gives)
