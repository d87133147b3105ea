use Rattle.std.proofs.Common.{Some, ℕ, List, refl, ap, ◌∙◌}
use Rattle.std.specs.Range.Bound.{bound_map}
use Rattle.rart_versioned.specs.Walkers.{pairs_within, within_left}
use Rattle.rart_versioned.proofs.plain.iterators.range.next_item.Goals as goal

pub returns-in-Ok-Some-clause-gives : goal.returns-in-Ok-Some-clause-gives
returns-in-Ok-Some-clause-gives g c =
    let entry = c.in-Ok-Some.entry in
    let within = g.W.RangeWalker.is_within (bound_map (λ end. end.now) c.args.end) in
    let gives = rw c.in-Ok-Some.field-0-is at c.in-Ok-Some.ensures.gives in (
      (g.K.KeyTrait.bytes entry.0, g.W.Walker.value entry.1),
      pairs_within within (g.W.Walker.left c.next_within.new.walk),
      ap (within_left g.W.Walker.left within) c.in-Some.is
          ∙ ap (λ (pairs : List (List ℕ × g.row.V.Denot)). Some pairs) gives,
      (refl, refl),
      refl,
    )
