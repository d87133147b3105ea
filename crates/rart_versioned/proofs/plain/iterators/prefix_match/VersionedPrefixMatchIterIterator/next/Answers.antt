use Rattle.std.proofs.Common.{Some, ℕ, List, refl, sym, ap, ◌∙◌}
use Rattle.rart_versioned.specs.Iterators.{matches_on, matches_left}
use Rattle.rart_versioned.proofs.plain.iterators.prefix_match.VersionedPrefixMatchIterIterator.next.Goals as goal

pub returns-in-Ok-Some-clause-steps : goal.returns-in-Ok-Some-clause-steps
returns-in-Ok-Some-clause-steps g c =
    let entry = c.in-Ok-Some.entry in
    let probe = g.K.KeyTrait.bytes c.self.inside.probe in
    let gives = rw c.in-Ok-Some.field-0-is at c.in-Ok-Some.ensures.gives in (
      (g.K.KeyTrait.bytes entry.0, entry.1.now),
      matches_on probe c.next_match.new.way,
      sym c.self.view_is ∙ ap (matches_left probe) c.in-Some.is
          ∙ ap (λ (pairs : List (List ℕ × g.row.V.Denot)). Some pairs) gives,
      (refl, refl),
      refl,
    )
