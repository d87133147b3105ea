use Rattle.std.proofs.Common.{Some, ℕ, List, refl, sym, ap, ◌∙◌}
use Rattle.rart_versioned.specs.BackIterators.{pairs_back}
use Rattle.rart_walks.specs.BackFields.{back_cursor}
use Rattle.rart_versioned.proofs.VersionIterationLemmas.{rest-admitted}
use Rattle.rart_versioned.proofs.plain.iterators.rev_iter.VersionedRevIterIterator.next.Goals as goal

pub invariant_of-self-in-Ok : goal.invariant_of-self-in-Ok
invariant_of-self-in-Ok g c =
    let gives = rw c.in-Ok-Some.field-0-is at c.in-Ok-Some.ensures.gives in
    let keyed = rw c.in-Some.is at c.self.invariant in
    record {
      walks = c.in-Ok-Some.ensures.walk;
      admitted = rest-admitted g.K.KeyTrait.MAXIMUM_SIZE _ _ _ gives keyed.admitted;
    }

pub returns-in-Ok-clause-steps : goal.returns-in-Ok-clause-steps
returns-in-Ok-clause-steps g c =
    let gives = rw c.in-Ok-Some.field-0-is at c.in-Ok-Some.ensures.gives in (
      _,
      (back_cursor c.next_value.new.self).pairs,
      sym c.self.view_is ∙ ap pairs_back c.in-Some.is
          ∙ ap (λ (pairs : List (List ℕ × g.row.V.Denot)). Some pairs) gives,
      (c.in-Ok.ensures, refl),
      refl,
    )
