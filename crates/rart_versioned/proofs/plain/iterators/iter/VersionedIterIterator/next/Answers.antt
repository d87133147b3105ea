use Rattle.std.proofs.Common.{Some, ℕ, List, [], refl, sym, ap, ◌∙◌}
use Rattle.rart_versioned.specs.Iterators.{entries_left}
use Rattle.rart_walks.specs.WalkFields.{cursor}
use Rattle.rart_versioned.proofs.VersionIterationLemmas.{rest-admitted}
use Rattle.rart_versioned.proofs.plain.iterators.iter.VersionedIterIterator.next.Goals as goal

pub invariant_of-self-in-Ok : goal.invariant_of-self-in-Ok
invariant_of-self-in-Ok g c =
    let gives = rw c.in-Ok-Some.field-0-is at c.in-Ok-Some.ensures.gives in
    let keyed = rw (c.in-Some.is, c.in-Walk.is) at c.self.invariant in
    record {
      walks = c.in-Ok-Some.ensures.walk;
      admitted = rest-admitted g.K.KeyTrait.MAXIMUM_SIZE _ _ _ gives keyed.admitted;
    }

pub returns-in-Ok-clause-steps : goal.returns-in-Ok-clause-steps
returns-in-Ok-clause-steps g c =
    let gives = rw c.in-Ok-Some.field-0-is at c.in-Ok-Some.ensures.gives in (
      _,
      (cursor c.next_value.new.self).pairs,
      sym c.self.view_is ∙ ap entries_left c.in-Some.is
          ∙ ap (λ entries. entries_left (Some entries)) c.in-Walk.is
          ∙ ap (λ (pairs : List (List ℕ × g.row.V.Denot)). Some pairs) gives,
      (c.in-Ok.ensures, refl),
      refl,
    )

pub returns-in-Ok-new_from_slice-clause-steps : goal.returns-in-Ok-new_from_slice-clause-steps
returns-in-Ok-new_from_slice-clause-steps g c = (
  (c.in-Entry.bytes.now, c.in-Entry.value.now),
  [],
  sym c.self.view_is ∙ ap entries_left c.in-Some.is
      ∙ ap (λ entries. entries_left (Some entries)) c.in-Entry.is,
  (c.in-Ok-new_from_slice.ensures, refl),
  refl,
)
