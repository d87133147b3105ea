-- What the words of commands have in common.
use Rattle.std.proofs.Common.{◌≡◌, ℕ, ◌≤◌, ◌<◌, List, length, refl, arith, rules, Bool, true, false}
use Rattle.std.specs.Prelude.{nat_le, Option, Some, None, ⊤}
use Rattle.std.specs.declared.ops.Bound.{Bound}
use Rattle.std.specs.declared.ops.Bound.TheVariants as bound
use Rattle.rart_versioned.specs.SlotUpdate.{SlotUpdate}
use Rattle.rart_versioned.specs.SlotUpdate.TheVariants as slot
use Rattle.rart_family.specs.declared.family.command.Command.TheVariants.{New, Update, TryUpdate, Range, RangeViews, Until}
use Rattle.vtree_lines.specs.Grammar.{Said, Word, Text, Bytes, word_of, bound_form, write_form, answer_form, tried_form, end_form, form_of}
use Rattle.vtree_lines.specs.OwnLines.{Each}

-- A text is read as itself and is not long, and no word is other bytes.
abbrev pub IsOwn : Word → Type 0
IsOwn (Text text) = (word_of text ≡ Text text) × (nat_le (length text) 20 ≡ true)
IsOwn Bytes = ⊥
IsOwn word = ⊤

bound_own : (limits : Bound (List ℕ)) → IsOwn (bound_form limits)
bound_own (bound.Included key) = tt
bound_own (bound.Excluded key) = tt
bound_own bound.Unbounded = (refl, refl)

write_own : (write : Option ℕ) → IsOwn (write_form write)
write_own None = (refl, refl)
write_own (Some n) = tt

answer_own : (answer : SlotUpdate ℕ) → Each IsOwn (answer_form answer)
answer_own slot.Keep = ((refl, refl), tt)
answer_own slot.Remove = ((refl, refl), tt)
answer_own (slot.Insert n) = ((refl, refl), (tt, tt))

tried_own : (answer : Option (SlotUpdate ℕ)) → Each IsOwn (tried_form answer)
tried_own None = ((refl, refl), tt)
tried_own (Some answer) = answer_own answer

end_own : (fails : Bool) → IsOwn (end_form fails)
end_own true = (refl, refl)
end_own false = (refl, refl)

pub forms_are_own : (c : Said) → Each IsOwn (form_of c)
forms_are_own New = ((refl, refl), tt)
forms_are_own (Update place key write answer) =
    ((refl, refl), (tt, (tt, (write_own write, answer_own answer))))
forms_are_own (TryUpdate place key write answer) =
    ((refl, refl), (tt, (tt, (write_own write, tried_own answer))))
forms_are_own (Range place lo hi) = ((refl, refl), (tt, (bound_own lo, (bound_own hi, tt))))
forms_are_own (RangeViews place lo hi) = ((refl, refl), (tt, (bound_own lo, (bound_own hi, tt))))
forms_are_own (Until place key visits fails) =
    ((refl, refl), (tt, (tt, (tt, (end_own fails, tt)))))
forms_are_own c = search rules

answer_few : (answer : SlotUpdate ℕ) → length (answer_form answer) ≤ 2
answer_few slot.Keep = omega arith
answer_few slot.Remove = omega arith
answer_few (slot.Insert n) = omega arith

tried_few : (answer : Option (SlotUpdate ℕ)) → length (tried_form answer) ≤ 2
tried_few None = omega arith
tried_few (Some answer) = answer_few answer

-- A command has at most 6 words, and at least one.
pub form_few : (c : Said) → length (form_of c) ≤ 6
form_few New = omega arith
form_few (Update place key write answer) = omega (arith, answer_few answer)
form_few (TryUpdate place key write answer) = omega (arith, tried_few answer)
form_few c = omega arith

pub form_some : (c : Said) → 0 < length (form_of c)
form_some New = omega arith
form_some c = omega arith
