-- What a slot that is lent for its child was, and what it ends as.
use Rattle.std.proofs.Common.{◌≡◌, ◌<◌, ℕ, List, Option, Some, None, get_or, length, set, ◌∙◌, ap, MutBor}
use Rattle.std.proofs.lemmas.List.{get_or_default, set-get_or}
use Rattle.std.specs.Option.{option_copied_mut, OnSome}

module _ {C : Type 0} where
  -- what holds of a child that the slot has holds where a child is lent
  pub of_lent : (result : Option (MutBor C)) (slot : Option C) (Holds : Type 0)
      → option_copied_mut result ≡ slot → ((child : C) → Some child ≡ slot → Holds)
      → OnSome result Holds
  of_lent None slot Holds copied holds = tt
  of_lent (Some lent) slot Holds copied holds = holds lent.now copied

  -- a slot that ends as it was changes nothing
  pub set_as_was : (slots : List (Option C)) (place : ℕ) (slot : Option C)
      → slot ≡ get_or slots place slot → set slots place slot ≡ slots
  set_as_was slots place slot was = ap (set slots place) was ∙ set-get_or slots place slot

  pub slot_was : (slots : List (Option C)) (place : ℕ) (slot : Option C) → place < length slots
      → slot ≡ get_or slots place slot → slot ≡ get_or slots place None
  slot_was slots place slot within was = was ∙ get_or_default slots place slot None within
