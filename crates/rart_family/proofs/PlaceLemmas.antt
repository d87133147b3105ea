-- What is at a place of a family, and what it becomes where that is replaced.
use Rattle.std.proofs.Common.{◌≡◌, ℕ, refl, sym, ap, ◌∙◌, arith}
use Rattle.std.proofs.lemmas.List.{set-get_or}
use Rattle.std.proofs.lemmas.Option.{unwrap_or-slice_get}
use Rattle.std.specs.Borrow.{MutBor}
use Rattle.std.specs.List.{IsItemAtMut}
use Rattle.std.specs.Prelude.{Option, Some, None, slice_set}
use Rattle.rart_maps.specs.Versions.{Version}
use Rattle.rart_family.specs.Families.{Family, version_at}
use Rattle.rart_family.specs.Lent.{IsLeftAt}

module _ {V : Type 0} (f : Family V) (place : ℕ) where
  -- A place whose slot is lent has what the slot has.
  pub read-at : (slot : MutBor (Option (Version V))) → IsItemAtMut f place (Some slot)
      → version_at f place ≡ slot.now
  read-at slot item = unwrap_or-slice_get f place None ∙ sym (item.4 (omega arith) None)

  -- What is replaced by itself stays.
  pub same-at : (slot : Option (Version V)) → version_at f place ≡ slot
      → slice_set f place slot ≡ f
  same-at slot is =
      ap (slice_set f place) (sym is ∙ unwrap_or-slice_get f place None) ∙ set-get_or f place None

  pub left-at : (left : Version V) → IsLeftAt f place left (slice_set f place (Some left))
  left-at left = record { replaced = refl; kept = same-at (Some left) }
