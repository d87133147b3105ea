-- Forms have bytes: a part ends behind its place, and so many pairs have as many.
use Rattle.std.proofs.Common.{◌≡◌, ◌+◌, ◌-◌, ◌<◌, ◌≤◌, ◌/◌, ◌%◌, ℕ, zero, suc, true, false, List, [], ◌∷◌, ◌++◌, length, drop, ap, arith}
use Rattle.std.specs.Prelude.{nat_lt, if◌then◌else◌}
use Rattle.std.proofs.lemmas.List.{length-append, length-drop}
use Rattle.rart_below.specs.Bytes.{common_length}
use Rattle.rart_saved.specs.Forms.{entries, entry, key_form}
use Rattle.rart_saved.specs.Numbers.{groups, leb}
use Rattle.rart_saved.specs.Parts.{HasPart}

groups-long : (more n : ℕ) → 1 ≤ length (groups more n)
unfolding groups
groups-long zero n = omega arith
groups-long (suc more) n =
    elim (nat_lt n 128) as (λ t. 1
    ≤ length (if t then n ∷ [] else (n % 128 + 128) ∷ groups more (n / 128))) [
      | true ↦ omega arith
      | false ↦ omega arith
    ]

pub leb-long : (n : ℕ) → 1 ≤ length (leb n)
unfolding leb
leb-long n = groups-long 9 n

pub key_form-long : (before key : List ℕ) → 1 ≤ length (key_form before key)
unfolding key_form
key_form-long before key =
    let shared = common_length before key in
    omega (
      arith,
      leb-long shared,
      length-append (leb shared) (leb (length key - shared)),
      length-append (leb shared ++ leb (length key - shared)) (drop shared key),
    )

module _ {V : Type 0} (written : V → List ℕ) where
  pub entry-long : (before : List ℕ) (pair : List ℕ × V) → 1 ≤ length (entry written before pair)
  unfolding entry
  entry-long before pair =
      omega (
        arith,
        key_form-long before pair.0,
        length-append (key_form before pair.0) (written pair.1),
      )

  pub entries-long : (before : List ℕ) (list : List (List ℕ × V))
      → length list ≤ length (entries written before list)
  unfolding entries
  entries-long before [] = omega arith
  entries-long before (pair ∷ later) =
      omega (
        arith,
        entry-long before pair,
        entries-long pair.0 later,
        length-append (entry written before pair) (entries written pair.0 later),
      )

-- A part ends as many bytes behind its place as it has.
pub part-end : (bytes part : List ℕ) (at to : ℕ) → at ≤ length bytes → HasPart bytes at part to
    → at + length part ≡ to
part-end bytes part at to within is =
    omega (
      arith,
      within,
      is.within,
      ap length is.stands,
      length-append part (drop to bytes),
      length-drop at bytes,
      length-drop to bytes,
    )

-- So a part that has a byte begins at one of the bytes.
pub part-inside : (bytes part : List ℕ) (at to : ℕ) → at ≤ length bytes → 1 ≤ length part
    → HasPart bytes at part to → at < length bytes
part-inside bytes part at to inside long is =
    omega (arith, long, is.within, part-end bytes part at to inside is)

-- What begins a rest of some bytes is no longer than these.
pub front-within : (bytes part rest : List ℕ) (at : ℕ) → drop at bytes ≡ part ++ rest
    → length part ≤ length bytes
front-within bytes part rest at is =
    omega (arith, ap length is, length-append part rest, length-drop at bytes)
