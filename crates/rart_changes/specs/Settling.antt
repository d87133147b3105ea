-- What a merge makes of one key that theirs changed.
use Rattle.std.specs.Prelude.{◌≡◌, ℕ, Bool, true, false, List, Option, Result, Ok, Err}
use Rattle.std.specs.Borrow.{Bor}
use Rattle.std.specs.Fn.{Mut}
use Rattle.std.specs.Option.{option_copied}
use Rattle.std.specs.Result.{IsOk, IsErr}
use Rattle.std.specs.declared.alloc.AllocError.{AllocError}
use Rattle.rart_maps.specs.Versions.{Version, value_at}
use Rattle.rart_maps.specs.Visits.{CalledOn, CallableOn}
use Rattle.rart_maps.specs.Merges.{Conflict, in_conflict}
use Rattle.rart_changes.specs.Setting.{IsSetTo}

-- What the base, ours and theirs have at a key that theirs changed, of which the visit of the
-- changes shows two.
abbrev pub three_at : {K V : Type 0} → (K → List ℕ) → Version V → K → Option (Bor V)
    → Option (Bor V) → Conflict V
three_at bytes ours key before their =
    (bytes key, option_copied before, value_at ours (bytes key), option_copied their)

module _ {F A V : Type 0} (g : Mut F A (Option V)) (Shows : A → Conflict V → Type 0) where
  -- What a key is to have, by whether the three are in conflict at it: the answer of f, called on
  -- them, or else what theirs has.
  abbrev pub Settles : Bool → F → Conflict V → Option V → F → Type 0
  Settles true f three answer f' = CalledOn g Shows f three answer f'
  Settles false f three answer f' = (answer ≡ three.3) × (f' ≡ f)

  -- It may be called on them where they are in conflict, and where no memory was refused before.
  abbrev pub Askable : Bool → F → Conflict V → Type 0
  Askable true f three = CallableOn g Shows f three
  Askable false f three = Unit {0}

  abbrev pub AskableIn : (V → V → Bool) → Result (Unit {0}) AllocError → F → Conflict V → Type 0
  AskableIn same made f three =
      IsOk made → Askable (in_conflict same three.1 three.2 three.3) f three

  -- What a draft becomes by it: where no memory was refused before, the key is settled, and has its
  -- value unless memory is refused for it. Else f is not called.
  abbrev pub SettlesIn : (V → V → Bool) → Result (Unit {0}) AllocError → Version V → F → Conflict V
      → Result (Unit {0}) AllocError → Version V → F → Type 0
  SettlesIn same (Ok done) before f three made after f' =
      (answer : Option V) × Settles (in_conflict same three.1 three.2 three.3) f three answer f'
      × (IsOk made → IsSetTo before three.0 answer after)
  SettlesIn same (Err refused) before f three made after f' = IsErr made × (f' ≡ f)
