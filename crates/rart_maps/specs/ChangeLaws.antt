-- Laws that show what changes are, and what they make of a map.
use Rattle.std.specs.Prelude.{◌≡◌, ◌≤◌, ◌↔◌, ℕ, List, [], Option, Bool, Contains, IsTrue, length, map, if◌then◌else◌}
use Rattle.std.specs.FinMap as finite
use Rattle.rart_maps.specs.FoundLaws.{KeysAscend}
use Rattle.rart_maps.specs.Versions.{Map}
use Rattle.rart_maps.specs.ChangeLists.{Change, reversed, patched, effects, differ, changes}

module _ {V : Type 0} (same : V → V → Bool) where
  -- What `same` says is so, or at least of each value and itself, and either way round.
  abbrev pub Decides : Type 0
  Decides = (x y : V) → IsTrue (same x y) ↔ (x ≡ y)

  abbrev pub IsReflexive : Type 0
  IsReflexive = (x : V) → IsTrue (same x x)

  abbrev pub IsSymmetric : Type 0
  IsSymmetric = (x y : V) → same x y ≡ same y x

  -- The keys ascend strictly.
  abbrev pub ChangesAscend : Type 0
  ChangesAscend = (old new : Map V) → KeysAscend (λ change. change.0) (changes same old new)

  -- A change stands there exactly where the maps have these at the key, and these differ.
  abbrev pub ChangesAreFound : Type 0
  ChangesAreFound = (old new : Map V) (key : List ℕ) (before after : Option V) →
      Contains (changes same old new) (key, before, after)
      ↔ ((finite.get old key ≡ before) × (finite.get new key ≡ after)
      × IsTrue (differ same before after))

  -- Nothing changes from a map to itself.
  abbrev pub NothingChanges : Type 0
  NothingChanges = IsReflexive → (m : Map V) → changes same m m ≡ []

  -- Where nothing changes the maps are the same.
  abbrev pub NoChangeIsTheSame : Type 0
  NoChangeIsTheSame = Decides → (old new : Map V) → changes same old new ≡ [] → old ≡ new

  -- The changes the other way are the same ones, each reversed.
  abbrev pub ChangesReverse : Type 0
  ChangesReverse = IsSymmetric → (old new : Map V) →
      changes same new old ≡ map reversed (changes same old new)

  -- Made on any map, they give each key that changed what is new there, and leave the others.
  abbrev pub PatchesSetWhatChanged : Type 0
  PatchesSetWhatChanged = (old new other : Map V) (key : List ℕ) →
      finite.get (patched other (changes same old new)) key
      ≡ (if differ same (finite.get old key) (finite.get new key) then finite.get new key
      else finite.get other key)

  -- Made on the old map, they give the new one.
  abbrev pub PatchesGiveTheNew : Type 0
  PatchesGiveTheNew = Decides → (old new : Map V) → patched old (changes same old new) ≡ new

  -- Between the old map with them made, and the new one, nothing changes.
  abbrev pub PatchesLeaveNoChange : Type 0
  PatchesLeaveNoChange = IsReflexive → (old new : Map V) →
      changes same (patched old (changes same old new)) new ≡ []

  -- Reversed, they undo what they made of the old map.
  abbrev pub PatchesAreUndone : Type 0
  PatchesAreUndone = Decides → (old new : Map V) →
      patched (patched old (changes same old new)) (map reversed (changes same old new)) ≡ old

-- Of some changes at most all take effect.
abbrev pub EffectsAreFew : Type 0 → Type 0
EffectsAreFew V = (m : Map V) (some : List (Change V)) → effects m some ≤ length some
