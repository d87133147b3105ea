-- Laws that show what conflicts are, and what a merge has at each key.
use Rattle.std.specs.Prelude.{◌≡◌, ◌↔◌, ℕ, List, [], Option, Bool, Contains, IsTrue, map, if◌then◌else◌}
use Rattle.std.specs.FinMap as finite
use Rattle.rart_maps.specs.FoundLaws.{KeysAscend}
use Rattle.rart_maps.specs.Versions.{Map}
use Rattle.rart_maps.specs.ChangeLaws.{Decides, IsSymmetric}
use Rattle.rart_maps.specs.ChangeLists.{patched, differ, changes}
use Rattle.rart_maps.specs.Merges.{Answers, exchanged, in_conflict, conflicts, merged}

module _ {V : Type 0} (same : V → V → Bool) where
  -- The keys ascend strictly.
  abbrev pub ConflictsAscend : Type 0
  ConflictsAscend = (base ours theirs : Map V) →
      KeysAscend (λ conflict. conflict.0) (conflicts same base ours theirs)

  -- A conflict stands there exactly where the maps have these at the key, ours and theirs differ
  -- from the base, and from each other.
  abbrev pub ConflictsAreFound : Type 0
  ConflictsAreFound = (base ours theirs : Map V) (key : List ℕ) (b x y : Option V) →
      Contains (conflicts same base ours theirs) (key, b, x, y)
      ↔ ((finite.get base key ≡ b) × (finite.get ours key ≡ x) × (finite.get theirs key ≡ y)
      × IsTrue (differ same b x) × IsTrue (differ same b y) × IsTrue (differ same x y))

  -- what a merge has at a key, by what the three have there
  abbrev pub merged_at : Answers V → List ℕ → Option V → Option V → Option V → Option V
  merged_at answers key base ours theirs =
      if in_conflict same base ours theirs then answers key base ours theirs
      else if differ same base theirs then theirs else ours

  abbrev pub MergesAreByKey : Type 0
  MergesAreByKey = (answers : Answers V) (base ours theirs : Map V) (key : List ℕ) →
      finite.get (merged same answers base ours theirs) key
      ≡ merged_at answers key (finite.get base key) (finite.get ours key) (finite.get theirs key)

  -- Without a conflict the merge is the same from both sides.
  abbrev pub SidesAgree : Type 0
  SidesAgree = Decides same → (base ours theirs : Map V) → conflicts same base ours theirs ≡ []
      → patched ours (changes same base theirs) ≡ patched theirs (changes same base ours)

  -- Both sides see the same conflicts, each from its side.
  abbrev pub ConflictsExchange : Type 0
  ConflictsExchange = IsSymmetric same → (base ours theirs : Map V) →
      conflicts same base theirs ours ≡ map exchanged (conflicts same base ours theirs)

  -- Where both give a conflict the same answer they get the same merge.
  abbrev pub MergesExchange : Type 0
  MergesExchange = Decides same → (answers : Answers V) (base ours theirs : Map V) →
      merged same answers base theirs ours
      ≡ merged same (λ key b x y. answers key b y x) base ours theirs

  -- Where one side changed nothing the merge is the other side.
  abbrev pub BaseGivesWay : Type 0
  BaseGivesWay = Decides same → (answers : Answers V) (base side : Map V) →
      (merged same answers base base side ≡ side) × (merged same answers base side base ≡ side)

  -- The changes of one side, made on the other, are the merge in which that side stands: so is what
  -- a rebase leaves.
  abbrev pub PatchesAreMerges : Type 0
  PatchesAreMerges = (base ours theirs : Map V) →
      patched ours (changes same base theirs)
      ≡ merged same (λ key b x y. y) base ours theirs
