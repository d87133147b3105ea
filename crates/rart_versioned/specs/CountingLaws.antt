-- Worked values of the tree's counts, for keys of two bytes.
use Rattle.std.specs.Prelude.{◌≡◌, ◌+◌, ◌<◌, ◌≤◌, ℕ, false, List, [], ◌∷◌, codes, length, Option, Result, Some, None, Ok, Err}
use Rattle.std.specs.Borrow.{Bor, MutBor}
use Rattle.std.specs.Fn.{Mut, Once}
use Rattle.std.specs.declared.alloc.AllocError.{AllocError}
use Rattle.rart_maps.specs.Bounds.{lookup_bound, node_count}
use Rattle.rart_maps.specs.ChangeLists.{Change}
use Rattle.rart_maps.specs.Versions.{Map, Version, value_at}
use Rattle.rart_maps.specs.WorkedBounds.{map_of}
use Rattle.rart_versioned.specs.ChangeCounts.{MakesToTryInsert}
use Rattle.rart_below.specs.declared.slot.Refusal.TheVariants.{Callback, Memory}
use Rattle.rart_below.specs.declared.slot.Slot.{Slot}
use Rattle.rart_below.specs.declared.slot.Slot.TheVariants.{Vacant, Occupied}
use Rattle.rart_below.specs.declared.slot.SlotUpdate.{SlotUpdate}
use Rattle.rart_below.specs.declared.slot.SlotUpdate.TheVariants.{Keep, Insert, Remove}
use Rattle.rart_versioned.specs.UpdateCounts.{CountsTry, CountsUpdate, update_enters, update_makes}
use Rattle.rart_versioned.specs.Updates.{Tells, TellsOrFails}
use Rattle.rart_versioned.specs.VisitCounts.{DiffEndsSoon, EndsAtFirst, EndsSoon, end_bound, node_count_to}
use Rattle.rart_node.specs.Counts.{Counts}
use Rattle.rart_versioned.specs.Iterators.{IsHintOf, members_left}
use Rattle.rart_below.specs.declared.visit.VisitControl.{VisitControl}
use Rattle.rart_walks.specs.Ends.{ByPairValue, Ends}
use Rattle.rart_ways.specs.Firsts.{found_length}

-- Nodes that an update enters at most: a key that is absent, and one that is there.
abbrev pub UpdatesEnter : Type 0
UpdatesEnter =
    (update_enters {V = ℕ} (codes "ab") None Vacant Keep ≡ 3)
    × (update_enters {V = ℕ} (codes "ab") None Vacant (Insert 1) ≡ 6)
    × (update_enters {V = ℕ} (codes "ab") None Vacant Remove ≡ 3)
    × (update_enters {V = ℕ} (codes "ab") (Some 1) Vacant Keep ≡ 3)
    × (update_enters {V = ℕ} (codes "ab") (Some 1) (Occupied 2) Keep ≡ 6)
    × (update_enters {V = ℕ} (codes "ab") (Some 1) Vacant (Insert 2) ≡ 6)
    × (update_enters {V = ℕ} (codes "ab") (Some 1) Vacant Remove ≡ 9)

-- and makes at most
abbrev pub UpdatesMake : Type 0
UpdatesMake =
    (update_makes {V = ℕ} (codes "ab") None Vacant Keep ≡ 0)
    × (update_makes {V = ℕ} (codes "ab") None Vacant (Insert 1) ≡ 4)
    × (update_makes {V = ℕ} (codes "ab") None Vacant Remove ≡ 0)
    × (update_makes {V = ℕ} (codes "ab") (Some 1) Vacant Keep ≡ 0)
    × (update_makes {V = ℕ} (codes "ab") (Some 1) (Occupied 2) Keep ≡ 4)
    × (update_makes {V = ℕ} (codes "ab") (Some 1) Vacant (Insert 2) ≡ 4)
    × (update_makes {V = ℕ} (codes "ab") (Some 1) Vacant Remove ≡ 3)

-- Nodes entered at most under `ab` by a visit that ends on `abc`, its second value.
abbrev pub EndedVisitsEnter : Type 0
EndedVisitsEnter = end_bound (codes "ab") (codes "abc") 2 ≡ 11

-- How many of the nodes of ac, ad and b, which are "" and a beside these, are not behind the first
-- key from another one on; all, where there is none.
abbrev pub EndedDiffsEnter : Type 0
EndedDiffsEnter =
    (node_count_to (map_of (codes "ac" ∷ codes "ad" ∷ codes "b" ∷ [])) (codes "aa") ≡ 3)
    × (node_count_to (map_of (codes "ac" ∷ codes "ad" ∷ codes "b" ∷ [])) (codes "ad") ≡ 4)
    × (node_count_to (map_of (codes "ac" ∷ codes "ad" ∷ codes "b" ∷ [])) (codes "c") ≡ 5)

-- A visit or a diff that ends on its last member has entered one at least for each, and no more
-- than is told; a search for a difference where there is none, each node of either map.
abbrev pub EndedVisitsTell : Type 0
EndedVisitsTell = (p : List ℕ) (before after : Counts) (front : List (List ℕ × ℕ))
    (last : List ℕ × ℕ) → EndsSoon p before after front last
    → (before.entered + length front < after.entered)
    × (after.entered ≤ before.entered + end_bound p last.0 (length front + 1))
    × (after.made ≡ before.made)

abbrev pub EndedDiffsTell : Type 0
EndedDiffsTell = (old new : Map ℕ) (before after : Counts) (front : List (Change ℕ))
    (last : Change ℕ) → DiffEndsSoon old new before after front last
    → (before.entered + length front < after.entered)
    × (after.entered ≤ before.entered + (node_count_to old last.0 + node_count_to new last.0))
    × (after.made ≡ before.made)

abbrev pub EqualMapsTell : Type 0
EqualMapsTell = (old new : Map ℕ) (before after : Counts) → EndsAtFirst old new before after []
    → after.entered ≡ before.entered + (node_count old + node_count new)

-- Where there is one, of either map no more than up to its first key from there on.
abbrev pub UnequalMapsTell : Type 0
UnequalMapsTell = (old new : Map ℕ) (before after : Counts) (first : Change ℕ)
    (changes : List (Change ℕ)) → EndsAtFirst old new before after (first ∷ changes)
    → (before.entered < after.entered)
    × (after.entered ≤ before.entered + (node_count_to old first.0 + node_count_to new first.0))

-- An update that answers `false` looks its key up and makes no node. Nor does a refused one make
-- any, whose callback stores and takes out nothing.
abbrev pub KeptUpdatesTell : {F V : Type 0} → Once F (MutBor (Slot V) × Unit {0})
    (SlotUpdate V × (MutBor (Slot V) × Unit {0})) → Type 0
KeptUpdatesTell {F} {V} callback = (f : F) (v after : Version V) (w : List ℕ)
    (refused : AllocError) (start now : Counts) →
    (CountsUpdate callback {E = AllocError} f v w (Ok false) after start now
    → (now.entered ≤ start.entered + lookup_bound w) × (now.made ≡ start.made))
    × (((left : Slot V) (told : SlotUpdate V) → Tells callback f v w left told
    → update_makes w (value_at v w) left told ≡ 0)
    → CountsUpdate callback f v w (Err refused) after start now → now.made ≡ start.made)

-- So it is where the callback may fail.
abbrev pub KeptTriesTell : {F V E : Type 0} → Once F (MutBor (Slot V) × Unit {0})
    (Result (SlotUpdate V) E × (MutBor (Slot V) × Unit {0})) → Type 0
KeptTriesTell {F} {V} {E} callback = (f : F) (v after : Version V) (w : List ℕ)
    (refused : AllocError) (start now : Counts) →
    (CountsTry callback f v w (Ok false) after start now
    → (now.entered ≤ start.entered + lookup_bound w) × (now.made ≡ start.made))
    × (((left : Slot V) (told : SlotUpdate V) → TellsOrFails callback f v w left (Ok told)
    → update_makes w (value_at v w) left told ≡ 0)
    → CountsTry callback f v w (Err (Memory refused)) after start now → now.made ≡ start.made)
    × (MakesToTryInsert {E = E} (Ok false) start now → now.made ≡ start.made)

-- An update whose callback fails enters what a look-up does, and makes none.
abbrev pub FailedUpdatesTell : {F V E : Type 0} → Once F (MutBor (Slot V) × Unit {0})
    (Result (SlotUpdate V) E × (MutBor (Slot V) × Unit {0})) → Type 0
FailedUpdatesTell {F} {V} {E} callback = (f : F) (v after : Version V) (w : List ℕ) (e : E)
    (start now : Counts) →
    (CountsTry callback f v w (Err (Callback e)) after start now
    → (now.entered ≤ start.entered + lookup_bound w) × (now.made ≡ start.made))
    × (MakesToTryInsert (Err (Callback e)) start now → now.made ≡ start.made)

-- What an iterator has left that is to give two numbers, none, or is over.
abbrev pub MembersAreLeft : Type 0
MembersAreLeft =
    (members_left {X = ℕ} (Some (1 ∷ 2 ∷ [])) ≡ 2)
    × (members_left {X = ℕ} (Some []) ≡ 0)
    × (members_left {X = ℕ} None ≡ 0)

-- By a hint: at least so many are left, and at most so many; behind the end, none.
abbrev pub HintsTell : Type 0
HintsTell = (left : Option (List ℕ)) (hint : ℕ × Option ℕ) → IsHintOf left hint
    → (hint.0 ≤ members_left left)
    × ((most : ℕ) → hint.1 ≡ Some most → members_left left ≤ most)
    × (left ≡ None → hint ≡ (0, Some 0))

-- A key that was found has its length, and what was not found has none.
abbrev pub FoundLengths : Type 0
FoundLengths = (found_length {V = ℕ} None ≡ 0)
    × ((value : Bor ℕ) → found_length (Some (3, value)) ≡ 3)

-- What a visit says of its end holds where it wasn't refused: where it says what can't be, there is
-- none that went through, none that was stopped, and none that its closure's error ended.
abbrev pub EndsTell : {F V E : Type 0} → Mut F (Bor V × Unit {0}) (Result VisitControl E) → Type 0
EndsTell {F} {V} {E} calls = (f f' : F) (members : List (List ℕ × V)) (e : E) →
    (Ends calls ByPairValue ⊥ (λ front last. ⊥) (Ok tt) f members f' → ⊥)
    × (Ends calls ByPairValue ⊥ (λ front last. ⊥) (Err (Callback e)) f members f' → ⊥)
