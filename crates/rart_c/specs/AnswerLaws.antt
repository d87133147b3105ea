-- Laws that show what the answers tell: by them and by what is written a caller knows what was
-- there.
use Rattle.std.specs.Prelude.{◌≡◌, ◌≢◌, ◌+◌, ◌<◌, ◌≤◌, ◌==◌, ◌↔◌, ◌⊎◌, ℕ, List, [], ◌∷◌, Option, Some, None, drop, if◌then◌else◌, length, take}
use Rattle.rart_c.specs.Answers.{IsRefused, IsRefusedKey, Tells, TellsUnread}
use Rattle.rart_c.specs.Equality.{TellsEqual}
use Rattle.rart_c.specs.Firsts.{ReadsFirst, TellsFirst}
use Rattle.rart_c.specs.Pages.{TellsPage, WritesPage, first_length, keys_of}
use Rattle.rart_c.specs.Reads.{Reads}
use Rattle.rart_c.specs.Saves.{GivesBack, Saves, TellsLength, TellsLoad}
use Rattle.rart_c.specs.declared.answer.TheConstants.{DONE, ABSENT, DIFFERENT, LAST_NUMBER, MALFORMED, NO_MEMORY, NO_ENTRIES, TOO_LONG, TOO_SMALL, WRONG_SUM}
use Rattle.rart_c.specs.declared.paging.RartEntry.{RartEntry}
use Rattle.rart_maps.specs.Versions.{Map, Version}
use Rattle.rart_saved.specs.declared.error.LoadError.{LoadError}
use Rattle.rart_saved.specs.declared.error.LoadError.TheVariants.{Io, Memory}
use Rattle.rart_saved.specs.Forms.{IsVersionOf, saved}
use Rattle.rart_saved.specs.Loads.{HasKeysWithin}

-- The value is what is written, and there is none where nothing is. No other answer is told.
abbrev pub AnswersTell : Type 0 → Type 0
AnswersTell X = (found : Option X) (answer : ℕ) (before after : X) → Tells found answer before after
    → (found ≡ (if answer == DONE then Some after else None)) × (answer ≡ ABSENT → after ≡ before)
    × ((answer ≡ DONE) ⊎ (answer ≡ ABSENT))

-- one of the three answers of a read into the caller's bytes
abbrev pub IsOfRead : ℕ → Type 0
IsOfRead answer = (answer ≡ DONE) ⊎ ((answer ≡ ABSENT) ⊎ (answer ≡ TOO_SMALL))

-- A byte string is as many of the first bytes as its length says; the others are as before. Where
-- they are too few it is longer, and none is written.
abbrev pub ReadsTell : Type 0
ReadsTell = (found : Option (List ℕ)) (answer : ℕ) (before after : List ℕ × ℕ)
    → Reads found answer before after
    → (answer ≡ DONE → found ≡ Some (take after.1 after.0))
    × (answer ≡ ABSENT → (found ≡ None) × (after ≡ before))
    × (answer ≡ TOO_SMALL → (length before.0 < after.1) × (after.0 ≡ before.0))
    × (drop after.1 after.0 ≡ drop after.1 before.0) × IsOfRead answer

-- the first of some pairs, if there is one
abbrev pub first_of : {V : Type 0} → List (List ℕ × V) → Option (List ℕ × V)
first_of [] = None
first_of (pair ∷ pairs) = Some pair

-- The first pair has for its key as many of the first bytes as the length says, which is told also
-- where they are too few; the others are as before.
abbrev pub FirstsTell : Type 0
FirstsTell = (pairs : List (List ℕ × ℕ)) (answer : ℕ) (before after : List ℕ × ℕ) (was is : ℕ)
    → TellsFirst pairs answer before after was is
    → (answer ≡ DONE → first_of pairs ≡ Some (take after.1 after.0, is))
    × (answer ≡ ABSENT → (pairs ≡ []) × (after ≡ before) × (is ≡ was))
    × (answer ≡ TOO_SMALL → (length before.0 < after.1) × (is ≡ was))
    × ((pair : List ℕ × ℕ) → first_of pairs ≡ Some pair → after.1 ≡ length pair.0)
    × (drop after.1 after.0 ≡ drop after.1 before.0) × IsOfRead answer

-- The same where its value is a byte string: the bytes for the one or for the other are too few.
abbrev pub FirstStringsTell : Type 0
FirstStringsTell = (pairs : List (List ℕ × List ℕ)) (answer : ℕ)
    (before after was is : List ℕ × ℕ) → ReadsFirst pairs answer before after was is
    → (answer ≡ DONE → first_of pairs ≡ Some (take after.1 after.0, take is.1 is.0))
    × (answer ≡ ABSENT → (pairs ≡ []) × (after ≡ before) × (is ≡ was))
    × (answer ≡ TOO_SMALL
    → ((length before.0 < after.1) ⊎ (length was.0 < is.1)) × (is.0 ≡ was.0))
    × ((pair : List ℕ × List ℕ) → first_of pairs ≡ Some pair
    → (after.1 ≡ length pair.0) × (is.1 ≡ length pair.1))
    × (drop after.1 after.0 ≡ drop after.1 before.0)
    × (drop is.1 is.0 ≡ drop is.1 was.0) × IsOfRead answer

-- A change is refused by two answers, and by no other, but for a third where it sets a key.
abbrev pub RefusalsTell : Type 0
RefusalsTell = (answer : ℕ)
    → (IsRefused answer ↔ ((answer ≡ LAST_NUMBER) ⊎ (answer ≡ NO_MEMORY)))
    × (IsRefusedKey answer
    ↔ ((answer ≡ TOO_LONG) ⊎ ((answer ≡ LAST_NUMBER) ⊎ (answer ≡ NO_MEMORY))))

-- Maps that are told equal are the same, and those that are told different aren't. The third answer
-- tells nothing, and there is no other.
abbrev pub EqualityTells : Type 0 → Type 0
EqualityTells V = (one other : Map V) (answer : ℕ) → TellsEqual one other answer
    → (answer ≡ DONE → one ≡ other) × (answer ≡ DIFFERENT → ¬ (one ≡ other))
    × ((answer ≡ DONE) ⊎ ((answer ≡ DIFFERENT) ⊎ (answer ≡ NO_MEMORY)))

-- the pairs that entries show: of each the bytes from where the one before ends to where it ends,
-- and its value
abbrev pub pairs_shown : ℕ → List ℕ → List RartEntry → List (List ℕ × ℕ)
pairs_shown start bytes [] = []
pairs_shown start bytes (entry ∷ entries) =
    (drop start (take entry.end bytes), entry.value) ∷ pairs_shown entry.end bytes entries

-- As many entries as a page counts show as many pairs, the first ones of the range. Behind them the
-- entries are as before, and the others of the range are left. For the next of these there is no
-- entry, or no room for its key behind theirs.
abbrev pub PagesTell : Type 0
PagesTell = (range left : List (List ℕ × ℕ)) (count : ℕ) (bytes : List ℕ)
    (before after : List RartEntry) → WritesPage range left count bytes before after
    → (pairs_shown 0 bytes (take count after) ≡ take count range)
    × (drop count after ≡ drop count before) × (left ≡ drop count range)
    × ((next : List ℕ × ℕ) → first_of left ≡ Some next → (count ≡ length after)
    ⊎ (length bytes < length (keys_of (take count range)) + length next.0))

-- The answer of a page says whether it has a pair, and else why, and to what it would have to grow.
abbrev pub PageAnswersTell : Type 0
PageAnswersTell = (count room : ℕ) (left : List (List ℕ × ℕ)) (answer before after : ℕ)
    → TellsPage count room left answer before after
    → (answer ≡ DONE → (0 < count) × (after ≡ before))
    × (answer ≡ ABSENT → (count ≡ 0) × (left ≡ []) × (after ≡ before))
    × (answer ≡ NO_ENTRIES → (count ≡ 0) × (room ≡ 0) × (left ≢ []) × (after ≡ before))
    × (answer ≡ TOO_SMALL → (count ≡ 0) × (0 < room) × (first_length left ≡ Some after))
    × ((answer ≡ NO_ENTRIES) ⊎ IsOfRead answer)

-- A version's bytes are as many of the first ones as is told; the others are as before. Where the
-- room is too small it is told how many they are.
abbrev pub SavesTell : Type 0
SavesTell = (bytes : List ℕ) (answer : ℕ) (before after : List ℕ × ℕ)
    → Saves bytes answer before after
    → (answer ≡ DONE
    → (bytes ≡ take after.1 after.0) × (drop after.1 after.0 ≡ drop after.1 before.0))
    × (answer ≡ TOO_SMALL → (length before.0 < after.1) × (after.1 ≡ length bytes))
    × (answer ≡ NO_MEMORY → after.1 ≡ before.1)
    × ((answer ≡ DONE) ⊎ ((answer ≡ TOO_SMALL) ⊎ (answer ≡ NO_MEMORY)))

-- Bytes that were not read are told so, for memory only where it was refused; and a byte is told by
-- two answers alone.
abbrev pub UnreadTells : Type 0
UnreadTells = (error : LoadError) (answer before after : ℕ) → TellsUnread error answer before after
    → (answer ≢ DONE) × (answer ≡ NO_MEMORY → (error ≡ Memory) ⊎ (error ≡ Io))
    × ((after ≡ before) ⊎ ((answer ≡ MALFORMED) ⊎ (answer ≡ TOO_LONG)))

-- Two answers of a load tell a byte, which is one of those that were to be read. With the others
-- its place is as before, and none is past the last one.
abbrev pub LoadsTell : Type 0
LoadsTell = (bytes : List ℕ) (answer before after : ℕ) → TellsLoad bytes answer before after
    → (answer ≡ MALFORMED → after < length bytes) × (answer ≡ TOO_LONG → after < length bytes)
    × (answer ≢ MALFORMED → answer ≢ TOO_LONG → after ≡ before) × (answer ≤ WRONG_SUM)

-- How many bytes a version has is told, or nothing is, for memory alone.
abbrev pub LengthsTell : Type 0
LengthsTell = (bytes : List ℕ) (answer before after : ℕ) → TellsLength bytes answer before after
    → (answer ≡ DONE → after ≡ length bytes) × (answer ≡ NO_MEMORY → after ≡ before)
    × ((answer ≡ DONE) ⊎ (answer ≡ NO_MEMORY))

-- A load of a version's bytes makes that version, where it answers so. It tells that a key is too
-- long only where one is, and else no other answer than that memory was refused.
abbrev pub LoadsGiveBack : Type 0 → Type 0
LoadsGiveBack V = (written : V → List ℕ) (kind longest answer : ℕ) (v found : Version V)
    → IsVersionOf None v → GivesBack written kind longest (saved written kind v) answer found
    → (answer ≡ DONE → found ≡ v) × (HasKeysWithin (Some longest) v → answer ≢ TOO_LONG)
    × ((answer ≡ DONE) ⊎ ((answer ≡ NO_MEMORY) ⊎ (answer ≡ TOO_LONG)))
