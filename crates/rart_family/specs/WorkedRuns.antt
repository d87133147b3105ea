-- Worked runs: commands on a family without a place, and their replies where no memory is refused.
use Rattle.std.specs.Prelude.{◌≡◌, ℕ, true, false, List, [], ◌∷◌, Some, None, Ok, codes}
use Rattle.std.specs.declared.ops.Bound.TheVariants.{Included, Excluded, Unbounded}
use Rattle.rart_versioned.specs.SlotUpdate.TheVariants.{Keep, Insert as Put, Remove as TakeOut}
use Rattle.rart_family.specs.declared.family.command.Command.{Command}
use Rattle.rart_family.specs.declared.family.command.Command.TheVariants.{New, NewAt, Snapshot, Duplicate, Discard, Version as NumberOf, IsEmpty, Get, GetMut, Insert, Replace, Remove, Delete, Update, TryUpdate, Iter, Values as ValuesOf, Range, Prefix, Matches, MatchesEach, Views, PrefixViews, RangeViews, PrefixValues, Until, Intersect, IntersectViews, IntersectValues, IntersectCount, Flatten, Longest}
use Rattle.rart_family.specs.declared.family.command.Failure.{Failure}
use Rattle.rart_maps.specs.Versions.{Version, empty_at, with_key}
use Rattle.rart_maps.specs.Changes.{slot_of, slot_update, slot_attempt}
use Rattle.rart_family.specs.Replies.{Reply, Place, Discarded, Number, Flag, Value, Entries, Values, Stopped, Pairs, ValuePairs, Count, Failed, NoVersion, NoRoom}
use Rattle.rart_family.specs.Families.{Family, reply_to, after}

-- the commands' own replies, one after the other; a key is its bytes
abbrev pub replies : Family ℕ → List (Command (List ℕ) ℕ) → List (Reply ℕ)
replies f [] = []
replies f (c ∷ cs) = reply_to (λ key. key) f c ∷ replies (after (λ key. key) f c) cs

-- commands on a family without a place, and what they are replied
abbrev pub WorkedRun : Type 0
WorkedRun = List (Command (List ℕ) ℕ) × List (Reply ℕ)

-- The commands are replied so.
abbrev pub IsReplied : WorkedRun → Type 0
IsReplied run = replies [] run.0 ≡ run.1

abbrev pub snapshot_of_a_value : WorkedRun
snapshot_of_a_value = (
  New ∷ Insert 0 (codes "key1") 1 ∷ Snapshot 0 ∷ Get 1 (codes "key1") ∷ NumberOf 0 ∷
      NumberOf 1 ∷ [],
  Place 0 ∷ Flag false ∷ Place 1 ∷ Value (Some 1) ∷ Number 1 ∷ Number 2 ∷ [],
)

-- A snapshot has the value, and a number one greater.
abbrev pub SnapshotKeepsItsValue : Type 0
SnapshotKeepsItsValue = IsReplied snapshot_of_a_value

abbrev pub changes_apart : WorkedRun
changes_apart = (
  New ∷ Insert 0 (codes "key1") 1 ∷ Snapshot 0 ∷ Insert 0 (codes "key2") 2 ∷
      Insert 1 (codes "key3") 3 ∷ Get 0 (codes "key2") ∷ Get 0 (codes "key3") ∷
      Get 1 (codes "key2") ∷ Get 1 (codes "key3") ∷ Get 0 (codes "key1") ∷ Get 1 (codes "key1") ∷
      [],
  Place 0 ∷ Flag false ∷ Place 1 ∷ Flag false ∷ Flag false ∷ Value (Some 2) ∷ Value None ∷
      Value None ∷ Value (Some 3) ∷ Value (Some 1) ∷ Value (Some 1) ∷ [],
)

-- What is changed in one version is not seen in the other.
abbrev pub ChangesStayApart : Type 0
ChangesStayApart = IsReplied changes_apart

abbrev pub clone_and_snapshot : WorkedRun
clone_and_snapshot = (
  New ∷ Insert 0 (codes "a") 1 ∷ Duplicate 0 ∷ Snapshot 0 ∷ NumberOf 0 ∷ NumberOf 1 ∷
      NumberOf 2 ∷ [],
  Place 0 ∷ Flag false ∷ Place 1 ∷ Place 2 ∷ Number 1 ∷ Number 1 ∷ Number 2 ∷ [],
)

-- A clone keeps the number, a snapshot raises it.
abbrev pub CloneKeepsNumber : Type 0
CloneKeepsNumber = IsReplied clone_and_snapshot

abbrev pub replacements : WorkedRun
replacements = (
  New ∷ Replace 0 (codes "key1") 100 ∷ Replace 0 (codes "key1") 200 ∷ Snapshot 0 ∷
      Replace 0 (codes "key1") 300 ∷ Get 1 (codes "key1") ∷ [],
  Place 0 ∷ Value None ∷ Value (Some 100) ∷ Place 1 ∷ Value (Some 200) ∷ Value (Some 200) ∷ [],
)

-- A replacement gives the value before.
abbrev pub ReplacementGivesOldValue : Type 0
ReplacementGivesOldValue = IsReplied replacements

abbrev pub removal_of_an_absent_key : WorkedRun
removal_of_an_absent_key = (
  New ∷ Insert 0 (codes "d") 1 ∷ Remove 0 (codes "da") ∷ Get 0 (codes "d") ∷ NumberOf 0 ∷ [],
  Place 0 ∷ Flag false ∷ Value None ∷ Value (Some 1) ∷ Number 1 ∷ [],
)

-- To remove a key that is not there changes nothing, not even the number.
abbrev pub AbsentKeyStaysAbsent : Type 0
AbsentKeyStaysAbsent = IsReplied removal_of_an_absent_key

abbrev pub deletion_beside_a_snapshot : WorkedRun
deletion_beside_a_snapshot = (
  New ∷ Insert 0 (codes "a") 1 ∷ Insert 0 (codes "ab") 2 ∷ Snapshot 0 ∷ Delete 0 (codes "a") ∷
      Get 0 (codes "a") ∷ Get 0 (codes "ab") ∷ Get 1 (codes "a") ∷ [],
  Place 0 ∷ Flag false ∷ Flag false ∷ Place 1 ∷ Flag true ∷ Value None ∷ Value (Some 2) ∷
      Value (Some 1) ∷ [],
)

-- A deletion is not seen in an earlier snapshot, nor at a longer key.
abbrev pub DeletionIsNotSeenInSnapshot : Type 0
DeletionIsNotSeenInSnapshot = IsReplied deletion_beside_a_snapshot

abbrev pub failed_update : WorkedRun
failed_update = (
  New ∷ Insert 0 (codes "err") 1 ∷ Snapshot 0 ∷ TryUpdate 0 (codes "err") (Some 99) None ∷
      Get 0 (codes "err") ∷ Get 1 (codes "err") ∷ NumberOf 0 ∷ [],
  Place 0 ∷ Flag false ∷ Place 1 ∷ Failed ∷ Value (Some 1) ∷ Value (Some 1) ∷ Number 3 ∷ [],
)

-- An update that fails keeps the value, and raises the number by two.
abbrev pub FailedUpdateKeepsValue : Type 0
FailedUpdateKeepsValue = IsReplied failed_update

abbrev pub discarded_place : WorkedRun
discarded_place = (
  New ∷ Insert 0 (codes "a") 1 ∷ GetMut 0 (codes "a") 5 ∷ GetMut 0 (codes "b") 6 ∷
      NumberOf 0 ∷ Replace 0 (codes "a") 7 ∷ IsEmpty 0 ∷ Discard 0 ∷ IsEmpty 0 ∷ New ∷ [],
  Place 0 ∷ Flag false ∷ Flag true ∷ Flag false ∷ Number 2 ∷ Value (Some 5) ∷ Flag false ∷
      Discarded ∷ NoVersion ∷ Place 1 ∷ [],
)

-- A discarded place has no version, and is not used again.
abbrev pub DiscardedPlaceIsNotUsedAgain : Type 0
DiscardedPlaceIsNotUsedAgain = IsReplied discarded_place

abbrev pub written_and_inserted : WorkedRun
written_and_inserted = (
  New ∷ Insert 0 (codes "a") 1 ∷ Update 0 (codes "a") (Some 5) (Put 6) ∷ Get 0 (codes "a") ∷
      TryUpdate 0 (codes "a") (Some 7) (Some (Put 8)) ∷ Get 0 (codes "a") ∷ NumberOf 0 ∷
      Update 0 (codes "b") None TakeOut ∷ NumberOf 0 ∷ Update 0 (codes "a") None TakeOut ∷
      IsEmpty 0 ∷ NumberOf 0 ∷ [],
  Place 0 ∷ Flag false ∷ Flag true ∷ Value (Some 6) ∷ Flag true ∷ Value (Some 8) ∷ Number 4 ∷
      Flag false ∷ Number 4 ∷ Flag true ∷ Flag true ∷ Number 5 ∷ [],
)

-- Of an update that writes and inserts the inserted value stays.
abbrev pub AnswerOutweighsWrite : Type 0
AnswerOutweighsWrite = IsReplied written_and_inserted

abbrev pub room_for_one : WorkedRun
room_for_one = (
  NewAt 18446744073709551615 ∷ Insert 0 (codes "a") 1 ∷ Snapshot 0 ∷ Duplicate 0 ∷
      NewAt 18446744073709551614 ∷ TryUpdate 2 (codes "a") None (Some Keep) ∷
      Insert 2 (codes "a") 1 ∷ NumberOf 2 ∷ Delete 2 (codes "a") ∷ Get 2 (codes "a") ∷ [],
  Place 0 ∷ NoRoom ∷ NoRoom ∷ Place 1 ∷ Place 2 ∷ NoRoom ∷ Flag false ∷
      Number 18446744073709551615 ∷ NoRoom ∷ Value (Some 1) ∷ [],
)

-- Where the number has no room left a change is refused, a clone is not.
abbrev pub RoomIsAsked : Type 0
RoomIsAsked = IsReplied room_for_one

abbrev pub room_for_two : WorkedRun
room_for_two = (
  NewAt 18446744073709551613 ∷ Insert 0 (codes "a") 1 ∷
      TryUpdate 0 (codes "a") (Some 2) (Some Keep) ∷ NumberOf 0 ∷
      Update 0 (codes "a") (Some 2) Keep ∷ Update 0 (codes "a") (Some 3) Keep ∷
      Delete 0 (codes "x") ∷ Duplicate 0 ∷ Get 1 (codes "a") ∷ [],
  Place 0 ∷ Flag false ∷ NoRoom ∷ Number 18446744073709551614 ∷ Flag true ∷ NoRoom ∷ NoRoom ∷
      Place 1 ∷ Value (Some 2) ∷ [],
)

-- An update that may fail asks for room 2, whatever it needs.
abbrev pub RoomTwoIsAsked : Type 0
RoomTwoIsAsked = IsReplied room_for_two

abbrev pub insertion_by_update : WorkedRun
insertion_by_update = (
  NewAt 18446744073709551613 ∷ TryUpdate 0 (codes "a") None (Some (Put 1)) ∷ NumberOf 0 ∷
      TryUpdate 0 (codes "a") None (Some Keep) ∷ [],
  Place 0 ∷ Flag true ∷ Number 18446744073709551614 ∷ NoRoom ∷ [],
)

-- An update that may fail and inserts an absent key raises the number by one.
abbrev pub InsertionByUpdateTakesOne : Type 0
InsertionByUpdateTakesOne = IsReplied insertion_by_update

abbrev pub written_and_removed : WorkedRun
written_and_removed = (
  New ∷ Insert 0 (codes "a") 1 ∷ Insert 0 (codes "b") 2 ∷
      Update 0 (codes "a") (Some 9) TakeOut ∷ TryUpdate 0 (codes "b") (Some 9) None ∷
      TryUpdate 0 (codes "b") (Some 9) (Some TakeOut) ∷ IsEmpty 0 ∷ NumberOf 0 ∷ [],
  Place 0 ∷ Flag false ∷ Flag false ∷ Flag true ∷ Failed ∷ Flag true ∷ Flag true ∷ Number 7 ∷
      [],
)

-- An update that removes a key it wrote to leaves no key.
abbrev pub RemovalOutweighsWrite : Type 0
RemovalOutweighsWrite = IsReplied written_and_removed

abbrev pub numbers_of_removals : WorkedRun
numbers_of_removals = (
  New ∷ Insert 0 (codes "a") 1 ∷ Remove 0 (codes "a") ∷ NumberOf 0 ∷ Insert 0 (codes "a") 2 ∷
      Delete 0 (codes "a") ∷ NumberOf 0 ∷ Get 0 (codes "a") ∷ [],
  Place 0 ∷ Flag false ∷ Value (Some 1) ∷ Number 2 ∷ Flag false ∷ Flag true ∷ Number 4 ∷
      Value None ∷ [],
)

-- Removal and deletion of a key that is there raise the number by one each.
abbrev pub RemovalsRaiseNumber : Type 0
RemovalsRaiseNumber = IsReplied numbers_of_removals

abbrev pub updates_of_an_absent_key : WorkedRun
updates_of_an_absent_key = (
  New ∷ Insert 0 (codes "a") 1 ∷ TryUpdate 0 (codes "b") None (Some Keep) ∷
      TryUpdate 0 (codes "b") None (Some TakeOut) ∷ TryUpdate 0 (codes "b") None None ∷
      Update 0 (codes "b") None Keep ∷ NumberOf 0 ∷ Update 0 (codes "b") None (Put 3) ∷
      NumberOf 0 ∷ TryUpdate 0 (codes "b") (Some 7) (Some Keep) ∷ NumberOf 0 ∷
      Get 0 (codes "b") ∷ [],
  Place 0 ∷ Flag false ∷ Flag false ∷ Flag false ∷ Failed ∷ Flag false ∷ Number 1 ∷ Flag true ∷
      Number 2 ∷ Flag true ∷ Number 3 ∷ Value (Some 7) ∷ [],
)

-- Of an absent key an update changes nothing unless it inserts; once the key is there, what is
-- written and kept stays.
abbrev pub UpdatesOfAnAbsentKey : Type 0
UpdatesOfAnAbsentKey = IsReplied updates_of_an_absent_key

abbrev pub lists_of_two_versions : WorkedRun
lists_of_two_versions = (
  New ∷ Insert 0 (codes "b") 2 ∷ Snapshot 0 ∷ Insert 0 (codes "ab") 3 ∷ Insert 0 (codes "a") 1 ∷
      Iter 0 ∷ Iter 1 ∷ ValuesOf 0 ∷ Range 0 (Excluded (codes "a")) (Included (codes "b")) ∷
      Prefix 0 (codes "a") ∷ Matches 0 (codes "abc") ∷ NumberOf 0 ∷ Iter 2 ∷ [],
  Place 0 ∷ Flag false ∷ Place 1 ∷ Flag false ∷ Flag false ∷
      Entries ((codes "a", 1) ∷ (codes "ab", 3) ∷ (codes "b", 2) ∷ []) ∷
      Entries ((codes "b", 2) ∷ []) ∷ Values (1 ∷ 3 ∷ 2 ∷ []) ∷
      Entries ((codes "ab", 3) ∷ (codes "b", 2) ∷ []) ∷
      Entries ((codes "a", 1) ∷ (codes "ab", 3) ∷ []) ∷
      Entries ((codes "a", 1) ∷ (codes "ab", 3) ∷ []) ∷ Number 3 ∷ NoVersion ∷ [],
)

-- Lists go in the order of keys, each in its own version, and change nothing.
abbrev pub ListsAreOfOneVersion : Type 0
ListsAreOfOneVersion = IsReplied lists_of_two_versions

abbrev pub visits_of_a_version : WorkedRun
visits_of_a_version = (
  New ∷ Insert 0 (codes "pb") 1 ∷ Insert 0 (codes "pa") 0 ∷ Views 0 ∷
      MatchesEach 0 (codes "pbc") ∷ PrefixViews 0 (codes "pb") ∷
      RangeViews 0 Unbounded (Excluded (codes "pb")) ∷ PrefixValues 0 (codes "p") ∷
      Until 0 (codes "p") 1 false ∷ Until 0 (codes "p") 1 true ∷ Until 0 (codes "p") 2 true ∷
      Until 0 (codes "p") 0 true ∷ Until 0 (codes "p") 3 true ∷ Until 0 (codes "q") 1 true ∷ [],
  Place 0 ∷ Flag false ∷ Flag false ∷ Entries ((codes "pa", 0) ∷ (codes "pb", 1) ∷ []) ∷
      Entries ((codes "pb", 1) ∷ []) ∷ Entries ((codes "pb", 1) ∷ []) ∷
      Entries ((codes "pa", 0) ∷ []) ∷ Values (0 ∷ 1 ∷ []) ∷ Stopped (0 ∷ []) false ∷
      Stopped (0 ∷ []) true ∷ Stopped (0 ∷ 1 ∷ []) true ∷ Stopped (0 ∷ 1 ∷ []) false ∷
      Stopped (0 ∷ 1 ∷ []) false ∷ Stopped [] false ∷ [],
)

-- A visit ends on the visit that is asked for, counted from 1, or on the last one.
abbrev pub VisitsAreCountedFromOne : Type 0
VisitsAreCountedFromOne = IsReplied visits_of_a_version

abbrev pub flattened_version : WorkedRun
flattened_version = (
  New ∷ Flatten 0 ∷ Insert 0 (codes "key2") 84 ∷ Insert 0 (codes "key1") 42 ∷ Flatten 0 ∷
      NumberOf 0 ∷ Discard 0 ∷ Flatten 0 ∷ Flatten 1 ∷ [],
  Place 0 ∷ Entries [] ∷ Flag false ∷ Flag false ∷
      Entries ((codes "key1", 42) ∷ (codes "key2", 84) ∷ []) ∷ Number 2 ∷ Discarded ∷
      NoVersion ∷ NoVersion ∷ [],
)

-- What a version has is listed by way of a plain tree, and the version stays.
abbrev pub FlatteningLeavesItsVersion : Type 0
FlatteningLeavesItsVersion = IsReplied flattened_version

abbrev pub keys_of_both : WorkedRun
keys_of_both = (
  New ∷ Insert 0 (codes "a") 1 ∷ Insert 0 (codes "ab") 2 ∷ Insert 0 (codes "b") 3 ∷ New ∷
      Insert 1 (codes "ab") 20 ∷ Insert 1 (codes "b") 30 ∷ Insert 1 (codes "c") 40 ∷
      Intersect 0 1 ∷ Intersect 1 0 ∷ IntersectValues 0 1 ∷ IntersectCount 0 1 ∷ [],
  Place 0 ∷ Flag false ∷ Flag false ∷ Flag false ∷ Place 1 ∷ Flag false ∷ Flag false ∷
      Flag false ∷ Pairs ((codes "ab", 2, 20) ∷ (codes "b", 3, 30) ∷ []) ∷
      Pairs ((codes "ab", 20, 2) ∷ (codes "b", 30, 3) ∷ []) ∷
      ValuePairs ((2, 20) ∷ (3, 30) ∷ []) ∷ Count 2 ∷ [],
)

-- An intersection has the keys of both versions, the left one's values first.
abbrev pub IntersectionHasKeysOfBoth : Type 0
IntersectionHasKeysOfBoth = IsReplied keys_of_both

abbrev pub key_of_both_after_deletion : WorkedRun
key_of_both_after_deletion = (
  New ∷ Insert 0 (codes "abc") 1 ∷ Insert 0 (codes "abd") 2 ∷ Delete 0 (codes "abd") ∷ New ∷
      Insert 1 (codes "abc") 10 ∷ Intersect 0 1 ∷ [],
  Place 0 ∷ Flag false ∷ Flag false ∷ Flag true ∷ Place 1 ∷ Flag false ∷
      Pairs ((codes "abc", 1, 10) ∷ []) ∷ [],
)

-- A key that was deleted is in no intersection, whatever it left of the tree.
abbrev pub DeletedKeyIsInNoIntersection : Type 0
DeletedKeyIsInNoIntersection = IsReplied key_of_both_after_deletion

abbrev pub empty_beside_a_key : WorkedRun
empty_beside_a_key = (
  New ∷ New ∷ Insert 1 (codes "a") 1 ∷ Intersect 0 1 ∷ IntersectCount 0 1 ∷ Snapshot 1 ∷
      Discard 1 ∷ Get 1 (codes "a") ∷ Get 2 (codes "a") ∷ New ∷ [],
  Place 0 ∷ Place 1 ∷ Flag false ∷ Pairs [] ∷ Count 0 ∷ Place 2 ∷ Discarded ∷ NoVersion ∷
      Value (Some 1) ∷ Place 3 ∷ [],
)

-- A version without a key has none in common with another.
abbrev pub EmptyVersionMeetsNothing : Type 0
EmptyVersionMeetsNothing = IsReplied empty_beside_a_key

abbrev pub keys_that_begin_others : WorkedRun
keys_that_begin_others = (
  New ∷ Insert 0 (codes "abcdef") 1 ∷ Insert 0 (codes "abcxyz") 2 ∷ New ∷
      Insert 1 (codes "ab") 10 ∷ Insert 1 (codes "abc") 20 ∷ Insert 1 (codes "abcdef") 30 ∷
      Insert 1 (codes "abd") 40 ∷ IntersectViews 0 1 ∷ Intersect 1 0 ∷ IntersectCount 0 1 ∷
      Intersect 0 0 ∷ [],
  Place 0 ∷ Flag false ∷ Flag false ∷ Place 1 ∷ Flag false ∷ Flag false ∷ Flag false ∷
      Flag false ∷ Pairs ((codes "abcdef", 1, 30) ∷ []) ∷ Pairs ((codes "abcdef", 30, 1) ∷ []) ∷
      Count 1 ∷ Pairs ((codes "abcdef", 1, 1) ∷ (codes "abcxyz", 2, 2) ∷ []) ∷ [],
)

-- A key of the one that only begins keys of the other is in no intersection; and a version has all
-- its keys in common with itself.
abbrev pub PrefixIsNoKeyOfBoth : Type 0
PrefixIsNoKeyOfBoth = IsReplied keys_that_begin_others

abbrev pub intersections_of_lost_places : WorkedRun
intersections_of_lost_places = (
  New ∷ Insert 0 (codes "a") 1 ∷ Intersect 0 1 ∷ IntersectViews 1 0 ∷ Snapshot 0 ∷
      Replace 1 (codes "a") 5 ∷ IntersectValues 0 1 ∷ Discard 0 ∷ Intersect 0 1 ∷
      IntersectCount 1 0 ∷ IntersectViews 1 1 ∷ NumberOf 1 ∷ [],
  Place 0 ∷ Flag false ∷ NoVersion ∷ NoVersion ∷ Place 1 ∷ Value (Some 1) ∷
      ValuePairs ((1, 5) ∷ []) ∷ Discarded ∷ NoVersion ∷ NoVersion ∷
      Pairs ((codes "a", 5, 5) ∷ []) ∷ Number 3 ∷ [],
)

-- Where either place has no version there is no intersection; and an intersection changes nothing.
abbrev pub IntersectionNeedsBothVersions : Type 0
IntersectionNeedsBothVersions = IsReplied intersections_of_lost_places

abbrev pub longest_matches : WorkedRun
longest_matches = (
  New ∷ Longest 0 (codes "cat") ∷ Insert 0 (codes "cat") 1 ∷ Insert 0 (codes "catalog") 2 ∷
      Insert 0 (codes "dog") 3 ∷ Longest 0 (codes "catalogue") ∷ Longest 0 (codes "cat") ∷
      Longest 0 (codes "zoo") ∷ Insert 0 [] 0 ∷ Longest 0 (codes "zoo") ∷ Longest 1 (codes "cat") ∷
      Discard 0 ∷ Longest 0 (codes "cat") ∷ [],
  Place 0 ∷ Entries [] ∷ Flag false ∷ Flag false ∷ Flag false ∷
      Entries ((codes "catalog", 2) ∷ []) ∷ Entries ((codes "cat", 1) ∷ []) ∷ Entries [] ∷
      Flag false ∷ Entries (([], 0) ∷ []) ∷ NoVersion ∷ Discarded ∷ NoVersion ∷ [],
)

-- The longest key that begins the probe is given alone, which is the empty one where no other does.
abbrev pub LongestMatchIsAlone : Type 0
LongestMatchIsAlone = IsReplied longest_matches

abbrev pub key_put_in_twice : WorkedRun
key_put_in_twice = (
  New ∷ Insert 0 (codes "a") 1 ∷ Insert 0 (codes "a") 2 ∷ Get 0 (codes "a") ∷ NumberOf 0 ∷ [],
  Place 0 ∷ Flag false ∷ Flag true ∷ Value (Some 2) ∷ Number 2 ∷ [],
)

-- A key put in twice has its second value, and the number is raised twice.
abbrev pub SecondValueStays : Type 0
SecondValueStays = IsReplied key_put_in_twice

abbrev pub deletion_of_an_absent_key : WorkedRun
deletion_of_an_absent_key = (
  New ∷ Insert 0 (codes "d") 1 ∷ Delete 0 (codes "da") ∷ NumberOf 0 ∷ Get 0 (codes "d") ∷ [],
  Place 0 ∷ Flag false ∷ Flag false ∷ Number 1 ∷ Value (Some 1) ∷ [],
)

-- To delete a key that is not there changes nothing, not even the number.
abbrev pub AbsentKeyIsNotDeleted : Type 0
AbsentKeyIsNotDeleted = IsReplied deletion_of_an_absent_key

abbrev pub place_discarded_twice : WorkedRun
place_discarded_twice = (
  New ∷ New ∷ Discard 0 ∷ Discard 0 ∷ Discard 2 ∷ IsEmpty 1 ∷ New ∷ [],
  Place 0 ∷ Place 1 ∷ Discarded ∷ NoVersion ∷ NoVersion ∷ Flag true ∷ Place 2 ∷ [],
)

-- A place can be discarded once.
abbrev pub PlacesAreDiscardedOnce : Type 0
PlacesAreDiscardedOnce = IsReplied place_discarded_twice

abbrev pub changes_at_the_greatest_number : WorkedRun
changes_at_the_greatest_number = (
  NewAt 18446744073709551615 ∷ GetMut 0 (codes "a") 2 ∷ Insert 0 (codes "a") 2 ∷
      Replace 0 (codes "a") 2 ∷ Remove 0 (codes "a") ∷ Delete 0 (codes "a") ∷
      Update 0 (codes "a") None Keep ∷ TryUpdate 0 (codes "a") None None ∷ Snapshot 0 ∷
      NumberOf 0 ∷ Duplicate 0 ∷ [],
  Place 0 ∷ NoRoom ∷ NoRoom ∷ NoRoom ∷ NoRoom ∷ NoRoom ∷ NoRoom ∷ NoRoom ∷ NoRoom ∷
      Number 18446744073709551615 ∷ Place 1 ∷ [],
)

-- At the greatest number each change is refused, though its key is absent.
abbrev pub GreatestNumberHasNoRoom : Type 0
GreatestNumberHasNoRoom = IsReplied changes_at_the_greatest_number

abbrev pub changes_of_a_key_at_the_greatest_number : WorkedRun
changes_of_a_key_at_the_greatest_number = (
  NewAt 18446744073709551614 ∷ Insert 0 (codes "a") 1 ∷ GetMut 0 (codes "a") 2 ∷
      Insert 0 (codes "a") 2 ∷ Replace 0 (codes "a") 2 ∷ Remove 0 (codes "a") ∷
      Delete 0 (codes "a") ∷ Update 0 (codes "a") (Some 2) Keep ∷
      TryUpdate 0 (codes "a") None (Some Keep) ∷ Get 0 (codes "a") ∷ [],
  Place 0 ∷ Flag false ∷ NoRoom ∷ NoRoom ∷ NoRoom ∷ NoRoom ∷ NoRoom ∷ NoRoom ∷ NoRoom ∷
      Value (Some 1) ∷ [],
)

-- and so where the key is there.
abbrev pub GreatestNumberKeepsItsKeys : Type 0
GreatestNumberKeepsItsKeys = IsReplied changes_of_a_key_at_the_greatest_number

abbrev pub settings_below_the_greatest_number : WorkedRun
settings_below_the_greatest_number = (
  NewAt 18446744073709551613 ∷ Insert 0 (codes "a") 1 ∷ Duplicate 0 ∷ Duplicate 0 ∷
      GetMut 0 (codes "a") 2 ∷ Insert 1 (codes "a") 2 ∷ Replace 2 (codes "a") 2 ∷ NumberOf 0 ∷
      NumberOf 1 ∷ NumberOf 2 ∷ [],
  Place 0 ∷ Flag false ∷ Place 1 ∷ Place 2 ∷ Flag true ∷ Flag true ∷ Value (Some 1) ∷
      Number 18446744073709551615 ∷ Number 18446744073709551615 ∷
      Number 18446744073709551615 ∷ [],
)

-- One below the greatest number a change that sets a value takes the last room.
abbrev pub SettingsTakeTheLastRoom : Type 0
SettingsTakeTheLastRoom = IsReplied settings_below_the_greatest_number

abbrev pub removals_below_the_greatest_number : WorkedRun
removals_below_the_greatest_number = (
  NewAt 18446744073709551613 ∷ Insert 0 (codes "a") 1 ∷ Duplicate 0 ∷ Duplicate 0 ∷
      Remove 0 (codes "a") ∷ Delete 1 (codes "a") ∷ Update 2 (codes "a") None TakeOut ∷
      NumberOf 0 ∷ NumberOf 1 ∷ NumberOf 2 ∷ [],
  Place 0 ∷ Flag false ∷ Place 1 ∷ Place 2 ∷ Value (Some 1) ∷ Flag true ∷ Flag true ∷
      Number 18446744073709551615 ∷ Number 18446744073709551615 ∷
      Number 18446744073709551615 ∷ [],
)

-- and so does one that takes a key out.
abbrev pub RemovalsTakeTheLastRoom : Type 0
RemovalsTakeTheLastRoom = IsReplied removals_below_the_greatest_number

abbrev pub snapshot_below_the_greatest_number : WorkedRun
snapshot_below_the_greatest_number = (
  NewAt 18446744073709551614 ∷ TryUpdate 0 (codes "a") None (Some (Put 1)) ∷ Snapshot 0 ∷
      NumberOf 1 ∷ Snapshot 1 ∷ [],
  Place 0 ∷ NoRoom ∷ Place 1 ∷ Number 18446744073709551615 ∷ NoRoom ∷ [],
)

-- A snapshot takes it too, and room for two is not there.
abbrev pub SnapshotTakesTheLastRoom : Type 0
SnapshotTakesTheLastRoom = IsReplied snapshot_below_the_greatest_number

abbrev pub writes_to_a_vacant_slot : WorkedRun
writes_to_a_vacant_slot = (
  New ∷ Insert 0 (codes "a") 1 ∷ Update 0 (codes "b") (Some 9) Keep ∷
      TryUpdate 0 (codes "b") (Some 9) (Some Keep) ∷ NumberOf 0 ∷ Get 0 (codes "b") ∷
      Update 0 (codes "a") (Some 9) Keep ∷ Get 0 (codes "a") ∷ NumberOf 0 ∷ [],
  Place 0 ∷ Flag false ∷ Flag false ∷ Flag false ∷ Number 1 ∷ Value None ∷ Flag true ∷
      Value (Some 9) ∷ Number 2 ∷ [],
)

-- Nothing is written into the slot of an absent key, and to keep it sets none.
abbrev pub VacantSlotTakesNoWrite : Type 0
VacantSlotTakesNoWrite = IsReplied writes_to_a_vacant_slot

-- A slot that a callback leaves vacant and keeps: a key that is there keeps its value, and the
-- number is raised; an absent one stays absent.
abbrev pub VacantSlotKeepsItsValue : Type 0
VacantSlotKeepsItsValue =
    let one : Version ℕ = with_key (empty_at 0) (codes "a") 1 1 in
    let kept : Version ℕ = with_key one (codes "a") 1 1 in
    (slot_update one (codes "a") (slot_of None) Keep ≡ (true, kept))
    × (slot_update one (codes "b") (slot_of None) Keep ≡ (false, one))
    × (slot_attempt {E = Failure} one (codes "a") (slot_of None) (Ok Keep) ≡ (Ok true, kept))
    × (slot_attempt {E = Failure} one (codes "b") (slot_of None) (Ok Keep) ≡ (Ok false, one))

abbrev pub values_under_a_key : WorkedRun
values_under_a_key = (
  New ∷ Insert 0 (codes "o") 9 ∷ Insert 0 (codes "p") 0 ∷ Insert 0 (codes "pa") 1 ∷
      Insert 0 (codes "pb") 2 ∷ Insert 0 (codes "q") 8 ∷ PrefixValues 0 (codes "p") ∷
      PrefixValues 0 (codes "pa") ∷ PrefixValues 0 (codes "r") ∷ PrefixValues 0 [] ∷
      Until 0 (codes "p") 2 true ∷ [],
  Place 0 ∷ Flag false ∷ Flag false ∷ Flag false ∷ Flag false ∷ Flag false ∷
      Values (0 ∷ 1 ∷ 2 ∷ []) ∷ Values (1 ∷ []) ∷ Values [] ∷
      Values (9 ∷ 0 ∷ 1 ∷ 2 ∷ 8 ∷ []) ∷ Stopped (0 ∷ 1 ∷ []) true ∷ [],
)

-- A prefix has the values of the keys that it begins, its own among them, and of no other.
abbrev pub PrefixIsAmongItsKeys : Type 0
PrefixIsAmongItsKeys = IsReplied values_under_a_key

abbrev pub matches_of_a_key : WorkedRun
matches_of_a_key = (
  New ∷ Insert 0 (codes "a") 1 ∷ Insert 0 (codes "ab") 2 ∷ Insert 0 (codes "abc") 3 ∷
      Insert 0 (codes "b") 4 ∷ Matches 0 (codes "ab") ∷ MatchesEach 0 (codes "ab") ∷
      Longest 0 (codes "ab") ∷ Matches 0 [] ∷ Insert 0 [] 0 ∷ Matches 0 [] ∷ [],
  Place 0 ∷ Flag false ∷ Flag false ∷ Flag false ∷ Flag false ∷
      Entries ((codes "a", 1) ∷ (codes "ab", 2) ∷ []) ∷
      Entries ((codes "a", 1) ∷ (codes "ab", 2) ∷ []) ∷ Entries ((codes "ab", 2) ∷ []) ∷
      Entries [] ∷ Flag false ∷ Entries (([], 0) ∷ []) ∷ [],
)

-- A probe that is a key is the last one that begins it.
abbrev pub ProbeIsAmongItsMatches : Type 0
ProbeIsAmongItsMatches = IsReplied matches_of_a_key

abbrev pub bounds_at_keys : WorkedRun
bounds_at_keys = (
  New ∷ Insert 0 (codes "a") 1 ∷ Insert 0 (codes "b") 2 ∷ Insert 0 (codes "c") 3 ∷
      Range 0 (Included (codes "a")) (Excluded (codes "c")) ∷
      Range 0 (Excluded (codes "a")) (Included (codes "c")) ∷
      Range 0 (Included (codes "b")) (Included (codes "b")) ∷
      Range 0 (Included (codes "b")) (Excluded (codes "b")) ∷
      Range 0 (Excluded (codes "b")) (Included (codes "b")) ∷
      Range 0 (Included (codes "c")) (Included (codes "a")) ∷
      RangeViews 0 (Included (codes "c")) Unbounded ∷
      RangeViews 0 Unbounded (Excluded (codes "a")) ∷ [],
  Place 0 ∷ Flag false ∷ Flag false ∷ Flag false ∷
      Entries ((codes "a", 1) ∷ (codes "b", 2) ∷ []) ∷
      Entries ((codes "b", 2) ∷ (codes "c", 3) ∷ []) ∷ Entries ((codes "b", 2) ∷ []) ∷
      Entries [] ∷ Entries [] ∷ Entries [] ∷ Entries ((codes "c", 3) ∷ []) ∷ Entries [] ∷ [],
)

-- A key at a bound is within it where the bound is included.
abbrev pub BoundsAreIncludedOrNot : Type 0
BoundsAreIncludedOrNot = IsReplied bounds_at_keys

abbrev pub lists_of_one_key : WorkedRun
lists_of_one_key = (
  New ∷ Insert 0 (codes "k") 7 ∷ Flatten 0 ∷ ValuesOf 0 ∷ Iter 0 ∷ Views 0 ∷ [],
  Place 0 ∷ Flag false ∷ Entries ((codes "k", 7) ∷ []) ∷ Values (7 ∷ []) ∷
      Entries ((codes "k", 7) ∷ []) ∷ Entries ((codes "k", 7) ∷ []) ∷ [],
)

-- One key is listed alone.
abbrev pub OneKeyIsListed : Type 0
OneKeyIsListed = IsReplied lists_of_one_key

abbrev pub refusals : WorkedRun
refusals = (
  Get 0 (codes "a") ∷ Intersect 0 0 ∷ IntersectViews 0 0 ∷ IntersectValues 0 0 ∷
      IntersectCount 0 0 ∷ GetMut 0 (codes "a") 1 ∷ Insert 0 (codes "a") 1 ∷
      Replace 0 (codes "a") 1 ∷ Remove 0 (codes "a") ∷ Delete 0 (codes "a") ∷
      Update 0 (codes "a") None (Put 1) ∷ TryUpdate 0 (codes "a") None None ∷
      NewAt 18446744073709551615 ∷ GetMut 0 (codes "a") 1 ∷ Insert 0 (codes "a") 1 ∷
      Replace 0 (codes "a") 1 ∷ Remove 0 (codes "a") ∷ Delete 0 (codes "a") ∷
      Update 0 (codes "a") None (Put 1) ∷ TryUpdate 0 (codes "a") None None ∷ Snapshot 0 ∷
      Intersect 0 1 ∷ IntersectCount 1 0 ∷ Discard 0 ∷ Get 0 (codes "a") ∷
      Remove 0 (codes "a") ∷ [],
  NoVersion ∷ NoVersion ∷ NoVersion ∷ NoVersion ∷ NoVersion ∷ NoVersion ∷ NoVersion ∷
      NoVersion ∷ NoVersion ∷ NoVersion ∷ NoVersion ∷ NoVersion ∷ Place 0 ∷ NoRoom ∷ NoRoom ∷
      NoRoom ∷ NoRoom ∷ NoRoom ∷ NoRoom ∷ NoRoom ∷ NoRoom ∷ NoVersion ∷ NoVersion ∷ Discarded ∷
      NoVersion ∷ NoVersion ∷ [],
)

-- Where a version is lacking that is replied first, and then where room is.
abbrev pub RefusalsComeInOrder : Type 0
RefusalsComeInOrder = IsReplied refusals

-- The worked runs are replied as was found by hand.
pub record RunsAreWorked : Type 0 where
  pub snapshot_keeps_its_value : SnapshotKeepsItsValue
  pub changes_stay_apart : ChangesStayApart
  pub clone_keeps_number : CloneKeepsNumber
  pub replacement_gives_old_value : ReplacementGivesOldValue
  pub absent_key_stays_absent : AbsentKeyStaysAbsent
  pub deletion_is_not_seen_in_snapshot : DeletionIsNotSeenInSnapshot
  pub failed_update_keeps_value : FailedUpdateKeepsValue
  pub discarded_place_is_not_used_again : DiscardedPlaceIsNotUsedAgain
  pub answer_outweighs_write : AnswerOutweighsWrite
  pub room_is_asked : RoomIsAsked
  pub room_two_is_asked : RoomTwoIsAsked
  pub insertion_by_update_takes_one : InsertionByUpdateTakesOne
  pub removal_outweighs_write : RemovalOutweighsWrite
  pub removals_raise_number : RemovalsRaiseNumber
  pub updates_of_an_absent_key : UpdatesOfAnAbsentKey
  pub lists_are_of_one_version : ListsAreOfOneVersion
  pub visits_are_counted_from_one : VisitsAreCountedFromOne
  pub flattening_leaves_its_version : FlatteningLeavesItsVersion
  pub intersection_has_keys_of_both : IntersectionHasKeysOfBoth
  pub deleted_key_is_in_no_intersection : DeletedKeyIsInNoIntersection
  pub empty_version_meets_nothing : EmptyVersionMeetsNothing
  pub prefix_is_no_key_of_both : PrefixIsNoKeyOfBoth
  pub intersection_needs_both_versions : IntersectionNeedsBothVersions
  pub longest_match_is_alone : LongestMatchIsAlone
  pub second_value_stays : SecondValueStays
  pub absent_key_is_not_deleted : AbsentKeyIsNotDeleted
  pub places_are_discarded_once : PlacesAreDiscardedOnce
  pub greatest_number_has_no_room : GreatestNumberHasNoRoom
  pub greatest_number_keeps_its_keys : GreatestNumberKeepsItsKeys
  pub settings_take_the_last_room : SettingsTakeTheLastRoom
  pub removals_take_the_last_room : RemovalsTakeTheLastRoom
  pub snapshot_takes_the_last_room : SnapshotTakesTheLastRoom
  pub vacant_slot_takes_no_write : VacantSlotTakesNoWrite
  pub prefix_is_among_its_keys : PrefixIsAmongItsKeys
  pub probe_is_among_its_matches : ProbeIsAmongItsMatches
  pub bounds_are_included_or_not : BoundsAreIncludedOrNot
  pub one_key_is_listed : OneKeyIsListed
  pub refusals_come_in_order : RefusalsComeInOrder
  pub vacant_slot_keeps_its_value : VacantSlotKeepsItsValue
