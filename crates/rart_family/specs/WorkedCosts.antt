-- What the worked runs cost: each sum found by hand, at the replies of the run.
use Rattle.std.specs.Prelude.{◌≡◌, ℕ, false, [], ◌∷◌, None, codes}
use Rattle.rart_family.specs.declared.family.command.Command.TheVariants.{New, Get, GetMut, Insert, Remove, Delete}
use Rattle.rart_family.specs.Replies.{Place, Flag, Value, NoVersion, NoMemory}
use Rattle.rart_family.specs.Families.{Family}
use Rattle.rart_family.specs.Runs.{Run}
use Rattle.rart_family.specs.Costs.{read_cost, read_least, change_cost, change_least, enter_least}
use Rattle.rart_family.specs.WorkedRuns.{WorkedRun, snapshot_of_a_value, changes_apart, clone_and_snapshot, replacements, removal_of_an_absent_key, deletion_beside_a_snapshot, failed_update, discarded_place, written_and_inserted, room_for_one, room_for_two, insertion_by_update, written_and_removed, numbers_of_removals, updates_of_an_absent_key, lists_of_two_versions, visits_of_a_version, flattened_version, keys_of_both, key_of_both_after_deletion, empty_beside_a_key, keys_that_begin_others, intersections_of_lost_places, longest_matches, key_put_in_twice, deletion_of_an_absent_key, place_discarded_twice, changes_at_the_greatest_number, changes_of_a_key_at_the_greatest_number, settings_below_the_greatest_number, removals_below_the_greatest_number, snapshot_below_the_greatest_number, writes_to_a_vacant_slot, values_under_a_key, matches_of_a_key, bounds_at_keys, lists_of_one_key, refusals}

-- The sums of a run: how many nodes it enters to read, makes to change and enters to change.
pub record Sums : Type 0 where
  pub least_read : ℕ
  pub most_read : ℕ
  pub least_made : ℕ
  pub most_made : ℕ
  pub least_touched : ℕ

abbrev pub sums : WorkedRun → Sums
sums run = record {
  least_read = read_least (λ key. key) [] run.0 run.1;
  most_read = read_cost (λ key. key) [] run.0 run.1;
  least_made = change_least (λ key. key) [] run.0 run.1;
  most_made = change_cost (λ key. key) [] run.0 run.1;
  least_touched = enter_least (λ key. key) [] run.0 run.1;
}

-- A run enters some nodes to read, at least and at most, makes some to change, at least and
-- at most, and enters at least some to change.
abbrev pub Costs : WorkedRun → ℕ → ℕ → ℕ → ℕ → ℕ → Type 0
Costs run least_read most_read least_made most_made least_touched =
    sums run
    ≡ record {
      least_read = least_read;
      most_read = most_read;
      least_made = least_made;
      most_made = most_made;
      least_touched = least_touched;
    }

-- One lookup and one insertion of a key of 4 bytes, the insertion into a version without a key.
abbrev pub SnapshotCosts : Type 0
SnapshotCosts = Costs snapshot_of_a_value 1 5 1 6 0

-- Six lookups and three insertions, the first into a version without a key.
abbrev pub ChangesApartCost : Type 0
ChangesApartCost = Costs changes_apart 6 30 3 18 2

-- Beside an insertion snapshots and clones cost nothing.
abbrev pub CloneCosts : Type 0
CloneCosts = Costs clone_and_snapshot 0 0 1 3 0

-- Replacements cost as insertions.
abbrev pub ReplacementsCost : Type 0
ReplacementsCost = Costs replacements 1 5 3 18 2

-- A removal enters a node, though its key is absent, and need not make one.
abbrev pub AbsentRemovalCosts : Type 0
AbsentRemovalCosts = Costs removal_of_an_absent_key 1 2 1 7 1

-- A deletion, of a key of one byte, and lookups of keys of one byte and two.
abbrev pub DeletionCosts : Type 0
DeletionCosts = Costs deletion_beside_a_snapshot 3 7 2 10 2

-- An update costs as much where its callback fails.
abbrev pub FailedUpdateCosts : Type 0
FailedUpdateCosts = Costs failed_update 2 8 1 10 1

-- Writing to a key that is there and to one that is absent, and a replacement.
abbrev pub DiscardedPlaceCosts : Type 0
DiscardedPlaceCosts = Costs discarded_place 0 0 2 12 3

-- Updates of keys that are there, and of one that is absent.
abbrev pub WrittenAndInsertedCosts : Type 0
WrittenAndInsertedCosts = Costs written_and_inserted 2 4 1 15 4

-- What lacks room costs nothing.
abbrev pub RoomForOneCosts : Type 0
RoomForOneCosts = Costs room_for_one 1 2 1 3 0

-- The same where room for two is asked.
abbrev pub RoomForTwoCosts : Type 0
RoomForTwoCosts = Costs room_for_two 1 2 1 6 1

-- An update that inserts may make nodes, and is not counted on to.
abbrev pub InsertionByUpdateCosts : Type 0
InsertionByUpdateCosts = Costs insertion_by_update 0 0 0 3 0

-- Updates that remove, and one that fails.
abbrev pub WrittenAndRemovedCosts : Type 0
WrittenAndRemovedCosts = Costs written_and_removed 0 0 2 15 4

-- Insertions into a version without a key enter no node, removals of a key that is there do.
abbrev pub NumbersOfRemovalsCost : Type 0
NumbersOfRemovalsCost = Costs numbers_of_removals 0 2 2 12 2

-- Updates of an absent key enter a node each, and need not make one.
abbrev pub UpdatesOfAnAbsentKeyCost : Type 0
UpdatesOfAnAbsentKeyCost = Costs updates_of_an_absent_key 1 2 1 21 6

-- Lists cost nothing beside the insertions of "b", "ab" and "a".
abbrev pub ListsCost : Type 0
ListsCost = Costs lists_of_two_versions 0 0 3 10 2

-- so do visits
abbrev pub VisitsCost : Type 0
VisitsCost = Costs visits_of_a_version 0 0 2 8 1

-- and the way to a plain tree
abbrev pub FlatteningCosts : Type 0
FlatteningCosts = Costs flattened_version 0 0 2 12 1

-- Four intersections. Four strings begin a key of both, "", a, ab and b, so each enters 8 at most;
-- and each enters 2 at least.
abbrev pub IntersectionsCost : Type 0
IntersectionsCost = Costs keys_of_both 8 32 6 20 4

-- Four strings again, "", a, ab and abc.
abbrev pub IntersectionAfterDeletionCosts : Type 0
IntersectionAfterDeletionCosts = Costs key_of_both_after_deletion 2 8 3 20 2

-- With a version without a key an intersection enters none. One lookup, and one of a lost place.
abbrev pub EmptyIntersectionsCost : Type 0
EmptyIntersectionsCost = Costs empty_beside_a_key 1 2 1 3 0

-- Seven strings in three intersections, the prefixes of abcdef; and the one of a version with
-- itself, where each of the ten strings that begin its keys begins one of both.
abbrev pub PrefixMatchesCost : Type 0
PrefixMatchesCost = Costs keys_that_begin_others 8 62 6 38 4

-- Two strings, "" and a, in two intersections. Where a version is lacking none is entered.
abbrev pub LostPlacesCost : Type 0
LostPlacesCost = Costs intersections_of_lost_places 4 8 2 6 1

-- A longest match costs nothing; four insertions, the first into a version without a key.
abbrev pub LongestMatchesCost : Type 0
LongestMatchesCost = Costs longest_matches 0 0 4 21 3

-- The second insertion of a key enters a node.
abbrev pub SecondValueCosts : Type 0
SecondValueCosts = Costs key_put_in_twice 1 2 2 6 1

-- A deletion enters a node, though its key is absent.
abbrev pub AbsentDeletionCosts : Type 0
AbsentDeletionCosts = Costs deletion_of_an_absent_key 1 2 1 7 1

-- To make and discard versions costs nothing.
abbrev pub DiscardingCosts : Type 0
DiscardingCosts = Costs place_discarded_twice 0 0 0 0 0

-- What lacks room costs nothing, whatever it asks for.
abbrev pub GreatestNumberCosts : Type 0
GreatestNumberCosts = Costs changes_at_the_greatest_number 0 0 0 0 0

-- so where the key is there, beside an insertion and a lookup
abbrev pub GreatestNumberWithAKeyCosts : Type 0
GreatestNumberWithAKeyCosts = Costs changes_of_a_key_at_the_greatest_number 1 2 1 3 0

-- Four changes, the first of a version without a key.
abbrev pub SettingsCost : Type 0
SettingsCost = Costs settings_below_the_greatest_number 0 0 3 12 3

-- so here, of which three need not make a node
abbrev pub RemovalsCost : Type 0
RemovalsCost = Costs removals_below_the_greatest_number 0 0 1 12 3

-- Snapshots cost nothing.
abbrev pub LastSnapshotCosts : Type 0
LastSnapshotCosts = Costs snapshot_below_the_greatest_number 0 0 0 0 0

-- Three updates, two of them of an absent key, and two lookups.
abbrev pub VacantSlotCosts : Type 0
VacantSlotCosts = Costs writes_to_a_vacant_slot 2 4 1 12 3

-- Visits cost nothing beside five insertions.
abbrev pub PrefixCosts : Type 0
PrefixCosts = Costs values_under_a_key 0 0 5 17 4

-- so do matches
abbrev pub MatchesCost : Type 0
MatchesCost = Costs matches_of_a_key 0 0 5 17 4

-- and ranges, beside three
abbrev pub BoundsCost : Type 0
BoundsCost = Costs bounds_at_keys 0 0 3 9 2

-- and lists, beside one.
abbrev pub OneKeyCosts : Type 0
OneKeyCosts = Costs lists_of_one_key 0 0 1 3 0

-- What lacks a version or room costs nothing, whatever it asks for.
abbrev pub RefusalsCost : Type 0
RefusalsCost = Costs refusals 0 0 0 0 0

-- What is refused for memory leaves the family; and then there is no version at place 1.
abbrev pub refused_memory : WorkedRun
refused_memory = (
  New ∷ Insert 0 (codes "a") 1 ∷ Get 0 (codes "a") ∷ Insert 0 (codes "ab") 2 ∷
      Get 0 (codes "ab") ∷ Remove 0 (codes "ab") ∷ Delete 0 (codes "ab") ∷
      GetMut 0 (codes "ab") 3 ∷ Get 1 (codes "a") ∷ Delete 1 (codes "a") ∷ [],
  Place 0 ∷ NoMemory ∷ Value None ∷ Flag false ∷ NoMemory ∷ NoMemory ∷ NoMemory ∷ NoMemory ∷
      NoVersion ∷ NoVersion ∷ [],
)

-- This too is a run.
abbrev pub RefusedMemoryIsARun : Type 0
RefusedMemoryIsARun = (new : Family ℕ) × Run (λ key. key) [] refused_memory.0 refused_memory.1 new

-- What is refused for memory counts in what a run costs at most, and not in what it costs at least,
-- but for removals, which enter a node before memory can be refused.
abbrev pub RefusedMemoryCosts : Type 0
RefusedMemoryCosts = Costs refused_memory 0 5 1 19 2

-- The worked runs cost what was found by hand, and out of memory may be replied in one.
pub record CostsAreWorked : Type 0 where
  pub snapshot_costs : SnapshotCosts
  pub changes_apart_cost : ChangesApartCost
  pub clone_costs : CloneCosts
  pub replacements_cost : ReplacementsCost
  pub absent_removal_costs : AbsentRemovalCosts
  pub deletion_costs : DeletionCosts
  pub failed_update_costs : FailedUpdateCosts
  pub discarded_place_costs : DiscardedPlaceCosts
  pub written_and_inserted_costs : WrittenAndInsertedCosts
  pub room_for_one_costs : RoomForOneCosts
  pub room_for_two_costs : RoomForTwoCosts
  pub insertion_by_update_costs : InsertionByUpdateCosts
  pub written_and_removed_costs : WrittenAndRemovedCosts
  pub numbers_of_removals_cost : NumbersOfRemovalsCost
  pub updates_of_an_absent_key_cost : UpdatesOfAnAbsentKeyCost
  pub lists_cost : ListsCost
  pub visits_cost : VisitsCost
  pub flattening_costs : FlatteningCosts
  pub intersections_cost : IntersectionsCost
  pub intersection_after_deletion_costs : IntersectionAfterDeletionCosts
  pub empty_intersections_cost : EmptyIntersectionsCost
  pub prefix_matches_cost : PrefixMatchesCost
  pub lost_places_cost : LostPlacesCost
  pub longest_matches_cost : LongestMatchesCost
  pub second_value_costs : SecondValueCosts
  pub absent_deletion_costs : AbsentDeletionCosts
  pub discarding_costs : DiscardingCosts
  pub greatest_number_costs : GreatestNumberCosts
  pub greatest_number_with_a_key_costs : GreatestNumberWithAKeyCosts
  pub settings_cost : SettingsCost
  pub removals_cost : RemovalsCost
  pub last_snapshot_costs : LastSnapshotCosts
  pub vacant_slot_costs : VacantSlotCosts
  pub prefix_costs : PrefixCosts
  pub matches_cost : MatchesCost
  pub bounds_cost : BoundsCost
  pub one_key_costs : OneKeyCosts
  pub refusals_cost : RefusalsCost
  pub refused_memory_costs : RefusedMemoryCosts
  pub refused_memory_is_a_run : RefusedMemoryIsARun
