-- The worked runs, by computation.
use Rattle.std.proofs.Common.{◌≡◌, ℕ, true, false, cond, refl, sym, ap, ◌∙◌}
use Rattle.std.specs.Prelude.{Some, None, codes}
use Rattle.std.specs.FinMap as finite
use Rattle.std.specs.FinMap.{gets}
use Rattle.rart_family.specs.WorkedRuns.{SnapshotKeepsItsValue, ChangesStayApart, CloneKeepsNumber, ReplacementGivesOldValue, AbsentKeyStaysAbsent, DeletionIsNotSeenInSnapshot, FailedUpdateKeepsValue, DiscardedPlaceIsNotUsedAgain, AnswerOutweighsWrite, RoomIsAsked, RoomTwoIsAsked, InsertionByUpdateTakesOne, RemovalOutweighsWrite, RemovalsRaiseNumber, UpdatesOfAnAbsentKey, ListsAreOfOneVersion, VisitsAreCountedFromOne, FlatteningLeavesItsVersion, IntersectionHasKeysOfBoth, DeletedKeyIsInNoIntersection, EmptyVersionMeetsNothing, PrefixIsNoKeyOfBoth, IntersectionNeedsBothVersions, LongestMatchIsAlone, SecondValueStays, AbsentKeyIsNotDeleted, PlacesAreDiscardedOnce, GreatestNumberHasNoRoom, GreatestNumberKeepsItsKeys, SettingsTakeTheLastRoom, RemovalsTakeTheLastRoom, SnapshotTakesTheLastRoom, VacantSlotTakesNoWrite, PrefixIsAmongItsKeys, ProbeIsAmongItsMatches, BoundsAreIncludedOrNot, OneKeyIsListed, RefusalsComeInOrder, VacantSlotKeepsItsValue}
use Rattle.std.specs.Cmp.{IsTotalOrder, Equal-is}
use Rattle.std.specs.Cmp.Lexicographic.{nat_list_cmp_total}
use Rattle.std.specs.Ordering.{eq_by_cmp}
use Rattle.std.specs.declared.cmp.Ordering.{Ordering}
use Rattle.rart_maps.specs.Versions.{Map}
use Rattle.rart_maps.proofs.MapLemmas.{maps}

module _ {K X : Type 0} {R : K → K → Ordering} (total : IsTotalOrder R)
    (same : finite.IsAntisymmetric R) where
  -- To take out a key that was not there before it was put in leaves what was there.
  remove-insert : (m : finite.FinMap R X) (key : K) (value : X) → finite.get m key ≡ None
      → finite.remove (finite.insert m key value) key ≡ m
  remove-insert m key value absent =
      finite.same_map total same _ m (λ q.
      finite.get-remove total (finite.insert m key value) key q
      ∙ ap (cond (eq_by_cmp R q key) None) (finite.get-insert total m key value q)
      ∙ elim (eq_by_cmp R q key) as (λ t. eq_by_cmp R q key ≡ t
      → cond t None (cond t (Some value) (finite.get m q)) ≡ finite.get m q) [
        | true ↦ λ tied. sym (ap (finite.get m) (same q key ((Equal-is (R q key)).0 tied)) ∙ absent)
        | false ↦ λ _. refl
      ] refl)

abbrev pub abc_alone : Map ℕ
abc_alone = finite.insert finite.empty (codes "abc") 1

-- what is left of the two keys abc and abd where abd is deleted
pub abc-left : finite.remove (finite.insert abc_alone (codes "abd") 2) (codes "abd") ≡ abc_alone
abc-left =
    remove-insert nat_list_cmp_total
    (finite.slice_cmp-IsAntisymmetric finite.nat_cmp-IsAntisymmetric) abc_alone (codes "abd") 2
    (simp gets refl)

pub snapshot_keeps_its_value : SnapshotKeepsItsValue
snapshot_keeps_its_value = simp gets refl

pub changes_stay_apart : ChangesStayApart
changes_stay_apart = simp gets refl

pub clone_keeps_number : CloneKeepsNumber
clone_keeps_number = simp gets refl

pub replacement_gives_old_value : ReplacementGivesOldValue
replacement_gives_old_value = simp gets refl

pub absent_key_stays_absent : AbsentKeyStaysAbsent
absent_key_stays_absent = simp gets refl

pub deletion_is_not_seen_in_snapshot : DeletionIsNotSeenInSnapshot
deletion_is_not_seen_in_snapshot = simp gets refl

pub failed_update_keeps_value : FailedUpdateKeepsValue
failed_update_keeps_value = simp gets refl

pub discarded_place_is_not_used_again : DiscardedPlaceIsNotUsedAgain
discarded_place_is_not_used_again = simp gets refl

pub answer_outweighs_write : AnswerOutweighsWrite
answer_outweighs_write = simp gets refl

pub room_is_asked : RoomIsAsked
room_is_asked = simp gets refl

pub room_two_is_asked : RoomTwoIsAsked
room_two_is_asked = simp gets refl

pub insertion_by_update_takes_one : InsertionByUpdateTakesOne
insertion_by_update_takes_one = simp gets refl

pub removal_outweighs_write : RemovalOutweighsWrite
removal_outweighs_write = simp gets refl

pub removals_raise_number : RemovalsRaiseNumber
removals_raise_number = simp gets refl

pub updates_of_an_absent_key : UpdatesOfAnAbsentKey
updates_of_an_absent_key = simp gets refl

pub lists_are_of_one_version : ListsAreOfOneVersion
lists_are_of_one_version = simp maps refl

pub visits_are_counted_from_one : VisitsAreCountedFromOne
visits_are_counted_from_one = simp maps refl

pub flattening_leaves_its_version : FlatteningLeavesItsVersion
flattening_leaves_its_version = simp maps refl

pub intersection_has_keys_of_both : IntersectionHasKeysOfBoth
intersection_has_keys_of_both = simp maps refl

pub deleted_key_is_in_no_intersection : DeletedKeyIsInNoIntersection
deleted_key_is_in_no_intersection = simp (maps, abc-left) refl

pub empty_version_meets_nothing : EmptyVersionMeetsNothing
empty_version_meets_nothing = simp maps refl

pub prefix_is_no_key_of_both : PrefixIsNoKeyOfBoth
prefix_is_no_key_of_both = simp maps refl

pub intersection_needs_both_versions : IntersectionNeedsBothVersions
intersection_needs_both_versions = simp maps refl

pub longest_match_is_alone : LongestMatchIsAlone
longest_match_is_alone = simp maps refl

pub second_value_stays : SecondValueStays
second_value_stays = simp gets refl

pub absent_key_is_not_deleted : AbsentKeyIsNotDeleted
absent_key_is_not_deleted = simp gets refl

pub places_are_discarded_once : PlacesAreDiscardedOnce
places_are_discarded_once = simp gets refl

pub greatest_number_has_no_room : GreatestNumberHasNoRoom
greatest_number_has_no_room = refl

pub greatest_number_keeps_its_keys : GreatestNumberKeepsItsKeys
greatest_number_keeps_its_keys = simp gets refl

pub settings_take_the_last_room : SettingsTakeTheLastRoom
settings_take_the_last_room = simp gets refl

pub removals_take_the_last_room : RemovalsTakeTheLastRoom
removals_take_the_last_room = simp gets refl

pub snapshot_takes_the_last_room : SnapshotTakesTheLastRoom
snapshot_takes_the_last_room = refl

pub vacant_slot_takes_no_write : VacantSlotTakesNoWrite
vacant_slot_takes_no_write = simp gets refl

pub prefix_is_among_its_keys : PrefixIsAmongItsKeys
prefix_is_among_its_keys = simp maps refl

pub probe_is_among_its_matches : ProbeIsAmongItsMatches
probe_is_among_its_matches = simp maps refl

pub bounds_are_included_or_not : BoundsAreIncludedOrNot
bounds_are_included_or_not = simp maps refl

pub one_key_is_listed : OneKeyIsListed
one_key_is_listed = simp maps refl

pub refusals_come_in_order : RefusalsComeInOrder
refusals_come_in_order = refl

pub vacant_slot_keeps_its_value : VacantSlotKeepsItsValue
vacant_slot_keeps_its_value =
    (simp gets refl, simp gets refl, simp gets refl, simp gets refl)
