-- The costs of the worked runs, by computation.
use Rattle.std.proofs.Common.{◌≡◌, refl, inl, inr}
use Rattle.std.specs.Prelude.{ℕ, Some, [], ◌∷◌, codes}
use Rattle.std.specs.FinMap.{gets}
use Rattle.std.specs.FinMap as finite
use Rattle.std.specs.FinSet as set
use Rattle.rart_maps.specs.Versions.{Map, empty_at, with_key}
use Rattle.rart_maps.specs.Pairs.{shared}
use Rattle.rart_maps.proofs.PairLawLemmas.{shared_is_empty}
use Rattle.rart_family.proofs.WorkedRunLemmas.{abc_alone, abc-left}
use Rattle.rart_maps.proofs.MapLemmas.{maps, sets}
use Rattle.rart_family.specs.Families.{Family}
use Rattle.rart_family.specs.WorkedCosts.{RefusedMemoryIsARun, SnapshotCosts, ChangesApartCost, CloneCosts, ReplacementsCost, AbsentRemovalCosts, DeletionCosts, FailedUpdateCosts, DiscardedPlaceCosts, WrittenAndInsertedCosts, RoomForOneCosts, RoomForTwoCosts, InsertionByUpdateCosts, WrittenAndRemovedCosts, RefusedMemoryCosts, NumbersOfRemovalsCost, UpdatesOfAnAbsentKeyCost, ListsCost, VisitsCost, FlatteningCosts, IntersectionsCost, IntersectionAfterDeletionCosts, EmptyIntersectionsCost, PrefixMatchesCost, LostPlacesCost, LongestMatchesCost, SecondValueCosts, AbsentDeletionCosts, DiscardingCosts, GreatestNumberCosts, GreatestNumberWithAKeyCosts, SettingsCost, RemovalsCost, LastSnapshotCosts, VacantSlotCosts, PrefixCosts, MatchesCost, BoundsCost, OneKeyCosts, RefusalsCost}

pub snapshot_costs : SnapshotCosts
snapshot_costs = simp gets refl

pub changes_apart_cost : ChangesApartCost
changes_apart_cost = simp gets refl

pub clone_costs : CloneCosts
clone_costs = simp gets refl

pub replacements_cost : ReplacementsCost
replacements_cost = simp gets refl

pub absent_removal_costs : AbsentRemovalCosts
absent_removal_costs = simp gets refl

pub deletion_costs : DeletionCosts
deletion_costs = simp gets refl

pub failed_update_costs : FailedUpdateCosts
failed_update_costs = simp gets refl

pub discarded_place_costs : DiscardedPlaceCosts
discarded_place_costs = simp gets refl

pub written_and_inserted_costs : WrittenAndInsertedCosts
written_and_inserted_costs = simp gets refl

pub room_for_one_costs : RoomForOneCosts
room_for_one_costs = simp gets refl

pub room_for_two_costs : RoomForTwoCosts
room_for_two_costs = simp gets refl

pub insertion_by_update_costs : InsertionByUpdateCosts
insertion_by_update_costs = simp gets refl

pub written_and_removed_costs : WrittenAndRemovedCosts
written_and_removed_costs = simp gets refl

pub refused_memory_costs : RefusedMemoryCosts
refused_memory_costs = simp gets refl

pub refused_memory_is_a_run : RefusedMemoryIsARun
refused_memory_is_a_run =
    let no_key : Family ℕ = Some (empty_at 0) ∷ [] in
    let with_ab : Family ℕ = Some (with_key (empty_at 0) (codes "ab") 2 1) ∷ [] in (
      with_ab,
      (
        no_key,
        inl (refl, refl),
        (
          no_key,
          inr (refl, refl, refl),
          (
            no_key,
            inl (simp gets refl, refl),
            (
              with_ab,
              inl (simp gets refl, refl),
              (
                with_ab,
                inr (refl, refl, simp gets refl),
                (
                  with_ab,
                  inr (refl, refl, simp gets refl),
                  (
                    with_ab,
                    inr (refl, refl, simp gets refl),
                    (
                      with_ab,
                      inr (refl, refl, refl),
                      (with_ab, inl (refl, refl), (with_ab, inl (refl, refl), refl)),
                    ),
                  ),
                ),
              ),
            ),
          ),
        ),
      ),
    )

pub numbers_of_removals_cost : NumbersOfRemovalsCost
numbers_of_removals_cost = simp gets refl

pub updates_of_an_absent_key_cost : UpdatesOfAnAbsentKeyCost
updates_of_an_absent_key_cost = simp gets refl

pub lists_cost : ListsCost
lists_cost = simp gets refl

pub visits_cost : VisitsCost
visits_cost = simp gets refl

pub flattening_costs : FlatteningCosts
flattening_costs = simp gets refl

-- The strings that begin keys of both maps of an intersection, counted.
module _ where
  abbrev few : Map ℕ
  few = finite.insert (finite.insert (finite.insert finite.empty (codes "a") 1) (codes "ab") 2)
      (codes "b") 3

  abbrev tens : Map ℕ
  tens = finite.insert (finite.insert (finite.insert finite.empty (codes "ab") 20) (codes "b") 30)
      (codes "c") 40

  few-meets_tens : set.len (shared few tens) ≡ 4
  few-meets_tens = simp (maps, sets) refl

  tens-meets_few : set.len (shared tens few) ≡ 4
  tens-meets_few = simp (maps, sets) refl

pub intersections_cost : IntersectionsCost
intersections_cost = simp (gets, few-meets_tens, tens-meets_few) refl

module _ where
  abbrev other_abc : Map ℕ
  other_abc = finite.insert finite.empty (codes "abc") 10

  abc-meets_abc : set.len (shared abc_alone other_abc) ≡ 4
  abc-meets_abc = simp (maps, sets) refl

pub intersection_after_deletion_costs : IntersectionAfterDeletionCosts
intersection_after_deletion_costs = simp (gets, abc-left, abc-meets_abc) refl

empty-meets : (m : Map ℕ) → set.len (shared finite.empty m) ≡ 0
empty-meets m = (shared_is_empty ℕ finite.empty m).1 (inl refl)

pub empty_intersections_cost : EmptyIntersectionsCost
empty_intersections_cost = simp (gets, empty-meets) refl

module _ where
  abbrev long : Map ℕ
  long = finite.insert (finite.insert finite.empty (codes "abcdef") 1) (codes "abcxyz") 2

  abbrev short : Map ℕ
  short = finite.insert (finite.insert
      (finite.insert (finite.insert finite.empty (codes "ab") 10) (codes "abc") 20)
      (codes "abcdef") 30) (codes "abd") 40

  long-meets_short : set.len (shared long short) ≡ 7
  long-meets_short = simp (maps, sets) refl

  short-meets_long : set.len (shared short long) ≡ 7
  short-meets_long = simp (maps, sets) refl

  long-meets_long : set.len (shared long long) ≡ 10
  long-meets_long = simp (maps, sets) refl

pub prefix_matches_cost : PrefixMatchesCost
prefix_matches_cost = simp (gets, long-meets_short, short-meets_long, long-meets_long) refl

module _ where
  abbrev one : Map ℕ
  one = finite.insert finite.empty (codes "a") 1

  abbrev five : Map ℕ
  five = finite.insert one (codes "a") 5

  one-meets_five : set.len (shared one five) ≡ 2
  one-meets_five = simp (maps, sets) refl

  five-meets_five : set.len (shared five five) ≡ 2
  five-meets_five = simp (maps, sets) refl

pub lost_places_cost : LostPlacesCost
lost_places_cost = simp (gets, one-meets_five, five-meets_five) refl

pub longest_matches_cost : LongestMatchesCost
longest_matches_cost = simp gets refl

pub second_value_costs : SecondValueCosts
second_value_costs = simp gets refl

pub absent_deletion_costs : AbsentDeletionCosts
absent_deletion_costs = simp gets refl

pub discarding_costs : DiscardingCosts
discarding_costs = refl

pub greatest_number_costs : GreatestNumberCosts
greatest_number_costs = refl

pub greatest_number_with_a_key_costs : GreatestNumberWithAKeyCosts
greatest_number_with_a_key_costs = simp gets refl

pub settings_cost : SettingsCost
settings_cost = simp gets refl

pub removals_cost : RemovalsCost
removals_cost = simp gets refl

pub last_snapshot_costs : LastSnapshotCosts
last_snapshot_costs = refl

pub vacant_slot_costs : VacantSlotCosts
vacant_slot_costs = simp gets refl

pub prefix_costs : PrefixCosts
prefix_costs = simp gets refl

pub matches_cost : MatchesCost
matches_cost = simp gets refl

pub bounds_cost : BoundsCost
bounds_cost = simp gets refl

pub one_key_costs : OneKeyCosts
one_key_costs = simp gets refl

pub refusals_cost : RefusalsCost
refusals_cost = refl
