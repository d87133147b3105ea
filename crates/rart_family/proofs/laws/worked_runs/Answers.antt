use Rattle.rart_family.proofs.WorkedRunLemmas.{snapshot_keeps_its_value, changes_stay_apart, clone_keeps_number, replacement_gives_old_value, absent_key_stays_absent, deletion_is_not_seen_in_snapshot, failed_update_keeps_value, discarded_place_is_not_used_again, answer_outweighs_write, room_is_asked, room_two_is_asked, insertion_by_update_takes_one, removal_outweighs_write, removals_raise_number, updates_of_an_absent_key, lists_are_of_one_version, visits_are_counted_from_one, flattening_leaves_its_version, intersection_has_keys_of_both, deleted_key_is_in_no_intersection, empty_version_meets_nothing, prefix_is_no_key_of_both, intersection_needs_both_versions, longest_match_is_alone, second_value_stays, absent_key_is_not_deleted, places_are_discarded_once, greatest_number_has_no_room, greatest_number_keeps_its_keys, settings_take_the_last_room, removals_take_the_last_room, snapshot_takes_the_last_room, vacant_slot_takes_no_write, prefix_is_among_its_keys, probe_is_among_its_matches, bounds_are_included_or_not, one_key_is_listed, refusals_come_in_order, vacant_slot_keeps_its_value}
use Rattle.rart_family.proofs.laws.worked_runs.Goals as goal

pub returns : goal.returns
returns c = record {
  snapshot_keeps_its_value = snapshot_keeps_its_value;
  changes_stay_apart = changes_stay_apart;
  clone_keeps_number = clone_keeps_number;
  replacement_gives_old_value = replacement_gives_old_value;
  absent_key_stays_absent = absent_key_stays_absent;
  deletion_is_not_seen_in_snapshot = deletion_is_not_seen_in_snapshot;
  failed_update_keeps_value = failed_update_keeps_value;
  discarded_place_is_not_used_again = discarded_place_is_not_used_again;
  answer_outweighs_write = answer_outweighs_write;
  room_is_asked = room_is_asked;
  room_two_is_asked = room_two_is_asked;
  insertion_by_update_takes_one = insertion_by_update_takes_one;
  removal_outweighs_write = removal_outweighs_write;
  removals_raise_number = removals_raise_number;
  updates_of_an_absent_key = updates_of_an_absent_key;
  lists_are_of_one_version = lists_are_of_one_version;
  visits_are_counted_from_one = visits_are_counted_from_one;
  flattening_leaves_its_version = flattening_leaves_its_version;
  intersection_has_keys_of_both = intersection_has_keys_of_both;
  deleted_key_is_in_no_intersection = deleted_key_is_in_no_intersection;
  empty_version_meets_nothing = empty_version_meets_nothing;
  prefix_is_no_key_of_both = prefix_is_no_key_of_both;
  intersection_needs_both_versions = intersection_needs_both_versions;
  longest_match_is_alone = longest_match_is_alone;
  second_value_stays = second_value_stays;
  absent_key_is_not_deleted = absent_key_is_not_deleted;
  places_are_discarded_once = places_are_discarded_once;
  greatest_number_has_no_room = greatest_number_has_no_room;
  greatest_number_keeps_its_keys = greatest_number_keeps_its_keys;
  settings_take_the_last_room = settings_take_the_last_room;
  removals_take_the_last_room = removals_take_the_last_room;
  snapshot_takes_the_last_room = snapshot_takes_the_last_room;
  vacant_slot_takes_no_write = vacant_slot_takes_no_write;
  prefix_is_among_its_keys = prefix_is_among_its_keys;
  probe_is_among_its_matches = probe_is_among_its_matches;
  bounds_are_included_or_not = bounds_are_included_or_not;
  one_key_is_listed = one_key_is_listed;
  refusals_come_in_order = refusals_come_in_order;
  vacant_slot_keeps_its_value = vacant_slot_keeps_its_value;
}
