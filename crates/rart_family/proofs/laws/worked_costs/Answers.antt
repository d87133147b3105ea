use Rattle.rart_family.proofs.WorkedCostLemmas.{snapshot_costs, changes_apart_cost, clone_costs, replacements_cost, absent_removal_costs, deletion_costs, failed_update_costs, discarded_place_costs, written_and_inserted_costs, room_for_one_costs, room_for_two_costs, insertion_by_update_costs, written_and_removed_costs, refused_memory_costs, refused_memory_is_a_run, numbers_of_removals_cost, updates_of_an_absent_key_cost, lists_cost, visits_cost, flattening_costs, intersections_cost, intersection_after_deletion_costs, empty_intersections_cost, prefix_matches_cost, lost_places_cost, longest_matches_cost, second_value_costs, absent_deletion_costs, discarding_costs, greatest_number_costs, greatest_number_with_a_key_costs, settings_cost, removals_cost, last_snapshot_costs, vacant_slot_costs, prefix_costs, matches_cost, bounds_cost, one_key_costs, refusals_cost}
use Rattle.rart_family.proofs.laws.worked_costs.Goals as goal

pub returns : goal.returns
returns c = record {
  snapshot_costs = snapshot_costs;
  changes_apart_cost = changes_apart_cost;
  clone_costs = clone_costs;
  replacements_cost = replacements_cost;
  absent_removal_costs = absent_removal_costs;
  deletion_costs = deletion_costs;
  failed_update_costs = failed_update_costs;
  discarded_place_costs = discarded_place_costs;
  written_and_inserted_costs = written_and_inserted_costs;
  room_for_one_costs = room_for_one_costs;
  room_for_two_costs = room_for_two_costs;
  insertion_by_update_costs = insertion_by_update_costs;
  written_and_removed_costs = written_and_removed_costs;
  numbers_of_removals_cost = numbers_of_removals_cost;
  updates_of_an_absent_key_cost = updates_of_an_absent_key_cost;
  lists_cost = lists_cost;
  visits_cost = visits_cost;
  flattening_costs = flattening_costs;
  intersections_cost = intersections_cost;
  intersection_after_deletion_costs = intersection_after_deletion_costs;
  empty_intersections_cost = empty_intersections_cost;
  prefix_matches_cost = prefix_matches_cost;
  lost_places_cost = lost_places_cost;
  longest_matches_cost = longest_matches_cost;
  second_value_costs = second_value_costs;
  absent_deletion_costs = absent_deletion_costs;
  discarding_costs = discarding_costs;
  greatest_number_costs = greatest_number_costs;
  greatest_number_with_a_key_costs = greatest_number_with_a_key_costs;
  settings_cost = settings_cost;
  removals_cost = removals_cost;
  last_snapshot_costs = last_snapshot_costs;
  vacant_slot_costs = vacant_slot_costs;
  prefix_costs = prefix_costs;
  matches_cost = matches_cost;
  bounds_cost = bounds_cost;
  one_key_costs = one_key_costs;
  refusals_cost = refusals_cost;
  refused_memory_costs = refused_memory_costs;
  refused_memory_is_a_run = refused_memory_is_a_run;
}
