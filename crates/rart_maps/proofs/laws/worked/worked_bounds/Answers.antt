use Rattle.rart_maps.proofs.laws.worked.worked_bounds.Goals as goal
use Rattle.rart_maps.proofs.WorkedBoundLemmas.{lookup_of_no_byte, change_of_no_byte, touch_of_no_byte, lookup_of_three_bytes, change_of_three_bytes, touch_of_three_bytes, meet_of_two, meet_below_one, meet_with_itself, meet_of_empty, reach_of_two, reach_of_all, reach_of_none, meet_of_distinct, meet_inside_keys, reach_of_five, reach_of_one, reach_past_keys}

pub returns-clause-lookup_of_three_bytes : goal.returns-clause-lookup_of_three_bytes
returns-clause-lookup_of_three_bytes g c = lookup_of_three_bytes

pub returns-clause-change_of_three_bytes : goal.returns-clause-change_of_three_bytes
returns-clause-change_of_three_bytes g c = change_of_three_bytes

pub returns-clause-touch_of_three_bytes : goal.returns-clause-touch_of_three_bytes
returns-clause-touch_of_three_bytes g c = touch_of_three_bytes

pub returns-clause-meet_of_two : goal.returns-clause-meet_of_two
returns-clause-meet_of_two g c = meet_of_two

pub returns-clause-meet_below_one : goal.returns-clause-meet_below_one
returns-clause-meet_below_one g c = meet_below_one

pub returns-clause-meet_with_itself : goal.returns-clause-meet_with_itself
returns-clause-meet_with_itself g c = meet_with_itself

pub returns-clause-meet_of_empty : goal.returns-clause-meet_of_empty
returns-clause-meet_of_empty g c = meet_of_empty _

pub returns-clause-reach_of_two : goal.returns-clause-reach_of_two
returns-clause-reach_of_two g c = reach_of_two

pub returns-clause-lookup_of_no_byte : goal.returns-clause-lookup_of_no_byte
returns-clause-lookup_of_no_byte g c = lookup_of_no_byte

pub returns-clause-change_of_no_byte : goal.returns-clause-change_of_no_byte
returns-clause-change_of_no_byte g c = change_of_no_byte

pub returns-clause-touch_of_no_byte : goal.returns-clause-touch_of_no_byte
returns-clause-touch_of_no_byte g c = touch_of_no_byte

pub returns-clause-reach_of_all : goal.returns-clause-reach_of_all
returns-clause-reach_of_all g c = reach_of_all

pub returns-clause-reach_of_none : goal.returns-clause-reach_of_none
returns-clause-reach_of_none g c = reach_of_none

pub returns-clause-meet_of_distinct : goal.returns-clause-meet_of_distinct
returns-clause-meet_of_distinct g c = meet_of_distinct

pub returns-clause-meet_inside_keys : goal.returns-clause-meet_inside_keys
returns-clause-meet_inside_keys g c = meet_inside_keys

pub returns-clause-reach_of_five : goal.returns-clause-reach_of_five
returns-clause-reach_of_five g c = reach_of_five

pub returns-clause-reach_of_one : goal.returns-clause-reach_of_one
returns-clause-reach_of_one g c = reach_of_one

pub returns-clause-reach_past_keys : goal.returns-clause-reach_past_keys
returns-clause-reach_past_keys g c = reach_past_keys
