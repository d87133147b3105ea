use Rattle.rart_saved.proofs.WorkedFormLemmas.{number_of_one_byte, number_of_two_bytes, greatest_number, number_as_value, empty_version, greatest_version, empty_key, keys_in_keys, sum_behind}
use Rattle.rart_saved.proofs.laws.worked_forms.Goals as goal

pub returns : goal.returns
returns c = record {
  one_byte = number_of_one_byte;
  two_bytes = number_of_two_bytes;
  greatest_number = greatest_number;
  as_value = number_as_value;
  empty_version = empty_version;
  greatest_version = greatest_version;
  empty_key = empty_key;
  keys_in_keys = keys_in_keys;
  sum_behind = sum_behind;
}
