-- The worked forms, by computation.
use Rattle.std.proofs.Common.{◌++◌, refl, ap}
use Rattle.std.specs.FinMap as finite
use Rattle.sha2.specs.Sha256.{sha256}
use Rattle.rart_maps.proofs.MapLemmas.{maps}
use Rattle.rart_saved.specs.ChangeFormLaws.{NoChange, OneOfEach}
use Rattle.rart_saved.specs.ChangeForms.{both_written, changes_body, changes_head, deed, if_there}
use Rattle.rart_saved.specs.Forms.{key_form, head, entry, entries, body, saved}
use Rattle.rart_saved.specs.Numbers.{groups, leb}
use Rattle.rart_saved.specs.Values.{bytes_of, eight_bytes, sized}
use Rattle.rart_saved.specs.WorkedForms.{NumberOfOneByte, NumberOfTwoBytes, GreatestNumber, NumberAsValue, EmptyVersion, GreatestVersion, EmptyKey, KeysInKeys, SumBehind}

pub number_of_one_byte : NumberOfOneByte
unfolding leb groups
number_of_one_byte = (refl, refl)

pub number_of_two_bytes : NumberOfTwoBytes
unfolding leb groups
number_of_two_bytes = (refl, refl)

pub greatest_number : GreatestNumber
unfolding leb groups
greatest_number = refl

pub number_as_value : NumberAsValue
unfolding eight_bytes bytes_of
number_as_value = refl

pub empty_version : EmptyVersion
unfolding body head entries leb groups
empty_version = simp (maps, finite.len-entries) refl

pub greatest_version : GreatestVersion
unfolding body head entries leb groups
greatest_version = simp (maps, finite.len-entries) refl

pub empty_key : EmptyKey
unfolding body head entries entry key_form leb groups eight_bytes bytes_of
empty_key = simp (maps, finite.len-entries) refl

pub keys_in_keys : KeysInKeys
unfolding body head entries entry key_form leb groups sized
keys_in_keys = simp (maps, finite.len-entries) refl

pub sum_behind : SumBehind
unfolding saved
sum_behind = ap (λ b. b ++ sha256 b) empty_version

pub no_change : NoChange
unfolding changes_body changes_head entries leb groups
no_change = refl

pub one_of_each : OneOfEach
unfolding changes_body changes_head both_written deed if_there entries entry key_form leb groups
    sized
one_of_each = refl
