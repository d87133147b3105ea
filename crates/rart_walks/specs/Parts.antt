-- Which part of a tree a way down leads to, by a string.
use Rattle.std.specs.Prelude.{ℕ, Bool, true, false, List}
use Rattle.std.specs.Ordering.{is_le, is_lt}
use Rattle.rart_below.specs.Bytes.{byte_order, begins}
use Rattle.rart_walks.specs.declared.walk.path.Part.{Part}
use Rattle.rart_walks.specs.declared.walk.path.Part.TheVariants.{Under, From, Behind}

-- whether a key is in the part
abbrev pub keeps : Part → List ℕ → List ℕ → Bool
keeps Under u key = begins u key
keeps From u key = is_le (byte_order u key)
keeps Behind u key = is_lt (byte_order u key)

-- whether a node may be left to enter, by its path: the one at the end of the way is entered
abbrev pub reaches : Part → List ℕ → List ℕ → Bool
reaches Under u path = begins u path
reaches From u path = is_lt (byte_order u path)
reaches Behind u path = is_lt (byte_order u path)

-- whether the part goes on behind the keys that begin as the string does
abbrev pub goes_on : Part → Bool
goes_on Under = false
goes_on From = true
goes_on Behind = true

-- whether the string itself is not in the part
abbrev pub is_strict : Part → Bool
is_strict Under = false
is_strict From = false
is_strict Behind = true
