-- How the prefix of a string stands to another one.
use Rattle.std.specs.Prelude.{◌≡◌, ◌++◌, ℕ, Bool, List}
use Rattle.std.specs.declared.cmp.Ordering.TheVariants.{Less, Greater}
use Rattle.std.specs.Ordering.{is_le, is_lt}
use Rattle.rart_below.specs.Bytes.{byte_order}
use Rattle.rart_ways.specs.declared.seeking.Edge.{Edge}
use Rattle.rart_ways.specs.declared.seeking.Edge.TheVariants.{Included, Excluded}
use Rattle.rart_ways.specs.declared.seeking.within.Beside.{Beside}
use Rattle.rart_ways.specs.declared.seeking.within.Beside.TheVariants.{Along, Before, Behind}

-- whether a key is up to a string, or, where that is excluded, before it
abbrev pub is_to : Edge → List ℕ → List ℕ → Bool
is_to Included high key = is_le (byte_order key high)
is_to Excluded high key = is_lt (byte_order key high)

-- The front begins the string, and this is the rest of that; or whatever goes on with it stands
-- before the string, or behind it.
abbrev pub StandsSo : List ℕ → List ℕ → Beside → Type 0
StandsSo string front (Along rest) = string ≡ front ++ rest.now
StandsSo string front Before = (more : List ℕ) → byte_order (front ++ more) string ≡ Less
StandsSo string front Behind = (more : List ℕ) → byte_order (front ++ more) string ≡ Greater
