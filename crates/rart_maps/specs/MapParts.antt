-- The two parts that another map cuts a map into, by its keys, whatever the values; and what two
-- maps are together.
use Rattle.std.specs.Prelude.{◌+◌, not}
use Rattle.std.specs.FinMap as finite
use Rattle.rart_maps.specs.ChangeLists.{joined}
use Rattle.rart_maps.specs.Versions.{Map, Version}

module _ {V W : Type 0} where
  -- the pairs whose key the other map has too
  abbrev pub common_part : Map V → Map W → Map V
  common_part m other = finite.retain_keys m (finite.contains_key other)

  -- the pairs whose key it lacks
  abbrev pub without : Map V → Map W → Map V
  without m other = finite.retain_keys m (λ key. not (finite.contains_key other key))

  -- a version without the keys of another, its number one greater
  abbrev pub version_without : Version V → Version W → Version V
  version_without v other =
      record { content = without v.content other.content; number = v.number + 1 }

  -- a version with the keys alone that another has too, its number one greater
  abbrev pub version_common : Version V → Version W → Version V
  version_common v other =
      record { content = common_part v.content other.content; number = v.number + 1 }

module _ {V : Type 0} where
  -- the pairs of either of two maps whose key the other lacks
  abbrev pub apart : Map V → Map V → Map V
  apart one other = joined (without one other) (without other one)

  -- a version with the pairs of both, its own where a key is in both, its number the sum of theirs
  abbrev pub version_joined : Version V → Version V → Version V
  version_joined v other =
      record { content = joined v.content other.content; number = v.number + other.number }

  -- a version with the pairs whose key one of them alone has, its number the sum of theirs
  abbrev pub version_apart : Version V → Version V → Version V
  version_apart v other =
      record { content = apart v.content other.content; number = v.number + other.number }
