-- A map cut at a prefix: what is under it alone, what is left without it, and another map's pairs
-- in its place. What the calls on a prefix make of a version.
use Rattle.std.specs.Prelude.{ℕ, ◌+◌, ◌==◌, Bool, not, List, if◌then◌else◌}
use Rattle.std.specs.FinMap as finite
use Rattle.rart_below.specs.Bytes.{begins}
use Rattle.rart_maps.specs.ChangeLists.{joined}
use Rattle.rart_maps.specs.Versions.{Map, Version}

module _ {V : Type 0} where
  -- the map with the pairs under p alone
  abbrev pub pairs_under : Map V → List ℕ → Map V
  pairs_under m p = finite.retain_keys m (begins p)

  -- the map without the pairs under p
  abbrev pub without_prefix : Map V → List ℕ → Map V
  without_prefix m p = finite.retain_keys m (λ key. not (begins p key))

  -- the map with the pairs that another one has under p, in place of its own there
  abbrev pub with_prefix_of : List ℕ → Map V → Map V → Map V
  with_prefix_of p other m = joined (pairs_under other p) (without_prefix m p)

  -- whether p begins a key
  abbrev pub has_under : Version V → List ℕ → Bool
  has_under v p = not (finite.len (pairs_under v.content p) == 0)

  -- the pairs under p alone, the number so much greater
  abbrev pub under_prefix : Version V → List ℕ → ℕ → Version V
  under_prefix v p more =
      record { content = pairs_under v.content p; number = v.number + more }

  -- without the pairs under p where there were some, and the number then one greater
  abbrev pub after_prefix_removal : Version V → List ℕ → Version V
  after_prefix_removal v p =
      if has_under v p
      then record { content = without_prefix v.content p; number = v.number + 1 } else v

  -- with the pairs that another version has under p, in place of its own there, and the number then
  -- the sum of both
  abbrev pub after_prefix_restoring : Version V → List ℕ → Version V → Version V
  after_prefix_restoring v p other =
      record {
        content = with_prefix_of p other.content v.content;
        number = v.number + other.number;
      }
