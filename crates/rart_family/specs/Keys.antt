-- Commands by their keys.
use Rattle.std.specs.Prelude.{List, ℕ}
use Rattle.std.specs.Range.Bound.{bound_map}
use Rattle.rart_family.specs.declared.family.command.Command.{Command}
use Rattle.rart_family.specs.declared.family.command.Command.TheVariants.{New, NewAt, Snapshot, Duplicate, Discard, Version, IsEmpty, Get, GetMut, Insert, Replace, Remove, Delete, Update, TryUpdate, Iter, Values, Range, Prefix, Matches, MatchesEach, Views, PrefixViews, RangeViews, PrefixValues, Until, Intersect, IntersectViews, IntersectValues, IntersectCount, Flatten, Longest}

-- a command, its keys by their bytes
abbrev pub by_bytes : {K V : Type 0} → (K → List ℕ) → Command K V → Command (List ℕ) V
by_bytes bytes New = New
by_bytes bytes (NewAt number) = NewAt number
by_bytes bytes (Snapshot place) = Snapshot place
by_bytes bytes (Duplicate place) = Duplicate place
by_bytes bytes (Discard place) = Discard place
by_bytes bytes (Version place) = Version place
by_bytes bytes (IsEmpty place) = IsEmpty place
by_bytes bytes (Get place key) = Get place (bytes key)
by_bytes bytes (GetMut place key value) = GetMut place (bytes key) value
by_bytes bytes (Insert place key value) = Insert place (bytes key) value
by_bytes bytes (Replace place key value) = Replace place (bytes key) value
by_bytes bytes (Remove place key) = Remove place (bytes key)
by_bytes bytes (Delete place key) = Delete place (bytes key)
by_bytes bytes (Update place key write answer) = Update place (bytes key) write answer
by_bytes bytes (TryUpdate place key write answer) = TryUpdate place (bytes key) write answer
by_bytes bytes (Iter place) = Iter place
by_bytes bytes (Values place) = Values place
by_bytes bytes (Range place lo hi) = Range place (bound_map bytes lo) (bound_map bytes hi)
by_bytes bytes (Prefix place prefix) = Prefix place (bytes prefix)
by_bytes bytes (Matches place key) = Matches place (bytes key)
by_bytes bytes (MatchesEach place key) = MatchesEach place (bytes key)
by_bytes bytes (Views place) = Views place
by_bytes bytes (PrefixViews place prefix) = PrefixViews place (bytes prefix)
by_bytes bytes (RangeViews place lo hi) =
    RangeViews place (bound_map bytes lo) (bound_map bytes hi)
by_bytes bytes (PrefixValues place prefix) = PrefixValues place (bytes prefix)
by_bytes bytes (Until place prefix visits fails) = Until place (bytes prefix) visits fails
by_bytes bytes (Intersect left right) = Intersect left right
by_bytes bytes (IntersectViews left right) = IntersectViews left right
by_bytes bytes (IntersectValues left right) = IntersectValues left right
by_bytes bytes (IntersectCount left right) = IntersectCount left right
by_bytes bytes (Flatten place) = Flatten place
by_bytes bytes (Longest place key) = Longest place (bytes key)
