-- A family of versions: what each command is replied, and what it leaves.
use Rattle.std.specs.Prelude.{ℕ, zero, ◌+◌, ◌^◌, Bool, false, ◌&&◌, if◌then◌else◌, nat_lt, nat_le, List, [], ◌∷◌, ◌++◌, length, map, take, Option, Some, None, slice_get, slice_set, Result, Ok, Err}
use Rattle.std.specs.Option.{unwrap_or, option_to_list}
use Rattle.std.specs.Range.Bound.{bound_map}
use Rattle.rart_maps.specs.Versions.{Version, empty_at, has_no_key, value_at, has_key, with_rise, with_key}
use Rattle.rart_maps.specs.Pairs.{pairs, within, under, prefix_matches, longest_prefix_match, common}
use Rattle.rart_maps.specs.Changes.{after_removal, after_writing, slot_of, slot_update, slot_attempt}
use Rattle.rart_family.specs.declared.family.command.Failure.{Failure}
use Rattle.rart_family.specs.declared.family.command.Command.{Command}
use Rattle.rart_family.specs.declared.family.command.Command.TheVariants.{New, NewAt, Snapshot, Duplicate, Discard, Version as NumberOf, IsEmpty, Get, GetMut, Insert, Replace, Remove, Delete, Update, TryUpdate, Iter, Values as ValuesOf, Range, Prefix, Matches, MatchesEach, Views, PrefixViews, RangeViews, PrefixValues, Until, Intersect, IntersectViews, IntersectValues, IntersectCount, Flatten, Longest}
use Rattle.rart_family.specs.Replies.{Reply, Place, Discarded, Number, Flag, Value, Entries, Values, Stopped, Pairs, ValuePairs, Count, Failed, NoVersion, NoRoom}

-- places, each a version or discarded
abbrev pub Family : Type 0 → Type 0
Family V = List (Option (Version V))

-- the version at a place, unless the place is past the list or discarded
abbrev pub version_at : {V : Type 0} → Family V → ℕ → Option (Version V)
version_at family place = unwrap_or (slice_get family place) None

-- a reply, and the family after it
abbrev pub Outcome : Type 0 → Type 0
Outcome V = Reply V × Family V

-- What is called, on the versions of which places, and with how much room: what it replies, and
-- what it leaves.
pub data Call (V : Type 0) : Type 0 where
  -- a version at a new last place
  Makes : Version V → Call V
  -- a copy of the version, so much room asked of it, at a new last place
  Copies : ℕ → ℕ → (Version V → Version V) → Call V
  -- the version is dropped
  Discards : ℕ → Call V
  -- the version is read
  Reads : ℕ → (Version V → Reply V) → Call V
  -- two versions are read
  Meets : ℕ → ℕ → (Version V → Version V → Reply V) → Call V
  -- the version, so much room asked of it, is changed at a key
  Changes : ℕ → ℕ → List ℕ → (Version V → Reply V × Version V) → Call V

module _ {V : Type 0} (family : Family V) where
  -- a call on a version; where there is none the family stays
  abbrev pub call_outcome : (Version V → Outcome V) → Option (Version V) → Outcome V
  call_outcome call None = (NoVersion, family)
  call_outcome call (Some v) = call v

  -- a call on the version at a place
  abbrev pub at_place : ℕ → (Version V → Outcome V) → Outcome V
  at_place place call = call_outcome call (version_at family place)

  -- a call that asks for room, if any; where the number lacks it the family stays
  abbrev pub with_room : Version V → ℕ → Outcome V → Outcome V
  with_room v zero outcome = outcome
  with_room v room outcome = if nat_lt (v.number + room) (2 ^ 64) then outcome else (NoRoom, family)

  -- a version at a new last place
  abbrev pub placement : Version V → Outcome V
  placement v = (Place (length family), family ++ Some v ∷ [])

  -- what each kind of call is replied, and what it leaves
  abbrev pub called : Call V → Outcome V
  called (Makes v) = placement v
  called (Copies place room copy) = at_place place (λ v. with_room v room (placement (copy v)))
  called (Discards place) = at_place place (λ v. (Discarded, slice_set family place None))
  called (Reads place reply) = at_place place (λ v. (reply v, family))
  called (Meets left right reply) =
      at_place left (λ one. at_place right (λ other. (reply one other, family)))
  called (Changes place room key change) =
      at_place place (λ v. with_room v room
      ((change v).0, slice_set family place (Some (change v).1)))

module _ {V : Type 0} where
  -- what a command's callback leaves of the value in its slot
  abbrev pub value_after_write : Option V → Option V → Option V
  value_after_write None write = None
  value_after_write (Some old) None = Some old
  value_after_write (Some old) (Some new) = Some new

  -- the reply to an update whose callback may fail
  abbrev pub tried_reply : Result Bool Failure → Reply V
  tried_reply (Ok flag) = Flag flag
  tried_reply (Err failure) = Failed

-- whether the visit of this number comes, counted from 1, where `count` values may be visited
abbrev pub is_reached : ℕ → ℕ → Bool
is_reached visit count = nat_lt 0 visit && nat_le visit count

module _ {V : Type 0} where
  -- the values of pairs, in their order
  abbrev pub values_of : List (List ℕ × V) → List V
  values_of found = map (λ pair. pair.1) found

  -- the values of what two maps have in common, in the order of the keys
  abbrev pub value_pairs_of : List (List ℕ × V × V) → List (V × V)
  value_pairs_of found = map (λ entry. (entry.1, entry.2)) found

  -- A callback ends its visit of the values on the visit of this number, by its error where it
  -- fails there: which values are visited, and whether it failed.
  abbrev pub stopped : ℕ → Bool → List V → Reply V
  stopped visit fails values =
      if is_reached visit (length values)
      then Stopped (take visit values) fails
      else Stopped values false

-- what a command's callback answers where it may fail
abbrev pub callback_answer : {A : Type 0} → Option A → Result A Failure
callback_answer None = Err (record {})
callback_answer (Some answer) = Ok answer

module _ {K V : Type 0} (bytes : K → List ℕ) where
  -- the call that each command is
  abbrev pub call_of : Command K V → Call V
  call_of New = Makes (empty_at 0)
  call_of (NewAt number) = Makes (empty_at number)
  call_of (Snapshot place) = Copies place 1 (λ v. with_rise v 1)
  call_of (Duplicate place) = Copies place 0 (λ v. v)
  call_of (Discard place) = Discards place
  call_of (NumberOf place) = Reads place (λ v. Number v.number)
  call_of (IsEmpty place) = Reads place (λ v. Flag (has_no_key v))
  call_of (Get place key) = Reads place (λ v. Value (value_at v (bytes key)))
  call_of (GetMut place key value) = Changes place 1 (bytes key) (λ v.
      (Flag (has_key v (bytes key)), after_writing v (bytes key) value))
  call_of (Insert place key value) = Changes place 1 (bytes key) (λ v.
      (Flag (has_key v (bytes key)), with_key v (bytes key) value 1))
  call_of (Replace place key value) = Changes place 1 (bytes key) (λ v.
      (Value (value_at v (bytes key)), with_key v (bytes key) value 1))
  call_of (Remove place key) = Changes place 1 (bytes key) (λ v.
      (Value (value_at v (bytes key)), after_removal v (bytes key)))
  call_of (Delete place key) = Changes place 1 (bytes key) (λ v.
      (Flag (has_key v (bytes key)), after_removal v (bytes key)))
  call_of (Update place key write answer) = Changes place 1 (bytes key) (λ v.
      let after =
      slot_update v (bytes key) (slot_of (value_after_write (value_at v (bytes key)) write))
      answer in (Flag after.0, after.1))
  call_of (TryUpdate place key write answer) = Changes place 2 (bytes key) (λ v.
      let after =
      slot_attempt v (bytes key) (slot_of (value_after_write (value_at v (bytes key)) write))
      (callback_answer answer) in (tried_reply after.0, after.1))
  call_of (Iter place) = Reads place (λ v. Entries (pairs v.content))
  call_of (ValuesOf place) = Reads place (λ v. Values (values_of (pairs v.content)))
  call_of (Range place lo hi) =
      Reads place (λ v. Entries (within v.content (bound_map bytes lo) (bound_map bytes hi)))
  call_of (Prefix place prefix) = Reads place (λ v. Entries (under v.content (bytes prefix)))
  call_of (Matches place key) = Reads place (λ v. Entries (prefix_matches v.content (bytes key)))
  call_of (MatchesEach place key) =
      Reads place (λ v. Entries (prefix_matches v.content (bytes key)))
  call_of (Views place) = Reads place (λ v. Entries (pairs v.content))
  call_of (PrefixViews place prefix) = Reads place (λ v. Entries (under v.content (bytes prefix)))
  call_of (RangeViews place lo hi) =
      Reads place (λ v. Entries (within v.content (bound_map bytes lo) (bound_map bytes hi)))
  call_of (PrefixValues place prefix) =
      Reads place (λ v. Values (values_of (under v.content (bytes prefix))))
  call_of (Until place prefix visits fails) =
      Reads place (λ v. stopped visits fails (values_of (under v.content (bytes prefix))))
  call_of (Intersect left right) =
      Meets left right (λ one other. Pairs (common one.content other.content))
  call_of (IntersectViews left right) =
      Meets left right (λ one other. Pairs (common one.content other.content))
  call_of (IntersectValues left right) =
      Meets left right (λ one other. ValuePairs (value_pairs_of (common one.content other.content)))
  call_of (IntersectCount left right) =
      Meets left right (λ one other. Count (length (common one.content other.content)))
  call_of (Flatten place) = Reads place (λ v. Entries (pairs v.content))
  call_of (Longest place key) =
      Reads place (λ v. Entries (option_to_list (longest_prefix_match v.content (bytes key))))

  abbrev pub outcome : Family V → Command K V → Outcome V
  outcome f c = called f (call_of c)

  abbrev pub reply_to : Family V → Command K V → Reply V
  reply_to f c = (outcome f c).0

  abbrev pub after : Family V → Command K V → Family V
  after f c = (outcome f c).1
