-- Laws that show what the definitions of families and runs mean.
use Rattle.std.specs.Prelude.{◌≡◌, ◌≢◌, ℕ, ◌<◌, ◌≤◌, false, List, length, map, Option, Some, None, slice_get, IfSome, ◌⊎◌, ⊤}
use Rattle.std.specs.declared.ops.Bound.{Bound}
use Rattle.rart_family.specs.declared.family.command.Command.{Command}
use Rattle.rart_family.specs.declared.family.command.Command.TheVariants.{Discard, Insert, Snapshot, Version as NumberOf, IsEmpty, Get, Remove, Delete, Update, TryUpdate, Iter, Range, Prefix, Matches, MatchesEach, Views, PrefixViews, RangeViews, Intersect, IntersectViews, IntersectValues, IntersectCount}
use Rattle.rart_maps.specs.Versions.{has_key}
use Rattle.rart_family.specs.Replies.{Reply, Pairs, ValuePairs, NoVersion, NoRoom, NoMemory}
use Rattle.rart_family.specs.Families.{Family, Call, Discards, Reads, Meets, Changes, version_at, call_of, reply_to, after}
use Rattle.rart_family.specs.Runs.{Step, Run}
use Rattle.rart_family.specs.Updates.{Inserts}

-- the one place, of those that are there, whose version a call may change
abbrev pub place_changed : {V : Type 0} → Call V → Option ℕ
place_changed (Discards place) = Some place
place_changed (Changes place room key change) = Some place
place_changed call = None

-- The call reads versions, and nothing more.
abbrev pub OnlyReads : {V : Type 0} → Call V → Type 0
OnlyReads (Reads place reply) = ⊤
OnlyReads (Meets left right reply) = ⊤
OnlyReads call = ⊥

-- a reply with the two values of each key swapped
abbrev pub swapped_reply : {V : Type 0} → Reply V → Reply V
swapped_reply (Pairs found) = Pairs (map (λ entry. (entry.0, entry.2, entry.1)) found)
swapped_reply (ValuePairs found) = ValuePairs (map (λ pair. (pair.1, pair.0)) found)
swapped_reply r = r

module _ (K V : Type 0) (bytes : K → List ℕ) where
  -- A step leaves each place that is there but the one that its command may change.
  abbrev pub StepsAreIsolated : Type 0
  StepsAreIsolated =
      (old new : Family V) (c : Command K V) (r : Reply V) (place : ℕ)
      → Step bytes old c r new → place < length old → place_changed (call_of bytes c) ≢ Some place
      → slice_get new place ≡ slice_get old place

  -- No step takes a place away.
  abbrev pub PlacesStay : Type 0
  PlacesStay = (old new : Family V) (c : Command K V) (r : Reply V) → Step bytes old c r new
      → length old ≤ length new

  -- A reply fixes the family after it.
  abbrev pub RepliesFixSteps : Type 0
  RepliesFixSteps = (old new other : Family V) (c : Command K V) (r : Reply V)
      → Step bytes old c r new → Step bytes old c r other → new ≡ other

  -- The replies fix the family after a run.
  abbrev pub RepliesFixRuns : Type 0
  RepliesFixRuns = (old new other : Family V) (cs : List (Command K V)) (rs : List (Reply V))
      → Run bytes old cs rs new → Run bytes old cs rs other → new ≡ other

  -- Where it is not out of memory, a step's reply is the command's own, and so is what it leaves.
  abbrev pub StepsReplyTheirOwn : Type 0
  StepsReplyTheirOwn =
      (old new : Family V) (c : Command K V) (r : Reply V)
      → Step bytes old c r new → r ≢ NoMemory
      → (r ≡ reply_to bytes old c) × (new ≡ after bytes old c)

  -- A run has one reply a command.
  abbrev pub RunsReplyToEach : Type 0
  RunsReplyToEach =
      (old new : Family V) (cs : List (Command K V)) (rs : List (Reply V))
      → Run bytes old cs rs new → length rs ≡ length cs

  -- Out of memory is no command's own reply.
  abbrev pub NoReplyIsWant : Type 0
  NoReplyIsWant = (f : Family V) (c : Command K V) → reply_to bytes f c ≢ NoMemory

  -- The place has no version, or one that lacks the key.
  abbrev pub LacksKey : Family V → ℕ → K → Type 0
  LacksKey f place key = IfSome (version_at f place) (λ v. has_key v (bytes key) ≡ false)

  -- The command takes no memory: it looks at a version as a whole, drops it, looks up or takes out
  -- a key that the version lacks, or updates one without a value to write or to insert.
  abbrev pub TakesNoMemory : Family V → Command K V → Type 0
  TakesNoMemory f (Discard place) = ⊤
  TakesNoMemory f (NumberOf place) = ⊤
  TakesNoMemory f (IsEmpty place) = ⊤
  TakesNoMemory f (IntersectCount left right) = ⊤
  TakesNoMemory f (Get place key) = LacksKey f place key
  TakesNoMemory f (Remove place key) = LacksKey f place key
  TakesNoMemory f (Delete place key) = LacksKey f place key
  TakesNoMemory f (Update place key None answer) = LacksKey f place key × ¬ Inserts answer
  TakesNoMemory f (TryUpdate place key None (Some answer)) =
      LacksKey f place key × ¬ Inserts answer
  TakesNoMemory f c = ⊥

  -- No step replies out of memory to a command that takes none.
  abbrev pub NoWantWithoutMemory : Type 0
  NoWantWithoutMemory =
      (old new : Family V) (c : Command K V)
      → TakesNoMemory old c → ¬ Step bytes old c NoMemory new

  -- No step replies out of memory where a version or room is lacking.
  abbrev pub NoWantBeforeLack : Type 0
  NoWantBeforeLack =
      (old new : Family V) (c : Command K V)
      → (reply_to bytes old c ≡ NoVersion) ⊎ (reply_to bytes old c ≡ NoRoom)
      → ¬ Step bytes old c NoMemory new

  -- A step by a command that only reads leaves the family.
  abbrev pub ReadsLeaveFamily : Type 0
  ReadsLeaveFamily =
      (old new : Family V) (c : Command K V) (r : Reply V)
      → OnlyReads (call_of bytes c) → Step bytes old c r new → new ≡ old

  -- A visitor is replied as the iterator over the same list.
  abbrev pub VisitorsReplyAsIterators : Type 0
  VisitorsReplyAsIterators =
      (f : Family V) (place : ℕ) (key : K) (lo hi : Bound K)
      → (reply_to bytes f (Views place) ≡ reply_to bytes f (Iter place))
      × (reply_to bytes f (PrefixViews place key) ≡ reply_to bytes f (Prefix place key))
      × (reply_to bytes f (RangeViews place lo hi) ≡ reply_to bytes f (Range place lo hi))
      × (reply_to bytes f (MatchesEach place key) ≡ reply_to bytes f (Matches place key))

  -- With the places swapped, an intersection is replied the same keys in the same order with their
  -- values swapped, and the same count; and both forms that give keys are replied the same.
  abbrev pub IntersectionsSwap : Type 0
  IntersectionsSwap =
      (f : Family V) (left right : ℕ)
      → (reply_to bytes f (Intersect right left)
      ≡ swapped_reply (reply_to bytes f (Intersect left right)))
      × (reply_to bytes f (IntersectViews left right)
      ≡ reply_to bytes f (Intersect left right))
      × (reply_to bytes f (IntersectValues right left)
      ≡ swapped_reply (reply_to bytes f (IntersectValues left right)))
      × (reply_to bytes f (IntersectCount right left)
      ≡ reply_to bytes f (IntersectCount left right))

  -- ---- what each of these is, of commands of each kind
  abbrev pub ReadersOnlyRead : Type 0
  ReadersOnlyRead = (place other : ℕ) (key : K)
      → OnlyReads {V = V} (call_of bytes (Get place key))
      × OnlyReads {V = V} (call_of bytes (Iter place))
      × OnlyReads {V = V} (call_of bytes (Prefix place key))
      × OnlyReads {V = V} (call_of bytes (IntersectCount place other))

  -- Of places that are there a command changes the one that it names, or none.
  abbrev pub ChangesAreOfAPlace : Type 0
  ChangesAreOfAPlace = (place other : ℕ) (key : K) (value : V)
      → (place_changed {V = V} (call_of bytes (Insert place key value)) ≡ Some place)
      × (place_changed {V = V} (call_of bytes (Remove place key)) ≡ Some place)
      × (place_changed {V = V} (call_of bytes (Discard place)) ≡ Some place)
      × (place_changed {V = V} (call_of bytes (Snapshot place)) ≡ None)
      × (place_changed {V = V} (call_of bytes (Get place key)) ≡ None)
      × (place_changed {V = V} (call_of bytes (IntersectCount place other)) ≡ None)

  abbrev pub SomeTakeNoMemory : Type 0
  SomeTakeNoMemory = (f : Family V) (place other : ℕ) (key : K)
      → TakesNoMemory f (Discard place) × TakesNoMemory f (NumberOf place)
      × TakesNoMemory f (IntersectCount place other)
      × (LacksKey f place key → TakesNoMemory f (Get place key) × TakesNoMemory f (Remove place key))
