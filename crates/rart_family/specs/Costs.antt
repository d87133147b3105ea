-- How many nodes a run enters and makes: at most, and at least.
use Rattle.std.specs.Prelude.{◌≡◌, ℕ, ◌+◌, ◌*◌, ◌≤◌, List, ◌∷◌, Option, Some, None, if◌then◌else◌}
use Rattle.rart_versioned.specs.Counts.{Counts}
use Rattle.rart_maps.specs.Versions.{Version, has_no_key}
use Rattle.rart_maps.specs.Bounds.{lookup_bound, change_bound, meet_bound}
use Rattle.rart_family.specs.declared.family.command.Command.{Command}
use Rattle.rart_family.specs.declared.family.command.Command.TheVariants.{Get, Insert, Replace, Remove, Delete}
use Rattle.rart_family.specs.Replies.{Reply, NoVersion, NoRoom, NoMemory}
use Rattle.rart_family.specs.Families.{Family, Call, Meets, Changes, version_at, call_of}
use Rattle.rart_family.specs.Runs.{next}

module _ {V : Type 0} where
  -- a cost that counts where the call was made: where neither a version nor room was lacking
  abbrev pub if_called : Reply V → ℕ → ℕ
  if_called NoVersion cost = 0
  if_called NoRoom cost = 0
  if_called r cost = cost

  -- a cost that counts where the reply is no refusal
  abbrev pub if_done : Reply V → ℕ → ℕ
  if_done NoVersion cost = 0
  if_done NoRoom cost = 0
  if_done NoMemory cost = 0
  if_done r cost = cost

  -- 1 where there is a version with a key
  abbrev pub one_with_key : Option (Version V) → ℕ
  one_with_key None = 0
  one_with_key (Some v) = if has_no_key v then 0 else 1

  -- how many nodes an intersection enters at most, where there are both versions
  abbrev pub meet_cost : Option (Version V) → Option (Version V) → ℕ
  meet_cost None other = 0
  meet_cost (Some one) None = 0
  meet_cost (Some one) (Some other) = meet_bound one.content other.content

  -- 2 where there are two versions with a key
  abbrev pub two_with_keys : Option (Version V) → Option (Version V) → ℕ
  two_with_keys None other = 0
  two_with_keys (Some one) other = if has_no_key one then 0 else 2 * one_with_key other

-- From the counts before to those after, nodes were entered to read, and none was made.
pub record ReadsBetween (least most : ℕ) (before after : Counts) : Type 0 where
  pub entered_at_least : before.entered + least ≤ after.entered
  pub entered_at_most : after.entered ≤ before.entered + most
  pub made_as_before : after.made ≡ before.made

-- From the counts before to those after, nodes were made, and entered: at least
-- those touched, and at most three times as many as are made at most.
pub record ChangesBetween (least most touched : ℕ) (before after : Counts) : Type 0 where
  pub made_at_least : before.made + least ≤ after.made
  pub made_at_most : after.made ≤ before.made + most
  pub entered_at_least : before.entered + touched ≤ after.entered
  pub entered_at_most : after.entered ≤ before.entered + 3 * most

module _ {V : Type 0} (f : Family V) where
  -- the most nodes that a call, replied so, enters to read two versions, and the fewest
  abbrev pub meet_most : Call V → Reply V → ℕ
  meet_most (Meets left right reply) r =
      if_called r (meet_cost (version_at f left) (version_at f right))
  meet_most call r = 0

  abbrev pub meet_least : Call V → Reply V → ℕ
  meet_least (Meets left right reply) r =
      if_done r (two_with_keys (version_at f left) (version_at f right))
  meet_least call r = 0

  -- the most nodes that a call makes to change its version
  abbrev pub make_most : Call V → Reply V → ℕ
  make_most (Changes place room key change) r = if_called r (change_bound key)
  make_most call r = 0

  -- The fewest nodes that a call enters to change its version, where that has a key and the call is
  -- done.
  abbrev pub enter_done : Call V → Reply V → ℕ
  enter_done (Changes place room key change) r = if_done r (one_with_key (version_at f place))
  enter_done call r = 0

module _ {K V : Type 0} (bytes : K → List ℕ) where
  -- the most nodes that a command, replied so, enters to read
  abbrev pub read_cost_of : Family V → Command K V → Reply V → ℕ
  read_cost_of f (Get place key) r = if_called r (lookup_bound (bytes key))
  read_cost_of f c r = meet_most f (call_of bytes c) r

  -- and the fewest
  abbrev pub read_least_of : Family V → Command K V → Reply V → ℕ
  read_least_of f (Get place key) r = if_done r (one_with_key (version_at f place))
  read_least_of f c r = meet_least f (call_of bytes c) r

  -- the most nodes that it makes to change its version
  abbrev pub change_cost_of : Family V → Command K V → Reply V → ℕ
  change_cost_of f c r = make_most f (call_of bytes c) r

  -- and the fewest
  abbrev pub change_least_of : Family V → Command K V → Reply V → ℕ
  change_least_of f (Insert place key value) r = if_done r 1
  change_least_of f (Replace place key value) r = if_done r 1
  change_least_of f c r = 0

  -- The fewest nodes that it enters to change its version, where that has a key. Before a call with
  -- a value the value is copied, so there out of memory may come before a node is entered.
  abbrev pub enter_least_of : Family V → Command K V → Reply V → ℕ
  enter_least_of f (Remove place key) r = if_called r (one_with_key (version_at f place))
  enter_least_of f (Delete place key) r = if_called r (one_with_key (version_at f place))
  enter_least_of f c r = enter_done f (call_of bytes c) r

  -- A command, replied so, raises the counts by what it costs.
  abbrev pub CountsReads : Family V → Command K V → Reply V → Counts → Counts → Type 0
  CountsReads f c r = ReadsBetween (read_least_of f c r) (read_cost_of f c r)

  abbrev pub CountsChanges : Family V → Command K V → Reply V → Counts → Counts → Type 0
  CountsChanges f c r =
      ChangesBetween (change_least_of f c r) (change_cost_of f c r) (enter_least_of f c r)

  -- costs added up along a run, each at the family before its command
  abbrev pub along : (Family V → Command K V → Reply V → ℕ) → Family V → List (Command K V)
      → List (Reply V) → ℕ
  along cost f (c ∷ cs) (r ∷ rs) = cost f c r + along cost (next bytes f c r) cs rs
  along cost f cs rs = 0

  -- the five of a whole run
  abbrev pub read_cost : Family V → List (Command K V) → List (Reply V) → ℕ
  read_cost = along read_cost_of

  abbrev pub read_least : Family V → List (Command K V) → List (Reply V) → ℕ
  read_least = along read_least_of

  abbrev pub change_cost : Family V → List (Command K V) → List (Reply V) → ℕ
  change_cost = along change_cost_of

  abbrev pub change_least : Family V → List (Command K V) → List (Reply V) → ℕ
  change_least = along change_least_of

  abbrev pub enter_least : Family V → List (Command K V) → List (Reply V) → ℕ
  enter_least = along enter_least_of
