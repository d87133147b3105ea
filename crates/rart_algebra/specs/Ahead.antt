-- How many nodes the way down two trees enters and makes, by the strings that are ahead there.
use Rattle.std.specs.Prelude.{◌≡◌, ◌+◌, ◌*◌, ◌<◌, ◌≤◌, ◌≢◌, ◌⊎◌, ℕ, Bool, true, false, List, [], ◌++◌, IsSome, None, Result, Ok, Err, length, if◌then◌else◌}
use Rattle.std.specs.FinSet as set
use Rattle.rart_below.specs.Bytes.{begins}
use Rattle.rart_maps.specs.Pairs.{Strings}
use Rattle.rart_maps.specs.StartLaws.{how_many_under, with_byte}
use Rattle.rart_node.specs.Counts.{Counts, CountsUpTo}
use Rattle.rart_node.specs.Shape.{Shape, prefix_of}
use Rattle.rart_node.specs.Trees.{found}
use Rattle.rart_algebra.specs.declared.made.Made.{Made}
use Rattle.rart_algebra.specs.declared.made.Made.TheVariants.{Same, Nothing, Node}
use Rattle.rart_lockstep.specs.CommonPairs.{common_pairs}
use Rattle.rart_lockstep.specs.Steps.{common_start}

module _ {V : Type 0} where
  -- The string begins a key of the one tree and a key of the other, not always the same one.
  pub record IsShared (left right : Shape V) (u : List ℕ) : Type 0 where
    pub one : List ℕ
    pub other : List ℕ
    pub in_left : IsSome (found left one)
    pub in_right : IsSome (found right other)
    pub begins_one : begins u one ≡ true
    pub begins_other : begins u other ≡ true

  -- The string is a key of either tree.
  abbrev pub EitherHas : Shape V → Shape V → List ℕ → Type 0
  EitherHas left right key = IsSome (found left key) ⊎ IsSome (found right key)

  -- The string begins keys of either tree that go on behind it with two different bytes.
  pub record ArePartedAt (left right : Shape V) (u : List ℕ) : Type 0 where
    pub byte : ℕ
    pub next : ℕ
    pub differ : byte ≢ next
    pub one : List ℕ
    pub other : List ℕ
    pub has_one : EitherHas left right one
    pub has_other : EitherHas left right other
    pub begins_one : begins (with_byte u byte) one ≡ true
    pub begins_other : begins (with_byte u next) other ≡ true

  -- A place of both: the string begins keys of both, and there one of the two has a key, or keys
  -- part.
  abbrev pub IsPlace : Shape V → Shape V → List ℕ → Type 0
  IsPlace left right u =
      IsShared left right u × (EitherHas left right u ⊎ ArePartedAt left right u)

  -- The string is a key of both.
  abbrev pub IsCommonKey : Shape V → Shape V → List ℕ → Type 0
  IsCommonKey left right key = IsSome (found left key) × IsSome (found right key)

  -- There is a key of both.
  abbrev pub HaveCommon : Shape V → Shape V → Type 0
  HaveCommon left right = (key : List ℕ) × IsCommonKey left right key

  -- The string begins a key of both.
  pub record BeginsCommon (left right : Shape V) (u : List ℕ) : Type 0 where
    pub key : List ℕ
    pub common : IsCommonKey left right key
    pub begun : begins u key ≡ true

  -- A key of the right tree that changes the left one: it has none there, or a common key goes.
  abbrev pub IsChange : Bool → Shape V → Shape V → List ℕ → Type 0
  IsChange stays left right key =
      IsSome (found right key) × (stays ≡ true → found left key ≡ None)

  abbrev pub HaveChange : Bool → Shape V → Shape V → Type 0
  HaveChange stays left right = (key : List ℕ) × IsChange stays left right key

  -- The string begins a key of the right tree that changes the left one.
  pub record BeginsChange (stays : Bool) (left right : Shape V) (u : List ℕ) : Type 0 where
    pub key : List ℕ
    pub change : IsChange stays left right key
    pub begun : begins u key ≡ true

  -- A place of both that begins such a key.
  abbrev pub IsChangedPlace : Bool → Shape V → Shape V → List ℕ → Type 0
  IsChangedPlace stays left right u = IsPlace left right u × BeginsChange stays left right u

  -- A common key that goes.
  abbrev pub IsGone : Bool → Shape V → Shape V → List ℕ → Type 0
  IsGone stays left right key = (stays ≡ false) × IsCommonKey left right key

  -- Two nodes at least were entered for each common key, but for the right one, which was entered
  -- before.
  abbrev pub EntersForCommon : Shape V → Shape V → Counts → Counts → Type 0
  EntersForCommon left right before after =
      before.entered + 2 * length (common_pairs left right) ≤ after.entered + 1

-- Behind the bytes above, the set has each string of this kind.
abbrev pub HasAll : Strings → List ℕ → (List ℕ → Type 0) → Type 0
HasAll strings above Ahead =
    (u : List ℕ) → Ahead u → set.contains strings (above ++ u) ≡ true

module _ {V : Type 0} (left right : Shape V) where
  -- how many strings of the set begin with the bytes above and with what both prefixes begin with
  abbrev pub ahead_of_both : Strings → List ℕ → ℕ
  ahead_of_both strings above =
      how_many_under strings (above ++ common_start (prefix_of left) (prefix_of right))

  -- Along the left prefix nodes of the right tree were entered, one for each place that is behind
  -- then: one at least is left where the way ends, and where it leads on, all that begin with the
  -- prefix.
  pub record EntersAlong (reaches : Bool) (before after : Counts) : Type 0 where
    pub grows : before.entered ≤ after.entered
    pub made : after.made ≡ before.made
    pub most : (strings : Strings) (above : List ℕ)
        → HasAll strings above (IsPlace left right)
        → after.entered + (if reaches then how_many_under strings (above ++ prefix_of left) else 1)
        ≤ before.entered + ahead_of_both strings above

module _ {V : Type 0} (Pays : Shape V → Shape V → List ℕ → Type 0) (left right : Shape V) where
  -- On the way down from both, of which the right one was entered before, nodes were entered: two
  -- for each place that is ahead, and one for each string of the kind that pays for a merge, but so
  -- many fewer.
  pub record EntersBelow (spare : ℕ) (before after : Counts) : Type 0 where
    pub grows : before.entered < after.entered
    pub entered : (strings paying : Strings) (above : List ℕ)
        → HasAll strings above (IsPlace left right) → HasAll paying above (Pays left right)
        → after.entered + 1 + spare ≤ before.entered + 2 * ahead_of_both left right strings above
        + ahead_of_both left right paying above

module _ {V : Type 0} (left right : Shape V) where
  -- And nodes were made: one for each string ahead that begins a common key.
  pub record MakesBelow (before after : Counts) : Type 0 where
    pub makes : before.made ≤ after.made
    pub made : (strings : Strings) (above : List ℕ)
        → HasAll strings above (BeginsCommon left right)
        → after.made ≤ before.made + ahead_of_both left right strings above

  -- Or three for each place ahead that begins a key which changes the left tree.
  pub record JoinsBelow (stays : Bool) (before after : Counts) : Type 0 where
    pub makes : before.made ≤ after.made
    pub made : (strings : Strings) (above : List ℕ)
        → HasAll strings above (IsChangedPlace stays left right)
        → after.made ≤ before.made + 3 * ahead_of_both left right strings above

-- Both.
pub record StepsBelow {V : Type 0} (Pays : Shape V → Shape V → List ℕ → Type 0)
    (left right : Shape V) (spare : ℕ) (before after : Counts) : Type 0 where
  pub enters : EntersBelow Pays left right spare before after
  pub makes : MakesBelow left right before after

-- From two roots at most two nodes are entered for each place of both, and one for each common key;
-- and at most one is made for each string that begins a common key. Any sets will do that have
-- these.
abbrev pub GoesUpTo : {V : Type 0} → Shape V → Shape V → Counts → Counts → Type 0
GoesUpTo left right before after =
    (strings keys starts : Strings)
    → HasAll strings [] (IsPlace left right) → HasAll keys [] (IsCommonKey left right)
    → HasAll starts [] (BeginsCommon left right)
    → CountsUpTo (2 * set.len strings + set.len keys) (set.len starts) before after

-- The same with three for each place, and none for keys.
abbrev pub MeetsUpTo : {V : Type 0} → Shape V → Shape V → Counts → Counts → Type 0
MeetsUpTo left right before after =
    (strings starts : Strings)
    → HasAll strings [] (IsPlace left right) → HasAll starts [] (BeginsCommon left right)
    → CountsUpTo (3 * set.len strings) (set.len starts) before after

-- From two roots two nodes are entered at most for each place of both, and one for each common key
-- that goes; and three are made at most for each place that begins a key which changes the left
-- tree.
abbrev pub JoinsUpTo : {V : Type 0} → Bool → Shape V → Shape V → Counts → Counts → Type 0
JoinsUpTo stays left right before after =
    (strings gone changed : Strings)
    → HasAll strings [] (IsPlace left right) → HasAll gone [] (IsGone stays left right)
    → HasAll changed [] (IsChangedPlace stays left right)
    → CountsUpTo (2 * set.len strings + set.len gone) (3 * set.len changed) before after

-- A tree of which nothing is left has a common key, and merges nothing for it.
abbrev pub spare_of : {P V E : Type 0} → Result (Made P V) E → ℕ
spare_of (Ok Same) = 0
spare_of (Ok Nothing) = 1
spare_of (Ok (Node after)) = 0
spare_of (Err refused) = 0
