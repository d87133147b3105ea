-- Worked good lines, found by hand: a row for each line of the program, and for each form of it.
use Rattle.std.specs.Prelude.{[], codes, true, false, Some, None}
use Rattle.std.specs.declared.ops.Bound.TheVariants.{Included, Excluded, Unbounded}
use Rattle.rart_versioned.specs.SlotUpdate.TheVariants as slot
use Rattle.rart_family.specs.declared.family.command.Command.TheVariants.{New, NewAt, Snapshot, Duplicate, Discard, Version as NumberOf, IsEmpty, Get, GetMut, Insert, Replace, Remove, Delete, Update, TryUpdate, Iter, Values as ValuesOf, Range, Prefix, Matches, MatchesEach, Views, PrefixViews, RangeViews, PrefixValues, Until, Intersect, IntersectViews, IntersectValues, IntersectCount, Flatten, Longest}
use Rattle.vtree_lines.specs.Grammar.{IsLineOf}

-- Lines that make a version, drop one, or change one.
abbrev pub WorkedChangeLines : Type 0
WorkedChangeLines =
    IsLineOf (codes "new") New
    × IsLineOf (codes "new-at 00000000000000000007") (NewAt 7)
    × IsLineOf (codes "snapshot 3") (Snapshot 3)
    × IsLineOf (codes "clone 3") (Duplicate 3)
    × IsLineOf (codes "discard 3") (Discard 3)
    × IsLineOf (codes "get-mut 3 'abc 2") (GetMut 3 (codes "abc") 2)
    × IsLineOf (codes "insert 3 'abc 2") (Insert 3 (codes "abc") 2)
    × IsLineOf (codes "replace 3 'abc 2") (Replace 3 (codes "abc") 2)
    × IsLineOf (codes "remove 3 'abc") (Remove 3 (codes "abc"))
    × IsLineOf (codes "delete 3 'abc") (Delete 3 (codes "abc"))
    × IsLineOf (codes "update 3 'abc 7 keep") (Update 3 (codes "abc") (Some 7) slot.Keep)
    × IsLineOf (codes "update 3 'abc - remove") (Update 3 (codes "abc") None slot.Remove)
    × IsLineOf (codes "update 3 'abc 7 insert 2") (Update 3 (codes "abc") (Some 7) (slot.Insert 2))
    × IsLineOf (codes "try-update 3 'abc 7 keep")
    (TryUpdate 3 (codes "abc") (Some 7) (Some slot.Keep))
    × IsLineOf (codes "try-update 3 'abc 7 remove")
    (TryUpdate 3 (codes "abc") (Some 7) (Some slot.Remove))
    × IsLineOf (codes "try-update 3 'abc - insert 2")
    (TryUpdate 3 (codes "abc") None (Some (slot.Insert 2)))
    × IsLineOf (codes "try-update 3 'abc 7 fail") (TryUpdate 3 (codes "abc") (Some 7) None)

-- Lines that ask for one thing of a version: keys of no byte and of 16 bytes among them.
abbrev pub WorkedReadLines : Type 0
WorkedReadLines =
    IsLineOf (codes "version 3") (NumberOf 3)
    × IsLineOf (codes "empty 3") (IsEmpty 3)
    × IsLineOf (codes "get 3 'abc") (Get 3 (codes "abc"))
    × IsLineOf (codes "get 3 '") (Get 3 [])
    × IsLineOf (codes "get 3 ''~!") (Get 3 (codes "'~!"))
    × IsLineOf (codes "get 3 'abcdefghijklmnop") (Get 3 (codes "abcdefghijklmnop"))
    × IsLineOf (codes "longest 3 'abc") (Longest 3 (codes "abc"))

-- Lines that list what a version has, bounds of each kind on either side.
abbrev pub WorkedWalkLines : Type 0
WorkedWalkLines =
    IsLineOf (codes "iter 3") (Iter 3)
    × IsLineOf (codes "values 3") (ValuesOf 3)
    × IsLineOf (codes "views 3") (Views 3)
    × IsLineOf (codes "flatten 3") (Flatten 3)
    × IsLineOf (codes "range 3 i'a -") (Range 3 (Included (codes "a")) Unbounded)
    × IsLineOf (codes "range 3 - x'b") (Range 3 Unbounded (Excluded (codes "b")))
    × IsLineOf (codes "range 3 x' i'ii") (Range 3 (Excluded []) (Included (codes "ii")))
    × IsLineOf (codes "range 3 i'abcdefghijklmnop x'bcdefghijklmnopq")
    (Range 3 (Included (codes "abcdefghijklmnop")) (Excluded (codes "bcdefghijklmnopq")))
    × IsLineOf (codes "range-views 3 x'a -") (RangeViews 3 (Excluded (codes "a")) Unbounded)
    × IsLineOf (codes "range-views 3 - i'b") (RangeViews 3 Unbounded (Included (codes "b")))
    × IsLineOf (codes "range-views 3 i'a x'b")
    (RangeViews 3 (Included (codes "a")) (Excluded (codes "b")))
    × IsLineOf (codes "prefix 3 'abc") (Prefix 3 (codes "abc"))
    × IsLineOf (codes "prefix-views 3 'abc") (PrefixViews 3 (codes "abc"))
    × IsLineOf (codes "prefix-values 3 'abc") (PrefixValues 3 (codes "abc"))
    × IsLineOf (codes "matches 3 'abc") (Matches 3 (codes "abc"))
    × IsLineOf (codes "matches-each 3 'abc") (MatchesEach 3 (codes "abc"))
    × IsLineOf (codes "until 3 'abc 2 stop") (Until 3 (codes "abc") 2 false)
    × IsLineOf (codes "until 3 'abc 2 fail") (Until 3 (codes "abc") 2 true)

-- Lines that ask what two versions have in common, the left one first.
abbrev pub WorkedIntersectionLines : Type 0
WorkedIntersectionLines =
    IsLineOf (codes "intersect 1 2") (Intersect 1 2)
    × IsLineOf (codes "intersect-views 1 2") (IntersectViews 1 2)
    × IsLineOf (codes "intersect-values 1 2") (IntersectValues 1 2)
    × IsLineOf (codes "intersect-count 1 2") (IntersectCount 1 2)
