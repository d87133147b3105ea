-- A page: the first of the pairs within two bounds, as many as there is room for.
use Rattle.std.specs.Prelude.{◌≡◌, ◌+◌, ◌<◌, ◌⊎◌, ◌++◌, ◌==◌, if◌then◌else◌, ℕ, zero, suc, ⊤, Bool, List, reverse, [], ◌∷◌, Option, Some, None, drop, length, take}
use Rattle.std.specs.Borrow.{Bor}
use Rattle.std.specs.List.{flat_map}
use Rattle.std.specs.Option.{ForSome}
use Rattle.std.specs.declared.ops.Bound.{Bound}
use Rattle.std.specs.declared.ops.Bound.TheVariants.{Included, Excluded, Unbounded}
use Rattle.rart_c.specs.declared.answer.TheConstants.{DONE, ABSENT, TOO_SMALL, NO_ENTRIES}
use Rattle.rart_c.specs.declared.bytes.paging.RartBytesEntry.{RartBytesEntry}
use Rattle.rart_c.specs.declared.paging.RartEntry.{RartEntry}
use Rattle.rart_c.specs.declared.paging.TheConstants.{INCLUDED, EXCLUDED}
use Rattle.rart_c.specs.Shown.{shown}
use Rattle.rart_c.specs.declared.paging.Page.{Page}
use Rattle.rart_c.specs.declared.paging.Order.{Order}
use Rattle.rart_c.specs.declared.paging.Order.TheVariants.{Ascending, Descending}
use Rattle.rart_c.specs.declared.paging.cursor.PageCursor.{PageCursor}
use Rattle.rart_c.specs.declared.paging.cursor.PageCursor.TheVariants.{Onward, Back}
use Rattle.std.specs.Ordering.{as_partial_cmp}
use Rattle.std.specs.Range.Bound.{bound_map, is_from_start, is_up_to_end}
use Rattle.rart_below.specs.Bytes.{byte_order}
use Rattle.rart_maps.specs.Pairs.{within}
use Rattle.rart_maps.specs.Versions.{Map}
use Rattle.rart_versioned.specs.Cursors.{Cursor}
use Rattle.rart_ways.specs.Firsts.{IsFirst}

-- the bound of this kind at a key
abbrev pub bound_of : ℕ → List ℕ → Bound (List ℕ)
bound_of kind key =
    if kind == INCLUDED then Included key
    else if kind == EXCLUDED then Excluded key
    else Unbounded

-- Of what a page has of a pair: some bytes, and an entry that tells of them by where they begin.
module _ {V E : Type 0} (bytes_of : List ℕ × V → List ℕ) (entry_of : ℕ → List ℕ × V → E) where
  -- the bytes of pairs, one behind the other
  abbrev pub written_of : List (List ℕ × V) → List ℕ
  written_of pairs = flat_map bytes_of pairs

  -- an entry for each pair, the bytes from this place on
  abbrev pub entries_of : ℕ → List (List ℕ × V) → List E
  entries_of start [] = []
  entries_of start (pair ∷ pairs) =
      entry_of start pair ∷ entries_of (start + length (bytes_of pair)) pairs

  -- There is no room for the first of these pairs behind these entries and bytes.
  abbrev pub HasNoRoom : List (List ℕ × V) → ℕ → ℕ → List ℕ → List E → Type 0
  HasNoRoom [] count end bytes entries = ⊤
  HasNoRoom (pair ∷ pairs) count end bytes entries =
      (count ≡ length entries) ⊎ (length bytes < end + length (bytes_of pair))

  -- `count` pairs of a range are written, its first ones, and these are left. Their bytes stand one
  -- behind the other at the front of the bytes, and an entry of each at the front of the entries,
  -- which are as before behind them. There is no room for one pair more.
  pub record Writes (range left : List (List ℕ × V)) (count : ℕ) (bytes : List ℕ)
      (before after : List E) : Type 0 where
    pub page : List (List ℕ × V)
    pub range_is : range ≡ page ++ left
    pub many : count ≡ length page
    pub keys : take (length (written_of page)) bytes ≡ written_of page
    pub entries : after ≡ entries_of 0 page ++ drop count before
    pub full : HasNoRoom left count (length (written_of page)) bytes after

-- Of a number a page has its key, and where that ends and the number.
abbrev pub key_of : List ℕ × ℕ → List ℕ
key_of pair = pair.0

abbrev pub entry_of : ℕ → List ℕ × ℕ → RartEntry
entry_of start pair = record { end = start + length pair.0; value = pair.1 }

-- the keys of pairs, one behind the other, and their entries from this place on
abbrev pub keys_of : List (List ℕ × ℕ) → List ℕ
keys_of = written_of key_of entry_of

abbrev pub entries_from : ℕ → List (List ℕ × ℕ) → List RartEntry
entries_from = entries_of key_of entry_of

abbrev pub IsFull : List (List ℕ × ℕ) → ℕ → ℕ → List ℕ → List RartEntry → Type 0
IsFull = HasNoRoom key_of entry_of

abbrev pub WritesPage :
    List (List ℕ × ℕ) → List (List ℕ × ℕ) → ℕ → List ℕ → List RartEntry → List RartEntry → Type 0
WritesPage = Writes key_of entry_of

-- Of a byte string it has its key and the string behind it, and where either ends.
abbrev pub strings_of : List ℕ × List ℕ → List ℕ
strings_of pair = pair.0 ++ pair.1

abbrev pub string_entry_of : ℕ → List ℕ × List ℕ → RartBytesEntry
string_entry_of start pair =
    record { key_end = start + length pair.0; end = start + length pair.0 + length pair.1 }

abbrev pub WritesStrings : List (List ℕ × List ℕ) → List (List ℕ × List ℕ) → ℕ → List ℕ
    → List RartBytesEntry → List RartBytesEntry → Type 0
WritesStrings = Writes strings_of string_entry_of

-- The answer says that pairs are written, so many of room for so many. Or none is: since none is
-- there, there is no room for an entry, or what the page has of the first of those that are left is
-- too long, which is then told at a place, which else is as before.
module _ {V X : Type 0} (told_of : List ℕ × V → X) where
  abbrev pub TellsPageSo : ℕ → ℕ → List (List ℕ × V) → ℕ → X → X → Type 0
  TellsPageSo (suc count) room left answer before after = (answer ≡ DONE) × (after ≡ before)
  TellsPageSo zero room [] answer before after = (answer ≡ ABSENT) × (after ≡ before)
  TellsPageSo zero zero (pair ∷ pairs) answer before after =
      (answer ≡ NO_ENTRIES) × (after ≡ before)
  TellsPageSo zero (suc room) (pair ∷ pairs) answer before after =
      (answer ≡ TOO_SMALL) × (after ≡ told_of pair)

  -- what is told of the first of these pairs, if there is one
  abbrev pub first_told : List (List ℕ × V) → Option X
  first_told [] = None
  first_told (pair ∷ pairs) = Some (told_of pair)

-- how long the key is
abbrev pub TellsPage : ℕ → ℕ → List (List ℕ × ℕ) → ℕ → ℕ → ℕ → Type 0
TellsPage = TellsPageSo (λ pair. length pair.0)

abbrev pub first_length : List (List ℕ × ℕ) → Option ℕ
first_length = first_told (λ pair. length pair.0)

-- how long the key is, and how long its value
abbrev pub lengths_of : List ℕ × List ℕ → ℕ × ℕ
lengths_of pair = (length pair.0, length pair.1)

-- The first of these pairs was found, by the length of its key, which stands at the front of the
-- room if it fits there, and its value; or there is none.
module _ {V : Type 0} where
  abbrev pub FindsFirst : List (List ℕ × V) → Option (ℕ × Bor V) → List ℕ → List ℕ → Type 0
  FindsFirst pairs None before after = pairs ≡ []
  FindsFirst pairs (Some found) before after = IsFirst pairs found.0 found.1.now before after

-- the bound behind the last key that was written, which begins and ends here; or the one at which
-- the page starts, where none was
abbrev pub bound_behind : Option (ℕ × ℕ) → Bound (List ℕ) → List ℕ → Bound (List ℕ)
bound_behind None from written = from
bound_behind (Some last) from written = Excluded (drop last.0 (take last.1 written))

-- whether a key meets the bound to which pairs go in an order
abbrev pub is_before_end : Order → Bound (List ℕ) → List ℕ → Bool
is_before_end Ascending to key = is_up_to_end (as_partial_cmp byte_order) to key
is_before_end Descending to key = is_from_start (as_partial_cmp byte_order) to key

module _ {V : Type 0} where
  -- the pairs from one bound to another, in an order
  abbrev pub range_in : Order → Map V → Bound (List ℕ) → Bound (List ℕ) → List (List ℕ × V)
  range_in Ascending m from to = within m from to
  range_in Descending m from to = reverse (within m to from)

  -- a page's cursor, whichever way it goes
  abbrev pub cursor_in : PageCursor V → Cursor V
  cursor_in (Onward cursor) = cursor
  cursor_in (Back cursor) = cursor

  -- The cursor has left the pairs from a bound on, in an order.
  abbrev pub IsCursorFor : Order → Map V → Bound (List ℕ) → PageCursor V → Type 0
  IsCursorFor order m from cursor = (cursor_in cursor).left ≡ range_in order m from Unbounded

  -- the bound from which a page goes
  abbrev pub start_of : Page V → Bound (List ℕ)
  start_of page = bound_map (λ from. from.now) page.from

  -- the pairs from a bound on to the one to which a page goes, in its order
  abbrev pub pairs_from : Page V → Bound (List ℕ) → List (List ℕ × V)
  pairs_from page from =
      range_in page.order (shown page.table).version.content from
      (bound_map (λ to. to.now) page.to)

  -- A page's cursor, where it has one, has left the pairs from a bound on.
  abbrev pub IsAt : Page V → Bound (List ℕ) → Type 0
  IsAt page from =
      ForSome page.cursor (IsCursorFor page.order (shown page.table).version.content from)
