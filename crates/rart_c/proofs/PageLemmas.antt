-- Pages: how the pairs within two bounds stand to those from the lower one on, and to those behind
-- one of them; and what one pair more is.
use Rattle.std.proofs.Common.{◌≡◌, ◌+◌, ◌<◌, ◌≤◌, ⊎_elim, inr, ℕ, suc, true, false, List, [], ◌∷◌, ◌++◌, length, take, drop, get_or, drop-cons, refl, arith, sym, ap, subst, ◌∙◌}
use Rattle.std.proofs.Math.ListN.{set}
use Rattle.std.proofs.Math.Seq.{set-append_seam, take-add}
use Rattle.std.proofs.lemmas.Bool.Decides.{nat_tests}
use Rattle.std.proofs.lemmas.Grind.{flat_map-append}
use Rattle.std.proofs.lemmas.List.{append_assoc, append-nil, drop-drop, drop-take, length-append, take-take}
use Rattle.std.specs.Prelude.{◌==◌, not, Contains}
use Rattle.std.specs.declared.ops.Bound.{Bound}
use Rattle.std.specs.declared.ops.Bound.TheVariants.{Included, Excluded, Unbounded}
use Rattle.std.specs.Ordering.{as_partial_cmp}
use Rattle.std.specs.Range.Bound.{is_up_to_end}
use Rattle.rart_below.specs.Bytes.{byte_order}
use Rattle.rart_maps.proofs.ElementLemmas.{AllPairs-first, AllPairs-rest, Contains-cases, Contains-here, Contains-later}
use Rattle.rart_maps.proofs.FoundLemmas.{ascending_lists_are_fixed, within_ascends, within_is_found}
use Rattle.rart_maps.proofs.OrderLemmas.{IsBefore-itself}
use Rattle.rart_maps.proofs.RangeLemmas.{IsBefore-through, from, from-ascends, up_to, up_to-first, up_to-past, within-from}
use Rattle.rart_maps.specs.FoundLaws.{KeysAscend}
use Rattle.rart_maps.specs.Order.{IsBefore, MeetsLow}
use Rattle.rart_maps.specs.Pairs.{pairs, within}
use Rattle.rart_maps.specs.Versions.{Map}
use Rattle.rart_versioned.proofs.VersionIterationLemmas.{within-from_low}
use Rattle.rart_c.specs.Pages.{entries_of, written_of}

-- what stands behind a string that meets a lower bound meets it too
pub MeetsLow-behind : (low : Bound (List ℕ)) (u w : List ℕ) → MeetsLow low u → IsBefore u w
    → MeetsLow low w
MeetsLow-behind (Included a) u w meets before =
    ⊎_elim
    (λ same. inr (subst (λ z. IsBefore z w) (sym same) before))
    (λ less. inr (IsBefore-through a u w less before))
    meets
MeetsLow-behind (Excluded a) u w meets before = IsBefore-through a u w meets before
MeetsLow-behind Unbounded u w meets before = tt

-- a list has an element
pub some-not_none : {A : Type 0} (x : A) (xs : List A) → true ≡ not (length (x ∷ xs) == 0)
some-not_none x xs = grind (arith, nat_tests)

module _ {V : Type 0} (m : Map V) (low high : Bound (List ℕ)) where
  from-is : within m low Unbounded ≡ from low (pairs m)
  from-is = within-from_low m low

  -- where there is no first pair from the lower bound on, there is none within both
  pub within-none : within m low Unbounded ≡ [] → within m low high ≡ []
  within-none none = within-from m low high ∙ ap (up_to high) (sym from-is ∙ none)

  -- Of the first pair from the lower bound on.
  module _ (pair : List ℕ × V) (others : List (List ℕ × V))
      (is : within m low Unbounded ≡ pair ∷ others) where
    first-is : from low (pairs m) ≡ pair ∷ others
    first-is = sym from-is ∙ is

    ascends : KeysAscend (λ pair. pair.0) (pair ∷ others)
    ascends = subst (KeysAscend (λ pair. pair.0)) first-is (from-ascends m low)

    pub within-meets : is_up_to_end (as_partial_cmp byte_order) high pair.0 ≡ true
        → within m low high ≡ pair ∷ up_to high others
    within-meets meets =
        within-from m low high ∙ ap (up_to high) first-is
        ∙ up_to-first high pair others ascends meets

    pub within-past : is_up_to_end (as_partial_cmp byte_order) high pair.0 ≡ false
        → within m low high ≡ []
    within-past past =
        within-from m low high ∙ ap (up_to high) first-is
        ∙ up_to-past high pair others ascends past

  -- Behind the first pair within both bounds stand the others.
  pub within-behind : (pair : List ℕ × V) (others : List (List ℕ × V))
      → within m low high ≡ pair ∷ others → within m (Excluded pair.0) high ≡ others
  within-behind pair others is =
      let ascends : KeysAscend (λ (pair : List ℕ × V). pair.0) (pair ∷ others) =
      subst (KeysAscend (λ pair. pair.0)) is (within_ascends V m low high) in
      let found = λ (other : List ℕ × V) (there : Contains (pair ∷ others) other).
      (within_is_found V m low high other.0 other.1).0
      (subst (λ list. Contains list other) (sym is) there) in
      let first = found pair (Contains-here pair others) in
      ascending_lists_are_fixed (List ℕ × V) (λ pair. pair.0)
      (within m (Excluded pair.0) high) others
      (within_ascends V m (Excluded pair.0) high)
      (AllPairs-rest (λ a b. IsBefore a.0 b.0) pair others ascends)
      (λ other. (
        λ there. let meets = (within_is_found V m (Excluded pair.0) high other.0 other.1).0 there in
            ⊎_elim
            (λ same. absurd (IsBefore-itself other.0
            (subst (λ p. IsBefore p.0 other.0) same meets.0)))
            (λ later. later)
            (Contains-cases pair others other (subst (λ list. Contains list other) is
            ((within_is_found V m low high other.0 other.1).1
            (MeetsLow-behind low pair.0 other.0 first.0 meets.0, meets.1, meets.2)))),
        λ later. let meets = found other (Contains-later pair others other later) in
            (within_is_found V m (Excluded pair.0) high other.0 other.1).1 (
              AllPairs-first (λ a b. IsBefore a.0 b.0) pair others ascends other later,
              meets.1,
              meets.2,
            ),
      ))

-- ---- one pair more
module _ {V E : Type 0} (bytes_of : List ℕ × V → List ℕ) (entry_of : ℕ → List ℕ × V → E) where
  abbrev all : List (List ℕ × V) → List ℕ
  all page = written_of bytes_of entry_of page

  abbrev entries : ℕ → List (List ℕ × V) → List E
  entries start page = entries_of bytes_of entry_of start page

  pub written-more : (page : List (List ℕ × V)) (pair : List ℕ × V)
      → all (page ++ pair ∷ []) ≡ all page ++ bytes_of pair
  written-more page pair =
      flat_map-append bytes_of page (pair ∷ [])
      ∙ ap (λ z. all page ++ z) (append-nil (bytes_of pair))

  pub length-entries : (start : ℕ) (page : List (List ℕ × V))
      → length (entries start page) ≡ length page
  length-entries start [] = refl
  length-entries start (pair ∷ page) =
      ap suc (length-entries (start + length (bytes_of pair)) page)

  entries-more : (start : ℕ) (page : List (List ℕ × V)) (pair : List ℕ × V) (begin : ℕ)
      → begin ≡ start + length (all page)
      → entries start (page ++ pair ∷ []) ≡ entries start page ++ entry_of begin pair ∷ []
  entries-more start [] pair begin is =
      let same : start ≡ begin = omega (arith, is) in
      ap (λ n. entry_of n pair ∷ []) same
  entries-more start (first ∷ page) pair begin is =
      let long = length-append (bytes_of first) (all page) in
      ap (λ z. entry_of start first ∷ z)
      (entries-more (start + length (bytes_of first)) page pair begin (omega (arith, is, long)))

  pub entries-set : (page : List (List ℕ × V)) (pair : List ℕ × V) (count begin : ℕ)
      (old now : List E) → now ≡ entries 0 page ++ drop count old
      → count ≡ length page → count < length old → begin ≡ length (all page)
      → set now count (entry_of begin pair)
      ≡ entries 0 (page ++ pair ∷ []) ++ drop (count + 1) old
  entries-set page pair count begin old now is many less begins =
      let entry : E = entry_of begin pair in
      let behind : drop count old ≡ get_or old count entry ∷ drop (suc count) old =
      drop-cons old count entry less in
      let next : suc count ≡ count + 1 = omega arith in
      let long : count ≡ length (entries 0 page) = many ∙ sym (length-entries 0 page) in
      ap (λ list. set list count entry) (is ∙ ap (λ z. entries 0 page ++ z) behind)
      ∙ ap (λ n. set (entries 0 page ++ get_or old count entry ∷ drop (suc count) old) n entry)
      long
      ∙ set-append_seam (entries 0 page) (get_or old count entry) (drop (suc count) old) entry
      ∙ sym (append_assoc (entries 0 page) (entry ∷ []) (drop (suc count) old))
      ∙ ap (λ z. z ++ drop (suc count) old)
      (sym (entries-more 0 page pair begin (omega (arith, begins))))
      ∙ ap (λ n. entries 0 (page ++ pair ∷ []) ++ drop n old) next

  -- the bytes that are written, and those of one pair more behind them
  pub more-written : (page : List (List ℕ × V)) (pair : List ℕ × V) (end size : ℕ)
      (before after : List ℕ) → take end before ≡ all page → take end after ≡ take end before
      → take size (drop end after) ≡ bytes_of pair
      → take (end + size) after ≡ all (page ++ pair ∷ [])
  more-written page pair end size before after is kept written =
      take-add end size after ∙ (λ i. (kept ∙ is) i ++ written i) ∙ sym (written-more page pair)

-- a key that begins and ends among bytes that are written
pub key-within : (start len end : ℕ) (bytes key : List ℕ) → start + len ≤ end
    → take len (drop start bytes) ≡ key → drop start (take (start + len) (take end bytes)) ≡ key
key-within start len end bytes key fits is =
    ap (drop start) (take-take (start + len) end bytes fits) ∙ drop-take start len bytes ∙ is

-- what stands at a place is as before where all up to its end is
pub same-within : (start len : ℕ) (bytes after : List ℕ)
    → take (start + len) after ≡ take (start + len) bytes
    → take len (drop start after) ≡ take len (drop start bytes)
same-within start len bytes after kept =
    sym (drop-take start len after) ∙ ap (drop start) kept ∙ drop-take start len bytes

-- what stands in front of a place is as before where all up to a later one is
pub kept-through : (end len : ℕ) (before between after : List ℕ)
    → take end between ≡ take end before → take (end + len) after ≡ take (end + len) between
    → take end after ≡ take end before
kept-through end len before between after kept later =
    sym (take-take end (end + len) after (omega arith)) ∙ ap (take end) later
    ∙ take-take end (end + len) between (omega arith) ∙ kept

-- a key and a string behind it
pub key-string : (end len size : ℕ) (bytes key string : List ℕ)
    → take len (drop end bytes) ≡ key → take size (drop (end + len) bytes) ≡ string
    → take (len + size) (drop end bytes) ≡ key ++ string
key-string end len size bytes key string first second =
    take-add len size (drop end bytes)
    ∙ (λ i. first i ++ take size (drop-drop len end bytes i))
    ∙ ap (λ z. key ++ z) second
