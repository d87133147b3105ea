-- The steps of an insertion at a node s, of a key that has `common` bytes in common with its
-- prefix.
use Rattle.std.proofs.Common.{Option, Result, Ok, Err, ◌≡◌, ℕ, ◌+◌, ◌<◌, ◌≤◌, List, [], ◌∷◌, ◌++◌, Some, None, slice_get, length, take, drop, length-drop, refl, arith, sym, ap, subst, ◌∙◌}
use Rattle.std.proofs.lemmas.Option.{none-some}
use Rattle.rart_below.specs.Bytes.{IsAdmitted, common_length}
use Rattle.rart_below.specs.Children.{child_at}
use Rattle.std.specs.Option.{option_and_then, OnSome}
use Rattle.rart_node.specs.Counts.{Counts, CountsUpTo}
use Rattle.rart_node.specs.Shape.{Shape, node, widenings, prefix_of, children_of, value_of, with_replaced}
use Rattle.rart_node.specs.Trees.{BeginsWith, found, IsTree, IsPut, Puts, cut_at, ending, path_bound}
use Rattle.rart_node.proofs.PrefixRestLemmas.{strip_prefix-own, split-common, split-whole, common-within, common-long, begins-first, begins-long, no-first, first-parts}
use Rattle.rart_node.proofs.CountingLemmas.{path-step, path-one, counts-opened, counts-then, counts-below, ending-most}
use Rattle.rart_ways.proofs.CutNodeLemmas.{cut-found}
use Rattle.rart_node.proofs.FindLemmas.{found-below, found-child, branch, ordered, IsBranch}
use Rattle.rart_node.proofs.InsertionLemmas.{put-below, replaced-same}

-- What is found behind the whole prefix of a node: its value at the end, nothing where no child is.
module _ {V : Type 0} where
  pub found-at-end : (s : Shape V) (rest : List ℕ) → slice_get rest 0 ≡ None
      → found s (prefix_of s ++ rest) ≡ value_of s
  found-at-end (node prefix value width forest) rest end =
      rw (no-first rest end, strip_prefix-own prefix []) refl

  pub found-at-leaf : (s : Shape V) (rest : List ℕ) (byte : ℕ) → slice_get rest 0 ≡ Some byte
      → child_at byte (children_of s) ≡ None → found s (prefix_of s ++ rest) ≡ None
  found-at-leaf (node prefix value width forest) rest byte next absent =
      let parts = first-parts rest byte next in
      rw (
        parts.1,
        strip_prefix-own prefix (byte ∷ parts.0),
        found-below forest byte parts.0,
        absent,
      ) refl

module _ {V : Type 0} where
  -- In a new leaf the value takes one node, and those that the node's width asks for.
  pub ending-more : (s : Shape V) (rest : List ℕ) (byte : ℕ) → slice_get rest 0 ≡ Some byte
      → widenings s + 1 ≤ ending s rest
  ending-more s [] byte next = absurd (none-some byte next)
  ending-more s (b ∷ rest) byte next = omega arith

-- What a key may have as its length, each part of it may have.
pub admitted-part : (most : Option ℕ) (short long : ℕ) → short ≤ long → IsAdmitted most long
    → IsAdmitted most short
admitted-part None short long le admitted = tt
admitted-part (Some most) short long le admitted = omega (arith, le, admitted)

module _ {V : Type 0} where
  -- the bytes in common with the prefix of a node are those with that of the pointer to it
  pub matched : {n s : Shape V} {prefix : List ℕ} (key : List ℕ) {common : ℕ} → n ≡ s
      → prefix ≡ prefix_of n → common ≡ common_length prefix key
      → common ≡ common_length (prefix_of s) key
  matched key same of_node is = is ∙ ap (λ z. common_length z key) (of_node ∙ ap prefix_of same)

  -- What holds of a node before and after holds of the pointer to it.
  pub moved : (P : Shape V → Shape V → Type 0) {n s after shown : Shape V} → n ≡ s → shown ≡ after
      → P n after → P s shown
  moved P {s = s} {after} same shows holds =
      subst (P s) (sym shows) (subst (λ z. P z after) same holds)

  -- the child under a byte, and what the node is once it was changed
  pub child-here : (byte : ℕ) {n s child : Shape V} → n ≡ s
      → Some child ≡ child_at byte (children_of n) → child_at byte (children_of s) ≡ Some child
  child-here byte same is = sym (is ∙ ap (λ z. child_at byte (children_of z)) same)

  pub child-replaced : (byte : ℕ) (child : Shape V) {A : Type 0} {a : A} {found : Option A}
      {n s after : Shape V} → n ≡ s → found ≡ Some a
      → OnSome found (after ≡ with_replaced byte child n)
      → after ≡ with_replaced byte child s
  child-replaced byte child {n = n} {after = after} same is holds =
      subst (λ r. OnSome r (after ≡ with_replaced byte child n)) is holds
      ∙ ap (with_replaced byte child) same

module _ {V : Type 0} (s : Shape V) (key : List ℕ) (common : ℕ)
    (is : common ≡ common_length (prefix_of s) key) where
  pub common-fits : common ≤ length key
  common-fits = let within = (common-within (prefix_of s) key).1 in omega (arith, within, is)

  pub key-long : length key ≡ common + length (drop common key)
  key-long = let long = length-drop common key in let fits = common-fits in omega
      (arith, long, fits)

  pub rest-admitted : (most : Option ℕ) → IsAdmitted most (length key)
      → IsAdmitted most (length (drop common key))
  rest-admitted most admitted = let long = key-long in
      admitted-part most (length (drop common key)) (length key) (omega (arith, long)) admitted

  -- where the node is cut
  pub found-at-cut : common < length (prefix_of s)
      → found (cut_at common s) (prefix_of (cut_at common s) ++ drop common key) ≡ found s key
  found-at-cut lt =
      let cut : (s : Shape V) (at : ℕ) → prefix_of (cut_at at s) ≡ take at (prefix_of s) =
      λ s. elim s as (λ s. (at : ℕ) → prefix_of (cut_at at s) ≡ take at (prefix_of s))
      [ node prefix value width forest ↦ λ at. refl ] in
      let whole : take common (prefix_of s) ++ drop common key ≡ key =
      subst (λ n. take n (prefix_of s) ++ drop n key ≡ key) (sym is)
      (sym (split-common (prefix_of s) key)) in
      cut-found s common (prefix_of (cut_at common s) ++ drop common key) lt
      ∙ ap (found s) (ap (λ p. p ++ drop common key) (cut s common) ∙ whole)

  -- ---- where the whole prefix is matched
  whole-is : length (prefix_of s) ≤ common → length (prefix_of s) ≤ common_length (prefix_of s) key
  whole-is le = subst (λ n. length (prefix_of s) ≤ n) is le

  pub whole-key : length (prefix_of s) ≤ common → key ≡ prefix_of s ++ drop common key
  whole-key le = split-whole (prefix_of s) key (whole-is le)
      ∙ ap (λ n. prefix_of s ++ drop n key) (sym is)

  -- what is known of the child under the next byte
  pub found-in-child : (byte : ℕ) → length (prefix_of s) ≤ common
      → slice_get (drop common key) 0 ≡ Some byte
      → found s key ≡ option_and_then (λ child. found child (drop common key))
      (child_at byte (children_of s))
  found-in-child byte le next =
      let parts = first-parts (drop common key) byte next in
      found-child s key byte parts.0 (whole-is le) (ap (λ n. drop n key) (sym is) ∙ parts.1)
      ∙ ap (λ rest. option_and_then (λ child. found child rest) (child_at byte (children_of s)))
      (sym parts.1)

  pub path-down : (child : Shape V) (byte : ℕ) → IsBranch byte child s
      → length (prefix_of s) ≤ common → slice_get (drop common key) 0 ≡ Some byte
      → 1 + path_bound child (drop common key) ≤ path_bound s key
  path-down child byte branch le next =
      path-step s child key (drop common key) byte common branch.begins le key-long
      (begins-long byte (drop common key) (begins-first byte (drop common key) next))

  pub is-whole : {n : Shape V} {bytes : List ℕ} {count : ℕ} → n ≡ s → bytes ≡ prefix_of n
      → count ≡ length bytes → count ≤ common → length (prefix_of s) ≤ common
  is-whole same of_node long le =
      subst (λ k. k ≤ common) (long ∙ ap length (of_node ∙ ap prefix_of same)) le

  -- the whole prefix is matched: what is put behind it
  pub puts-here : {E : Type 0} (result : Result (Option V) E) (value : V) {n after shown : Shape V}
      → length (prefix_of s) ≤ common → n ≡ s → shown ≡ after
      → Puts result (prefix_of n ++ drop common key) value n after
      → Puts result key value s shown
  puts-here (Ok old) value {after = after} le same shows puts =
      let whole = sym (whole-key le) in (
        subst (IsPut key value s) (sym shows)
            (subst (λ key. IsPut key value s after) whole
            (subst (λ z. IsPut (prefix_of z ++ drop common key) value z after) same puts.0)),
        puts.1 ∙ ap (λ z. found z (prefix_of z ++ drop common key)) same ∙ ap (found s) whole,
      )
  puts-here (Err e) value le same shows kept = shows ∙ kept ∙ same

  -- ---- where the key goes on below a child
  pub puts-down : {E : Type 0} (result : Result (Option V) E) (value : V) (byte : ℕ)
      (after : Shape V) {child shown : Shape V} → IsTree s → length (prefix_of s) ≤ common
      → slice_get (drop common key) 0 ≡ Some byte → child_at byte (children_of s) ≡ Some child
      → shown ≡ with_replaced byte after s → Puts result (drop common key) value child after
      → Puts result key value s shown
  puts-down (Ok old) value byte after {child} tree le next here shows puts = (
    subst (IsPut key value s) (sym shows)
        (put-below s child after key (drop common key) byte value tree
        (whole-key le) next here puts.0),
    puts.1 ∙ sym (found-in-child byte le next
        ∙ ap (option_and_then (λ z. found z (drop common key))) here),
  )
  puts-down (Err e) value byte after {child} tree le next here shows kept =
      shows ∙ ap (λ z. with_replaced byte z s) kept
      ∙ replaced-same s byte child (ordered s tree) here

  -- Below the root a node's prefix begins with a byte of the key, so that it takes one at least.
  pub matched-some : (byte : ℕ) → BeginsWith byte (prefix_of s) → BeginsWith byte key → 1 ≤ common
  matched-some byte begins also =
      let some = common-long (prefix_of s) key byte begins also in
      omega (arith, some, is)

-- What an insertion makes of a pointer, and of the counts.
pub record Inserts {V E : Type 0} (result : Result (Option V) E) (key : List ℕ) (value : V)
    (before after : Shape V) (start now : Counts) : Type 0 where
  pub puts : Puts result key value before after
  pub counted : CountsUpTo (path_bound before key) (length key + 2) start now
  pub entered : start.entered < now.entered
  pub made : start.made < now.made
  pub made_below : (byte : ℕ) → BeginsWith byte (prefix_of before) → BeginsWith byte key
      → now.made ≤ start.made + length key + 1

-- so of a pointer to s, whose node was opened
module _ {V : Type 0} (s : Shape V) (key : List ℕ) (common : ℕ)
    (is : common ≡ common_length (prefix_of s) key) {E : Type 0} (result : Result (Option V) E)
    (value : V) {start between now : Counts}
    (opens : between ≡ record { entered = start.entered + 1; made = start.made + 1 }) where
  -- with `made` nodes made behind it
  inserted : {most : ℕ} {shown : Shape V} → Puts result key value s shown
      → CountsUpTo 0 most between now → most ≤ length (drop common key) + 1
      → Inserts result key value s shown start now
  inserted puts later few =
      let up-entered = ap (λ z. z.entered) opens in
      let up-made = ap (λ z. z.made) opens in
      let one = path-one s key in
      let long = key-long s key common is in
      let b = later.entered_grows in
      let d = later.made_grows in
      let most = later.made_at_most in
      record {
        puts = puts;
        counted = counts-then (counts-opened start between opens) later (omega (arith, one))
            (omega (arith, long, few));
        entered = omega (arith, up-entered, b);
        made = omega (arith, up-made, d);
        made_below = λ byte begins also.
            let some = matched-some s key common is byte begins also in
            omega (arith, long, some, most, few, up-made);
      }

  pub inserts-split : {n after shown : Shape V} → n ≡ s → shown ≡ after
      → Puts result key value n after → CountsUpTo 0 (length (drop common key) + 1) between now
      → Inserts result key value s shown start now
  inserts-split same shows puts counted =
      inserted (moved (Puts result key value) same shows puts) counted (omega arith)

  pub inserts-here : {n after shown : Shape V} (left : List ℕ) → left ≡ drop common key
      → length (prefix_of s) ≤ common → n ≡ s → shown ≡ after
      → Puts result (prefix_of n ++ left) value n after → CountsUpTo 0 (ending n left) between now
      → Inserts result key value s shown start now
  inserts-here {n} {after} left is-rest le same shows puts counted =
      let most = ending-most n left in
      let long = ap length is-rest in
      inserted
      (puts-here s key common is result value le same shows
      (subst (λ rest. Puts result (prefix_of n ++ rest) value n after) is-rest puts))
      counted (omega (arith, most, long))

  pub inserts-down : (byte : ℕ) (child after shown : Shape V) (left : List ℕ) → left
      ≡ drop common key
      → IsTree s → length (prefix_of s) ≤ common → slice_get left 0 ≡ Some byte
      → child_at byte (children_of s) ≡ Some child → shown ≡ with_replaced byte after s
      → Inserts result left value child after between now
      → Inserts result key value s shown start now
  inserts-down byte child after shown left is-rest tree le next here shows below =
      let up-entered = ap (λ z. z.entered) opens in
      let up-made = ap (λ z. z.made) opens in
      let inner = subst (λ rest. Inserts result rest value child after between now) is-rest below in
      let first = subst (λ rest. slice_get rest 0 ≡ Some byte) is-rest next in
      let known = branch s byte child (ordered s tree) here in
      let long = key-long s key common is in
      let path = path-down s key common is child byte known le first in
      let few = inner.made_below byte known.begins (begins-first byte (drop common key) first) in
      let few' : now.made ≤ between.made + (length (drop common key) + 1) = omega (arith, few) in
      let b = inner.entered in
      let d = inner.made in
      record {
        puts = puts-down s key common is result value byte after tree le first here shows
            inner.puts;
        counted = counts-below (length (drop common key) + 1) (counts-opened start between opens)
            inner.counted
            few' (omega (arith, path)) (omega (arith, long));
        entered = omega (arith, up-entered, b);
        made = omega (arith, up-made, d);
        made_below = λ byte begins also.
            let some = matched-some s key common is byte begins also in
            omega (arith, long, some, few, up-made);
      }
