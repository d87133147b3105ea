-- Counts along a path: each node on it is entered, and takes at least one byte of the key with it.
use Rattle.std.proofs.Common.{◌≡◌, ℕ, suc, ◌+◌, ◌<◌, ◌≤◌, cond, true, false, List, [], ◌∷◌, length, arith}
use Rattle.rart_node.specs.Counts.{Counts, CountsUpTo}
use Rattle.rart_node.specs.Shape.{Shape, node, prefix_of, entries_of, is_full_at}
use Rattle.rart_node.specs.Trees.{BeginsWith, path_bound, ending, cut_at}

pub counts-then : {entered made later_entered later_made most most_made : ℕ}
    {before between after : Counts} → CountsUpTo entered made before between
    → CountsUpTo later_entered later_made between after → entered + later_entered ≤ most
    → made + later_made ≤ most_made
    → CountsUpTo most most_made before after
counts-then first later entered made =
    let a = first.entered_grows in
    let b = first.entered_at_most in
    let c = first.made_grows in
    let d = first.made_at_most in
    let e = later.entered_grows in
    let f = later.entered_at_most in
    let g = later.made_grows in
    let h = later.made_at_most in
    record {
      entered_grows = omega (arith, a, e);
      entered_at_most = omega (arith, b, f, entered);
      made_grows = omega (arith, c, g);
      made_at_most = omega (arith, d, h, made);
    }

pub counts-most : {entered made most most_made : ℕ} {before after : Counts}
    → CountsUpTo entered made before after → entered ≤ most → made ≤ most_made
    → CountsUpTo most most_made before after
counts-most counted entered made =
    let b = counted.entered_at_most in
    let d = counted.made_at_most in
    record {
      entered_grows = counted.entered_grows;
      entered_at_most = omega (arith, b, entered);
      made_grows = counted.made_grows;
      made_at_most = omega (arith, d, made);
    }

pub counts-opened : (before after : Counts)
    → after ≡ record { entered = before.entered + 1; made = before.made + 1 }
    → CountsUpTo 1 1 before after
counts-opened before after is =
    rw is record {
      entered_grows = omega arith;
      entered_at_most = omega arith;
      made_grows = omega arith;
      made_at_most = omega arith;
    }

pub counts-entered : (before after : Counts)
    → after ≡ record before { entered = before.entered + 1 } → CountsUpTo 1 0 before after
counts-entered before after is =
    rw is record {
      entered_grows = omega arith;
      entered_at_most = omega arith;
      made_grows = omega arith;
      made_at_most = omega arith;
    }

-- the same, where the later part makes fewer nodes than it says
pub counts-below : {entered made later_entered later_made most most_made : ℕ}
    {before between after : Counts} (fewer : ℕ) → CountsUpTo entered made before between
    → CountsUpTo later_entered later_made between after → after.made ≤ between.made + fewer
    → entered + later_entered ≤ most → made + fewer ≤ most_made
    → CountsUpTo most most_made before after
counts-below fewer first later few entered made =
    let a = first.entered_grows in
    let b = first.entered_at_most in
    let c = first.made_grows in
    let d = first.made_at_most in
    let e = later.entered_grows in
    let f = later.entered_at_most in
    let g = later.made_grows in
    record {
      entered_grows = omega (arith, a, e);
      entered_at_most = omega (arith, b, f, entered);
      made_grows = omega (arith, c, g);
      made_at_most = omega (arith, d, few, made);
    }

-- where none may be made, none was
pub made-none : {entered : ℕ} {before after : Counts} → CountsUpTo entered 0 before after
    → after.made ≡ before.made
made-none counted = let grows = counted.made_grows in let most = counted.made_at_most in
    omega (arith, grows, most)

pub entered-then : {entered made : ℕ} {between after : Counts} (before : Counts)
    → before.entered < between.entered → CountsUpTo entered made between after
    → before.entered < after.entered
entered-then before some later = let grows = later.entered_grows in omega (arith, some, grows)

module _ {V : Type 0} where
  pub path-one : (s : Shape V) (key : List ℕ) → 1 ≤ path_bound s key
  path-one (node [] value width forest) key = omega arith
  path-one (node (b ∷ prefix) value width forest) key = omega arith

  pub path-most : (s : Shape V) (key : List ℕ) → path_bound s key ≤ length key + 1
  path-most (node [] value width forest) key = omega arith
  path-most (node (b ∷ prefix) value width forest) key = omega arith

  -- one node more than from the child on, where the whole prefix was matched
  pub path-step : (s child : Shape V) (key rest : List ℕ) (byte matched : ℕ)
      → BeginsWith byte (prefix_of child) → length (prefix_of s) ≤ matched
      → length key ≡ matched + length rest → 0 < length rest
      → 1 + path_bound child rest ≤ path_bound s key
  path-step s (node [] value width forest) key rest byte matched begins whole long some =
      absurd begins
  path-step (node [] old of_width children)
      (node (b ∷ prefix) value width forest) key rest byte matched begins whole long some =
      omega (arith, long, some)
  path-step (node (c ∷ above) old of_width children)
      (node (b ∷ prefix) value width forest) key rest byte matched begins whole long some =
      omega (arith, long, some, whole)

  pub ending-most : (s : Shape V) (rest : List ℕ) → ending s rest ≤ length rest + 1
  ending-most s [] = omega arith
  ending-most (node prefix value width forest) (b ∷ rest) =
      elim (is_full_at width (length (entries_of forest))) as (λ t. cond t 1 0 + 1
      ≤ suc (length rest) + 1) [ true ↦ omega arith | false ↦ omega arith ]

  pub ending-cut : (s : Shape V) (at : ℕ) (rest : List ℕ) → ending (cut_at at s) rest ≤ length rest
  ending-cut (node prefix value width forest) at [] = omega arith
  ending-cut (node prefix value width forest) at (b ∷ rest) = omega arith

-- So many nodes were entered at most, and none made.
pub counts-none_made : {most : ℕ} {start now : Counts} → start.entered ≤ now.entered →
    now.entered ≤ start.entered + most → now.made ≡ start.made → CountsUpTo most 0 start now
counts-none_made grows most made =
    record {
      entered_grows = grows;
      entered_at_most = most;
      made_grows = omega (arith, made);
      made_at_most = omega (arith, made);
    }
