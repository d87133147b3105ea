-- How many nodes the way down two trees enters: two for each string ahead at most.
use Rattle.std.proofs.Common.{◌≡◌, ◌≤◌, ◌+◌, ◌*◌, ℕ, true, List, [], ◌∷◌, ◌++◌, take, drop, refl, ap, subst, arith}
use Rattle.std.specs.Prelude.{sum_by}
use Rattle.std.specs.FinSet as set
use Rattle.rart_below.specs.Bytes.{common_length}
use Rattle.rart_node.specs.Counts.{Counts, CountsUpTo}
use Rattle.rart_node.specs.Shape.{Shape, prefix_of}
use Rattle.rart_node.specs.Trees.{BeginsWith, IsTree}
use Rattle.rart_node.proofs.PrefixRestLemmas.{begins-common}
use Rattle.rart_maps.specs.Pairs.{Strings}
use Rattle.rart_maps.specs.StartLaws.{how_many_under, with_byte}
use Rattle.rart_maps.proofs.StartLemmas.{under-byte}
use Rattle.rart_lockstep.specs.Children.{common_children}
use Rattle.rart_lockstep.specs.CommonPairs.{shared_of}
use Rattle.rart_lockstep.specs.TreeCursors.{behind_bytes, next_children}
use Rattle.rart_lockstep.specs.Steps.{HasShared, EntersBelow, common_start}
use Rattle.rart_lockstep.proofs.SharedLemmas.{shared-roots, shared-matched, shared-within, shared-here, ahead-all, ahead-matched, ahead-some, ahead-children, ahead-next}
use Rattle.rart_lockstep.proofs.PairStepLemmas.{left-split, right-split, tree-with}
use Rattle.rart_lockstep.proofs.NextChildLemmas.{IsArm, pairs-ascending}

-- A string that begins with the byte begins no more than the byte does.
pub ahead-first : (strings : Strings) (above prefix : List ℕ) (byte : ℕ) → BeginsWith byte prefix
    → how_many_under strings (above ++ prefix) ≤ how_many_under strings (with_byte above byte)
ahead-first strings above [] byte begins = absurd begins
ahead-first strings above (b ∷ rest) byte begins =
    subst (λ c. how_many_under strings (above ++ (b ∷ rest))
    ≤ how_many_under strings (with_byte above c)) begins (under-byte strings above b rest)

module _ {V : Type 0} where
  -- how many strings are ahead below these pairs
  abbrev pub ahead_below : Strings → List ℕ → List (ℕ × (Shape V × Shape V)) → ℕ
  ahead_below strings above pairs =
      sum_by (λ pair. how_many_under strings (with_byte above pair.0)) pairs

  -- The way down from s and t has gone through all pairs but the rest, and entered two nodes for
  -- each string ahead there.
  pub record EntersUpTo (s t : Shape V) (all rest : List (ℕ × (Shape V × Shape V)))
      (before now : Counts) : Type 0 where
    pub grows : before.entered ≤ now.entered
    pub made : now.made ≡ before.made
    pub most : (strings : Strings) (above : List ℕ) → HasShared strings above s t
        → now.entered + 2 * ahead_below strings above rest
        ≤ before.entered + 2 * ahead_below strings above all

  pub enters-start : (s t : Shape V) (all : List (ℕ × (Shape V × Shape V))) (before : Counts)
      → EntersUpTo s t all all before before
  enters-start s t all before = record {
    grows = omega arith;
    made = refl;
    most = λ strings above has. omega arith;
  }

  -- The next pair was opened, and the way down from it gone.
  pub enters-next : (s t : Shape V) (all rest : List (ℕ × (Shape V × Shape V))) (byte : ℕ)
      (x y : Shape V) (before now opened after : Counts)
      → EntersUpTo s t all ((byte, (x, y)) ∷ rest) before now → IsArm s byte x → IsArm t byte y
      → CountsUpTo 2 0 now opened → EntersBelow x y opened after
      → EntersUpTo s t all rest before after
  enters-next s t all rest byte x y before now opened after so_far left right two below =
      let a = so_far.grows in
      let b = so_far.made in
      let c = two.entered_grows in
      let d = two.entered_at_most in
      let e = two.made_grows in
      let f = two.made_at_most in
      let g = below.0 in
      let h = below.1 in
      record {
        grows = omega (arith, a, c, g);
        made = omega (arith, b, e, f, h);
        most = λ strings above has.
            let most = so_far.most strings above has in
            let inside = shared-within strings above s t has x y left.within right.within in
            let entered = below.2 strings above inside in
            let begins = begins-common (prefix_of x) (prefix_of y) byte left.begins right.begins in
            let fewer = ahead-first strings above (common_start (prefix_of x) (prefix_of y)) byte
            begins in
            let sum = ahead-next strings above (byte, (x, y)) rest in
            omega (arith, most, entered, fewer, sum, d);
      }

  module _ (s t : Shape V) (left : IsTree s) (right : IsTree t) where
    start_has : (count : ℕ) → count ≡ common_length (prefix_of s) (prefix_of t)
        → (strings : Strings) (above : List ℕ) → HasShared strings above s t
        → HasShared strings (above ++ take count (prefix_of s)) (behind_bytes count s)
        (behind_bytes count t)
    start_has count is strings above has =
        shared-matched strings above s t has (take count (prefix_of s))
        (drop count (prefix_of s)) (drop count (prefix_of t)) (left-split s t count is)
        (right-split s t count is)

    start_there : (strings : Strings) (above : List ℕ) → HasShared strings above s t
        → set.contains strings (above ++ common_start (prefix_of s) (prefix_of t)) ≡ true
    start_there strings above has =
        let count = common_length (prefix_of s) (prefix_of t) in
        shared-here strings (above ++ take count (prefix_of s)) (behind_bytes count s)
        (behind_bytes count t) (start_has count refl strings above has)
        (tree-with s (drop count (prefix_of s)) left)
        (tree-with t (drop count (prefix_of t)) right)

    -- The way down ended where it started, with no node entered.
    pub enters-none : (before : Counts) → EntersBelow s t before before
    enters-none before = (
      omega arith,
      refl,
      λ strings above has.
          let some = ahead-some strings (above ++ common_start (prefix_of s) (prefix_of t))
          (start_there strings above has) in
          omega (arith, some),
    )

    -- It ended behind some of the pairs to which the next bytes lead, or behind all.
    pub enters-end : (count : ℕ) (rest : List (ℕ × (Shape V × Shape V))) (before after : Counts)
        → count ≡ common_length (prefix_of s) (prefix_of t)
        → EntersUpTo (behind_bytes count s) (behind_bytes count t)
        (common_children (next_children (behind_bytes count s))
        (next_children (behind_bytes count t))) rest
        before after
        → EntersBelow s t before after
    enters-end count rest before after is up_to = (
      up_to.grows,
      up_to.made,
      λ strings above has.
          let x = behind_bytes count s in
          let y = behind_bytes count t in
          let path = above ++ take count (prefix_of s) in
          let there = start_has count is strings above has in
          let x_tree = tree-with s (drop count (prefix_of s)) left in
          let y_tree = tree-with t (drop count (prefix_of t)) right in
          let here = shared-here strings path x y there x_tree y_tree in
          let parts = ahead-children strings path here
          (common_children (next_children x) (next_children y))
          (pairs-ascending x y x_tree) in
          let most = up_to.most strings path there in
          let same = ap (λ n. how_many_under strings (above ++ take n (prefix_of s))) is in
          omega (arith, parts, most, same),
    )

  -- The next pair was opened, and no node below it entered.
  pub enters-past : (s t : Shape V) (all rest : List (ℕ × (Shape V × Shape V))) (byte : ℕ)
      (x y : Shape V) (before now opened : Counts)
      → EntersUpTo s t all ((byte, (x, y)) ∷ rest) before now → IsArm s byte x → IsArm t byte y
      → CountsUpTo 2 0 now opened → EntersUpTo s t all rest before opened
  enters-past s t all rest byte x y before now opened so_far left right two =
      enters-next s t all rest byte x y before now opened opened so_far left right two
      (enters-none x y left.tree right.tree opened)

  -- From the roots, with both opened.
  pub enters-roots : (s t : Shape V) (before opened after : Counts)
      → opened.entered ≡ before.entered + 2 → opened.made ≡ before.made
      → EntersBelow s t opened after
      → CountsUpTo (2 * set.len (shared_of s t)) 0 before after
      × (before.entered + 2 ≤ after.entered)
  enters-roots s t before opened after two none below =
      let strings = shared_of s t in
      let a = below.0 in
      let b = below.1 in
      let most = below.2 strings [] (shared-roots s t) in
      let fewer = ahead-matched strings [] (common_start (prefix_of s) (prefix_of t)) in
      let all = ahead-all strings in (
        record {
          entered_grows = omega (arith, two, a);
          entered_at_most = omega (arith, two, most, fewer, all);
          made_grows = omega (arith, none, b);
          made_at_most = omega (arith, none, b);
        },
        omega (arith, two, a),
      )
