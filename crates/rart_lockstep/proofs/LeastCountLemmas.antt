-- How many nodes a way down two trees enters at least: two for each key in common, but for the two
-- nodes at which it starts.
use Rattle.std.proofs.Common.{◌≡◌, ◌+◌, ◌*◌, ◌≤◌, ℕ, false, List, [], ◌∷◌, ◌++◌, Option, Some, None, Result, Ok, Err, length, take, drop, refl, ap, ◌∙◌, arith}
use Rattle.std.specs.Prelude.{IsTrue, OnOk, OnErr}
use Rattle.std.specs.List.{filter_map, cons_option}
use Rattle.std.specs.Option.{option_map}
use Rattle.std.specs.Result.{IsErr}
use Rattle.std.proofs.lemmas.Bool.{false≢true}
use Rattle.std.proofs.lemmas.List.{length-append}
use Rattle.rart_below.specs.Children.{child_at}
use Rattle.rart_node.specs.Counts.{Counts}
use Rattle.rart_node.specs.Shape.{Shape, node, bare, grown, prefix_of, children_of, entries_of}
use Rattle.rart_node.specs.Trees.{IsTree, own_pair, found, pairs_of}
use Rattle.rart_node.specs.PairsBehind.{behind_path}
use Rattle.rart_lockstep.specs.Children.{common_children}
use Rattle.rart_lockstep.specs.CommonPairs.{common_pairs}
use Rattle.rart_lockstep.specs.Entries.{own_entry, behind_key}
use Rattle.rart_lockstep.specs.PairCursors.{CommonBytes}
use Rattle.rart_lockstep.specs.TreeCursors.{behind_bytes, value_here, next_children, children_next}
use Rattle.rart_lockstep.proofs.ChildLemmas.{common-none, common-first}
use Rattle.rart_lockstep.proofs.CommonLemmas.{common_of_all}
use Rattle.rart_lockstep.proofs.PairStepLemmas.{tree-with, own-none, one-ends, common_pairs-step, common_pairs-next_children, common_pairs-apart}

-- ---- how long some lists are
one-option : {A : Type 0} (o : Option A) → length (cons_option o []) ≤ 1
one-option None = omega arith
one-option (Some a) = omega arith

met-few : {A B : Type 0} (f : A → Option B) (list : List A) → length (filter_map f list) ≤ length list
met-few f [] = omega arith
met-few {A} {B} f (a ∷ list) =
    let later = met-few f list in
    elim (f a) as (λ o. length (cons_option o (filter_map f list)) ≤ length (a ∷ list)) [
      | None ↦ omega (arith, later)
      | Some b ↦ omega (arith, later)
    ]

module _ {V : Type 0} where
  key-length : (path : List ℕ) (entries : List (List ℕ × V × V))
      → length (behind_key path entries) ≡ length entries
  key-length path [] = refl
  key-length path (entry ∷ entries) = let later = key-length path entries in omega (arith, later)

  own-one : (path : List ℕ) (one other : Option V) → length (own_entry path one other) ≤ 1
  own-one path None other = omega arith
  own-one path (Some one) None = omega arith
  own-one path (Some one) (Some other) = omega arith

  own-few : (value : Option V) → length (own_pair value) ≤ 1
  own-few None = omega arith
  own-few (Some value) = omega arith

  -- Two leaves have one key in common at most.
  leaf-few : (s : Shape V) → children_of s ≡ [] → length (pairs_of s) ≤ 1
  leaf-few (node prefix value width bare) leaf =
      let own = own-few value in
      let all = length-append (own_pair value) [] in
      let long = path-length prefix (own_pair value ++ []) in
      omega (arith, own, all, long)
    where
      path-length : (path : List ℕ) (list : List (List ℕ × V))
          → length (behind_path path list) ≡ length list
      path-length path [] = refl
      path-length path (pair ∷ list) = let later = path-length path list in omega (arith, later)
  leaf-few (node prefix value width (grown byte child forest)) leaf =
      let some = ap length leaf in absurd (omega (arith, some))

  pub leaves-few : (s t : Shape V) → children_of s ≡ [] → length (common_pairs s t) ≤ 1
  leaves-few s t leaf =
      let few = met-few {B = List ℕ × V × V}
      (λ pair. option_map (λ x. (pair.0, pair.1, x)) (found t pair.0)) (pairs_of s) in
      let one = leaf-few s leaf in
      omega (arith, few, one)

  -- ---- a step enters two nodes, or one where one side goes on alone: then there is one step
  -- the nodes that steps enter less than two
  abbrev pub spared : List ℕ → List ℕ → List (ℕ × (Shape V × Shape V)) → ℕ
  spared [] [] steps = 0
  spared [] (b ∷ q) steps = length steps
  spared (b ∷ p) q steps = length steps

  spared-next : (p q : List ℕ) (step : ℕ × (Shape V × Shape V))
      (steps : List (ℕ × (Shape V × Shape V)))
      → spared p q (step ∷ steps) + children_next p q ≡ spared p q steps + 2
  spared-next [] [] step steps = omega arith
  spared-next [] (b ∷ q) step steps = omega arith
  spared-next (b ∷ p) q step steps = omega arith

  -- Where one node is spared, no key ends here.
  own-spared : (x y : Shape V) → IsTree x
      → 2 * length (own_entry [] (value_here x) (value_here y))
      + spared (prefix_of x) (prefix_of y) (common_children (next_children x) (next_children y)) ≤ 2
  own-spared (node [] value width forest) (node [] other w below) tree =
      let one = own-one [] value other in omega (arith, one)
  own-spared (node [] value width forest) (node (b ∷ q) other w below) tree =
      let t : Shape V = node (b ∷ q) other w below in
      let children = entries_of forest in
      let none = ap length (own-none [] value) in
      let steps = ap length (common-first children b t [] tree.0 refl
      ∙ ap (cons_option (option_map (λ one. (b, (one, t))) (child_at b children)))
      (common-none children)) in
      let step : Option (ℕ × (Shape V × Shape V)) =
      option_map (λ one. (b, (one, t))) (child_at b children) in
      let one = one-option step in
      omega (arith, none, steps, one)
  own-spared (node (b ∷ p) value width forest) y tree =
      let s : Shape V = node (b ∷ p) value width forest in
      let step : Option (ℕ × (Shape V × Shape V)) =
      option_map (λ other. (b, (s, other))) (child_at b (next_children y)) in
      let one = one-option step in
      omega (arith, one)

  -- ---- the way down
  -- Two nodes are entered for each key in common that is not below the steps that are left.
  pub record EntersLeast (s t : Shape V) (count : ℕ) (left : List (ℕ × (Shape V × Shape V)))
      (before now : Counts) : Type 0 where
    pub enough : before.entered + 2 * length (common_pairs s t)
        + spared (prefix_of (behind_bytes count s)) (prefix_of (behind_bytes count t)) left
        ≤ now.entered + 2 + 2 * length (common_of_all left)

  module _ (s t : Shape V) (count : ℕ) where
    pub least-start : CommonBytes s t (Some count) → IsTree s → (before : Counts)
        → EntersLeast s t count (common_children (next_children (behind_bytes count s))
        (next_children (behind_bytes count t))) before before
    least-start common tree before =
        let x = behind_bytes count s in
        let y = behind_bytes count t in
        let x_tree = tree-with s (drop count (prefix_of s)) tree in
        let own = own_entry [] (value_here x) (value_here y) in
        let steps = common_children (next_children x) (next_children y) in
        let here = ap length (common_pairs-step s t count common.0) in
        let there = key-length (take count (prefix_of s)) (common_pairs x y) in
        let parts = ap length (common_pairs-next_children x y x_tree (one-ends s t count common)) in
        let sum = length-append own (common_of_all steps) in
        let few = own-spared x y x_tree in
        record { enough = omega (arith, here, there, parts, sum, few) }

    -- The next step was taken, and the way gone from there.
    pub least-next : (byte : ℕ) (x y : Shape V) (left : List (ℕ × (Shape V × Shape V)))
        (nodes : ℕ) (before now opened after : Counts)
        → nodes ≡ children_next (prefix_of (behind_bytes count s)) (prefix_of (behind_bytes count t))
        → EntersLeast s t count ((byte, (x, y)) ∷ left) before now
        → opened ≡ record now { entered = now.entered + nodes }
        → opened.entered + 2 * length (common_pairs x y) ≤ after.entered + 2
        → EntersLeast s t count left before after
    least-next byte x y left nodes before now opened after step so_far opens below =
        let enough = so_far.enough in
        let entered = ap (λ work. work.entered) opens in
        let fewer = spared-next (prefix_of (behind_bytes count s))
        (prefix_of (behind_bytes count t)) (byte, (x, y)) left in
        let sum = length-append (common_pairs x y) (common_of_all left) in
        record { enough = omega (arith, enough, entered, fewer, sum, step, below) }

    -- No step is left.
    pub least-end : (left : List (ℕ × (Shape V × Shape V))) (before now after : Counts)
        → EntersLeast s t count left before now → left ≡ []
        → after ≡ record now { entered = now.entered + 0 }
        → before.entered + 2 * length (common_pairs s t) ≤ after.entered + 2
    least-end left before now after so_far none still =
        let enough = so_far.enough in
        let entered = ap (λ work. work.entered) still in
        let over = ap (λ left. length (common_of_all left)) none in
        omega (arith, enough, entered, over)

  -- Where nothing is in common, no node need be entered.
  pub least-apart : (s t : Shape V) → CommonBytes s t None → (before : Counts)
      → before.entered + 2 * length (common_pairs s t) ≤ before.entered + 2
  least-apart s t apart before =
      let none = ap length (common_pairs-apart s t apart) in omega (arith, none)

  pub least-leaves : (s t : Shape V) → children_of s ≡ [] → (before : Counts)
      → before.entered + 2 * length (common_pairs s t) ≤ before.entered + 2
  least-leaves s t leaf before = let few = leaves-few s t leaf in omega (arith, few)

  -- From the roots, with both entered.
  pub least-roots : {E : Type 0} (s t x y : Shape V) → x ≡ s → y ≡ t
      → (before opened after : Counts) (result : Result (Unit {0}) E)
      → opened ≡ record before { entered = before.entered + 2 }
      → OnOk result (opened.entered + 2 * length (common_pairs x y) ≤ after.entered + 2)
      → OnOk result (before.entered + 2 * length (common_pairs s t) ≤ after.entered)
  least-roots s t x y left right before opened after (Ok done) opens least =
      let two = ap (λ work. work.entered) opens in
      let one = ap (λ x. length (common_pairs x y)) left in
      let other = ap (λ y. length (common_pairs s y)) right in
      omega (arith, two, one, other, least)
  least-roots s t x y left right before opened after (Err refused) opens least = tt

-- What is refused owes nothing, and what can't be refused owes all.
pub least-refused : {E : Type 0} (Owes : Type 0) (result : Result (Unit {0}) E) → IsErr result
    → OnOk result Owes
least-refused Owes (Ok done) is = absurd (false≢true is)
least-refused Owes (Err refused) is = tt

pub least-sure : {E : Type 0} (Owes : Type 0) (result : Result (Unit {0}) E)
    → OnErr result (IsTrue false) → OnOk result Owes → Owes
least-sure Owes (Ok done) sure least = least
least-sure Owes (Err refused) sure least = absurd (false≢true sure)
