-- The way down first children to the least pair of a tree.
use Rattle.std.proofs.Common.{◌≡◌, ◌+◌, ◌<◌, ◌≤◌, ℕ, List, [], ◌∷◌, ◌++◌, Some, None, length, take, drop, refl, arith, sym, ap, subst, ◌∙◌, Bool, false}
use Rattle.std.specs.Prelude.{◌-◌, ◌^◌}
use Rattle.std.proofs.lemmas.List.{append-nil, length-append}
use Rattle.rart_below.specs.Children.{child_at}
use Rattle.rart_below.proofs.AscendingLemmas.{child_at-here}
use Rattle.rart_node.specs.Shape.{Shape, height, prefix_of, value_of, children_of}
use Rattle.rart_ways.specs.Firsts.{IsFirst, first_passes}
use Rattle.rart_ways.specs.Starts.{IsStart}
use Rattle.rart_ways.proofs.TurnLemmas.{tree-turns, turn-first, turn-deep}
use Rattle.rart_node.specs.Trees.{IsTree, pairs_of}
use Rattle.rart_node.proofs.FindLemmas.{branch, ordered, tree-some}
use Rattle.rart_node.specs.PairsBehind.{behind_path, pairs_of_all, pending_pair, AreShort}
use Rattle.rart_node.proofs.BehindLemmas.{pairs-entered, short-pending, tree-has-pair}

module _ {V : Type 0} where
  pub start-whole : (path : List ℕ) (s : Shape V) → IsTree s
      → AreShort (Some (2 ^ 64 - 1)) (behind_path path (pairs_of s))
      → IsStart (behind_path path (pairs_of s)) path s
  start-whole path s tree short = record {
    tree = tree;
    short = short;
    others = [];
    is = sym (append-nil (behind_path path (pairs_of s)));
  }

  module _ (whole : List (List ℕ × V)) (above : List ℕ) (s : Shape V)
      (at : IsStart whole above s) where
    -- the length of the path to what is below the node is a number
    pub start-fits : length above + length (prefix_of s) < 2 ^ 64
    start-fits =
        let has = tree-has-pair s at.tree in
        let short = subst (λ z. AreShort (Some (2 ^ 64 - 1)) (behind_path above z)) has.first
        at.short in
        let le = short 0 (above ++ (prefix_of s ++ has.behind), has.value) (omega arith) in
        let long = length-append above (prefix_of s ++ has.behind) in
        let more = length-append (prefix_of s) has.behind in
        omega (arith, le, long, more)

    entered : whole ≡ (pending_pair (above ++ prefix_of s) (value_of s)
        ++ behind_path (above ++ prefix_of s) (pairs_of_all (children_of s))) ++ at.others
    entered = at.is ∙ ap (λ z. z ++ at.others) (pairs-entered above s)

    -- the node has a value
    pub first-here : (value : V) → value_of s ≡ Some value → (len : ℕ) (before after : List ℕ)
        → len ≡ length (above ++ prefix_of s)
        → (len ≤ length before → take len after ≡ above ++ prefix_of s)
        → drop len after ≡ drop len before → IsFirst whole len value before after
    first-here value some len before after long written behind = record {
      key = above ++ prefix_of s;
      others =
          behind_path (above ++ prefix_of s) (pairs_of_all (children_of s)) ++ at.others;
      first =
          entered ∙ ap (λ o. (pending_pair (above ++ prefix_of s) o
          ++ behind_path (above ++ prefix_of s) (pairs_of_all (children_of s))) ++ at.others) some;
      long = long;
      written = written;
      behind = behind;
    }

    -- it has none, and a first child
    module _ (none : value_of s ≡ None) (byte : ℕ) (child : Shape V) (rest : List (ℕ × Shape V))
        (is : children_of s ≡ (byte, child) ∷ rest) where
      pub first-below : IsStart whole (above ++ prefix_of s) child
      first-below =
          let path = above ++ prefix_of s in
          let short =
          short-pending (Some (2 ^ 64 - 1)) path (value_of s)
          (behind_path path (pairs_of_all (children_of s)))
          (subst (AreShort (Some (2 ^ 64 - 1))) (pairs-entered above s) at.short) in
          subst (λ z. IsStart z path child)
          (sym (entered ∙ ap (λ o. (pending_pair path o
          ++ behind_path path (pairs_of_all (children_of s))) ++ at.others) none))
          (turn-first at.others path (children_of s) byte child rest is
          (tree-turns s at.tree) short)

      pub first-lower : height child < height s
      first-lower =
          (branch s byte child (ordered s at.tree)
          (ap (child_at byte) is ∙ child_at-here byte byte child rest refl)).lower

      pub first-deep : 0 < length (prefix_of child)
      first-deep =
          turn-deep at.others above (children_of s) byte child rest is (tree-turns s at.tree)

  -- a node without a value has a child
  pub none-some : (s : Shape V) → IsTree s → value_of s ≡ None → children_of s ≡ [] → ⊥
  none-some s tree none no-child =
      let some = tree-some s tree none in
      let count = ap length no-child in
      omega (arith, some, count)

-- ---- the first of the pairs, by its key
module _ {V : Type 0} where
  abbrev first_key : List (List ℕ × V) → List ℕ
  first_key [] = []
  first_key (pair ∷ pairs) = pair.0

  module _ (whole : List (List ℕ × V)) (above : List ℕ) (s : Shape V)
      (at : IsStart whole above s) (pair : List ℕ × V) (others : List (List ℕ × V))
      (is : whole ≡ pair ∷ others) where
    -- it goes on behind the prefix of the node
    pub first-goes : (more : List ℕ) × (pair.0 ≡ above ++ (prefix_of s ++ more))
    first-goes =
        let has = tree-has-pair s at.tree in (
          has.behind,
          ap first_key (sym is ∙ at.is
              ∙ ap (λ z. behind_path above z ++ at.others) has.first),
        )

    -- where that has a value, it ends there
    pub first-ends : (value : V) → value_of s ≡ Some value → pair.0 ≡ above ++ prefix_of s
    first-ends value some =
        ap first_key (sym is ∙ at.is ∙ ap (λ z. z ++ at.others) (pairs-entered above s)
        ∙ ap (λ o. (pending_pair (above ++ prefix_of s) o
        ++ behind_path (above ++ prefix_of s) (pairs_of_all (children_of s))) ++ at.others) some)

  pub passes-none : (test : List ℕ → Bool) (kept : List (List ℕ × V)) → kept ≡ []
      → false ≡ first_passes test kept
  passes-none test kept none = sym (ap (first_passes test) none)

  -- what is told of the first pair of a tree is told of all
  pub passes-start : (test : List ℕ → Bool) (kept : List (List ℕ × V)) (path : List ℕ)
      (s : Shape V) → IsStart kept path s → (told : Bool)
      → ((pair : List ℕ × V) (others : List (List ℕ × V))
      → behind_path path (pairs_of s) ≡ pair ∷ others → told ≡ test pair.0)
      → told ≡ first_passes test kept
  passes-start test kept path s at told each =
      let has = tree-has-pair s at.tree in
      let first = ap (behind_path path) has.first in
      each (path ++ (prefix_of s ++ has.behind), has.value) (behind_path path has.others) first
      ∙ sym (ap (first_passes test) (at.is ∙ ap (λ z. z ++ at.others) first))
