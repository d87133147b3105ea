-- Where the last of some pairs stands: at a pair or a child that a way passes, and down last
-- children from there.
use Rattle.std.proofs.Common.{◌≡◌, ◌+◌, ◌<◌, ◌≤◌, ℕ, true, false, cond, List, [], ◌∷◌, ◌++◌, Option, Some, None, IsSome, length, take, drop, reverse, refl, arith, sym, ap, subst, ◌∙◌}
use Rattle.std.specs.Prelude.{nat_lt, ◌-◌, ◌^◌}
use Rattle.std.proofs.lemmas.List.Elements.{All-filter}
use Rattle.std.proofs.lemmas.List.{append-nil, append_assoc, reverse-append}
use Rattle.rart_below.specs.Children.{child_at, children_below, IsAscending, IsLastOf}
use Rattle.rart_node.specs.Shape.{Shape, height, prefix_of, value_of, children_of}
use Rattle.rart_node.specs.Trees.{IsTree, pairs_of}
use Rattle.rart_below.specs.Laws.{IsBelow}
use Rattle.rart_below.proofs.AscendingLemmas.{ascending_parts, below_parts, child_at-here, child_at-later}
use Rattle.rart_node.proofs.FindLemmas.{ascending, branch, ordered, tree-some}
use Rattle.rart_node.specs.PairsBehind.{behind_path, pairs_of_all, pending_pair, AreShort}
use Rattle.rart_node.proofs.BehindLemmas.{behind-append, pairs-entered, short-back}
use Rattle.rart_ways.specs.Firsts.{IsFirst}
use Rattle.rart_ways.specs.Lasts.{EndAt, IsEnd, pairs_to}
use Rattle.rart_ways.specs.Besides.{is_to}
use Rattle.rart_ways.specs.declared.seeking.Edge.{Edge}
use Rattle.rart_ways.specs.Starts.{AreTurns}
use Rattle.rart_ways.specs.declared.seeking.end.Last.{Last}
use Rattle.rart_ways.proofs.LeastLemmas.{start-fits, start-whole}
use Rattle.rart_ways.proofs.TurnLemmas.{tree-turns}

module _ {V : Type 0} where
  turns-below : (end : ℕ) (children : List (ℕ × Shape V)) → AreTurns children
      → AreTurns (children_below end children)
  turns-below end [] turns = tt
  turns-below end (child ∷ children) turns =
      let rest = turns-below end children turns.2 in
      elim (nat_lt child.0 end) as (λ t.
      AreTurns (cond t (child ∷ children_below end children) (children_below end children)))
      [ true ↦ (turns.0, turns.1, rest) | false ↦ rest ]

  last-turns : (others : List (ℕ × Shape V)) (byte : ℕ) (child : Shape V)
      → AreTurns (others ++ (byte, child) ∷ []) → IsTree child × (0 < length (prefix_of child))
  last-turns [] byte child turns = (turns.0, turns.1)
  last-turns (other ∷ others) byte child turns = last-turns others byte child turns.2

  -- the last child is a tree, whose prefix has a byte
  pub last-fits : (children : List (ℕ × Shape V)) (child : Shape V)
      → IsLastOf children (Some child) → AreTurns children
      → IsTree child × (0 < length (prefix_of child))
  last-fits children child last turns =
      last-turns last.0 last.1 child (subst AreTurns last.2 turns)

  pub last-below-fits : (end : ℕ) (children : List (ℕ × Shape V)) (child : Shape V)
      → IsLastOf (children_below end children) (Some child) → AreTurns children
      → IsTree child × (0 < length (prefix_of child))
  last-below-fits end children child last turns =
      last-fits (children_below end children) child last (turns-below end children turns)

  pairs-append : (front back : List (ℕ × Shape V))
      → pairs_of_all (front ++ back) ≡ pairs_of_all front ++ pairs_of_all back
  pairs-append [] back = refl
  pairs-append (child ∷ front) back =
      ap (λ rest. pairs_of child.1 ++ rest) (pairs-append front back)
      ∙ sym (append_assoc (pairs_of child.1) (pairs_of_all front) (pairs_of_all back))

  -- the pairs of some children end with those of the last one
  pub last-end : (passed : List (List ℕ × V)) (path : List ℕ) (children : List (ℕ × Shape V))
      (child : Shape V) → IsLastOf children (Some child) → IsTree child
      → IsEnd (passed ++ behind_path path (pairs_of_all children)) path child
  last-end passed path children child last tree =
      let others = behind_path path (pairs_of_all last.0) in
      record {
        tree = tree;
        others = passed ++ others;
        is = ap (λ z. passed ++ behind_path path z)
            (ap pairs_of_all last.2 ∙ pairs-append last.0 ((last.1, child) ∷ [])
            ∙ ap (λ z. pairs_of_all last.0 ++ z) (append-nil (pairs_of child)))
            ∙ ap (λ z. passed ++ z) (behind-append path (pairs_of_all last.0) (pairs_of child))
            ∙ sym (append_assoc passed others (behind_path path (pairs_of child)));
      }

  -- there is no such child
  pub no-turn : (passed : List (List ℕ × V)) (path : List ℕ) (children : List (ℕ × Shape V))
      (turn : Option (List ℕ × Last V (Shape V))) → children ≡ [] → EndAt passed turn
      → EndAt (passed ++ behind_path path (pairs_of_all children)) turn
  no-turn passed path children turn none at =
      subst (λ pairs. EndAt pairs turn)
      (sym (ap (λ z. passed ++ behind_path path (pairs_of_all z)) none ∙ append-nil passed)) at

  last-above : (least : ℕ) (others : List (ℕ × Shape V)) (byte : ℕ) (child : Shape V)
      → IsBelow least (others ++ (byte, child) ∷ []) → least < byte
  last-above least [] byte child below = (below_parts least (byte, child) [] below).0
  last-above least (other ∷ others) byte child below =
      last-above least others byte child
      (below_parts least other (others ++ (byte, child) ∷ []) below).1

  child_at-last : (others : List (ℕ × Shape V)) (byte : ℕ) (child : Shape V)
      → IsAscending (others ++ (byte, child) ∷ [])
      → child_at byte (others ++ (byte, child) ∷ []) ≡ Some child
  child_at-last [] byte child order = child_at-here byte byte child [] refl
  child_at-last (other ∷ others) byte child order =
      let parts = ascending_parts other (others ++ (byte, child) ∷ []) order in
      child_at-later byte other.0 other.1 (others ++ (byte, child) ∷ [])
      (last-above other.0 others byte child parts.0)
      ∙ child_at-last others byte child parts.1

  has-some : (value : Option V) → (value ≡ None → ⊥) → IsSome value
  has-some None never = absurd (never refl)
  has-some (Some value) never = refl

  -- ---- down last children
  module _ (whole : List (List ℕ × V)) (above : List ℕ) (s : Shape V) (at : IsEnd whole above s)
    where
      -- the pairs of the node are in order behind the others
      end-entered : whole ≡ (at.others ++ pending_pair (above ++ prefix_of s) (value_of s))
          ++ behind_path (above ++ prefix_of s) (pairs_of_all (children_of s))
      end-entered =
          at.is ∙ ap (λ z. at.others ++ z) (pairs-entered above s)
          ∙ sym (append_assoc at.others (pending_pair (above ++ prefix_of s) (value_of s))
          (behind_path (above ++ prefix_of s) (pairs_of_all (children_of s))))

      -- the length of the path to what is below the node is a number
      pub end-fits : AreShort (Some (2 ^ 64 - 1)) whole
          → length above + length (prefix_of s) < 2 ^ 64
      end-fits brief =
          let short =
          short-back (Some (2 ^ 64 - 1)) at.others (behind_path above (pairs_of s))
          (subst (AreShort (Some (2 ^ 64 - 1))) at.is brief) in
          start-fits (behind_path above (pairs_of s)) above s (start-whole above s at.tree short)

      pub last-deeper : (child : Shape V) → IsLastOf (children_of s) (Some child)
          → IsEnd whole (above ++ prefix_of s) child
      last-deeper child last =
          subst (λ pairs. IsEnd pairs (above ++ prefix_of s) child) (sym end-entered)
          (last-end (at.others ++ pending_pair (above ++ prefix_of s) (value_of s))
          (above ++ prefix_of s) (children_of s) child last
          (last-fits (children_of s) child last (tree-turns s at.tree)).0)

      pub last-deep : (child : Shape V) → IsLastOf (children_of s) (Some child)
          → 0 < length (prefix_of child)
      last-deep child last = (last-fits (children_of s) child last (tree-turns s at.tree)).1

      -- without children the node has a value
      pub end-own : children_of s ≡ [] → IsSome (value_of s)
      end-own none =
          has-some (value_of s) (λ missing.
          let some = tree-some s at.tree missing in
          let count = ap length none in
          omega (arith, some, count))

      pub last-lower : (child : Shape V) → IsLastOf (children_of s) (Some child)
          → height child < height s
      last-lower child last =
          let order = ordered s at.tree in
          (branch s last.1 child order (ap (child_at last.1) last.2
          ∙ child_at-last last.0 last.1 child (subst IsAscending last.2 (ascending s order)))).lower

      pub last-here : (value : V) → value_of s ≡ Some value → children_of s ≡ [] → (len : ℕ)
          (before after : List ℕ) → len ≡ length (above ++ prefix_of s)
          → (len ≤ length before → take len after ≡ above ++ prefix_of s)
          → drop len after ≡ drop len before → IsFirst (reverse whole) len value before after
      last-here value some none len before after long written behind = record {
        key = above ++ prefix_of s;
        others = reverse at.others;
        first =
            ap reverse (end-entered
            ∙ ap (λ z. (at.others ++ pending_pair (above ++ prefix_of s) (value_of s))
            ++ behind_path (above ++ prefix_of s) (pairs_of_all z)) none
            ∙ append-nil (at.others ++ pending_pair (above ++ prefix_of s) (value_of s))
            ∙ ap (λ o. at.others ++ pending_pair (above ++ prefix_of s) o) some)
            ∙ reverse-append at.others ((above ++ prefix_of s, value) ∷ []);
        long = long;
        written = written;
        behind = behind;
      }

  -- ---- the last pair, as its calls know it
  pub end-whole : (path : List ℕ) (s : Shape V) → IsTree s
      → IsEnd (behind_path path (pairs_of s)) path s
  end-whole path s tree = record { tree = tree; others = []; is = refl }

  -- the last of those of the node is the last of all
  pub last-of-all : (pairs : List (List ℕ × V)) (path : List ℕ) (s : Shape V)
      → IsEnd pairs path s → (len : ℕ) (value : V) (before after : List ℕ)
      → IsFirst (reverse (behind_path path (pairs_of s))) len value before after
      → IsFirst (reverse pairs) len value before after
  last-of-all pairs path s at len value before after found = record {
    key = found.key;
    others = found.others ++ reverse at.others;
    first =
        ap reverse at.is ∙ reverse-append at.others (behind_path path (pairs_of s))
        ∙ ap (λ z. z ++ reverse at.others) found.first;
    long = found.long;
    written = found.written;
    behind = found.behind;
  }

  -- a pair that the way passed is the last
  pub last-passed : (pairs others : List (List ℕ × V)) (path : List ℕ) (value : V)
      → pairs ≡ others ++ (path, value) ∷ [] → (len : ℕ) (before after : List ℕ)
      → len ≡ length path → (len ≤ length before → take len after ≡ path)
      → drop len after ≡ drop len before → IsFirst (reverse pairs) len value before after
  last-passed pairs others path value is len before after long written behind = record {
    key = path;
    others = reverse others;
    first = ap reverse is ∙ reverse-append others ((path, value) ∷ []);
    long = long;
    written = written;
    behind = behind;
  }

  -- keys of a tree that are short are so below a node of it
  pub end-short : (edge : Edge) (high : List ℕ) (root : Shape V) (path : List ℕ) (s : Shape V)
      → IsEnd (pairs_to edge high root) path s → AreShort (Some (2 ^ 64 - 1)) (pairs_of root)
      → AreShort (Some (2 ^ 64 - 1)) (behind_path path (pairs_of s))
  end-short edge high root path s at short =
      short-back (Some (2 ^ 64 - 1)) at.others (behind_path path (pairs_of s))
      (subst (AreShort (Some (2 ^ 64 - 1))) at.is
      (All-filter (λ (pair : List ℕ × V). is_to edge high pair.0)
      (λ (pair : List ℕ × V). length pair.0 ≤ 2 ^ 64 - 1) (pairs_of root) short))
