-- Children that a way passes: the first of them is where the pairs behind it begin.
use Rattle.std.proofs.Common.{◌≡◌, ◌+◌, ◌<◌, ◌≤◌, ℕ, true, false, cond, List, [], ◌∷◌, ◌++◌, Option, Some, None, is_some, arith, sym, ap, subst, ◌∙◌}
use Rattle.std.specs.Prelude.{nat_le, ◌-◌, ◌^◌}
use Rattle.std.proofs.lemmas.List.{append_assoc}
use Rattle.rart_below.specs.Children.{children_from}
use Rattle.rart_node.specs.Counts.{Counts, CountsUpTo}
use Rattle.rart_node.specs.Shape.{Shape, Forest, node, bare, grown, prefix_of, children_of, entries_of}
use Rattle.rart_ways.specs.Starts.{IsStart, StartAt, AreTurns, IsDeep, start_length}
use Rattle.rart_node.specs.Trees.{IsTree, AreBranches, pairs_of}
use Rattle.rart_node.proofs.CountingLemmas.{counts-then, counts-none_made}
use Rattle.rart_node.proofs.PrefixRestLemmas.{begins-long}
use Rattle.rart_node.specs.PairsBehind.{behind_path, pairs_of_all, AreShort}
use Rattle.rart_node.proofs.BehindLemmas.{behind-append, short-front}

module _ {V : Type 0} where
  branch-turns : (forest : Forest V) → AreBranches forest → AreTurns (entries_of forest)
  branch-turns bare branches = tt
  branch-turns (grown byte child forest) branches =
      (branches.1, begins-long byte (prefix_of child) branches.0, branch-turns forest branches.2)

  pub tree-turns : (s : Shape V) → IsTree s → AreTurns (children_of s)
  tree-turns (node prefix value width forest) tree = branch-turns forest tree.1

  pub later-turns : (least : ℕ) (children : List (ℕ × Shape V)) → AreTurns children
      → AreTurns (children_from least children)
  later-turns least [] turns = tt
  later-turns least (child ∷ children) turns =
      let rest = later-turns least children turns.2 in
      elim (nat_le least child.0) as (λ t.
      AreTurns (cond t (child ∷ children_from least children) (children_from least children)))
      [ true ↦ (turns.0, turns.1, rest) | false ↦ rest ]

  module _ (ahead : List (List ℕ × V)) (path : List ℕ) (children : List (ℕ × Shape V)) (byte : ℕ)
      (child : Shape V) (rest : List (ℕ × Shape V)) (is : children ≡ (byte, child) ∷ rest)
      (turns : AreTurns children) where
    first-turns : AreTurns ((byte, child) ∷ rest)
    first-turns = subst AreTurns is turns

    pub turn-deep : IsDeep (Some (path, child))
    turn-deep = first-turns.1

    pub turn-first : AreShort (Some (2 ^ 64 - 1)) (behind_path path (pairs_of_all children))
        → IsStart (behind_path path (pairs_of_all children) ++ ahead) path child
    turn-first short =
        let split : behind_path path (pairs_of_all children)
        ≡ behind_path path (pairs_of child) ++ behind_path path (pairs_of_all rest) =
        ap (λ cs. behind_path path (pairs_of_all cs)) is
        ∙ behind-append path (pairs_of child) (pairs_of_all rest) in
        record {
          tree = first-turns.0;
          short =
              short-front (Some (2 ^ 64 - 1)) (behind_path path (pairs_of child))
              (behind_path path (pairs_of_all rest))
              (subst (AreShort (Some (2 ^ 64 - 1))) split short);
          others = behind_path path (pairs_of_all rest) ++ ahead;
          is = ap (λ z. z ++ ahead) split
              ∙ append_assoc (behind_path path (pairs_of child))
              (behind_path path (pairs_of_all rest)) ahead;
        }

  -- A node behind a turn is at most one, and its prefix makes up for it.
  one-turn : (start : Option (List ℕ × Shape V)) → cond (is_some start) 1 0 ≤ 1
  one-turn None = omega arith
  one-turn (Some start) = omega arith

  deep-turn : (start : Option (List ℕ × Shape V)) → IsDeep start
      → cond (is_some start) 1 0 ≤ start_length start
  deep-turn None deep = omega arith
  deep-turn (Some start) deep = omega (arith, deep)

  -- The node where the first of these pairs stand is found. At most `most` nodes are entered, and
  -- one more where its prefix has a byte; and one at least.
  pub record FindsStart (pairs : List (List ℕ × V)) (most : ℕ)
      (found : Option (List ℕ × Shape V)) (before after : Counts) : Type 0 where
    pub start : StartAt pairs found
    pub counted : CountsUpTo (most + start_length found) 0 before after
    pub soon : CountsUpTo (most + 1) 0 before after
    pub entered : before.entered < after.entered

  -- What a turn leads to is found, once the way has entered a node.
  pub found-turn : (pairs : List (List ℕ × V)) (most : ℕ) (before after later : Counts)
      → CountsUpTo most 0 before after → before.entered < after.entered
      → (turn opened : Option (List ℕ × Shape V)) → opened ≡ turn
      → later.entered ≡ after.entered + cond (is_some opened) 1 0 → later.made ≡ after.made
      → IsDeep turn → StartAt pairs turn → FindsStart pairs most opened before later
  found-turn pairs most before after later counted first turn opened shown entered made deep at =
      let one : CountsUpTo (cond (is_some opened) 1 0) 0 after later =
      counts-none_made (omega (arith, entered)) (omega (arith, entered)) made in
      let few = deep-turn opened (subst IsDeep (sym shown) deep) in
      record {
        start = subst (StartAt pairs) (sym shown) at;
        counted = counts-then counted one (omega (arith, few)) (omega arith);
        soon = counts-then counted one (omega (arith, one-turn opened)) (omega arith);
        entered = omega (arith, first, entered);
      }
