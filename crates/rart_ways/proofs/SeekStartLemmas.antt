-- The way down to where the first of the pairs from a bound on stands.
use Rattle.std.proofs.Common.{◌≡◌, ℕ, suc, true, List, [], ◌∷◌, ◌++◌, Option, Some, None, length, take, refl, arith, sym, ap, subst, ◌∙◌}
use Rattle.std.specs.Prelude.{◌-◌, ◌^◌}
use Rattle.std.proofs.lemmas.List.{append_assoc, append-nil, length-append}
use Rattle.rart_below.specs.Children.{child_at, children_from}
use Rattle.rart_node.specs.Counts.{Counts}
use Rattle.rart_node.specs.Shape.{Shape, prefix_of, value_of, children_of}
use Rattle.rart_ways.specs.Starts.{IsStart, StartAt, AreTurns, is_from}
use Rattle.rart_ways.specs.declared.seeking.Edge.{Edge}
use Rattle.rart_ways.proofs.FromLemmas.{from-goes}
use Rattle.rart_ways.proofs.TurnLemmas.{tree-turns, later-turns}
use Rattle.rart_node.specs.Trees.{IsTree, own_pair, pairs_of}
use Rattle.rart_node.proofs.SearchLemmas.{IsSearchAt, search-start}
use Rattle.rart_node.specs.PairsBehind.{behind_path, pairs_of_all, pairs_inside, AreShort}
use Rattle.rart_node.proofs.GatherLemmas.{keeping, kept_at, pairs-gathered, all-gathered}
use Rattle.rart_node.proofs.AlongLemmas.{own_pair-ends, parted-below}
use Rattle.rart_node.proofs.SublistLemmas.{later-short, child-short}
use Rattle.rart_node.proofs.BehindLemmas.{behind-append, behind-behind, behind-none, pairs-entered, short-pending}

-- The front of a string, by the length of its rest.
pub front-of : (low path rest : List ℕ) → low ≡ path ++ rest
    → take (length low - length rest) low ≡ path
front-of low path rest is =
    let long = ap length is ∙ length-append path rest in
    let count : length low - length rest ≡ length path = omega (arith, long) in
    ap (λ n. take n low) count ∙ ap (take (length path)) is ∙ take-front path
  where
    take-front : (front : List ℕ) → take (length front) (front ++ rest) ≡ front
    take-front [] = refl
    take-front (b ∷ front) = ap (λ z. b ∷ z) (take-front front)

module _ {V : Type 0} (edge : Edge) (low : List ℕ) where
  abbrev pub from_low : Shape V → List (List ℕ × V)
  from_low root = keeping (is_from edge low) (pairs_of root)

  -- The way has come to the node s, with this rest of the string: from the bound on there are the
  -- pairs of the node from the rest on, behind the path, and then those ahead.
  pub record IsSeekAt (root : Shape V) (start : Counts) (s : Shape V) (rest : List ℕ)
      (now : Counts) (path : List ℕ) (ahead : List (List ℕ × V)) : Type 0 where
    pub at : IsSearchAt root low start s rest now
    pub path_is : low ≡ path ++ rest
    pub short : AreShort (Some (2 ^ 64 - 1)) (behind_path path (pairs_of s))
    pub kept :
        from_low root ≡ behind_path path (keeping (is_from edge rest) (pairs_of s)) ++ ahead

  pub seek-start : (root : Shape V) (start : Counts) → IsTree root
      → AreShort (Some (2 ^ 64 - 1)) (pairs_of root) → IsSeekAt root start root low start [] []
  seek-start root start tree short = record {
    at = search-start root low start tree;
    path_is = refl;
    short = subst (AreShort (Some (2 ^ 64 - 1))) (sym (behind-none (pairs_of root))) short;
    kept = sym (append-nil (behind_path [] (from_low root)) ∙ behind-none (from_low root));
  }

  module _ (root : Shape V) (start : Counts) (s : Shape V) (rest : List ℕ) (now : Counts)
      (path : List ℕ) (ahead : List (List ℕ × V))
      (seek : IsSeekAt root start s rest now path ahead) where
    parted : (part : List (List ℕ × V)) → keeping (is_from edge rest) (pairs_of s) ≡ part
        → from_low root ≡ behind_path path part ++ ahead
    parted part is = seek.kept ∙ ap (λ z. behind_path path z ++ ahead) is

    -- all of the node is kept
    pub ends-with-all : keeping (is_from edge rest) (pairs_of s) ≡ pairs_of s
        → IsStart (from_low root) (take (length low - length rest) low) s
    ends-with-all all =
        subst (λ p. IsStart (from_low root) p s) (sym (front-of low path rest seek.path_is))
        (record {
          tree = seek.at.tree;
          short = seek.short;
          others = ahead;
          is = parted (pairs_of s) all;
        })

    -- nothing of it is
    pub ends-with-none : (turn : Option (List ℕ × Shape V)) → StartAt ahead turn
        → keeping (is_from edge rest) (pairs_of s) ≡ [] → StartAt (from_low root) turn
    ends-with-none turn at none = subst (λ z. StartAt z turn) (sym (parted [] none)) at

    children-short : AreShort (Some (2 ^ 64 - 1))
        (behind_path (path ++ prefix_of s) (pairs_of_all (children_of s)))
    children-short =
        short-pending (Some (2 ^ 64 - 1)) (path ++ prefix_of s) (value_of s)
        (behind_path (path ++ prefix_of s) (pairs_of_all (children_of s)))
        (subst (AreShort (Some (2 ^ 64 - 1))) (pairs-entered path s) seek.short)

    pub children-turns : AreTurns (children_of s)
    children-turns = tree-turns s seek.at.tree

    -- what is below it is kept, but not its own
    module _ (end : rest ≡ prefix_of s) where
      whole : path ++ prefix_of s ≡ low
      whole = sym (seek.path_is ∙ ap (λ z. path ++ z) end)

      pub inside-short : AreShort (Some (2 ^ 64 - 1))
          (behind_path low (pairs_of_all (children_of s)))
      inside-short =
          subst (λ p. AreShort (Some (2 ^ 64 - 1)) (behind_path p (pairs_of_all (children_of s))))
          whole children-short

      pub ends-inside : (turn : Option (List ℕ × Shape V))
          → StartAt (behind_path low (pairs_of_all (children_of s)) ++ ahead) turn
          → keeping (is_from edge rest) (pairs_of s) ≡ pairs_inside s
          → StartAt (from_low root) turn
      ends-inside turn at inside =
          subst (λ z. StartAt z turn) (sym (parted (pairs_inside s) inside
          ∙ ap (λ z. z ++ ahead)
          (behind-behind path (prefix_of s) (pairs_of_all (children_of s))
          ∙ ap (λ p. behind_path p (pairs_of_all (children_of s))) whole))) at

    -- the way goes on behind its prefix
    module _ (byte : ℕ) (more : List ℕ) (goes : rest ≡ prefix_of s ++ (byte ∷ more)) where
      abbrev pub later : List (ℕ × Shape V)
      later = children_from (suc byte) (children_of s)

      deeper : low ≡ (path ++ prefix_of s) ++ (byte ∷ more)
      deeper =
          seek.path_is ∙ ap (λ z. path ++ z) goes
          ∙ sym (append_assoc path (prefix_of s) (byte ∷ more))

      pub front-deeper : take (length low - length (byte ∷ more)) low ≡ path ++ prefix_of s
      front-deeper = front-of low (path ++ prefix_of s) (byte ∷ more) deeper

      pub later-fits : AreTurns later
      later-fits = later-turns (suc byte) (children_of s) children-turns

      pub later-brief : AreShort (Some (2 ^ 64 - 1))
          (behind_path (take (length low - length (byte ∷ more)) low) (pairs_of_all later))
      later-brief =
          subst (λ p. AreShort (Some (2 ^ 64 - 1)) (behind_path p (pairs_of_all later)))
          (sym front-deeper)
          (later-short (Some (2 ^ 64 - 1)) (path ++ prefix_of s) true (suc byte) (children_of s)
          children-short)

      -- what is ahead behind the child under the byte
      abbrev pub passed : List (List ℕ × V)
      passed = behind_path (path ++ prefix_of s) (pairs_of_all later) ++ ahead

      pub turn-passed : (turn : Option (List ℕ × Shape V))
          → StartAt (behind_path (take (length low - length (byte ∷ more)) low)
          (pairs_of_all later) ++ ahead) turn → StartAt passed turn
      turn-passed turn at =
          subst (λ p. StartAt (behind_path p (pairs_of_all later) ++ ahead) turn) front-deeper at

      -- of the child under the byte, and then what is behind it
      goes-below : from_low root
          ≡ behind_path (path ++ prefix_of s)
          (kept_at own_pair (is_from edge (byte ∷ more)) (child_at byte (children_of s)))
          ++ passed
      goes-below =
          let deep = path ++ prefix_of s in
          let below = kept_at own_pair (is_from edge (byte ∷ more))
          (child_at byte (children_of s)) in
          parted (behind_path (prefix_of s) (below ++ pairs_of_all later))
          (ap (λ r. keeping (is_from edge r) (pairs_of s)) goes
          ∙ ap (keeping (is_from edge (prefix_of s ++ (byte ∷ more)))) (pairs-gathered s)
          ∙ parted-below own_pair own_pair-ends (is_from edge) true (from-goes edge) s byte more
          seek.at.tree
          ∙ ap (λ z. behind_path (prefix_of s) (below ++ z)) (sym (all-gathered later)))
          ∙ ap (λ z. z ++ ahead) (behind-behind path (prefix_of s) (below ++ pairs_of_all later)
          ∙ behind-append deep below (pairs_of_all later))
          ∙ append_assoc (behind_path deep below) (behind_path deep (pairs_of_all later)) ahead

      pub ends-missing : (turn : Option (List ℕ × Shape V)) → StartAt passed turn
          → child_at byte (children_of s) ≡ None → StartAt (from_low root) turn
      ends-missing turn at none =
          subst (λ z. StartAt z turn) (sym (goes-below
          ∙ ap (λ o. behind_path (path ++ prefix_of s)
          (kept_at own_pair (is_from edge (byte ∷ more)) o) ++ passed) none)) at

      pub seek-child : (child : Shape V) (after : Counts)
          → IsSearchAt root low start child (byte ∷ more) after
          → child_at byte (children_of s) ≡ Some child
          → IsSeekAt root start child (byte ∷ more) after (path ++ prefix_of s) passed
      seek-child child after at here = record {
        at = at;
        path_is = deeper;
        short =
            child-short (Some (2 ^ 64 - 1)) (path ++ prefix_of s) byte (children_of s) child here
            children-short;
        kept =
            goes-below ∙ ap (λ o. behind_path (path ++ prefix_of s)
            (kept_at own_pair (is_from edge (byte ∷ more)) o) ++ passed) here
            ∙ ap (λ z. behind_path (path ++ prefix_of s) (keeping (is_from edge (byte ∷ more)) z)
            ++ passed) (sym (pairs-gathered child));
      }
