-- The pairs whose key begins a probe, one node at a time.
use Rattle.std.proofs.Common.{◌≡◌, ◌-◌, ◌<◌, ◌≤◌, ℕ, List, [], ◌∷◌, ◌++◌, Option, Some, None, length, take, drop, refl, arith, sym, ap, ◌∙◌, append_assoc, take-append-drop}
use Rattle.std.proofs.lemmas.List.{length-append}
use Rattle.std.specs.Prelude.{filter}
use Rattle.rart_node.specs.Shape.{Shape, node, prefix_of, value_of, height}
use Rattle.rart_node.specs.Trees.{strip_prefix, IsTree}
use Rattle.rart_below.specs.Bytes.{begins}
use Rattle.rart_node.proofs.PrefixRestLemmas.{strip_prefix-is}
use Rattle.rart_node.proofs.FindLemmas.{branch, ordered}
use Rattle.rart_ways.specs.Steps.{child_under}
use Rattle.rart_ways.proofs.StepLemmas.{take-front, own-first, under}
use Rattle.rart_walks.specs.Frames.{behind_path, pending_pair}
use Rattle.rart_node.proofs.PrefixMatchLemmas.{matches_of, matches_at, matches_of-left}
use Rattle.rart_node.proofs.BehindLemmas.{behind-none}
use Rattle.rart_versioned.specs.Iterators.{height_in, matches_below}
use Rattle.rart_versioned.specs.Roots.{IsTreeIn, pairs_in}

drop-front : (front rest : List ℕ) → drop (length front) (front ++ rest) ≡ rest
drop-front [] rest = refl
drop-front (b ∷ front) rest = drop-front front rest

-- ---- a step down the probe, past a prefix
module _ (probe : List ℕ) (depth : ℕ) (prefix rest : List ℕ)
    (is : strip_prefix prefix (drop depth probe) ≡ Some rest) where
  abbrev pub after : ℕ
  after = length probe - length rest

  probe-is : probe ≡ (take depth probe ++ prefix) ++ rest
  probe-is =
      sym (take-append-drop depth probe)
      ∙ ap (λ more. take depth probe ++ more) (strip_prefix-is prefix (drop depth probe) rest is)
      ∙ sym (append_assoc (take depth probe) prefix rest)

  after-is : after ≡ length (take depth probe ++ prefix)
  after-is =
      let whole = ap length probe-is in
      let parts = length-append (take depth probe ++ prefix) rest in
      omega (arith, whole, parts)

  pub rest-short : length rest ≤ length probe
  rest-short =
      let whole = ap length probe-is in
      let parts = length-append (take depth probe ++ prefix) rest in
      omega (arith, whole, parts)

  pub take-after : take after probe ≡ take depth probe ++ prefix
  take-after =
      ap (λ n. take n probe) after-is
      ∙ ap (take (length (take depth probe ++ prefix))) probe-is
      ∙ take-front (take depth probe ++ prefix) rest

  pub drop-after : drop after probe ≡ rest
  drop-after =
      ap (λ n. drop n probe) after-is
      ∙ ap (drop (length (take depth probe ++ prefix))) probe-is
      ∙ drop-front (take depth probe ++ prefix) rest

module _ {V : Type 0} where
  -- what the child of a node has that the rest of the probe leads to
  below-is : (probe rest : List ℕ) (depth : ℕ) (key : List ℕ) (o : Option (Shape V)) →
      take depth probe ≡ key → drop depth probe ≡ rest →
      behind_path key (matches_at rest o) ≡ matches_below probe depth o
  below-is probe rest depth key None front back = refl
  below-is probe rest depth key (Some child) front back =
      ap (λ k. behind_path k (matches_of rest child)) (sym front)
      ∙ ap (λ w. behind_path (take depth probe) (matches_of w child)) (sym back)

  -- At the root no byte of the probe stands above.
  pub matches-all : (probe : List ℕ) (o : Option (Shape V)) →
      matches_below probe 0 o ≡ filter (λ pair. begins pair.0 probe) (pairs_in o)
  matches-all probe None = refl
  matches-all probe (Some s) = behind-none (matches_of probe s)

  -- At a node whose prefix the probe leaves nothing matches.
  pub matches-left : (probe : List ℕ) (depth : ℕ) (s : Shape V) →
      strip_prefix (prefix_of s) (drop depth probe) ≡ None → matches_below probe depth (Some s) ≡ []
  matches-left probe depth s left =
      ap (behind_path (take depth probe)) (matches_of-left s (drop depth probe) left)

  -- At a node whose prefix the probe has, its own pair comes first, and then what its child has.
  pub matches-here : (probe : List ℕ) (depth : ℕ) (s : Shape V) (rest : List ℕ) → IsTree s →
      (is : strip_prefix (prefix_of s) (drop depth probe) ≡ Some rest) →
      matches_below probe depth (Some s)
      ≡ pending_pair (take (after probe depth (prefix_of s) rest is) probe) (value_of s)
      ++ matches_below probe (after probe depth (prefix_of s) rest is)
      (child_under rest s)
  matches-here probe depth s rest tree is =
      let above = take depth probe in
      let key = above ++ prefix_of s in
      let depth' = after probe depth (prefix_of s) rest is in
      let child = child_under rest s in
      let front = take-after probe depth (prefix_of s) rest is in
      own-first above s (drop depth probe) rest tree is
      ∙ ap (λ k. pending_pair k (value_of s) ++ behind_path key (matches_at rest child)) (sym front)
      ∙ ap (λ later. pending_pair (take depth' probe) (value_of s) ++ later)
      (below-is probe rest depth' key child front
      (drop-after probe depth (prefix_of s) rest is))

  height-some : (s : Shape V) → 0 < height s
  height-some (node prefix value width forest) = omega arith

  -- The child that the rest of the probe leads to is a tree, and lower.
  pub child-tree : (s : Shape V) (rest : List ℕ) → IsTree s → (o : Option (Shape V)) →
      o ≡ child_under rest s → IsTreeIn o
  child-tree s rest tree None here = tt
  child-tree s rest tree (Some child) here = let at-byte = under rest s child here in
      (branch s at-byte.byte child (ordered s tree) (sym at-byte.here)).tree

  pub child-lower : (s : Shape V) (rest : List ℕ) → IsTree s → (o : Option (Shape V)) →
      o ≡ child_under rest s → height_in o < height s
  child-lower s rest tree None here = height-some s
  child-lower s rest tree (Some child) here = let at-byte = under rest s child here in
      (branch s at-byte.byte child (ordered s tree) (sym at-byte.here)).lower
