-- Where two trees stand on the way down both, and how many strings that begin keys of both roots
-- are still ahead there: each step down comes to one that no other step comes to.
use Rattle.std.proofs.Common.{◌≡◌, ◌≤◌, ◌+◌, ℕ, true, cond, List, [], ◌∷◌, ◌++◌, refl, sym, ap, subst, ◌∙◌, arith}
use Rattle.std.specs.Prelude.{Contains, sum_by}
use Rattle.std.specs.FinSet as set
use Rattle.std.proofs.lemmas.Bool.{and_from}
use Rattle.std.proofs.lemmas.Cmp.{nat_list_cmp_total}
use Rattle.std.proofs.lemmas.List.{append-nil, append_assoc}
use Rattle.std.proofs.lemmas.List.Sums.{sum_by-cons}
use Rattle.rart_below.specs.Children.{IsAscending}
use Rattle.rart_node.specs.Shape.{Shape, prefix_of, with_prefix}
use Rattle.rart_node.specs.Trees.{pairs_of, IsTree}
use Rattle.rart_node.proofs.KeyLemmas.{tree-has-pair}
use Rattle.rart_maps.specs.Pairs.{Strings}
use Rattle.rart_maps.specs.StartLaws.{how_many_under, with_byte}
use Rattle.rart_maps.proofs.ElementLemmas.{Contains-here, Contains-map}
use Rattle.rart_maps.proofs.StartLemmas.{starts-all, begins-behind, at_least-children, len-strings_under-append, under-all}
use Rattle.rart_lockstep.specs.CommonPairs.{starts_of, shared_of}
use Rattle.rart_lockstep.specs.Steps.{HasShared}
use Rattle.rart_lockstep.proofs.CommonLemmas.{pairs-matched, with_prefix-is}

module _ {V : Type 0} where
  -- The roots share the strings that begin keys of both.
  pub shared-roots : (left right : Shape V) → HasShared (shared_of left right) [] left right
  shared-roots left right one other in_left in_right u is also =
      set.contains-intersection nat_list_cmp_total (starts_of (pairs_of left))
      (starts_of (pairs_of right)) u
      ∙ and_from (set.contains (starts_of (pairs_of left)) u)
      (set.contains (starts_of (pairs_of right)) u)
      (starts-all (pairs_of left) one in_left u is)
      (starts-all (pairs_of right) other in_right u also)

  -- a pair of the tree without the first bytes, in the tree with them
  pair-matched : (s : Shape V) (u p : List ℕ) → prefix_of s ≡ u ++ p → (pair : List ℕ × V)
      → Contains (pairs_of (with_prefix p s)) pair
      → Contains (pairs_of s) (u ++ pair.0, pair.1)
  pair-matched s u p is pair there =
      let whole = ap pairs_of (with_prefix-is s (u ++ p) is) ∙ pairs-matched s u p in
      subst (λ pairs. Contains pairs (u ++ pair.0, pair.1)) (sym whole)
      (Contains-map (λ pair. (u ++ pair.0, pair.1)) (pairs_of (with_prefix p s)) pair there)

  -- every pair of the one tree is one of the other
  abbrev pub IsWithin : Shape V → Shape V → Type 0
  IsWithin inner outer =
      (pair : List ℕ × V) → Contains (pairs_of inner) pair → Contains (pairs_of outer) pair

  module _ (strings : Strings) (above : List ℕ) (s t : Shape V)
      (has : HasShared strings above s t) where
    -- What both prefixes begin with has been matched.
    pub shared-matched : (u p q : List ℕ) → prefix_of s ≡ u ++ p → prefix_of t ≡ u ++ q
        → HasShared strings (above ++ u) (with_prefix p s) (with_prefix q t)
    shared-matched u p q left right one other in_left in_right v is also =
        ap (set.contains strings) (append_assoc above u v)
        ∙ has (u ++ one.0, one.1) (u ++ other.0, other.1)
        (pair-matched s u p left one in_left) (pair-matched t u q right other in_right)
        (u ++ v) (begins-behind u v one.0 is) (begins-behind u v other.0 also)

    pub shared-within : (x y : Shape V) → IsWithin x s → IsWithin y t
        → HasShared strings above x y
    shared-within x y left right one other in_left in_right =
        has one other (left one in_left) (right other in_right)

    -- The bytes above begin a key of either root.
    pub shared-here : IsTree s → IsTree t → set.contains strings above ≡ true
    shared-here left right =
        let one = tree-has-pair s left in
        let other = tree-has-pair t right in
        let pair : List ℕ × V = (prefix_of s ++ one.0, one.1) in
        let other_pair : List ℕ × V = (prefix_of t ++ other.0, other.1) in
        ap (set.contains strings) (sym (append-nil above))
        ∙ has pair other_pair
        (subst (λ pairs. Contains pairs pair) (sym one.3) (Contains-here pair one.2))
        (subst (λ pairs. Contains pairs other_pair) (sym other.3)
        (Contains-here other_pair other.2)) [] refl refl

-- ---- how many strings of a set are still ahead

-- All of them at first.
pub ahead-all : (strings : Strings) → how_many_under strings [] ≡ set.len strings
ahead-all strings = ap set.len (under-all strings)

-- Matched bytes leave no more.
pub ahead-matched : (strings : Strings) (above u : List ℕ)
    → how_many_under strings (above ++ u) ≤ how_many_under strings above
ahead-matched strings above u = len-strings_under-append strings above u

module _ (strings : Strings) (above : List ℕ) (here : set.contains strings above ≡ true) where
  -- The bytes above are one of them.
  pub ahead-some : 1 ≤ how_many_under strings above
  ahead-some =
      let most = at_least-children {C = ℕ} strings above [] refl in
      let one = ap {B = ℕ} (λ b. cond b 1 0) here in
      omega (arith, most, one)

  -- Over the bytes of children there are fewer in sum.
  pub ahead-children : {C : Type 0} (children : List (ℕ × C)) → IsAscending children
      → 1 + sum_by (λ child. how_many_under strings (with_byte above child.0)) children
      ≤ how_many_under strings above
  ahead-children children ascending =
      let most = at_least-children strings above children ascending in
      let one = ap {B = ℕ} (λ b. cond b 1 0) here in
      omega (arith, most, one)

-- the sum over one child, and over those behind it
pub ahead-next : {C : Type 0} (strings : Strings) (above : List ℕ) (child : ℕ × C)
    (children : List (ℕ × C))
    → sum_by (λ child. how_many_under strings (with_byte above child.0)) (child ∷ children)
    ≡ how_many_under strings (with_byte above child.0)
    + sum_by (λ child. how_many_under strings (with_byte above child.0)) children
ahead-next strings above child children =
    sum_by-cons (λ child. how_many_under strings (with_byte above child.0)) child children
