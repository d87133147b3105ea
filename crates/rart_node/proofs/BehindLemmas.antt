-- The pairs of a node behind the path to it: its own, and those of its children; that a tree has
-- one; and that the keys of some of them are short where those of all are.
use Rattle.std.proofs.Common.{◌≡◌, ◌≤◌, ℕ, suc, List, [], ◌∷◌, ◌++◌, Option, Some, None, length, refl, arith, sym, ap, ◌∙◌}
use Rattle.std.proofs.lemmas.Bool.{false≢true}
use Rattle.std.proofs.lemmas.List.Elements.{All-append, All-nil, All-cons}
use Rattle.std.proofs.lemmas.List.{append_assoc, append-nil, map-append, length-append}
use Rattle.rart_below.specs.Bytes.{IsAdmitted}
use Rattle.rart_node.specs.PairsBehind.{AreShort, behind_path, pairs_of_all, pending_pair}
use Rattle.rart_node.specs.Shape.{Shape, Forest, node, bare, grown, prefix_of, value_of, children_of, entries_of}
use Rattle.rart_node.specs.Trees.{IsTree, own_pair, pairs_of, pairs_below}

pub short-none : (V : Type 0) (greatest : Option ℕ) → AreShort {V = V} greatest []
short-none V None = tt
short-none V (Some most) = All-nil (λ (pair : List ℕ × V). length pair.0 ≤ most)

module _ {V : Type 0} where
  -- ---- pairs behind a path
  pub behind-append : (path : List ℕ) (front back : List (List ℕ × V))
      → behind_path path (front ++ back) ≡ behind_path path front ++ behind_path path back
  behind-append path front back = map-append (λ pair. (path ++ pair.0, pair.1)) front back

  pub behind-behind : (path more : List ℕ) (pairs : List (List ℕ × V))
      → behind_path path (behind_path more pairs) ≡ behind_path (path ++ more) pairs
  behind-behind path more [] = refl
  behind-behind path more (pair ∷ pairs) = let key = sym (append_assoc path more pair.0) in
      λ i. (key i, pair.1) ∷ behind-behind path more pairs i

  pub behind-none : (pairs : List (List ℕ × V)) → behind_path [] pairs ≡ pairs
  behind-none [] = refl
  behind-none (pair ∷ pairs) = ap (λ rest. pair ∷ rest) (behind-none pairs)

  -- ---- a node by its parts
  pub below-all : (forest : Forest V) → pairs_below forest ≡ pairs_of_all (entries_of forest)
  below-all bare = refl
  below-all (grown byte child forest) = ap (λ rest. pairs_of child ++ rest) (below-all forest)

  strip_prefix-own : (path prefix : List ℕ) (value : Option V)
      → behind_path path (behind_path prefix (own_pair value)) ≡ pending_pair (path ++ prefix) value
  strip_prefix-own path prefix None = refl
  strip_prefix-own path prefix (Some value) =
      ap (λ key. (path ++ key, value) ∷ []) (append-nil prefix)

  -- the pairs of a node that is entered: its own, and those of its children
  pub pairs-entered : (path : List ℕ) (s : Shape V)
      → behind_path path (pairs_of s) ≡ pending_pair (path ++ prefix_of s) (value_of s)
      ++ behind_path (path ++ prefix_of s) (pairs_of_all (children_of s))
  pairs-entered path (node prefix value width forest) =
      ap (behind_path path) (behind-append prefix (own_pair value) (pairs_below forest))
      ∙ behind-append path (behind_path prefix (own_pair value))
      (behind_path prefix (pairs_below forest))
      ∙ ap (λ own. own ++ behind_path path (behind_path prefix (pairs_below forest)))
      (strip_prefix-own path prefix value)
      ∙ ap (λ rest. pending_pair (path ++ prefix) value ++ rest)
      (behind-behind path prefix (pairs_below forest)
      ∙ ap (behind_path (path ++ prefix)) (below-all forest))

  -- ---- a node has a key, which begins with its prefix
  pub record HasPair (s : Shape V) : Type 0 where
    pub behind : List ℕ
    pub value : V
    pub others : List (List ℕ × V)
    pub first : pairs_of s ≡ (prefix_of s ++ behind, value) ∷ others

  pub tree-has-pair : (s : Shape V) → IsTree s → HasPair s
  tree-has-pair (node prefix (Some value) width forest) tree =
      record {
        behind = [];
        value = value;
        others = behind_path prefix (pairs_below forest);
        first = refl;
      }
  tree-has-pair (node prefix None width bare) tree = absurd (false≢true tree.2)
  tree-has-pair (node prefix None width (grown byte child forest)) tree =
      let below = tree-has-pair child tree.1.1 in
      record {
        behind = prefix_of child ++ below.behind;
        value = below.value;
        others = behind_path prefix (below.others ++ pairs_below forest);
        first = ap (λ pairs. behind_path prefix (pairs ++ pairs_below forest)) below.first;
      }

  pub short-rest : (greatest : Option ℕ) (pair : List ℕ × V) (pairs : List (List ℕ × V))
      → AreShort greatest (pair ∷ pairs) → AreShort greatest pairs
  short-rest None pair pairs short = tt
  short-rest (Some most) pair pairs short = λ k d lt. short (suc k) d (omega (arith, lt))

  pub short-first : (greatest : Option ℕ) (path more : List ℕ) (value : V) (pairs : List (List ℕ × V))
      → AreShort greatest ((path ++ more, value) ∷ pairs) → IsAdmitted greatest (length path)
  short-first None path more value pairs short = tt
  short-first (Some most) path more value pairs short =
      let le = short 0 (path ++ more, value) (omega arith) in let long = length-append path more in
      omega (arith, le, long)

  pub short-append : (greatest : Option ℕ) (front back : List (List ℕ × V))
      → AreShort greatest front → AreShort greatest back → AreShort greatest (front ++ back)
  short-append None front back short also = tt
  short-append (Some most) front back short also =
      All-append (λ (pair : List ℕ × V). length pair.0 ≤ most) front back short also

  pub short-front : (greatest : Option ℕ) (front back : List (List ℕ × V))
      → AreShort greatest (front ++ back) → AreShort greatest front
  short-front None front back short = tt
  short-front (Some most) [] back short = All-nil (λ (pair : List ℕ × V). length pair.0 ≤ most)
  short-front (Some most) (pair ∷ front) back short =
      All-cons (λ (pair : List ℕ × V). length pair.0 ≤ most) pair front (short 0 pair (omega arith))
      (short-front (Some most) front back (short-rest (Some most) pair (front ++ back) short))

  pub short-back : (greatest : Option ℕ) (front back : List (List ℕ × V))
      → AreShort greatest (front ++ back) → AreShort greatest back
  short-back greatest [] back short = short
  short-back greatest (pair ∷ front) back short =
      short-back greatest front back (short-rest greatest pair (front ++ back) short)

  pub short-pending : (greatest : Option ℕ) (path : List ℕ) (value : Option V)
      (pairs : List (List ℕ × V)) → AreShort greatest (pending_pair path value ++ pairs)
      → AreShort greatest pairs
  short-pending greatest path None pairs short = short
  short-pending greatest path (Some value) pairs short =
      short-rest greatest (path, value) pairs short
