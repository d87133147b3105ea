-- A tree has no more nodes below a prefix than strings that the prefix begins begin its keys.
use Rattle.std.proofs.Common.{◌≡◌, ◌≤◌, ◌+◌, ◌&&◌, ℕ, cond, length, append-nil, List, [], ◌∷◌, ◌++◌, map, Some, sym, ap, subst, ◌∙◌, arith, append_assoc}
use Rattle.std.specs.Prelude.{Contains, count_by, sum_by}
use Rattle.std.specs.FinSet as set
use Rattle.std.proofs.Math.Nat.{le_refl}
use Rattle.std.proofs.lemmas.List.Sums.{sum_by-append, sum_by-cons}
use Rattle.rart_below.specs.Bytes.{begins}
use Rattle.rart_node.specs.Shape.{Shape, Forest, node, bare, grown, prefix_of, entries_of}
use Rattle.rart_node.specs.Trees.{BeginsWith, own_pair, pairs_of, pairs_below, IsTree, AreBranches}
use Rattle.rart_node.proofs.KeyLemmas.{tree-has-pair}
use Rattle.rart_walks.specs.Walks.{paths_of, paths_below}
use Rattle.rart_maps.specs.Bounds.{reach_bound}
use Rattle.rart_maps.specs.Pairs.{Strings, pairs, starts}
use Rattle.rart_maps.specs.StartLaws.{strings_under, how_many_under, with_byte, HasStarts}
use Rattle.rart_maps.proofs.ElementLemmas.{Contains-here}
use Rattle.rart_maps.proofs.OrderLemmas.{begins-append}
use Rattle.rart_maps.proofs.StartLemmas.{contains-strings_under, at_least-children, len-strings_under-append, sum_by-map, starts-all, starts-behind, starts-front, starts-back, under-all, under-byte}
use Rattle.rart_versioned.specs.Roots.{map_of}
use Rattle.rart_versioned.proofs.VersionMapLemmas.{pairs-map}

-- The paths of a node and of those below it, behind the bytes above.
count-paths : (q above prefix : List ℕ) (below : List (List ℕ)) →
    count_by (λ path. begins q (above ++ path)) (map (λ path. prefix ++ path) ([] ∷ below))
    ≡ cond (begins q (above ++ prefix)) 1 0
    + count_by (λ path. begins q ((above ++ prefix) ++ path)) below
count-paths q above prefix below =
    let one = λ (path : List ℕ). cond (begins q (above ++ path)) 1 0 in
    let inner = λ (path : List ℕ). cond (begins q ((above ++ prefix) ++ path)) 1 0 in
    let same : sum_by (λ path. one (prefix ++ path)) ([] ∷ below) ≡ sum_by inner ([] ∷ below) =
    λ i. sum_by (λ path. cond (begins q (sym (append_assoc above prefix path) i)) 1 0)
    ([] ∷ below) in
    let own : inner [] ≡ cond (begins q (above ++ prefix)) 1 0 =
    λ i. cond (begins q (append-nil (above ++ prefix) i)) 1 0 in
    sum_by-map one (λ path. prefix ++ path) ([] ∷ below) ∙ same ∙ sum_by-cons inner [] below
    ∙ ap (λ n. n + sum_by inner below) own

-- A string that begins with the byte begins no more, behind the bytes above, than the byte does.
under-first : (strings : Strings) (above prefix : List ℕ) (byte : ℕ) → BeginsWith byte prefix →
    how_many_under strings (above ++ prefix) ≤ how_many_under strings (with_byte above byte)
under-first strings above [] byte first = absurd first
under-first strings above (b ∷ rest) byte first =
    subst (λ c. how_many_under strings (above ++ (b ∷ rest))
    ≤ how_many_under strings (with_byte above c)) first (under-byte strings above b rest)

module _ {V : Type 0} where
  -- Behind the bytes above, no more paths begin with q than strings of the set that begin with q
  -- and with the node's prefix.
  mutual
    paths-within : (strings : Strings) (q above : List ℕ) (s : Shape V) → IsTree s →
        HasStarts strings above (pairs_of s) →
        count_by (λ path. begins q (above ++ path)) (paths_of s)
        ≤ how_many_under (strings_under strings q) (above ++ prefix_of s)
    paths-within strings q above (node prefix value width forest) tree has =
        let own = own_pair value in
        let list = pairs_below forest in
        let first = tree-has-pair (node prefix value width forest) tree in
        let pair : List ℕ × V = (prefix ++ first.0, first.1) in
        let there = subst (λ pairs. Contains pairs pair) (sym first.3)
        (Contains-here pair first.2) in
        let path = above ++ prefix in
        let kept = strings_under strings q in
        let start = has pair there prefix (begins-append prefix first.0) in
        let here = ap {B = ℕ} (λ b. cond b 1 0)
        (contains-strings_under strings q path ∙ ap (λ b. b && begins q path) start) in
        let within = starts-behind strings above prefix (own ++ list) has in
        let behind = starts-back strings path own list within in
        let below = paths-within_below strings q path forest tree.1 behind in
        let parts = at_least-children kept path (entries_of forest) tree.0 in
        let counted = count-paths q above prefix (paths_below forest) in
        omega (arith, here, below, parts, counted)

    paths-within_below : (strings : Strings) (q above : List ℕ) (forest : Forest V) →
        AreBranches forest → HasStarts strings above (pairs_below forest) →
        count_by (λ path. begins q (above ++ path)) (paths_below forest)
        ≤ sum_by (λ child. how_many_under (strings_under strings q) (with_byte above child.0))
        (entries_of forest)
    paths-within_below strings q above bare branches has = le_refl 0
    paths-within_below strings q above (grown byte child forest) branches has =
        let kept = strings_under strings q in
        let first = starts-front strings above (pairs_of child) (pairs_below forest) has in
        let others = starts-back strings above (pairs_of child) (pairs_below forest) has in
        let here = paths-within strings q above child branches.1 first in
        let fewer = under-first kept above (prefix_of child) byte branches.0 in
        let later = paths-within_below strings q above forest branches.2 others in
        let each = λ (entry : ℕ × Shape V). how_many_under kept (with_byte above entry.0) in
        let sum = sum_by-cons each (byte, child) (entries_of forest) in
        let one = λ (path : List ℕ). cond (begins q (above ++ path)) 1 0 in
        let both = sum_by-append one (paths_of child) (paths_below forest) in
        omega (arith, here, fewer, later, sum, both)

  -- Each string that begins a key is a start of the map.
  has-starts : (s : Shape V) → IsTree s → HasStarts (starts (map_of (Some s))) [] (pairs_of s)
  has-starts s tree =
      let m = map_of (Some s) in
      subst (HasStarts (starts m) []) (pairs-map (Some s) tree) (starts-all (pairs m))

  -- A tree has no more nodes whose path p begins than strings begin its keys that p begins.
  pub paths-under : (s : Shape V) → IsTree s → (p : List ℕ) →
      count_by (begins p) (paths_of s)
      ≤ set.len (strings_under (starts (map_of (Some s))) p)
  paths-under s tree p =
      let m = map_of (Some s) in
      let kept = strings_under (starts m) p in
      let within = paths-within (starts m) p [] s tree (has-starts s tree) in
      let fewer = len-strings_under-append kept [] (prefix_of s) in
      let all : how_many_under kept [] ≡ set.len kept = ap set.len (under-all kept) in
      omega (arith, within, fewer, all)

  -- So a walk under p, once it has come there, enters no more nodes than it may.
  pub reach-walk : (s : Shape V) → IsTree s → (p : List ℕ) (nodes : ℕ) →
      nodes ≤ count_by (begins p) (paths_of s) →
      length p + 1 + nodes ≤ reach_bound (map_of (Some s)) p
  reach-walk s tree p nodes most = let under = paths-under s tree p in omega (arith, most, under)
