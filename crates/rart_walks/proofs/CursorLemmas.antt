-- The nodes of a tree, each at its path.
use Rattle.std.proofs.Common.{◌≡◌, ℕ, Bool, true, false, cond, List, [], ◌∷◌, ◌++◌, Option, map, length, filter, refl, arith, sym, ap, ◌∙◌}
use Rattle.std.proofs.lemmas.List.{length-append, length-map, map-append}
use Rattle.rart_node.specs.Shape.{Shape, Forest, node, bare, grown}
use Rattle.rart_walks.specs.Frames.{behind_path, under_path, paths_of_all}
use Rattle.rart_walks.specs.Walks.{nodes_of, nodes_below, paths_of, paths_below}
use Rattle.rart_node.proofs.GatherLemmas.{keeping, gathered, gathered_below, gathered_all}
use Rattle.rart_node.proofs.AlongLemmas.{StandsAtEnd}

-- the node itself, whatever its value
abbrev pub own_place : {V : Type 0} → Option V → List (List ℕ × Unit {0})
own_place value = ([], tt) ∷ []

pub own_place-ends : {V : Type 0} → StandsAtEnd {V = V} own_place
own_place-ends value test true is = rw is refl
own_place-ends value test false is = rw is refl

-- these paths
abbrev pub keys_of : List (List ℕ × Unit {0}) → List (List ℕ)
keys_of paths = map (λ place. place.0) paths

pub keys-behind : (path : List ℕ) (paths : List (List ℕ × Unit {0}))
    → keys_of (behind_path path paths) ≡ under_path path (keys_of paths)
keys-behind path [] = refl
keys-behind path (place ∷ paths) = ap (λ rest. (path ++ place.0) ∷ rest) (keys-behind path paths)

pub keys-append : (front back : List (List ℕ × Unit {0}))
    → keys_of (front ++ back) ≡ keys_of front ++ keys_of back
keys-append front back = map-append (λ place. place.0) front back

keys-kept : (test : List ℕ → Bool) (paths : List (List ℕ × Unit {0}))
    → filter test (keys_of paths) ≡ keys_of (keeping test paths)
keys-kept test [] = refl
keys-kept test (place ∷ paths) =
    ap (λ rest. cond (test place.0) (place.0 ∷ rest) rest) (keys-kept test paths)
    ∙ elim (test place.0) as (λ t. cond t (place.0 ∷ keys_of (keeping test paths))
    (keys_of (keeping test paths))
    ≡ keys_of (cond t (place ∷ keeping test paths) (keeping test paths)))
    [ true ↦ refl | false ↦ refl ]

module _ {V : Type 0} where
  mutual
    -- as many nodes as paths
    pub nodes-paths : (s : Shape V) → length (paths_of s) ≡ nodes_of s
    nodes-paths (node prefix value width forest) =
        let behind = length-map ([] ∷ paths_below forest) (λ path. prefix ++ path) in
        let below = below-paths forest in
        omega (arith, behind, below)

    below-paths : (forest : Forest V) → length (paths_below forest) ≡ nodes_below forest
    below-paths bare = refl
    below-paths (grown byte child forest) =
        let first = nodes-paths child in
        let rest = below-paths forest in
        let long = length-append (paths_of child) (paths_below forest) in
        omega (arith, first, rest, long)

  mutual
    pub paths-are : (s : Shape V) → paths_of s ≡ keys_of (gathered own_place s)
    paths-are (node prefix value width forest) =
        ap (λ rest. under_path prefix ([] ∷ rest)) (below-are forest)
        ∙ sym (keys-behind prefix (([], tt) ∷ gathered_below own_place forest))

    below-are : (forest : Forest V)
        → paths_below forest ≡ keys_of (gathered_below own_place forest)
    below-are bare = refl
    below-are (grown byte child forest) =
        (λ i. paths-are child i ++ below-are forest i)
        ∙ sym (keys-append (gathered own_place child) (gathered_below own_place forest))

  pub all-paths : (children : List (ℕ × Shape V))
      → paths_of_all children ≡ keys_of (gathered_all own_place children)
  all-paths [] = refl
  all-paths (child ∷ children) =
      (λ i. paths-are child.1 i ++ all-paths children i)
      ∙ sym (keys-append (gathered own_place child.1) (gathered_all own_place children))

  -- the paths that pass a test
  pub paths-kept : (test : List ℕ → Bool) (s : Shape V)
      → filter test (paths_of s) ≡ keys_of (keeping test (gathered own_place s))
  paths-kept test s =
      ap (filter test) (paths-are s) ∙ keys-kept test (gathered own_place s)
