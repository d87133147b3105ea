-- A walk back enters a node, whose value it gives there or keeps.
use Rattle.std.proofs.Common.{◌≡◌, ◌+◌, ◌≤◌, ℕ, cond, List, [], ◌∷◌, ◌++◌, Option, Some, None, length, reverse, is_some, refl, arith, sym, ap, subst, ◌∙◌, ⊎_elim, inl}
use Rattle.std.specs.List.{concat}
use Rattle.std.proofs.lemmas.List.{append_assoc, append-nil, length-append, length-map, length-reverse, reverse-append}
use Rattle.rart_below.specs.Bytes.{IsAdmitted}
use Rattle.rart_node.specs.Shape.{Shape, Forest, node, bare, grown, prefix_of, value_of, children_of, entries_of}
use Rattle.rart_node.specs.Trees.{IsTree, own_pair, pairs_of, pairs_below}
use Rattle.rart_walks.specs.BackFrames.{KeepsBack, OpenBack, SplitsOwn, TakesChildBack, TakesOwn, TreesBehind, back_paths_below, back_paths_of, back_paths_of_all, back_segments, owns_behind, pairs_behind, paths_behind, with_back_leaf}
use Rattle.rart_walks.specs.Frames.{behind_path, pairs_of_all, under_path}
use Rattle.rart_walks.specs.Walks.{AreShort, GoesOnFirst, nodes_of, nodes_below, pending_pair}
use Rattle.rart_walks.proofs.BackLemmas.{keeps-all, owns-push, pairs-push, path-at, paths-push, spent-left, trees-push}
use Rattle.rart_node.proofs.BehindLemmas.{tree-has-pair, behind-append, behind-none, pairs-entered, short-back, short-front}
use Rattle.rart_walks.proofs.WalkLemmas.{path-fits, trees-entered, under-none, under-under}

-- a list with an element has a last one
pub has-last : {A : Type 0} (x : A) (xs : List A)
    → (front : List A) × (last : A) × (x ∷ xs ≡ front ++ last ∷ [])
has-last x [] = ([], x, refl)
has-last x (y ∷ xs) =
    let rest = has-last y xs in (x ∷ rest.0, rest.1, ap (λ z. x ∷ z) rest.2)

module _ {V : Type 0} where
  -- ---- a tree from its end
  back_below-all : (forest : Forest V)
      → back_paths_below forest ≡ back_paths_of_all (entries_of forest)
  back_below-all bare = refl
  back_below-all (grown byte child forest) =
      ap (λ rest. rest ++ back_paths_of child) (back_below-all forest)

  -- of the paths of a node's tree its own comes first
  pub back_paths-entered : (path : List ℕ) (s : Shape V)
      → under_path path (back_paths_of s) ≡ (path ++ prefix_of s)
      ∷ under_path (path ++ prefix_of s) (back_paths_of_all (children_of s))
  back_paths-entered path (node prefix value width forest) =
      (λ i. (path ++ append-nil prefix i)
      ∷ under-under path prefix (back_paths_below forest) i)
      ∙ ap (λ below. (path ++ prefix) ∷ under_path (path ++ prefix) below) (back_below-all forest)

  mutual
    -- as many nodes as paths
    pub nodes-back_paths : (s : Shape V) → length (back_paths_of s) ≡ nodes_of s
    nodes-back_paths (node prefix value width forest) =
        let behind = length-map ([] ∷ back_paths_below forest) (λ path. prefix ++ path) in
        let below = below-back_paths forest in
        omega (arith, behind, below)

    below-back_paths : (forest : Forest V) → length (back_paths_below forest) ≡ nodes_below forest
    below-back_paths bare = refl
    below-back_paths (grown byte child forest) =
        let first = nodes-back_paths child in
        let rest = below-back_paths forest in
        let long = length-append (back_paths_below forest) (back_paths_of child) in
        omega (arith, first, rest, long)

  -- The last key of a node's tree begins with its prefix.
  pub record HasLastPair (s : Shape V) : Type 0 where
    pub others : List (List ℕ × V)
    pub behind : List ℕ
    pub value : V
    pub last : pairs_of s ≡ others ++ (prefix_of s ++ behind, value) ∷ []

  inside-last : (s : Shape V) (prefix : List ℕ) (inside : List (List ℕ × V))
      (first : List ℕ × V) (others : List (List ℕ × V)) → prefix ≡ prefix_of s
      → pairs_of s ≡ behind_path prefix inside → pairs_of s ≡ first ∷ others → HasLastPair s
  inside-last s prefix [] first others same is some =
      let none = ap length (sym is ∙ some) in absurd (omega (arith, none))
  inside-last s prefix (pair ∷ inside) first others same is some =
      let end = has-last pair inside in
      record {
        others = behind_path prefix end.0;
        behind = end.1.0;
        value = end.1.1;
        last =
            is ∙ ap (behind_path prefix) end.2 ∙ behind-append prefix end.0 (end.1 ∷ [])
            ∙ ap (λ p. behind_path prefix end.0 ++ (p ++ end.1.0, end.1.1) ∷ []) same;
      }

  pub tree-has-last : (s : Shape V) → IsTree s → HasLastPair s
  tree-has-last (node prefix value width forest) tree =
      let s = node prefix value width forest in
      let has = tree-has-pair s tree in
      inside-last s prefix (own_pair value ++ pairs_below forest)
      (prefix_of s ++ has.behind, has.value) has.others refl refl has.first

  -- ---- a node's own pair
  own-behind : (path : List ℕ) (value : Option V)
      → behind_path path (own_pair value) ≡ pending_pair path value
  own-behind path None = refl
  own-behind path (Some value) = ap (λ key. (key, value) ∷ []) (append-nil path)

  -- one pair or none is the same from either end
  pending-reverse : (path : List ℕ) (value : Option V) (pairs : List (List ℕ × V))
      → reverse (pairs ++ pending_pair path value) ≡ pending_pair path value ++ reverse pairs
  pending-reverse path None pairs = ap reverse (append-nil pairs)
  pending-reverse path (Some value) pairs = reverse-append pairs ((path, value) ∷ [])

  -- ---- the leaf that the walk stood at is left
  pub leaf-left : (frames : List (OpenBack V)) (leaf : Option (List ℕ))
      → KeepsBack (with_back_leaf frames leaf) frames
  leaf-left frames None = keeps-all frames
  leaf-left frames (Some segment) = spent-left frames segment

  -- ---- a node is entered below the innermost one, of whose value this is kept
  module _ (frames : List (OpenBack V)) (s : Shape V) (kept : Option V) where
    abbrev pub above : List ℕ
    above = concat (back_segments frames)

    abbrev pub entered : List (OpenBack V)
    entered = frames ++ (prefix_of s, kept, children_of s) ∷ []

    path-entered : concat (back_segments entered) ≡ above ++ prefix_of s
    path-entered = path-at frames (prefix_of s, kept, children_of s)

    pub whole-paths : under_path above (back_paths_of s) ++ paths_behind frames
        ≡ concat (back_segments entered) ∷ paths_behind entered
    whole-paths =
        ap (λ paths. paths ++ paths_behind frames) (back_paths-entered above s)
        ∙ ap (λ later. (above ++ prefix_of s) ∷ later)
        (sym (paths-push frames (prefix_of s, kept, children_of s)))
        ∙ ap (λ own. own ∷ paths_behind entered) (sym path-entered)

    whole-split : (given : Option V) → SplitsOwn s given kept
        → behind_path above (pairs_of s) ≡ behind_path (above ++ prefix_of s)
        (own_pair kept ++ pairs_of_all (children_of s))
        ++ pending_pair (above ++ prefix_of s) given
    whole-split given splits =
        let path = above ++ prefix_of s in
        let below = behind_path path (pairs_of_all (children_of s)) in
        let whole = pairs-entered above s in
        ⊎_elim
        (λ later.
        whole
        ∙ ap (λ own. own ++ below) (sym (own-behind path (value_of s)))
        ∙ sym (behind-append path (own_pair (value_of s)) (pairs_of_all (children_of s)))
        ∙ ap (λ own. behind_path path (own_pair own ++ pairs_of_all (children_of s)))
        (sym later.1)
        ∙ sym (append-nil _)
        ∙ ap (λ own. behind_path path (own_pair kept ++ pairs_of_all (children_of s))
        ++ pending_pair path own) (sym later.0))
        (λ now.
        whole
        ∙ (λ i. pending_pair path (value_of s) ++ behind_path path (pairs_of_all (now.2 i)))
        ∙ append-nil (pending_pair path (value_of s))
        ∙ (λ i. behind_path path (own_pair (sym now.1 i) ++ pairs_of_all (sym now.2 i))
        ++ pending_pair path (sym now.0 i)))
        splits

    pub whole-pairs : (given : Option V) → SplitsOwn s given kept
        → pairs_behind frames ++ behind_path above (pairs_of s)
        ≡ pairs_behind entered ++ pending_pair (concat (back_segments entered)) given
    whole-pairs given splits =
        let path = above ++ prefix_of s in
        let here = behind_path path (own_pair kept ++ pairs_of_all (children_of s)) in
        ap (λ z. pairs_behind frames ++ z) (whole-split given splits)
        ∙ sym (append_assoc (pairs_behind frames) here (pending_pair path given))
        ∙ ap (λ z. z ++ pending_pair path given)
        (sym (pairs-push frames (prefix_of s, kept, children_of s)))
        ∙ ap (λ p. pairs_behind entered ++ pending_pair p given) (sym path-entered)

    pub whole-trees : IsTree s → TreesBehind frames → TreesBehind entered
    whole-trees tree trees =
        trees-push frames (prefix_of s, kept, children_of s) trees (trees-entered s tree)

    -- its last key goes on from where it stands
    pub whole-first : IsTree s → GoesOnFirst (concat (back_segments entered))
        (reverse (pairs_behind frames ++ behind_path above (pairs_of s)))
    whole-first tree =
        let has = tree-has-last s tree in
        let others = pairs_behind frames ++ behind_path above has.others in (
          has.behind,
          has.value,
          reverse others,
          ap (λ z. reverse (pairs_behind frames ++ z))
              (ap (behind_path above) has.last
              ∙ behind-append above has.others ((prefix_of s ++ has.behind, has.value) ∷ []))
              ∙ ap reverse (sym (append_assoc (pairs_behind frames)
              (behind_path above has.others)
              ((above ++ (prefix_of s ++ has.behind), has.value) ∷ [])))
              ∙ reverse-append others ((above ++ (prefix_of s ++ has.behind), has.value) ∷ [])
              ∙ ap (λ key. (key, has.value) ∷ reverse others)
              (sym (append_assoc above (prefix_of s) has.behind)
              ∙ ap (λ p. p ++ has.behind) (sym path-entered)),
        )

  -- ---- the step of a walk back, from these nodes
  module _ (nodes frames after : List (OpenBack V)) (keeps : KeepsBack nodes frames) where
    -- a node's own value is given
    module _ (value : V) (takes : TakesOwn frames value after) where
      pub own-given : reverse (pairs_behind nodes)
          ≡ (concat (back_segments after), value) ∷ reverse (pairs_behind after)
      own-given =
          ap reverse (keeps.pairs ∙ takes.pairs)
          ∙ reverse-append (pairs_behind after) ((concat (back_segments after), value) ∷ [])

      pub own-first : GoesOnFirst (concat (back_segments after)) (reverse (pairs_behind nodes))
      own-first = (
        [],
        value,
        reverse (pairs_behind after),
        own-given ∙ ap (λ key. (key, value) ∷ reverse (pairs_behind after))
            (sym (append-nil (concat (back_segments after)))),
      )

      pub own-short : (greatest : Option ℕ) → AreShort greatest (pairs_behind nodes)
          → AreShort greatest (pairs_behind after)
      own-short greatest short =
          short-front greatest (pairs_behind after) _
          (subst (AreShort greatest) (keeps.pairs ∙ takes.pairs) short)

    -- a child is taken
    module _ (s : Shape V) (takes : TakesChildBack frames s after) where
      child-pairs : pairs_behind nodes
          ≡ pairs_behind after ++ behind_path (concat (back_segments after)) (pairs_of s)
      child-pairs = keeps.pairs ∙ takes.pairs

      pub child-tree : TreesBehind nodes → IsTree s
      child-tree trees = takes.tree (keeps.trees trees)

      pub child-fits : (greatest : Option ℕ) → TreesBehind nodes
          → AreShort greatest (pairs_behind nodes)
          → IsAdmitted greatest (length (concat (back_segments after ++ prefix_of s ∷ [])))
      child-fits greatest trees short =
          path-fits (back_segments after) s greatest (child-tree trees)
          (short-back greatest (pairs_behind after) _
          (subst (AreShort greatest) child-pairs short))

      -- and entered
      module _ (inner : List (OpenBack V)) (given kept : Option V) (splits : SplitsOwn s given kept)
          (opened : inner ≡ after ++ (prefix_of s, kept, children_of s) ∷ []) where
        inner-all : pairs_behind nodes
            ≡ pairs_behind inner ++ pending_pair (concat (back_segments inner)) given
        inner-all =
            child-pairs ∙ whole-pairs after s kept given splits
            ∙ ap (λ z. pairs_behind z ++ pending_pair (concat (back_segments z)) given)
            (sym opened)

        pub inner-pairs : reverse (pairs_behind nodes)
            ≡ pending_pair (concat (back_segments inner)) given ++ reverse (pairs_behind inner)
        inner-pairs =
            ap reverse inner-all
            ∙ pending-reverse (concat (back_segments inner)) given (pairs_behind inner)

        pub inner-paths : paths_behind nodes
            ≡ concat (back_segments inner) ∷ paths_behind inner
        inner-paths =
            keeps.paths ∙ takes.paths ∙ whole-paths after s kept
            ∙ ap (λ z. concat (back_segments z) ∷ paths_behind z) (sym opened)

        pub inner-first : TreesBehind nodes
            → GoesOnFirst (concat (back_segments inner)) (reverse (pairs_behind nodes))
        inner-first trees =
            subst (λ z. GoesOnFirst (concat (back_segments z)) (reverse (pairs_behind nodes)))
            (sym opened)
            (subst (λ z. GoesOnFirst (concat (back_segments (entered after s kept))) (reverse z))
            (sym child-pairs) (whole-first after s kept (child-tree trees)))

        pub inner-trees : TreesBehind nodes → TreesBehind inner
        inner-trees trees =
            subst TreesBehind (sym opened)
            (whole-trees after s kept (child-tree trees) (takes.trees (keeps.trees trees)))

        pub inner-short : (greatest : Option ℕ) → AreShort greatest (pairs_behind nodes)
            → AreShort greatest (pairs_behind inner)
        inner-short greatest short =
            short-front greatest (pairs_behind inner) _
            (subst (AreShort greatest) inner-all short)

        -- a pair is given, or kept, for the node at most
        pub inner-each : length (reverse (pairs_behind nodes)) + owns_behind inner
            ≤ length (reverse (pairs_behind inner)) + owns_behind nodes + 1
        inner-each =
            let before = length-reverse (pairs_behind nodes) in
            let later = length-reverse (pairs_behind inner) in
            let all = ap length inner-all
            ∙ length-append (pairs_behind inner)
            (pending_pair (concat (back_segments inner)) given) in
            let own = ap owns_behind opened
            ∙ owns-push after (prefix_of s, kept, children_of s) in
            let same = keeps.owns ∙ takes.owns in
            let one = splits-one given kept splits (concat (back_segments inner)) in
            omega (arith, before, later, all, own, same, one)
          where
            own-one : (path : List ℕ) (value : Option V)
                → length (pending_pair path value) ≤ 1
            own-one path None = omega arith
            own-one path (Some value) = omega arith

            kept-one : (value : Option V) → cond (is_some value) 1 0 ≤ 1
            kept-one None = omega arith
            kept-one (Some value) = omega arith

            splits-one : (given kept : Option V) → SplitsOwn s given kept → (path : List ℕ)
                → length (pending_pair path given) + cond (is_some kept) 1 0 ≤ 1
            splits-one given kept splits path =
                ⊎_elim
                (λ later.
                let none : length (pending_pair path given) ≡ 0 =
                ap (λ o. length (pending_pair path o)) later.0 in
                let one = kept-one kept in
                omega (arith, none, one))
                (λ now.
                let none : cond (is_some kept) 1 0 ≡ 0 =
                ap {B = ℕ} (λ o. cond (is_some o) 1 0) now.1 in
                let one = own-one path given in
                omega (arith, none, one))
                splits

  -- ---- the root is entered, and all of it is left
  module _ (s : Shape V) where
    abbrev pub root : List (OpenBack V)
    root = (prefix_of s, value_of s, children_of s) ∷ []

    pub root-pairs : pairs_behind root ≡ pairs_of s
    root-pairs =
        sym (whole-pairs [] s (value_of s) None (inl (refl, refl)) ∙ append-nil (pairs_behind root))
        ∙ behind-none (pairs_of s)

    pub root-paths : back_paths_of s ≡ concat (back_segments root) ∷ paths_behind root
    root-paths =
        sym (append-nil (under_path [] (back_paths_of s)) ∙ under-none (back_paths_of s))
        ∙ whole-paths [] s (value_of s)

    pub root-trees : IsTree s → TreesBehind root
    root-trees tree = whole-trees [] s (value_of s) tree tt

    pub root-owns : owns_behind root ≤ 1
    root-owns = one (value_of s)
      where
        one : (value : Option V) → owns_behind ((prefix_of s, value, children_of s) ∷ []) ≤ 1
        one None = omega arith
        one (Some value) = omega arith
