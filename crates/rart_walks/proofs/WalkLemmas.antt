-- What a walk has left where a node is entered or left.
use Rattle.std.proofs.Common.{◌≡◌, ◌≤◌, ℕ, List, [], ◌∷◌, ◌++◌, Option, Some, None, length, refl, arith, sym, ap, subst, ◌∙◌}
use Rattle.std.specs.List.{concat}
use Rattle.std.proofs.lemmas.List.Folds.{concat-append}
use Rattle.std.proofs.lemmas.List.{append_assoc, append-nil, map-append}
use Rattle.rart_below.specs.Bytes.{IsAdmitted}
use Rattle.rart_node.specs.Shape.{Shape, Forest, node, bare, grown, prefix_of, value_of, children_of, entries_of}
use Rattle.rart_node.specs.Trees.{IsTree, AreBranches, pairs_of}
use Rattle.rart_walks.specs.Walks.{AreShort, GoesOnFirst, pending_pair, paths_of, paths_below}
use Rattle.rart_walks.specs.Frames.{OpenNode, Pushes, behind_path, under_path, pairs_inside, pairs_of_all, paths_of_all, AreTrees, segments_of, pairs_ahead, paths_ahead, TreesAhead, AreSpent, TakesAhead, with_rest}
use Rattle.rart_node.proofs.BehindLemmas.{behind-append, behind-behind, behind-none, pairs-entered, short-append, short-first, short-front, short-pending, tree-has-pair}
use Rattle.rart_node.proofs.KeyPathLemmas.{concat-push}

-- ---- paths behind a path
pub under-none : (paths : List (List ℕ)) → under_path [] paths ≡ paths
under-none [] = refl
under-none (path ∷ paths) = ap (λ rest. path ∷ rest) (under-none paths)

pub under-append : (path : List ℕ) (front back : List (List ℕ))
    → under_path path (front ++ back) ≡ under_path path front ++ under_path path back
under-append path front back = map-append (λ more. path ++ more) front back

pub under-under : (path more : List ℕ) (paths : List (List ℕ))
    → under_path path (under_path more paths) ≡ under_path (path ++ more) paths
under-under path more [] = refl
under-under path more (last ∷ paths) = let first = sym (append_assoc path more last) in
    λ i. first i ∷ under-under path more paths i

module _ {V : Type 0} where
  paths-all : (forest : Forest V) → paths_below forest ≡ paths_of_all (entries_of forest)
  paths-all bare = refl
  paths-all (grown byte child forest) = ap (λ rest. paths_of child ++ rest) (paths-all forest)

  -- ---- a node by its parts
  -- the paths of the nodes of one that is entered: its own, and those of its children's
  pub paths-entered : (path : List ℕ) (s : Shape V) → under_path path (paths_of s)
      ≡ (path ++ prefix_of s) ∷ under_path (path ++ prefix_of s) (paths_of_all (children_of s))
  paths-entered path (node prefix value width forest) =
      (λ i. (path ++ append-nil prefix i) ∷ under-under path prefix (paths_below forest) i)
      ∙ ap (λ below. (path ++ prefix) ∷ under_path (path ++ prefix) below) (paths-all forest)

  branches-trees : (forest : Forest V) → AreBranches forest → AreTrees (entries_of forest)
  branches-trees bare branches = tt
  branches-trees (grown byte child forest) branches = (branches.1, branches-trees forest branches.2)

  pub trees-entered : (s : Shape V) → IsTree s → AreTrees (children_of s)
  trees-entered (node prefix value width forest) tree = branches-trees forest tree.1

  -- ---- what is left in the outer nodes and the inner ones
  segments-append : (outer inner : List (OpenNode V))
      → segments_of (outer ++ inner) ≡ segments_of outer ++ segments_of inner
  segments-append [] inner = refl
  segments-append (f ∷ outer) inner = ap (λ rest. f.0 ++ rest) (segments-append outer inner)
      ∙ sym (append_assoc f.0 (segments_of outer) (segments_of inner))

  ahead-append : (outer inner : List (OpenNode V)) → pairs_ahead (outer ++ inner)
      ≡ behind_path (concat (segments_of outer)) (pairs_ahead inner) ++ pairs_ahead outer
  ahead-append [] inner =
      sym (append-nil (behind_path [] (pairs_ahead inner)) ∙ behind-none (pairs_ahead inner))
  ahead-append (f ∷ outer) inner =
      let here = concat f.0 in let path = concat (segments_of outer) in
      let own = behind_path path (pairs_ahead inner) in
      ap (λ rest. behind_path here (rest ++ pairs_of_all f.1)) (ahead-append outer inner)
      ∙ ap (behind_path here) (append_assoc own (pairs_ahead outer) (pairs_of_all f.1))
      ∙ behind-append here own (pairs_ahead outer ++ pairs_of_all f.1)
      ∙ ap (λ rest. rest ++ behind_path here (pairs_ahead outer ++ pairs_of_all f.1))
      (behind-behind here path (pairs_ahead inner)
      ∙ ap (λ p. behind_path p (pairs_ahead inner)) (sym (concat-append f.0 (segments_of outer))))

  paths-append : (outer inner : List (OpenNode V)) → paths_ahead (outer ++ inner)
      ≡ under_path (concat (segments_of outer)) (paths_ahead inner) ++ paths_ahead outer
  paths-append [] inner =
      sym (append-nil (under_path [] (paths_ahead inner)) ∙ under-none (paths_ahead inner))
  paths-append (f ∷ outer) inner =
      let here = concat f.0 in let path = concat (segments_of outer) in
      let own = under_path path (paths_ahead inner) in
      ap (λ rest. under_path here (rest ++ paths_of_all f.1)) (paths-append outer inner)
      ∙ ap (under_path here) (append_assoc own (paths_ahead outer) (paths_of_all f.1))
      ∙ under-append here own (paths_ahead outer ++ paths_of_all f.1)
      ∙ ap (λ rest. rest ++ under_path here (paths_ahead outer ++ paths_of_all f.1))
      (under-under here path (paths_ahead inner)
      ∙ ap (λ p. under_path p (paths_ahead inner)) (sym (concat-append f.0 (segments_of outer))))

  trees-append : (outer inner : List (OpenNode V)) → TreesAhead (outer ++ inner)
      → TreesAhead outer × TreesAhead inner
  trees-append [] inner trees = (tt, trees)
  trees-append (f ∷ outer) inner trees = let rest = trees-append outer inner trees.1 in
      ((trees.0, rest.0), rest.1)

  -- ---- one frame more at the end
  pub segments-push : (frames : List (OpenNode V)) (frame : OpenNode V)
      → segments_of (frames ++ frame ∷ []) ≡ segments_of frames ++ frame.0
  segments-push frames frame = segments-append frames (frame ∷ [])
      ∙ ap (λ own. segments_of frames ++ own) (append-nil frame.0)

  pub path-push : (frames : List (OpenNode V)) (frame : OpenNode V)
      → concat (segments_of (frames ++ frame ∷ [])) ≡ concat (segments_of frames) ++ concat frame.0
  path-push frames frame =
      ap concat (segments-push frames frame) ∙ concat-append (segments_of frames) frame.0

  ahead-push : (frames : List (OpenNode V)) (frame : OpenNode V)
      → pairs_ahead (frames ++ frame ∷ [])
      ≡ behind_path (concat (segments_of frames) ++ concat frame.0) (pairs_of_all frame.1)
      ++ pairs_ahead frames
  ahead-push frames frame =
      ahead-append frames (frame ∷ [])
      ∙ ap (λ own. own ++ pairs_ahead frames)
      (behind-behind (concat (segments_of frames)) (concat frame.0) (pairs_of_all frame.1))

  paths-push : (frames : List (OpenNode V)) (frame : OpenNode V)
      → paths_ahead (frames ++ frame ∷ [])
      ≡ under_path (concat (segments_of frames) ++ concat frame.0) (paths_of_all frame.1)
      ++ paths_ahead frames
  paths-push frames frame =
      paths-append frames (frame ∷ [])
      ∙ ap (λ own. own ++ paths_ahead frames)
      (under-under (concat (segments_of frames)) (concat frame.0) (paths_of_all frame.1))

  trees-push : (frames : List (OpenNode V)) (frame : OpenNode V) → TreesAhead frames
      → AreTrees frame.1 → TreesAhead (frames ++ frame ∷ [])
  trees-push [] frame trees more = (more, tt)
  trees-push (f ∷ frames) frame trees more = (trees.0, trees-push frames frame trees.1 more)

  -- ---- a node with nothing left below the others
  pub rest-segments : (frames : List (OpenNode V)) (rest : List (List ℕ))
      → segments_of (with_rest frames rest) ≡ segments_of frames ++ rest
  rest-segments frames [] = sym (append-nil (segments_of frames))
  rest-segments frames (s ∷ rest) = segments-push frames (s ∷ rest, [])

  rest-pairs : (frames : List (OpenNode V)) (rest : List (List ℕ))
      → pairs_ahead (with_rest frames rest) ≡ pairs_ahead frames
  rest-pairs frames [] = refl
  rest-pairs frames (s ∷ rest) = ahead-push frames (s ∷ rest, [])

  rest-paths : (frames : List (OpenNode V)) (rest : List (List ℕ))
      → paths_ahead (with_rest frames rest) ≡ paths_ahead frames
  rest-paths frames [] = refl
  rest-paths frames (s ∷ rest) = paths-push frames (s ∷ rest, [])

  rest-trees : (frames : List (OpenNode V)) (rest : List (List ℕ))
      → TreesAhead (with_rest frames rest) → TreesAhead frames
  rest-trees frames [] trees = trees
  rest-trees frames (s ∷ rest) trees = (trees-append frames ((s ∷ rest, []) ∷ []) trees).0

  with-rest-push : (frames : List (OpenNode V)) (rest : List (List ℕ)) (segment : List ℕ)
      → with_rest frames (rest ++ segment ∷ []) ≡ frames ++ (rest ++ segment ∷ [], []) ∷ []
  with-rest-push frames [] segment = refl
  with-rest-push frames (s ∷ rest) segment = refl

  -- ---- a node with nothing left is passed
  pub passed-segments : (frames : List (OpenNode V)) (rest : List (List ℕ)) (segment : List ℕ)
      → segments_of (with_rest frames (rest ++ segment ∷ []))
      ≡ segments_of (with_rest frames rest) ++ segment ∷ []
  passed-segments frames rest segment =
      rest-segments frames (rest ++ segment ∷ [])
      ∙ sym (append_assoc (segments_of frames) rest (segment ∷ []))
      ∙ ap (λ z. z ++ segment ∷ []) (sym (rest-segments frames rest))

  pub passed-pushes : (frames : List (OpenNode V)) (rest : List (List ℕ)) (segment : List ℕ)
      → Pushes (with_rest frames rest) segment [] (with_rest frames (rest ++ segment ∷ []))
  passed-pushes frames rest segment = record {
    frames = frames;
    rest = rest;
    was = refl;
    is = with-rest-push frames rest segment;
  }

  -- ---- a node is open below the others
  module _ (before : List (OpenNode V)) (segment : List ℕ) (later : List (ℕ × Shape V))
      (after : List (OpenNode V)) (pushes : Pushes before segment later after) where
    abbrev added : OpenNode V
    added = (pushes.rest ++ segment ∷ [], later)

    -- the way to it
    pub pushed-way : concat (segments_of pushes.frames) ++ concat added.0
        ≡ concat (segments_of before) ++ segment
    pushed-way =
        let outer = concat (segments_of pushes.frames) in
        ap (λ z. outer ++ z) (concat-push pushes.rest segment)
        ∙ sym (append_assoc outer (concat pushes.rest) segment)
        ∙ ap (λ z. z ++ segment) (sym (concat-append (segments_of pushes.frames) pushes.rest)
        ∙ ap concat (sym (rest-segments pushes.frames pushes.rest)
        ∙ ap segments_of (sym pushes.was)))

    pub pushed-segments : segments_of after ≡ segments_of before ++ segment ∷ []
    pushed-segments =
        ap segments_of pushes.is ∙ segments-push pushes.frames added
        ∙ sym (append_assoc (segments_of pushes.frames) pushes.rest (segment ∷ []))
        ∙ ap (λ z. z ++ segment ∷ []) (sym (ap segments_of pushes.was
        ∙ rest-segments pushes.frames pushes.rest))

    pub pushed-path : concat (segments_of after) ≡ concat (segments_of before) ++ segment
    pushed-path = ap concat pushed-segments ∙ concat-push (segments_of before) segment

    pub pushed-pairs : pairs_ahead after
        ≡ behind_path (concat (segments_of before) ++ segment) (pairs_of_all later)
        ++ pairs_ahead before
    pushed-pairs =
        ap pairs_ahead pushes.is ∙ ahead-push pushes.frames added
        ∙ (λ i. behind_path (pushed-way i) (pairs_of_all later)
        ++ sym (ap pairs_ahead pushes.was ∙ rest-pairs pushes.frames pushes.rest) i)

    pub pushed-paths : paths_ahead after
        ≡ under_path (concat (segments_of before) ++ segment) (paths_of_all later)
        ++ paths_ahead before
    pushed-paths =
        ap paths_ahead pushes.is ∙ paths-push pushes.frames added
        ∙ (λ i. under_path (pushed-way i) (paths_of_all later)
        ++ sym (ap paths_ahead pushes.was ∙ rest-paths pushes.frames pushes.rest) i)

    pub pushed-trees : TreesAhead before → AreTrees later → TreesAhead after
    pushed-trees trees more =
        subst TreesAhead (sym pushes.is) (trees-push pushes.frames added
        (rest-trees pushes.frames pushes.rest (subst TreesAhead pushes.was trees)) more)

  -- the key path has room for the prefix of a tree whose keys it has room for
  pub path-fits : (segments : List (List ℕ)) (s : Shape V) (greatest : Option ℕ) → IsTree s
      → AreShort greatest (behind_path (concat segments) (pairs_of s))
      → IsAdmitted greatest (length (concat (segments ++ prefix_of s ∷ [])))
  path-fits segments s greatest tree short =
      let path = concat segments in
      let has = tree-has-pair s tree in
      let is-first : behind_path path (pairs_of s)
      ≡ ((path ++ prefix_of s) ++ has.behind, has.value) ∷ behind_path path has.others =
      ap (behind_path path) has.first
      ∙ ap (λ key. (key, has.value) ∷ behind_path path has.others)
      (sym (append_assoc path (prefix_of s) has.behind)) in
      subst (λ path. IsAdmitted greatest (length path)) (sym (concat-push segments (prefix_of s)))
      (short-first greatest (path ++ prefix_of s) has.behind has.value _
      (subst (AreShort greatest) is-first short))

  -- ---- a node is entered below the innermost one
  module _ (frames : List (OpenNode V)) (s : Shape V) (after : List (OpenNode V))
      (pushes : Pushes frames (prefix_of s) (children_of s) after) where
    pub whole-pairs : behind_path (concat (segments_of frames)) (pairs_of s) ++ pairs_ahead frames
        ≡ pending_pair (concat (segments_of after)) (value_of s) ++ pairs_ahead after
    whole-pairs =
        let path = concat (segments_of frames) in
        let own = pending_pair (path ++ prefix_of s) (value_of s) in
        let below = behind_path (path ++ prefix_of s) (pairs_of_all (children_of s)) in
        ap (λ pairs. pairs ++ pairs_ahead frames) (pairs-entered path s)
        ∙ append_assoc own below (pairs_ahead frames)
        ∙ (λ i. pending_pair (sym (pushed-path _ _ _ _ pushes) i) (value_of s)
        ++ sym (pushed-pairs _ _ _ _ pushes) i)

    -- what is left but its own pair
    pub whole-inside : pairs_ahead after
        ≡ behind_path (concat (segments_of frames)) (pairs_inside s) ++ pairs_ahead frames
    whole-inside =
        pushed-pairs _ _ _ _ pushes
        ∙ ap (λ z. z ++ pairs_ahead frames) (sym (behind-behind (concat (segments_of frames))
        (prefix_of s) (pairs_of_all (children_of s))))

    -- the paths of its nodes: its own, and those that are left then
    pub whole-paths : under_path (concat (segments_of frames)) (paths_of s) ++ paths_ahead frames
        ≡ concat (segments_of after) ∷ paths_ahead after
    whole-paths =
        ap (λ paths. paths ++ paths_ahead frames)
        (paths-entered (concat (segments_of frames)) s)
        ∙ (λ i. sym (pushed-path _ _ _ _ pushes) i ∷ sym (pushed-paths _ _ _ _ pushes) i)

    pub whole-trees : IsTree s → TreesAhead frames → TreesAhead after
    whole-trees tree trees = pushed-trees _ _ _ _ pushes trees (trees-entered s tree)

    -- its first key goes on from where it stands
    pub whole-first : IsTree s → GoesOnFirst (concat (segments_of after))
        (behind_path (concat (segments_of frames)) (pairs_of s) ++ pairs_ahead frames)
    whole-first tree =
        let path = concat (segments_of frames) in
        let has = tree-has-pair s tree in
        subst (λ z. GoesOnFirst z (behind_path path (pairs_of s) ++ pairs_ahead frames))
        (sym (pushed-path _ _ _ _ pushes)) (
          has.behind,
          has.value,
          behind_path path has.others ++ pairs_ahead frames,
          ap (λ pairs. behind_path path pairs ++ pairs_ahead frames) has.first
              ∙ ap (λ key. (key, has.value) ∷ (behind_path path has.others ++ pairs_ahead frames))
              (sym (append_assoc path (prefix_of s) has.behind)),
        )

    pub whole-short : (greatest : Option ℕ)
        → AreShort greatest (behind_path (concat (segments_of frames)) (pairs_of s))
        → AreShort greatest (pairs_ahead frames) → AreShort greatest (pairs_ahead after)
    whole-short greatest short later =
        short-pending greatest (concat (segments_of after)) (value_of s) (pairs_ahead after)
        (subst (AreShort greatest) whole-pairs
        (short-append greatest (behind_path (concat (segments_of frames)) (pairs_of s))
        (pairs_ahead frames) short later))

  -- ---- the next child
  -- nodes without a child left have nothing left
  spent-pairs : (frames : List (OpenNode V)) → AreSpent frames → pairs_ahead frames ≡ []
  spent-pairs [] spent = refl
  spent-pairs (f ∷ frames) spent =
      λ i. behind_path (concat f.0) (spent-pairs frames spent.1 i ++ pairs_of_all (spent.0 i))

  spent-paths : (frames : List (OpenNode V)) → AreSpent frames → paths_ahead frames ≡ []
  spent-paths [] spent = refl
  spent-paths (f ∷ frames) spent =
      λ i. under_path (concat f.0) (spent-paths frames spent.1 i ++ paths_of_all (spent.0 i))

  pub took-none : (frames after : List (OpenNode V)) → TakesAhead frames None after
      → (pairs_ahead frames ≡ []) × (paths_ahead frames ≡ [])
  took-none frames after takes = (spent-pairs frames takes.0, spent-paths frames takes.0)

  module _ (greatest : Option ℕ) (frames : List (OpenNode V)) (s : Shape V)
      (after : List (OpenNode V)) (takes : TakesAhead frames (Some s) after) where
    abbrev front : List (OpenNode V)
    front = takes.0

    abbrev here : List ℕ
    here = concat takes.2

    abbrev above : List ℕ
    above = concat (segments_of front) ++ here

    path-after : concat (segments_of after) ≡ above
    path-after = ap (λ z. concat (segments_of z)) takes.7 ∙ path-push front (takes.2, takes.4)

    -- the way to the innermost nodes begins as the way to the one that stands then
    pub taken-way : segments_of frames ≡ segments_of after ++ segments_of takes.1
    taken-way =
        ap segments_of takes.6
        ∙ segments-append front ((takes.2, (takes.3, s) ∷ takes.4) ∷ takes.1)
        ∙ sym (append_assoc (segments_of front) takes.2 (segments_of takes.1))
        ∙ ap (λ z. z ++ segments_of takes.1) (sym (segments-push front (takes.2, takes.4))
        ∙ ap segments_of (sym takes.7))

    -- what was left is what is left of the child, and behind it
    taken-pairs : pairs_ahead frames
        ≡ behind_path (concat (segments_of after)) (pairs_of s) ++ pairs_ahead after
    taken-pairs =
        ap pairs_ahead takes.6
        ∙ ahead-append front ((takes.2, (takes.3, s) ∷ takes.4) ∷ takes.1)
        ∙ ap (λ z. behind_path (concat (segments_of front))
        (behind_path here (z ++ (pairs_of s ++ pairs_of_all takes.4))) ++ pairs_ahead front)
        (spent-pairs takes.1 takes.5)
        ∙ ap (λ z. z ++ pairs_ahead front) (behind-behind (concat (segments_of front)) here
        (pairs_of s ++ pairs_of_all takes.4) ∙ behind-append above (pairs_of s)
        (pairs_of_all takes.4))
        ∙ append_assoc (behind_path above (pairs_of s)) (behind_path above (pairs_of_all takes.4))
        (pairs_ahead front)
        ∙ ap (λ z. behind_path above (pairs_of s) ++ z)
        (sym (ahead-push front (takes.2, takes.4)) ∙ ap pairs_ahead (sym takes.7))
        ∙ ap (λ path. behind_path path (pairs_of s) ++ pairs_ahead after) (sym path-after)

    taken-paths : paths_ahead frames
        ≡ under_path (concat (segments_of after)) (paths_of s) ++ paths_ahead after
    taken-paths =
        ap paths_ahead takes.6
        ∙ paths-append front ((takes.2, (takes.3, s) ∷ takes.4) ∷ takes.1)
        ∙ ap (λ z. under_path (concat (segments_of front))
        (under_path here (z ++ (paths_of s ++ paths_of_all takes.4))) ++ paths_ahead front)
        (spent-paths takes.1 takes.5)
        ∙ ap (λ z. z ++ paths_ahead front) (under-under (concat (segments_of front)) here
        (paths_of s ++ paths_of_all takes.4) ∙ under-append above (paths_of s)
        (paths_of_all takes.4))
        ∙ append_assoc (under_path above (paths_of s)) (under_path above (paths_of_all takes.4))
        (paths_ahead front)
        ∙ ap (λ z. under_path above (paths_of s) ++ z)
        (sym (paths-push front (takes.2, takes.4)) ∙ ap paths_ahead (sym takes.7))
        ∙ ap (λ path. under_path path (paths_of s) ++ paths_ahead after) (sym path-after)

    -- a node is left to enter
    pub taken-some : 1 ≤ length (paths_ahead frames)
    taken-some =
        let path = concat (segments_of after) in
        let left = ap length (taken-paths
        ∙ ap (λ paths. paths ++ paths_ahead after) (paths-entered path s)) in
        omega (arith, left)

    module _ (trees : TreesAhead frames) (short : AreShort greatest (pairs_ahead frames)) where
      child-trees : TreesAhead front × IsTree s × AreTrees takes.4
      child-trees =
          let parts =
          trees-append front ((takes.2, (takes.3, s) ∷ takes.4) ∷ takes.1)
          (subst TreesAhead takes.6 trees) in
          (parts.0, parts.1.0.0, parts.1.0.1)

      pub taken-tree : IsTree s
      taken-tree = child-trees.1

      taken-short : AreShort greatest
          (behind_path (concat (segments_of after)) (pairs_of s) ++ pairs_ahead after)
      taken-short = subst (AreShort greatest) taken-pairs short

      -- the key path has room for its prefix
      pub taken-fits : IsAdmitted greatest (length (concat (segments_of after ++ prefix_of s ∷ [])))
      taken-fits =
          path-fits (segments_of after) s greatest taken-tree
          (short-front greatest (behind_path (concat (segments_of after)) (pairs_of s))
          (pairs_ahead after) taken-short)

      -- the child is entered
      module _ (inner : List (OpenNode V))
          (pushes : Pushes after (prefix_of s) (children_of s) inner) where
        pub inner-pairs : pairs_ahead frames
            ≡ pending_pair (concat (segments_of inner)) (value_of s) ++ pairs_ahead inner
        inner-pairs = taken-pairs ∙ whole-pairs after s inner pushes

        pub inner-paths : paths_ahead frames ≡ concat (segments_of inner) ∷ paths_ahead inner
        inner-paths = taken-paths ∙ whole-paths after s inner pushes

        pub inner-first : GoesOnFirst (concat (segments_of inner)) (pairs_ahead frames)
        inner-first =
            subst (GoesOnFirst (concat (segments_of inner))) (sym taken-pairs)
            (whole-first after s inner pushes taken-tree)

        pub inner-trees : TreesAhead inner
        inner-trees =
            pushed-trees _ _ _ _ pushes
            (subst TreesAhead (sym takes.7)
            (trees-push front (takes.2, takes.4) child-trees.0 child-trees.2))
            (trees-entered s taken-tree)

        pub inner-short : AreShort greatest (pairs_ahead inner)
        inner-short =
            short-pending greatest (concat (segments_of inner)) (value_of s) (pairs_ahead inner)
            (subst (AreShort greatest) inner-pairs short)
