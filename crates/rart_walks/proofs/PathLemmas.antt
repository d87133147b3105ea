-- A way down to the part of a tree that a string picks: what is known where it has come to.
use Rattle.std.proofs.Common.{◌≡◌, ℕ, suc, Bool, true, false, cond, List, [], ◌∷◌, ◌++◌, Option, Some, None, filter, refl, sym, ap, subst, ◌∙◌}
use Rattle.std.specs.List.{concat}
use Rattle.std.proofs.lemmas.List.{append-nil, append_assoc}
use Rattle.rart_below.specs.Children.{child_at, children_from}
use Rattle.rart_node.specs.Counts.{Counts}
use Rattle.rart_node.specs.Shape.{Shape, prefix_of, value_of, children_of}
use Rattle.rart_node.specs.Trees.{IsTree, own_pair, pairs_of}
use Rattle.rart_node.proofs.SearchLemmas.{IsSearchAt, search-start}
use Rattle.rart_walks.specs.declared.walk.path.Part.{Part}
use Rattle.rart_walks.specs.Frames.{OpenNode, Pushes, behind_path, under_path, pairs_of_all, segments_of, pairs_ahead, paths_ahead, TreesAhead, pending_pair}
use Rattle.rart_walks.specs.Parts.{keeps, reaches, goes_on}
use Rattle.rart_walks.specs.Walks.{AreShort, paths_of}
use Rattle.rart_walks.proofs.AheadLemmas.{gathered_ahead, pushed-gathered, pairs-ahead, paths-ahead}
use Rattle.rart_node.proofs.GatherLemmas.{keeping, gathered, gathered_all, kept_at, pairs-gathered}
use Rattle.rart_node.proofs.AlongLemmas.{StandsAtEnd, GoesAlong, own_pair-ends, parted-below}
use Rattle.rart_walks.proofs.PartTestLemmas.{keeps-goes, reaches-goes}
use Rattle.rart_walks.proofs.CursorLemmas.{own_place, own_place-ends, keys_of, keys-behind, keys-append, paths-kept}
use Rattle.rart_node.proofs.BehindLemmas.{behind-none, behind-behind, behind-append, pairs-entered, short-none, short-append, short-pending}
use Rattle.rart_walks.proofs.WalkLemmas.{trees-entered, pushed-path, pushed-pairs, pushed-trees}
use Rattle.rart_node.proofs.SublistLemmas.{later-trees, later-short, child-short}

module _ {V : Type 0} where
  -- What a test keeps of what is gathered from the root is what it keeps of the node s, and then
  -- what is left in the nodes that are open.
  abbrev pub IsKept : {A : Type 0} → (Option V → List (List ℕ × A))
      → (List ℕ → List ℕ → Bool) → List ℕ → Shape V → Shape V → List ℕ → List (OpenNode V)
      → Type 0
  IsKept own test probe root s rest frames =
      keeping (test probe) (gathered own root)
      ≡ behind_path (concat (segments_of frames)) (keeping (test rest) (gathered own s))
      ++ gathered_ahead own frames

  -- The way has come to the node s, with this rest of the string and these nodes open.
  pub record IsOnWay (part : Part) (greatest : Option ℕ) (probe : List ℕ) (root : Shape V)
      (start : Counts) (s : Shape V) (rest : List ℕ) (frames : List (OpenNode V))
      (now : Counts) : Type 0 where
    pub at : IsSearchAt root probe start s rest now
    pub trees : TreesAhead frames
    pub short : AreShort greatest (behind_path (concat (segments_of frames)) (pairs_of s))
    pub short_ahead : AreShort greatest (pairs_ahead frames)
    pub kept : IsKept own_pair (keeps part) probe root s rest frames
    pub placed : IsKept own_place (reaches part) probe root s rest frames

  start-kept : {A : Type 0} (own : Option V → List (List ℕ × A)) (test : List ℕ → List ℕ → Bool)
      (probe : List ℕ) (root : Shape V) → IsKept own test probe root root probe []
  start-kept own test probe root =
      let all = keeping (test probe) (gathered own root) in
      sym (append-nil (behind_path [] all) ∙ behind-none all)

  pub way-start : (part : Part) (greatest : Option ℕ) (probe : List ℕ) (root : Shape V)
      (start : Counts) → IsTree root → AreShort greatest (pairs_of root)
      → IsOnWay part greatest probe root start root probe [] start
  way-start part greatest probe root start tree short = record {
    at = search-start root probe start tree;
    trees = tt;
    short = subst (AreShort greatest) (sym (behind-none (pairs_of root))) short;
    short_ahead = short-none V greatest;
    kept = start-kept own_pair (keeps part) probe root;
    placed = start-kept own_place (reaches part) probe root;
  }

  -- ---- a node of which the string has the whole prefix, and goes on
  module _ (part : Part) (greatest : Option ℕ) (probe : List ℕ) (root : Shape V) (start : Counts)
      (s : Shape V) (rest : List ℕ) (frames : List (OpenNode V)) (now : Counts)
      (way : IsOnWay part greatest probe root start s rest frames now) where
    module _ (byte : ℕ) (left : List ℕ) (is : rest ≡ prefix_of s ++ (byte ∷ left))
        (passed : List (OpenNode V)) (pushes : Pushes frames (prefix_of s)
        (cond (goes_on part) (children_from (suc byte) (children_of s)) []) passed) where
      abbrev later : List (ℕ × Shape V)
      later = cond (goes_on part) (children_from (suc byte) (children_of s)) []

      path-passed : concat (segments_of passed) ≡ concat (segments_of frames) ++ prefix_of s
      path-passed = pushed-path _ _ _ _ pushes

      -- What is kept: of the child under the byte, then of the children behind it, then what is
      -- left above.
      passed-kept : {A : Type 0} (own : Option V → List (List ℕ × A)) → StandsAtEnd own
          → (test : List ℕ → List ℕ → Bool) → GoesAlong test (goes_on part)
          → IsKept own test probe root s rest frames
          → keeping (test probe) (gathered own root) ≡ behind_path (concat (segments_of passed))
          (kept_at own (test (byte ∷ left)) (child_at byte (children_of s)))
          ++ gathered_ahead own passed
      passed-kept own at_end test goes kept =
          let path = concat (segments_of frames) in
          let below = kept_at own (test (byte ∷ left)) (child_at byte (children_of s)) in
          let cs = children_from (suc byte) (children_of s) in
          let behind = cond (goes_on part) (gathered_all own cs) [] in
          let gathers : behind ≡ gathered_all own later =
          elim (goes_on part) as (λ t. cond t (gathered_all own cs) []
          ≡ gathered_all own (cond t cs [])) [ true ↦ refl | false ↦ refl ] in
          kept
          ∙ ap (λ r. behind_path path (keeping (test r) (gathered own s))
          ++ gathered_ahead own frames) is
          ∙ ap (λ z. behind_path path z ++ gathered_ahead own frames)
          (parted-below own at_end test (goes_on part) goes s byte left way.at.tree)
          ∙ ap (λ z. z ++ gathered_ahead own frames)
          (behind-behind path (prefix_of s) (below ++ behind)
          ∙ behind-append (path ++ prefix_of s) below behind)
          ∙ append_assoc (behind_path (path ++ prefix_of s) below)
          (behind_path (path ++ prefix_of s) behind) (gathered_ahead own frames)
          ∙ ap (λ z. behind_path (path ++ prefix_of s) below
          ++ (behind_path (path ++ prefix_of s) z ++ gathered_ahead own frames)) gathers
          ∙ ap (λ z. behind_path (path ++ prefix_of s) below ++ z)
          (sym (pushed-gathered own _ _ _ _ pushes))
          ∙ ap (λ p. behind_path p below ++ gathered_ahead own passed) (sym path-passed)

      pub passed-pairs : keeping (keeps part probe) (gathered own_pair root)
          ≡ behind_path (concat (segments_of passed))
          (kept_at own_pair (keeps part (byte ∷ left)) (child_at byte (children_of s)))
          ++ gathered_ahead own_pair passed
      passed-pairs =
          passed-kept own_pair own_pair-ends (keeps part) (keeps-goes part) way.kept

      pub passed-paths : keeping (reaches part probe) (gathered own_place root)
          ≡ behind_path (concat (segments_of passed))
          (kept_at own_place (reaches part (byte ∷ left)) (child_at byte (children_of s)))
          ++ gathered_ahead own_place passed
      passed-paths =
          passed-kept own_place own_place-ends (reaches part) (reaches-goes part) way.placed

      pub passed-trees : TreesAhead passed
      passed-trees =
          pushed-trees _ _ _ _ pushes way.trees
          (later-trees (goes_on part) (suc byte) (children_of s) (trees-entered s way.at.tree))

      children-short : AreShort greatest
          (behind_path (concat (segments_of passed)) (pairs_of_all (children_of s)))
      children-short =
          let path = concat (segments_of frames) in
          short-pending greatest (path ++ prefix_of s) (value_of s) _
          (subst (λ p. AreShort greatest
          (pending_pair (path ++ prefix_of s) (value_of s)
          ++ behind_path p (pairs_of_all (children_of s)))) (sym path-passed)
          (subst (AreShort greatest) (pairs-entered path s) way.short))

      pub passed-short : AreShort greatest (pairs_ahead passed)
      passed-short =
          subst (AreShort greatest) (sym (pushed-pairs _ _ _ _ pushes))
          (short-append greatest _ (pairs_ahead frames)
          (subst (λ p. AreShort greatest (behind_path p (pairs_of_all later))) path-passed
          (later-short greatest (concat (segments_of passed)) (goes_on part) (suc byte)
          (children_of s) children-short))
          way.short_ahead)

      -- the way goes on at the child under the byte
      pub way-child : (child : Shape V) (after : Counts)
          → IsSearchAt root probe start child (byte ∷ left) after
          → child_at byte (children_of s) ≡ Some child
          → IsOnWay part greatest probe root start child (byte ∷ left) passed after
      way-child child after at here = record {
        at = at;
        trees = passed-trees;
        short =
            child-short greatest (concat (segments_of passed)) byte
            (children_of s) child here children-short;
        short_ahead = passed-short;
        kept =
            passed-pairs ∙ ap (λ o. behind_path (concat (segments_of passed))
            (kept_at own_pair (keeps part (byte ∷ left)) o) ++ gathered_ahead own_pair passed) here;
        placed =
            passed-paths ∙ ap (λ o. behind_path (concat (segments_of passed))
            (kept_at own_place (reaches part (byte ∷ left)) o) ++ gathered_ahead own_place passed)
            here;
      }

      -- it ends where there is none
      pub way-missing : child_at byte (children_of s) ≡ None
          → (keeping (keeps part probe) (pairs_of root) ≡ pairs_ahead passed)
          × (filter (reaches part probe) (paths_of root) ≡ paths_ahead passed)
      way-missing none = (
        ap (keeping (keeps part probe)) (pairs-gathered root) ∙ passed-pairs
            ∙ ap (λ o. behind_path (concat (segments_of passed))
            (kept_at own_pair (keeps part (byte ∷ left)) o) ++ gathered_ahead own_pair passed) none
            ∙ sym (pairs-ahead passed),
        paths-kept (reaches part probe) root ∙ ap keys_of (passed-paths
            ∙ ap (λ o. behind_path (concat (segments_of passed))
            (kept_at own_place (reaches part (byte ∷ left)) o) ++ gathered_ahead own_place passed)
            none)
            ∙ sym (paths-ahead passed),
      )

    -- what the whole way keeps, where it ends at this node
    pub way-kept : keeping (keeps part probe) (pairs_of root)
        ≡ behind_path (concat (segments_of frames)) (keeping (keeps part rest) (pairs_of s))
        ++ pairs_ahead frames
    way-kept =
        ap (keeping (keeps part probe)) (pairs-gathered root) ∙ way.kept
        ∙ (λ i. behind_path (concat (segments_of frames))
        (keeping (keeps part rest) (sym (pairs-gathered s) i)) ++ sym (pairs-ahead frames) i)

    pub way-placed : filter (reaches part probe) (paths_of root)
        ≡ under_path (concat (segments_of frames)) (filter (reaches part rest) (paths_of s))
        ++ paths_ahead frames
    way-placed =
        let path = concat (segments_of frames) in
        let here = keeping (reaches part rest) (gathered own_place s) in
        paths-kept (reaches part probe) root ∙ ap keys_of way.placed
        ∙ keys-append (behind_path path here) (gathered_ahead own_place frames)
        ∙ ap (λ z. z ++ keys_of (gathered_ahead own_place frames)) (keys-behind path here)
        ∙ (λ i. under_path path (sym (paths-kept (reaches part rest) s) i)
        ++ sym (paths-ahead frames) i)
