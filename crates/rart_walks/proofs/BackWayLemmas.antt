-- A way down to the front part of a tree that a string picks: what is known where it has come to.
use Rattle.std.proofs.Common.{◌≡◌, ◌+◌, ◌≤◌, ℕ, Bool, true, false, cond, nat_lt, List, [], ◌∷◌, ◌++◌, Option, Some, None, filter, length, is_some, refl, arith, sym, ap, subst, ◌∙◌, inl}
use Rattle.std.specs.Prelude.{count_by}
use Rattle.std.specs.List.{concat}
use Rattle.std.proofs.lemmas.List.{append-nil, append_assoc}
use Rattle.std.proofs.lemmas.List.Elements.{All-filter}
use Rattle.std.proofs.lemmas.List.Sums.{sum_by-append, sum_by-cons}
use Rattle.rart_below.specs.Children.{child_at, children_below}
use Rattle.rart_node.specs.Counts.{Counts}
use Rattle.rart_node.specs.Shape.{Shape, prefix_of, value_of, children_of}
use Rattle.rart_node.specs.Trees.{IsTree, own_pair, pairs_of}
use Rattle.rart_node.proofs.SearchLemmas.{IsSearchAt, search-start}
use Rattle.rart_walks.specs.declared.walk_back.path.Front.{Front}
use Rattle.rart_walks.specs.declared.walk_back.path.Reached.{Reached}
use Rattle.rart_walks.specs.declared.walk_back.path.Reached.TheVariants.{All as Whole, Own, Nothing}
use Rattle.rart_walks.specs.BackFrames.{OpenBack, TreesBehind, back_paths_of, back_paths_of_all, back_segments, owns_behind, pairs_behind, paths_behind}
use Rattle.rart_walks.specs.Frames.{AreTrees, behind_path, pairs_of_all, pending_pair, under_path}
use Rattle.rart_walks.specs.Fronts.{has_lower, is_under, keeps, passed_frame, reached_frames, reached_pairs, reached_paths, reaches}
use Rattle.rart_walks.specs.Walks.{AreShort, paths_of}
use Rattle.rart_walks.proofs.BackCountLemmas.{back-counts, back-counts_all, count-behind}
use Rattle.rart_walks.proofs.BackEnterLemmas.{whole-pairs, whole-paths}
use Rattle.rart_walks.proofs.BackLemmas.{owns-push, pairs-push, path-at, paths-push, trees-push}
use Rattle.rart_walks.proofs.BackPartLemmas.{SortsBack, keeps-sorts, parted-on, reaches-sorts}
use Rattle.rart_walks.proofs.CursorLemmas.{own_place, own_place-ends, all-paths, keys_of, keys-append, keys-behind, paths-kept}
use Rattle.rart_node.proofs.GatherLemmas.{all-gathered, gathered, gathered_all, keeping, kept_at, pairs-gathered}
use Rattle.rart_node.proofs.AlongLemmas.{StandsAtEnd, own_pair-ends}
use Rattle.rart_node.proofs.SublistLemmas.{child-short}
use Rattle.rart_node.proofs.BehindLemmas.{behind-append, behind-behind, behind-none, pairs-entered, short-pending}
use Rattle.rart_walks.proofs.WalkLemmas.{trees-entered}

-- `own` is what a node itself has, below its prefix, and `keep` what of that an open one has left
module _ {V A : Type 0} (own keep : Option V → List (List ℕ × A)) where
  abbrev pub gathered_behind : List (OpenBack V) → List (List ℕ × A)
  gathered_behind [] = []
  gathered_behind (frame ∷ frames) =
      behind_path frame.0 ((keep frame.1 ++ gathered_all own frame.2) ++ gathered_behind frames)

  pub gathered-push : (frames : List (OpenBack V)) (frame : OpenBack V)
      → gathered_behind (frames ++ frame ∷ []) ≡ gathered_behind frames
      ++ behind_path (concat (back_segments frames) ++ frame.0)
      (keep frame.1 ++ gathered_all own frame.2)
  gathered-push [] frame =
      ap (behind_path frame.0) (append-nil (keep frame.1 ++ gathered_all own frame.2))
  gathered-push (f ∷ frames) frame =
      let here = keep f.1 ++ gathered_all own f.2 in
      let path = concat (back_segments frames) ++ frame.0 in
      let last = keep frame.1 ++ gathered_all own frame.2 in
      ap (λ rest. behind_path f.0 (here ++ rest)) (gathered-push frames frame)
      ∙ ap (behind_path f.0)
      (sym (append_assoc here (gathered_behind frames) (behind_path path last)))
      ∙ behind-append f.0 (here ++ gathered_behind frames) (behind_path path last)
      ∙ ap (λ z. behind_path f.0 (here ++ gathered_behind frames) ++ z)
      (behind-behind f.0 path last
      ∙ ap (λ p. behind_path p last)
      (sym (append_assoc f.0 (concat (back_segments frames)) frame.0)))

module _ {V : Type 0} where
  -- of its own an open node has no place left: it is entered
  abbrev pub no_place : Option V → List (List ℕ × Unit {0})
  no_place value = []

  pub pairs-behind : (frames : List (OpenBack V))
      → pairs_behind frames ≡ gathered_behind own_pair own_pair frames
  pairs-behind [] = refl
  pairs-behind (frame ∷ frames) =
      λ i. behind_path frame.0
      ((own_pair frame.1 ++ all-gathered frame.2 i) ++ pairs-behind frames i)

  abbrev places_behind : List (OpenBack V) → List (List ℕ × Unit {0})
  places_behind frames = gathered_behind own_place no_place frames

  -- as many paths are left as places
  pub places-counted : (test : List ℕ → Bool) (frames : List (OpenBack V))
      → count_by test (paths_behind frames) ≡ count_by test (keys_of (places_behind frames))
  places-counted test [] = refl
  places-counted test (frame ∷ frames) =
      let inner = λ (path : List ℕ). test (frame.0 ++ path) in
      let one = λ (path : List ℕ). cond (inner path) 1 0 in
      let here = gathered_all own_place frame.2 in
      let back = count-behind test frame.0 (paths_behind frames ++ back_paths_of_all frame.2) in
      let back_both = sum_by-append one (paths_behind frames) (back_paths_of_all frame.2) in
      let all = back-counts_all inner frame.2 in
      let placed = ap (count_by inner) (all-paths frame.2) in
      let rest = places-counted inner frames in
      let keys = ap (count_by test) (keys-behind frame.0 (here ++ places_behind frames)
      ∙ ap (under_path frame.0) (keys-append here (places_behind frames))) in
      let on = count-behind test frame.0 (keys_of here ++ keys_of (places_behind frames)) in
      let on_both = sum_by-append one (keys_of here) (keys_of (places_behind frames)) in
      omega (arith, back, back_both, all, placed, rest, keys, on, on_both)

  -- What a test keeps of what is gathered from the root is what is left in the nodes that are open,
  -- and then what it keeps of the node s.
  abbrev pub IsKeptBack : {A : Type 0} → (own keep : Option V → List (List ℕ × A))
      → (List ℕ → List ℕ → Bool) → List ℕ → Shape V → Shape V → List ℕ → List (OpenBack V)
      → Type 0
  IsKeptBack own keep test probe root s rest frames =
      keeping (test probe) (gathered own root) ≡ gathered_behind own keep frames
      ++ behind_path (concat (back_segments frames)) (keeping (test rest) (gathered own s))

  -- The way has come to the node s, with this rest of the string and these nodes open.
  pub record IsOnWayBack (part : Front) (greatest : Option ℕ) (probe : List ℕ) (root : Shape V)
      (start : Counts) (s : Shape V) (rest : List ℕ) (frames : List (OpenBack V))
      (now : Counts) : Type 0 where
    pub at : IsSearchAt root probe start s rest now
    pub trees : TreesBehind frames
    pub short : AreShort greatest (behind_path (concat (back_segments frames)) (pairs_of s))
    pub kept : IsKeptBack own_pair own_pair (keeps part) probe root s rest frames
    pub placed : IsKeptBack own_place no_place (reaches part) probe root s rest frames
    pub owns : start.entered + owns_behind frames ≤ now.entered

  pub back-start : (part : Front) (greatest : Option ℕ) (probe : List ℕ) (root : Shape V)
      (start : Counts) → IsTree root → AreShort greatest (pairs_of root)
      → IsOnWayBack part greatest probe root start root probe [] start
  back-start part greatest probe root start tree short = record {
    at = search-start root probe start tree;
    trees = tt;
    short = subst (AreShort greatest) (sym (behind-none (pairs_of root))) short;
    kept = sym (behind-none (keeping (keeps part probe) (gathered own_pair root)));
    placed = sym (behind-none (keeping (reaches part probe) (gathered own_place root)));
    owns = omega arith;
  }

  -- ---- how short the keys are that a test keeps
  pub short-kept : (greatest : Option ℕ) (test : List ℕ → Bool) (pairs : List (List ℕ × V))
      → AreShort greatest pairs → AreShort greatest (keeping test pairs)
  short-kept None test pairs short = tt
  short-kept (Some most) test pairs short =
      All-filter (λ (pair : List ℕ × V). test pair.0)
      (λ (pair : List ℕ × V). length pair.0 ≤ most) pairs short

  below-trees : (lower : Bool) (end : ℕ) (children : List (ℕ × Shape V)) → AreTrees children
      → AreTrees (cond lower (children_below end children) [])
  below-trees false end children trees = tt
  below-trees true end [] trees = tt
  below-trees true end (child ∷ children) trees =
      let rest = below-trees true end children trees.1 in
      elim (nat_lt child.0 end) as (λ t.
      AreTrees (cond t (child ∷ children_below end children) (children_below end children)))
      [ true ↦ (trees.0, rest) | false ↦ rest ]

  -- The nodes that are open have left what the part has of the tree, and of its nodes no more.
  pub record HasFront (part : Front) (probe : List ℕ) (root : Shape V) (start : Counts)
      (frames : List (OpenBack V)) (now : Counts) : Type 0 where
    pub trees : TreesBehind frames
    pub pairs : keeping (keeps part probe) (pairs_of root) ≡ pairs_behind frames
    pub few : (test : List ℕ → Bool) → count_by test (paths_behind frames)
        ≤ count_by test (filter (reaches part probe) (paths_of root))
    pub owns : start.entered + owns_behind frames ≤ now.entered

  -- ---- at a node
  module _ (part : Front) (greatest : Option ℕ) (probe : List ℕ) (root : Shape V) (start : Counts)
      (s : Shape V) (rest : List ℕ) (frames : List (OpenBack V)) (now : Counts)
      (way : IsOnWayBack part greatest probe root start s rest frames now) where
    abbrev above : List ℕ
    above = concat (back_segments frames)

    -- the string has its whole prefix, and goes on
    module _ (byte : ℕ) (left : List ℕ) (is : rest ≡ prefix_of s ++ (byte ∷ left)) where
      abbrev pub passed : List (OpenBack V)
      passed = frames ++ passed_frame part s byte ∷ []

      path-passed : concat (back_segments passed) ≡ above ++ prefix_of s
      path-passed = path-at frames (passed_frame part s byte)

      passed-kept : {A : Type 0} (own keep : Option V → List (List ℕ × A)) → StandsAtEnd own
          → (test : List ℕ → List ℕ → Bool) (first inside : Bool)
          → SortsBack test first (has_lower part) inside
          → keep (cond (has_lower part) (value_of s) None) ≡ cond first (own (value_of s)) []
          → IsKeptBack own keep test probe root s rest frames
          → keeping (test probe) (gathered own root) ≡ gathered_behind own keep passed
          ++ behind_path (concat (back_segments passed))
          (kept_at own (test (byte ∷ left)) (child_at byte (children_of s)))
      passed-kept own keep at_end test first inside sorts mine kept =
          let path = above ++ prefix_of s in
          let below = children_below byte (children_of s) in
          let here = cond first (own (value_of s)) []
          ++ cond (has_lower part) (gathered_all own below) [] in
          let last = kept_at own (test (byte ∷ left)) (child_at byte (children_of s)) in
          let frame = passed_frame part s byte in
          let gathers : keep frame.1 ++ gathered_all own frame.2 ≡ here =
          (λ i. mine i ++ gathered_all own frame.2)
          ∙ ap (λ z. cond first (own (value_of s)) [] ++ z)
          (elim (has_lower part) as (λ t. gathered_all own (cond t below [])
          ≡ cond t (gathered_all own below) []) [ true ↦ refl | false ↦ refl ]) in
          kept
          ∙ ap (λ r. gathered_behind own keep frames
          ++ behind_path above (keeping (test r) (gathered own s))) is
          ∙ ap (λ z. gathered_behind own keep frames ++ behind_path above z)
          (parted-on own at_end test first (has_lower part) inside sorts s byte left way.at.tree)
          ∙ ap (λ z. gathered_behind own keep frames ++ z)
          (behind-behind above (prefix_of s) (here ++ last) ∙ behind-append path here last)
          ∙ sym (append_assoc (gathered_behind own keep frames) (behind_path path here)
          (behind_path path last))
          ∙ ap (λ z. (gathered_behind own keep frames ++ behind_path path z)
          ++ behind_path path last) (sym gathers)
          ∙ ap (λ z. z ++ behind_path path last) (sym (gathered-push own keep frames frame))
          ∙ ap (λ p. gathered_behind own keep passed ++ behind_path p last) (sym path-passed)

      pub passed-pairs : keeping (keeps part probe) (gathered own_pair root)
          ≡ gathered_behind own_pair own_pair passed
          ++ behind_path (concat (back_segments passed))
          (kept_at own_pair (keeps part (byte ∷ left)) (child_at byte (children_of s)))
      passed-pairs =
          passed-kept own_pair own_pair own_pair-ends (keeps part) (has_lower part) (is_under part)
          (keeps-sorts part)
          (elim (has_lower part) as (λ t. own_pair (cond t (value_of s) None)
          ≡ cond t (own_pair (value_of s)) []) [ true ↦ refl | false ↦ refl ])
          way.kept

      pub passed-places : keeping (reaches part probe) (gathered own_place root)
          ≡ gathered_behind own_place no_place passed
          ++ behind_path (concat (back_segments passed))
          (kept_at own_place (reaches part (byte ∷ left)) (child_at byte (children_of s)))
      passed-places =
          passed-kept own_place no_place own_place-ends (reaches part) false (is_under part)
          (reaches-sorts part) refl way.placed

      pub passed-trees : TreesBehind passed
      passed-trees =
          trees-push frames (passed_frame part s byte) way.trees
          (below-trees (has_lower part) byte (children_of s) (trees-entered s way.at.tree))

      passed-owns : (after : Counts) → after.entered ≡ now.entered + 1
          → start.entered + owns_behind passed ≤ after.entered
      passed-owns after opens =
          let push = owns-push frames (passed_frame part s byte) in
          let owns = way.owns in
          let one = at-most-one (is_some (passed_frame part s byte).1) in
          omega (arith, push, owns, one, opens)
        where
          at-most-one : (t : Bool) → cond t 1 0 ≤ 1
          at-most-one true = omega arith
          at-most-one false = omega arith

      children-short : AreShort greatest
          (behind_path (concat (back_segments passed)) (pairs_of_all (children_of s)))
      children-short =
          short-pending greatest (above ++ prefix_of s) (value_of s) _
          (subst (λ p. AreShort greatest
          (pending_pair (above ++ prefix_of s) (value_of s)
          ++ behind_path p (pairs_of_all (children_of s)))) (sym path-passed)
          (subst (AreShort greatest) (pairs-entered above s) way.short))

      -- the way goes on at the child under the byte
      pub back-child : (child : Shape V) (after : Counts) → after.entered ≡ now.entered + 1
          → IsSearchAt root probe start child (byte ∷ left) after
          → child_at byte (children_of s) ≡ Some child
          → IsOnWayBack part greatest probe root start child (byte ∷ left) passed after
      back-child child after opens at here = record {
        at = at;
        trees = passed-trees;
        short =
            child-short greatest (concat (back_segments passed)) byte
            (children_of s) child here children-short;
        kept =
            passed-pairs ∙ ap (λ o. gathered_behind own_pair own_pair passed
            ++ behind_path (concat (back_segments passed))
            (kept_at own_pair (keeps part (byte ∷ left)) o)) here;
        placed =
            passed-places ∙ ap (λ o. gathered_behind own_place no_place passed
            ++ behind_path (concat (back_segments passed))
            (kept_at own_place (reaches part (byte ∷ left)) o)) here;
        owns = passed-owns after opens;
      }

      -- it ends where there is none
      pub back-missing : child_at byte (children_of s) ≡ None → (after : Counts)
          → after.entered ≡ now.entered + 1
          → HasFront part probe root start passed after
      back-missing none after opens = record {
        trees = passed-trees;
        pairs =
            ap (keeping (keeps part probe)) (pairs-gathered root) ∙ passed-pairs
            ∙ ap (λ o. gathered_behind own_pair own_pair passed
            ++ behind_path (concat (back_segments passed))
            (kept_at own_pair (keeps part (byte ∷ left)) o)) none
            ∙ append-nil (gathered_behind own_pair own_pair passed)
            ∙ sym (pairs-behind passed);
        few = λ test.
            let counted = places-counted test passed in
            let same = ap (count_by test) (paths-kept (reaches part probe) root
            ∙ ap keys_of (passed-places
            ∙ ap (λ o. gathered_behind own_place no_place passed
            ++ behind_path (concat (back_segments passed))
            (kept_at own_place (reaches part (byte ∷ left)) o)) none
            ∙ append-nil (places_behind passed))) in
            omega (arith, counted, same);
        owns = passed-owns after opens;
      }

    -- the way ends there, and this is reached of it
    module _ (reached : Reached)
        (pairs : keeping (keeps part rest) (pairs_of s) ≡ reached_pairs reached s)
        (paths : filter (reaches part rest) (paths_of s) ≡ reached_paths reached s) where
      abbrev pub ended : List (OpenBack V)
      ended = frames ++ reached_frames reached s

      way-pairs : keeping (keeps part probe) (pairs_of root)
          ≡ pairs_behind frames ++ behind_path above (reached_pairs reached s)
      way-pairs =
          ap (keeping (keeps part probe)) (pairs-gathered root) ∙ way.kept
          ∙ (λ i. sym (pairs-behind frames) i
          ++ behind_path above (keeping (keeps part rest) (sym (pairs-gathered s) i)))
          ∙ ap (λ z. pairs_behind frames ++ behind_path above z) pairs

      way-counts : (test : List ℕ → Bool)
          → count_by test (filter (reaches part probe) (paths_of root))
          ≡ count_by test (paths_behind frames)
          + count_by test (under_path above (reached_paths reached s))
      way-counts test =
          let here = keeping (reaches part rest) (gathered own_place s) in
          let all = ap (count_by test) (paths-kept (reaches part probe) root ∙ ap keys_of way.placed
          ∙ keys-append (places_behind frames) (behind_path above here)
          ∙ ap (λ z. keys_of (places_behind frames) ++ z)
          (keys-behind above here ∙ ap (under_path above)
          (sym (paths-kept (reaches part rest) s) ∙ paths))) in
          let both = sum_by-append (λ path. cond (test path) 1 0) (keys_of (places_behind frames))
          (under_path above (reached_paths reached s)) in
          let left = places-counted test frames in
          omega (arith, all, both, left)

      ended-pairs : (reached : Reached) → pairs_behind (frames ++ reached_frames reached s)
          ≡ pairs_behind frames ++ behind_path above (reached_pairs reached s)
      ended-pairs Whole =
          sym (whole-pairs frames s (value_of s) None (inl (refl, refl))
          ∙ append-nil (pairs_behind (frames ++ reached_frames Whole s)))
      ended-pairs Own =
          pairs-push frames (prefix_of s, value_of s, [])
          ∙ ap (λ z. pairs_behind frames ++ behind_path (above ++ prefix_of s) z)
          (append-nil (own_pair (value_of s)))
          ∙ ap (λ z. pairs_behind frames ++ z)
          (sym (behind-behind above (prefix_of s) (own_pair (value_of s))))
      ended-pairs Nothing =
          ap pairs_behind (append-nil frames) ∙ sym (append-nil (pairs_behind frames))

      ended-few : (reached : Reached) (test : List ℕ → Bool)
          → count_by test (paths_behind (frames ++ reached_frames reached s))
          ≤ count_by test (paths_behind frames)
          + count_by test (under_path above (reached_paths reached s))
      ended-few Whole test =
          let one = λ (path : List ℕ). cond (test path) 1 0 in
          let frame : OpenBack V = (prefix_of s, value_of s, children_of s) in
          let whole = ap (count_by test) (whole-paths frames s (value_of s)) in
          let own = sum_by-cons one (concat (back_segments (frames ++ frame ∷ [])))
          (paths_behind (frames ++ frame ∷ [])) in
          let both = sum_by-append one (under_path above (back_paths_of s))
          (paths_behind frames) in
          let back = count-behind test above (back_paths_of s) in
          let on = count-behind test above (paths_of s) in
          let same = back-counts (λ path. test (above ++ path)) s in
          omega (arith, whole, own, both, back, on, same)
      ended-few Own test =
          let none = ap (count_by test) (paths-push frames (prefix_of s, value_of s, [])) in
          omega (arith, none)
      ended-few Nothing test =
          let none = ap (λ z. count_by test (paths_behind z)) (append-nil frames) in
          omega (arith, none)

      ended-trees : (reached : Reached) → TreesBehind (frames ++ reached_frames reached s)
      ended-trees Whole =
          trees-push frames (prefix_of s, value_of s, children_of s) way.trees
          (trees-entered s way.at.tree)
      ended-trees Own = trees-push frames (prefix_of s, value_of s, []) way.trees tt
      ended-trees Nothing = subst TreesBehind (sym (append-nil frames)) way.trees

      ended-owns : (reached : Reached) (after : Counts) → after.entered ≡ now.entered + 1
          → start.entered + owns_behind (frames ++ reached_frames reached s) ≤ after.entered
      ended-owns Whole after opens =
          let push = owns-push frames (prefix_of s, value_of s, children_of s) in
          let owns = way.owns in
          let one = at-most-one (is_some (value_of s)) in
          omega (arith, push, owns, one, opens)
        where
          at-most-one : (t : Bool) → cond t 1 0 ≤ 1
          at-most-one true = omega arith
          at-most-one false = omega arith
      ended-owns Own after opens =
          let push = owns-push frames (prefix_of s, value_of s, []) in
          let owns = way.owns in
          let one = at-most-one (is_some (value_of s)) in
          omega (arith, push, owns, one, opens)
        where
          at-most-one : (t : Bool) → cond t 1 0 ≤ 1
          at-most-one true = omega arith
          at-most-one false = omega arith
      ended-owns Nothing after opens =
          let same = ap owns_behind (append-nil frames) in
          let owns = way.owns in
          omega (arith, same, owns, opens)

      pub back-ended : (after : Counts) → after.entered ≡ now.entered + 1
          → HasFront part probe root start ended after
      back-ended after opens = record {
        trees = ended-trees reached;
        pairs = way-pairs ∙ sym (ended-pairs reached);
        few = λ test.
            let all = way-counts test in
            let few = ended-few reached test in
            omega (arith, all, few);
        owns = ended-owns reached after opens;
      }
