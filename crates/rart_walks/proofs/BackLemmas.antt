-- What a walk back has left where a node is entered, where something is taken of the innermost one,
-- and where that is left.
use Rattle.std.proofs.Common.{◌≡◌, ◌+◌, ℕ, cond, List, [], ◌∷◌, ◌++◌, Option, Some, None, is_some, refl, arith, sym, ap, subst, ◌∙◌}
use Rattle.std.specs.List.{concat}
use Rattle.std.proofs.lemmas.List.{append_assoc, append-nil}
use Rattle.std.proofs.lemmas.List.Sums.{sum_by-append}
use Rattle.rart_below.specs.Children.{TakesLast}
use Rattle.rart_node.specs.Shape.{Shape}
use Rattle.rart_node.specs.Trees.{IsTree, own_pair, pairs_of}
use Rattle.rart_walks.specs.BackFrames.{KeepsBack, IsSpent, OpenBack, TakesChildBack, TakesOwn, TreesBehind, back_paths_of, back_paths_of_all, back_segments, owns_behind, pairs_behind, paths_behind}
use Rattle.rart_walks.specs.Frames.{AreTrees, behind_path, pairs_of_all, under_path}
use Rattle.rart_walks.proofs.LastElementLemmas.{map-push}
use Rattle.rart_node.proofs.BehindLemmas.{behind-append, behind-behind}
use Rattle.rart_walks.proofs.WalkLemmas.{under-append, under-under}

-- ---- one prefix more
pub path-push : (segments : List (List ℕ)) (segment : List ℕ)
    → concat (segments ++ segment ∷ []) ≡ concat segments ++ segment
path-push [] segment = append-nil segment
path-push (first ∷ segments) segment =
    ap (λ rest. first ++ rest) (path-push segments segment)
    ∙ sym (append_assoc first (concat segments) segment)

module _ {V : Type 0} where
  pub segments-push : (frames : List (OpenBack V)) (frame : OpenBack V)
      → back_segments (frames ++ frame ∷ []) ≡ back_segments frames ++ frame.0 ∷ []
  segments-push frames frame = map-push (λ (frame : OpenBack V). frame.0) frames frame

  -- the path to the innermost node
  pub path-at : (frames : List (OpenBack V)) (frame : OpenBack V)
      → concat (back_segments (frames ++ frame ∷ []))
      ≡ concat (back_segments frames) ++ frame.0
  path-at frames frame =
      ap concat (segments-push frames frame) ∙ path-push (back_segments frames) frame.0

  -- what the innermost node has left comes behind what the others have
  pub pairs-push : (frames : List (OpenBack V)) (frame : OpenBack V)
      → pairs_behind (frames ++ frame ∷ []) ≡ pairs_behind frames
      ++ behind_path (concat (back_segments frames) ++ frame.0)
      (own_pair frame.1 ++ pairs_of_all frame.2)
  pairs-push [] frame =
      ap (behind_path frame.0) (append-nil (own_pair frame.1 ++ pairs_of_all frame.2))
  pairs-push (f ∷ frames) frame =
      let here = own_pair f.1 ++ pairs_of_all f.2 in
      let path = concat (back_segments frames) ++ frame.0 in
      let last = own_pair frame.1 ++ pairs_of_all frame.2 in
      ap (λ rest. behind_path f.0 (here ++ rest)) (pairs-push frames frame)
      ∙ ap (behind_path f.0) (sym (append_assoc here (pairs_behind frames) (behind_path path last)))
      ∙ behind-append f.0 (here ++ pairs_behind frames) (behind_path path last)
      ∙ ap (λ z. behind_path f.0 (here ++ pairs_behind frames) ++ z)
      (behind-behind f.0 path last
      ∙ ap (λ p. behind_path p last)
      (sym (append_assoc f.0 (concat (back_segments frames)) frame.0)))

  -- and its nodes are entered first
  pub paths-push : (frames : List (OpenBack V)) (frame : OpenBack V)
      → paths_behind (frames ++ frame ∷ [])
      ≡ under_path (concat (back_segments frames) ++ frame.0) (back_paths_of_all frame.2)
      ++ paths_behind frames
  paths-push [] frame = sym (append-nil (under_path frame.0 (back_paths_of_all frame.2)))
  paths-push (f ∷ frames) frame =
      let path = concat (back_segments frames) ++ frame.0 in
      let last = under_path path (back_paths_of_all frame.2) in
      ap (λ rest. under_path f.0 (rest ++ back_paths_of_all f.2)) (paths-push frames frame)
      ∙ ap (under_path f.0) (append_assoc last (paths_behind frames) (back_paths_of_all f.2))
      ∙ under-append f.0 last (paths_behind frames ++ back_paths_of_all f.2)
      ∙ ap (λ z. z ++ under_path f.0 (paths_behind frames ++ back_paths_of_all f.2))
      (under-under f.0 path (back_paths_of_all frame.2)
      ∙ ap (λ p. under_path p (back_paths_of_all frame.2))
      (sym (append_assoc f.0 (concat (back_segments frames)) frame.0)))

  pub owns-push : (frames : List (OpenBack V)) (frame : OpenBack V)
      → owns_behind (frames ++ frame ∷ []) ≡ owns_behind frames + cond (is_some frame.1) 1 0
  owns-push frames frame =
      let more =
      sum_by-append (λ (frame : OpenBack V). cond (is_some frame.1) 1 0) frames (frame ∷ []) in
      omega (arith, more)

  pub trees-push : (frames : List (OpenBack V)) (frame : OpenBack V) → TreesBehind frames
      → AreTrees frame.2 → TreesBehind (frames ++ frame ∷ [])
  trees-push [] frame trees more = (more, tt)
  trees-push (f ∷ frames) frame trees more = (trees.0, trees-push frames frame trees.1 more)

  pub trees-pop : (frames : List (OpenBack V)) (frame : OpenBack V)
      → TreesBehind (frames ++ frame ∷ []) → TreesBehind frames × AreTrees frame.2
  trees-pop [] frame trees = (tt, trees.0)
  trees-pop (f ∷ frames) frame trees =
      let rest = trees-pop frames frame trees.1 in ((trees.0, rest.0), rest.1)

  -- ---- a child behind others
  pub all-push : (children : List (ℕ × Shape V)) (child : ℕ × Shape V)
      → pairs_of_all (children ++ child ∷ []) ≡ pairs_of_all children ++ pairs_of child.1
  all-push [] child = append-nil (pairs_of child.1)
  all-push (c ∷ children) child =
      ap (λ rest. pairs_of c.1 ++ rest) (all-push children child)
      ∙ sym (append_assoc (pairs_of c.1) (pairs_of_all children) (pairs_of child.1))

  pub paths_all-push : (children : List (ℕ × Shape V)) (child : ℕ × Shape V)
      → back_paths_of_all (children ++ child ∷ [])
      ≡ back_paths_of child.1 ++ back_paths_of_all children
  paths_all-push [] child = sym (append-nil (back_paths_of child.1))
  paths_all-push (c ∷ children) child =
      ap (λ rest. rest ++ back_paths_of c.1) (paths_all-push children child)
      ∙ append_assoc (back_paths_of child.1) (back_paths_of_all children) (back_paths_of c.1)

  all_trees-pop : (children : List (ℕ × Shape V)) (child : ℕ × Shape V)
      → AreTrees (children ++ child ∷ []) → AreTrees children × IsTree child.1
  all_trees-pop [] child trees = (tt, trees.0)
  all_trees-pop (c ∷ children) child trees =
      let rest = all_trees-pop children child trees.1 in ((trees.0, rest.0), rest.1)

  -- ---- what is taken of the innermost node
  -- its last child
  pub child-taken : (front : List (OpenBack V)) (segment : List ℕ) (own : Option V)
      (rest : List (ℕ × Shape V)) (byte : ℕ) (child : Shape V) → TakesChildBack
      (front ++ (segment, own, rest ++ (byte, child) ∷ []) ∷ []) child
      (front ++ (segment, own, rest) ∷ [])
  child-taken front segment own rest byte child =
      let all = rest ++ (byte, child) ∷ [] in
      let path = concat (back_segments front) ++ segment in
      let at : concat (back_segments (front ++ (segment, own, rest) ∷ [])) ≡ path =
      path-at front (segment, own, rest) in
      let here = own_pair own ++ pairs_of_all rest in
      record {
        pairs =
            pairs-push front (segment, own, all)
            ∙ ap (λ z. pairs_behind front ++ behind_path path (own_pair own ++ z))
            (all-push rest (byte, child))
            ∙ ap (λ z. pairs_behind front ++ behind_path path z)
            (sym (append_assoc (own_pair own) (pairs_of_all rest) (pairs_of child)))
            ∙ ap (λ z. pairs_behind front ++ z) (behind-append path here (pairs_of child))
            ∙ sym (append_assoc (pairs_behind front) (behind_path path here)
            (behind_path path (pairs_of child)))
            ∙ ap (λ z. z ++ behind_path path (pairs_of child))
            (sym (pairs-push front (segment, own, rest)))
            ∙ ap (λ p. pairs_behind (front ++ (segment, own, rest) ∷ [])
            ++ behind_path p (pairs_of child)) (sym at);
        paths =
            paths-push front (segment, own, all)
            ∙ ap (λ z. under_path path z ++ paths_behind front) (paths_all-push rest (byte, child))
            ∙ ap (λ z. z ++ paths_behind front)
            (under-append path (back_paths_of child) (back_paths_of_all rest))
            ∙ append_assoc (under_path path (back_paths_of child))
            (under_path path (back_paths_of_all rest)) (paths_behind front)
            ∙ ap (λ z. under_path path (back_paths_of child) ++ z)
            (sym (paths-push front (segment, own, rest)))
            ∙ ap (λ p. under_path p (back_paths_of child)
            ++ paths_behind (front ++ (segment, own, rest) ∷ [])) (sym at);
        tree = λ trees.
            (all_trees-pop rest (byte, child) (trees-pop front (segment, own, all) trees).1).1;
        trees = λ trees.
            let parts = trees-pop front (segment, own, all) trees in
            trees-push front (segment, own, rest) parts.0
            (all_trees-pop rest (byte, child) parts.1).0;
        owns = owns-push front (segment, own, all) ∙ sym (owns-push front (segment, own, rest));
      }

  -- its own value, where no child is left
  pub own-taken : (front : List (OpenBack V)) (segment : List ℕ) (value : V)
      → TakesOwn (front ++ (segment, Some value, []) ∷ []) value
      (front ++ (segment, None, []) ∷ [])
  own-taken front segment value =
      let path = concat (back_segments front) ++ segment in
      let at : concat (back_segments (front ++ (segment, None, []) ∷ [])) ≡ path =
      path-at front (segment, None, []) in
      record {
        pairs =
            pairs-push front (segment, Some value, [])
            ∙ ap (λ key. pairs_behind front ++ (key, value) ∷ []) (append-nil path)
            ∙ (λ i. (sym (append-nil (pairs_behind front))
            ∙ sym (pairs-push front (segment, None, []))) i ++ (sym at i, value) ∷ []);
        paths =
            paths-push front (segment, Some value, [])
            ∙ sym (paths-push front (segment, None, []));
        trees = λ trees.
            trees-push front (segment, None, [])
            (trees-pop front (segment, Some value, []) trees).0 tt;
        owns =
            let more = owns-push front (segment, Some value, []) in
            let less = owns-push front (segment, None, []) in
            omega (arith, more, less);
      }

  -- nothing: then it is left
  pub spent-left : (front : List (OpenBack V)) (segment : List ℕ)
      → KeepsBack (front ++ (segment, None, []) ∷ []) front
  spent-left front segment = record {
    pairs = pairs-push front (segment, None, []) ∙ append-nil (pairs_behind front);
    paths = paths-push front (segment, None, []);
    trees = λ trees. (trees-pop front (segment, None, []) trees).0;
    owns = let same = owns-push front (segment, None, []) in omega (arith, same);
  }

  -- ---- the same, as the calls know it: the list before and after
  module _ (before after front : List (OpenBack V)) (segment : List ℕ) (own : Option V)
      (children rest : List (ℕ × Shape V))
      (is : before ≡ front ++ (segment, own, children) ∷ []) where
    pub same-segments : (kept : Option V) → after ≡ front ++ (segment, kept, rest) ∷ []
        → back_segments after ≡ back_segments before
    same-segments kept put =
        ap back_segments put ∙ segments-push front (segment, kept, rest)
        ∙ sym (ap back_segments is ∙ segments-push front (segment, own, children))

    pub took-child : {child : Shape V} → after ≡ front ++ (segment, own, rest) ∷ []
        → TakesLast children (Some child) rest → TakesChildBack before child after
    took-child {child} put takes =
        subst (λ b. TakesChildBack b child after)
        (sym (is ∙ ap (λ left. front ++ (segment, own, left) ∷ []) takes.1))
        (subst (λ a. TakesChildBack (front ++ (segment, own, rest ++ (takes.0, child) ∷ []) ∷ [])
        child a) (sym put) (child-taken front segment own rest takes.0 child))

    module _ (none : TakesLast children None rest) where
      pub took-own : {value : V} → own ≡ Some value
          → after ≡ front ++ (segment, None, rest) ∷ [] → TakesOwn before value after
      took-own {value} some put =
          subst (λ b. TakesOwn b value after)
          (sym (is ∙ (λ i. front ++ (segment, some i, none.0 i) ∷ [])))
          (subst (λ a. TakesOwn (front ++ (segment, Some value, []) ∷ []) value a)
          (sym (put ∙ ap (λ left. front ++ (segment, None, left) ∷ []) none.1))
          (own-taken front segment value))

      pub took-nothing : own ≡ None → after ≡ front ++ (segment, own, rest) ∷ []
          → (after ≡ before) × IsSpent before
      took-nothing lacks put = (
        put ∙ (λ i. front ++ (segment, own, (none.1 ∙ sym none.0) i) ∷ []) ∙ sym is,
        (front, segment, is ∙ (λ i. front ++ (segment, lacks i, none.0 i) ∷ [])),
      )

  -- ---- the nodes that have nothing left are left
  pub keeps-all : (frames : List (OpenBack V)) → KeepsBack frames frames
  keeps-all frames = record { pairs = refl; paths = refl; trees = λ trees. trees; owns = refl }

  pub keeps-on : {start now after : List (OpenBack V)} → KeepsBack start now
      → KeepsBack now after → KeepsBack start after
  keeps-on so_far next = record {
    pairs = so_far.pairs ∙ next.pairs;
    paths = so_far.paths ∙ next.paths;
    trees = λ trees. next.trees (so_far.trees trees);
    owns = so_far.owns ∙ next.owns;
  }

  pub keeps-left : {start now after : List (OpenBack V)} → KeepsBack start now → IsSpent now
      → ((front : List (OpenBack V)) (last : OpenBack V) → now ≡ front ++ last ∷ []
      → after ≡ front) → KeepsBack start after
  keeps-left {start} {now} {after} so_far spent left =
      keeps-on so_far
      (subst (λ a. KeepsBack now a) (sym (left spent.0 (spent.1, None, []) spent.2))
      (subst (λ n. KeepsBack n spent.0) (sym spent.2) (spent-left spent.0 spent.1)))
