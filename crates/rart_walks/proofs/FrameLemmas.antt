-- Frames: how far the key path reaches down to each, and one more or one less.
use Rattle.std.proofs.Common.{◌≡◌, ℕ, List, [], ◌∷◌, ◌++◌, Option, length, refl, arith, sym, ap, ◌∙◌}
use Rattle.std.specs.Option.{option_to_list}
use Rattle.std.proofs.lemmas.List.{append_assoc, append-nil, map-append}
use Rattle.rart_node.specs.VersionedNodeIter.{children_left}
use Rattle.rart_walks.specs.declared.walk.Frame.{Frame}
use Rattle.rart_walks.specs.Frames.{OpenNode, AreSpent, Pushes, segments_of, with_rest}
use Rattle.rart_walks.specs.WalkFields.{AreMarked, and_inner, open_nodes}
use Rattle.rart_walks.proofs.LeafLemmas.{spent-append}

pub none-of : {A : Type 0} (xs : List A) → length xs ≡ 0 → xs ≡ []
none-of [] none = refl
none-of (x ∷ xs) none = absurd (omega (arith, none))

module _ {P V : Type 0} {partial : _} where
  -- ---- marks
  module _ (extent : List (List ℕ) → ℕ) where
    pub marked-front : (above : List (List ℕ)) (front back : List (Frame P V partial))
        → AreMarked extent above (front ++ back) → AreMarked extent above front
    marked-front above [] back marked = tt
    marked-front above (f ∷ front) back marked =
        (marked.0, marked-front (above ++ f.way.segments) front back marked.1)

    -- the mark of the last frame is how far all segments reach
    pub marked-last : (above : List (List ℕ)) (front : List (Frame P V partial))
        (frame : Frame P V partial) → AreMarked extent above (front ++ frame ∷ [])
        → frame.mark ≡ extent (above ++ segments_of (open_nodes (front ++ frame ∷ [])))
    marked-last above [] frame marked =
        marked.0 ∙ ap (λ z. extent (above ++ z)) (sym (append-nil frame.way.segments))
    marked-last above (f ∷ front) frame marked =
        marked-last (above ++ f.way.segments) front frame marked.1
        ∙ ap extent (append_assoc above f.way.segments
        (segments_of (open_nodes (front ++ frame ∷ []))))

    pub marked-push : (above : List (List ℕ)) (front : List (Frame P V partial))
        (frame : Frame P V partial) → AreMarked extent above front
        → frame.mark ≡ extent (above ++ segments_of (open_nodes (front ++ frame ∷ [])))
        → AreMarked extent above (front ++ frame ∷ [])
    marked-push above [] frame marked mark =
        (mark ∙ ap (λ z. extent (above ++ z)) (append-nil frame.way.segments), tt)
    marked-push above (f ∷ front) frame marked mark = (
      marked.0,
      marked-push (above ++ f.way.segments) front frame marked.1
          (mark ∙ ap extent (sym (append_assoc above f.way.segments
          (segments_of (open_nodes (front ++ frame ∷ [])))))),
    )

    -- a frame for other children
    pub marked-same : (above : List (List ℕ)) (front : List (Frame P V partial))
        (old new : Frame P V partial) → new.mark ≡ old.mark → new.way ≡ old.way
        → AreMarked extent above (front ++ old ∷ []) → AreMarked extent above (front ++ new ∷ [])
    marked-same above [] old new mark way marked = (
      mark ∙ marked.0 ∙ ap (λ z. extent (above ++ z.segments)) (sym way),
      tt,
    )
    marked-same above (f ∷ front) old new mark way marked =
        (marked.0, marked-same (above ++ f.way.segments) front old new mark way marked.1)

  -- ---- the innermost frame goes, of which nothing is left
  pub spent-less : (initial : List (OpenNode V)) (outer now : List (Frame P V partial))
      (inner : Option (Frame P V partial)) (left : List (OpenNode V)) → AreSpent left
      → AreSpent (open_nodes (option_to_list inner))
      → initial ≡ open_nodes (and_inner outer inner) ++ left → outer ≡ now
      → (more : List (OpenNode V)) × AreSpent more × (initial ≡ open_nodes now ++ more)
  spent-less initial outer now inner left spent also is same =
      let gone = open_nodes (option_to_list inner) in (
        gone ++ left,
        spent-append gone left also spent,
        is ∙ ap (λ z. z ++ left) (map-append _ outer (option_to_list inner))
            ∙ append_assoc (open_nodes outer) gone left
            ∙ ap (λ z. open_nodes z ++ (gone ++ left)) same,
      )

  -- ---- a frame more
  pub opened-below : (frames : List (Frame P V partial)) (rest : List (List ℕ)) (segment : List ℕ)
      (frame : Frame P V partial) → frame.way.segments ≡ rest ++ segment ∷ []
      → (now : List (Frame P V partial)) → now ≡ frames ++ frame ∷ []
      → (below : List (List ℕ)) → below ≡ []
      → Pushes (with_rest (open_nodes frames) rest) segment (children_left frame.children)
      (with_rest (open_nodes now) below)
  opened-below frames rest segment frame way now is below none = record {
    frames = open_nodes frames;
    rest = rest;
    was = refl;
    is =
        ap (with_rest (open_nodes now)) none ∙ ap open_nodes is
        ∙ map-append _ frames (frame ∷ [])
        ∙ ap (λ w. open_nodes frames ++ (w, children_left frame.children) ∷ []) way;
  }
