-- What the nodes that are open have left, gathered from the nodes below: their pairs, or their
-- paths.
use Rattle.std.proofs.Common.{◌≡◌, ℕ, List, [], ◌∷◌, ◌++◌, Option, refl, sym, ap, ◌∙◌}
use Rattle.std.specs.List.{concat}
use Rattle.std.proofs.lemmas.List.Folds.{concat-append}
use Rattle.std.proofs.lemmas.List.{append-nil, append_assoc}
use Rattle.rart_node.specs.Shape.{Shape}
use Rattle.rart_node.specs.Trees.{own_pair}
use Rattle.rart_walks.specs.Frames.{OpenNode, Pushes, behind_path, under_path, segments_of, pairs_ahead, paths_ahead, with_rest}
use Rattle.rart_node.proofs.GatherLemmas.{gathered_all, all-gathered}
use Rattle.rart_walks.proofs.CursorLemmas.{own_place, keys_of, keys-behind, keys-append, all-paths}
use Rattle.rart_node.proofs.BehindLemmas.{behind-append, behind-behind}
use Rattle.rart_walks.proofs.WalkLemmas.{pushed-way}

-- `own` is what a node itself has, below its prefix
module _ {V A : Type 0} (own : Option V → List (List ℕ × A)) where
  abbrev pub gathered_ahead : List (OpenNode V) → List (List ℕ × A)
  gathered_ahead [] = []
  gathered_ahead (frame ∷ frames) =
      behind_path (concat frame.0) (gathered_ahead frames ++ gathered_all own frame.1)

  gathered-push : (frames : List (OpenNode V)) (frame : OpenNode V)
      → gathered_ahead (frames ++ frame ∷ [])
      ≡ behind_path (concat (segments_of frames) ++ concat frame.0) (gathered_all own frame.1)
      ++ gathered_ahead frames
  gathered-push [] frame =
      sym (append-nil (behind_path (concat frame.0) (gathered_all own frame.1)))
  gathered-push (f ∷ frames) frame =
      let here = concat f.0 in
      let path = concat (segments_of frames) ++ concat frame.0 in
      let last = behind_path path (gathered_all own frame.1) in
      let outer = gathered_ahead frames ++ gathered_all own f.1 in
      ap (λ rest. behind_path here (rest ++ gathered_all own f.1)) (gathered-push frames frame)
      ∙ ap (behind_path here) (append_assoc last (gathered_ahead frames) (gathered_all own f.1))
      ∙ behind-append here last outer
      ∙ ap (λ rest. rest ++ behind_path here outer)
      (behind-behind here path (gathered_all own frame.1)
      ∙ ap (λ p. behind_path p (gathered_all own frame.1))
      (sym (append_assoc here (concat (segments_of frames)) (concat frame.0))
      ∙ ap (λ p. p ++ concat frame.0) (sym (concat-append f.0 (segments_of frames)))))

  gathered-rest : (frames : List (OpenNode V)) (rest : List (List ℕ))
      → gathered_ahead (with_rest frames rest) ≡ gathered_ahead frames
  gathered-rest frames [] = refl
  gathered-rest frames (s ∷ rest) = gathered-push frames (s ∷ rest, [])

  pub pushed-gathered : (before : List (OpenNode V)) (segment : List ℕ)
      (later : List (ℕ × Shape V)) (after : List (OpenNode V)) → Pushes before segment later after
      → gathered_ahead after
      ≡ behind_path (concat (segments_of before) ++ segment) (gathered_all own later)
      ++ gathered_ahead before
  pushed-gathered before segment later after pushes =
      ap gathered_ahead pushes.is
      ∙ gathered-push pushes.frames (pushes.rest ++ segment ∷ [], later)
      ∙ (λ i. behind_path (pushed-way before segment later after pushes i) (gathered_all own later)
      ++ sym (ap gathered_ahead pushes.was ∙ gathered-rest pushes.frames pushes.rest) i)

module _ {V : Type 0} where
  pub pairs-ahead : (frames : List (OpenNode V))
      → pairs_ahead frames ≡ gathered_ahead own_pair frames
  pairs-ahead [] = refl
  pairs-ahead (frame ∷ frames) =
      λ i. behind_path (concat frame.0) (pairs-ahead frames i ++ all-gathered frame.1 i)

  pub paths-ahead : (frames : List (OpenNode V))
      → paths_ahead frames ≡ keys_of (gathered_ahead own_place frames)
  paths-ahead [] = refl
  paths-ahead (frame ∷ frames) =
      (λ i. under_path (concat frame.0) (paths-ahead frames i ++ all-paths frame.1 i))
      ∙ ap (under_path (concat frame.0))
      (sym (keys-append (gathered_ahead own_place frames) (gathered_all own_place frame.1)))
      ∙ sym (keys-behind (concat frame.0)
      (gathered_ahead own_place frames ++ gathered_all own_place frame.1))
