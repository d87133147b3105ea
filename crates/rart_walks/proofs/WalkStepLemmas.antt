-- A step of a way down, as its calls know it.
use Rattle.std.proofs.Common.{◌≡◌, ◌+◌, ◌<◌, ℕ, suc, cond, List, [], ◌∷◌, ◌++◌, Option, Some, None, length, add-one, refl, sym, ap, subst, ◌∙◌}
use Rattle.std.specs.Prelude.{filter}
use Rattle.std.specs.List.{concat}
use Rattle.rart_below.specs.Bytes.{IsAdmitted}
use Rattle.rart_below.specs.Children.{child_at, children_from}
use Rattle.rart_node.specs.Counts.{Counts, CountsUpTo}
use Rattle.rart_node.specs.Shape.{Shape, height, prefix_of, children_of}
use Rattle.rart_node.specs.Trees.{pairs_of, path_bound}
use Rattle.rart_node.proofs.PartingLemmas.{GoesOn}
use Rattle.rart_node.proofs.SearchLemmas.{IsSearchAt, search-counted, search-entered, search-lower, search-child}
use Rattle.rart_walks.specs.declared.walk.path.Part.{Part}
use Rattle.rart_walks.specs.Frames.{OpenNode, Pushes, segments_of, pairs_ahead, paths_ahead, TreesAhead}
use Rattle.rart_walks.specs.Parts.{keeps, reaches, goes_on}
use Rattle.rart_walks.specs.Walks.{AreShort, paths_of}
use Rattle.rart_node.proofs.GatherLemmas.{keeping}
use Rattle.rart_walks.proofs.WalkLemmas.{path-fits}
use Rattle.rart_walks.proofs.PathLemmas.{IsOnWay, way-child, way-missing, passed-trees, passed-short}

module _ {V : Type 0} (part : Part) (greatest : Option ℕ) (probe : List ℕ) (root : Shape V)
    (start : Counts) (s : Shape V) (rest : List ℕ) (frames : List (OpenNode V)) (now : Counts)
    (way : IsOnWay part greatest probe root start s rest frames now) where
  module _ (o : Shape V) (after : Counts) (opens : after ≡ record now { entered = now.entered + 1 })
      (same : o ≡ s) where
    pub step-counted : CountsUpTo (path_bound root probe) 0 start after
    step-counted = search-counted root probe start s o rest now after way.at opens same

    pub step-entered : start.entered < after.entered
    step-entered = search-entered root probe start s o rest now after way.at opens same

    -- the key path has room for the prefix of the node
    pub step-fits : (segment : List ℕ) → segment ≡ prefix_of o
        → IsAdmitted greatest (length (concat (segments_of frames ++ segment ∷ [])))
    step-fits segment is =
        subst (λ z. IsAdmitted greatest (length (concat (segments_of frames ++ z ∷ []))))
        (sym (is ∙ ap prefix_of same)) (path-fits (segments_of frames) s greatest way.at.tree way.short)

    module _ (byte : ℕ) (left : List ℕ) (goes : GoesOn (prefix_of o) rest byte left) where
      whole : rest ≡ prefix_of s ++ (byte ∷ goes.more)
      whole = goes.whole ∙ ap (λ z. prefix_of z ++ (byte ∷ goes.more)) same

      pub step-lower : (child : Shape V) → Some child ≡ child_at byte (children_of o)
          → height child < height s
      step-lower child here =
          search-lower root probe start s o rest now after way.at opens same
          (prefix_of o) refl left goes.strips byte goes.next child here

      module _ (inner : List (OpenNode V)) (pushes : Pushes frames (prefix_of o)
          (cond (goes_on part) (children_from (byte + 1) (children_of o)) []) inner) where
        passed-is : Pushes frames (prefix_of s)
            (cond (goes_on part) (children_from (suc byte) (children_of s)) []) inner
        passed-is =
            subst (λ n. Pushes frames (prefix_of s)
            (cond (goes_on part) (children_from n (children_of s)) []) inner) (add-one byte)
            (subst (λ z. Pushes frames (prefix_of z)
            (cond (goes_on part) (children_from (byte + 1) (children_of z)) []) inner) same pushes)

        pub step-child : (child : Shape V) → Some child ≡ child_at byte (children_of o)
            → IsOnWay part greatest probe root start child left inner after
        step-child child here =
            let at : IsSearchAt root probe start child (byte ∷ goes.more) after =
            subst (λ z. IsSearchAt root probe start child z after) goes.is
            (search-child root probe start s o rest now after way.at opens same
            (prefix_of o) refl left goes.strips byte goes.next child here) in
            let below : child_at byte (children_of s) ≡ Some child =
            sym (here ∙ ap (λ z. child_at byte (children_of z)) same) in
            let there =
            way-child part greatest probe root start s rest frames now way byte goes.more whole
            inner passed-is child after at below in
            subst (λ z. IsOnWay part greatest probe root start child z inner after) (sym goes.is)
            there

        pub step-missing : None ≡ child_at byte (children_of o)
            → (keeping (keeps part probe) (pairs_of root) ≡ pairs_ahead inner)
            × (filter (reaches part probe) (paths_of root) ≡ paths_ahead inner)
        step-missing missing =
            way-missing part greatest probe root start s rest frames now way byte goes.more whole
            inner passed-is (sym (missing ∙ ap (λ z. child_at byte (children_of z)) same))

        pub step-trees : TreesAhead inner
        step-trees =
            passed-trees part greatest probe root start s rest frames now way byte goes.more whole
            inner passed-is

        pub step-short : AreShort greatest (pairs_ahead inner)
        step-short =
            passed-short part greatest probe root start s rest frames now way byte goes.more whole
            inner passed-is
