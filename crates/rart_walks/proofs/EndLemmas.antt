-- The end of a way: a node inside whose prefix the string ends, or with it, or whose prefix it
-- leaves.
use Rattle.std.proofs.Common.{◌≡◌, ◌<◌, ◌≤◌, ◌⊎◌, ⊎_elim, inl, inr, ◌≢◌, ℕ, Bool, true, false, cond, ◌&&◌, List, [], ◌∷◌, ◌++◌, Option, length, refl, arith, sym, ap, ◌∙◌}
use Rattle.std.specs.Prelude.{◌==◌, filter}
use Rattle.std.proofs.lemmas.Bool.{eqb-true, eqb-false, cases_order}
use Rattle.std.proofs.lemmas.List.{append-nil, length-append}
use Rattle.rart_node.specs.Shape.{Shape, prefix_of, children_of}
use Rattle.rart_node.specs.Trees.{IsTree, own_pair, pairs_of}
use Rattle.rart_node.proofs.PartingLemmas.{IsFront, PartsAt}
use Rattle.rart_walks.specs.declared.walk.path.Part.{Part}
use Rattle.rart_walks.specs.Frames.{behind_path, under_path, pairs_inside}
use Rattle.rart_walks.specs.Parts.{keeps, reaches, goes_on, is_strict}
use Rattle.rart_walks.specs.Walks.{IsEndOf, paths_of}
use Rattle.rart_node.proofs.GatherLemmas.{keeping, gathered, gathered_all, gathered-is, pairs-gathered, all-gathered}
use Rattle.rart_node.proofs.AlongLemmas.{StandsAtEnd, GoesAlong, own_pair-ends, parted-lower, parted-upper, parted-all, parted-inside}
use Rattle.rart_walks.proofs.PartTestLemmas.{keeps-goes, reaches-goes, keeps-itself, strict-itself, reaches-itself}
use Rattle.rart_walks.proofs.CursorLemmas.{own_place, own_place-ends, keys_of, paths-are, paths-kept}

either-less : (b c : ℕ) → b ≢ c → (b < c) ⊎ (c < b)
either-less b c differs =
    elim (cases_order b c) [ inl same ↦ absurd (differs same) | inr less ↦ less ]

module _ {V : Type 0} (part : Part) (s : Shape V) (rest : List ℕ) where
  abbrev kept : List (List ℕ × V)
  kept = keeping (keeps part rest) (pairs_of s)

  kept-gathered : kept ≡ keeping (keeps part rest) (gathered own_pair s)
  kept-gathered = ap (keeping (keeps part rest)) (pairs-gathered s)

  -- ---- the string ends inside the prefix, or with it
  module _ (front : IsFront rest (prefix_of s)) where
    within-all : ((key : List ℕ) → keeps part [] (front.more ++ key) ≡ true) → kept ≡ pairs_of s
    within-all each =
        kept-gathered ∙ parted-all own_pair own_pair-ends (keeps part) (goes_on part)
        (keeps-goes part) s rest front.more front.is each ∙ sym (pairs-gathered s)

    within-inside : IsTree s → front.more ≡ [] → is_strict part ≡ true → kept ≡ pairs_inside s
    within-inside tree end strict =
        kept-gathered ∙ parted-inside own_pair own_pair-ends (keeps part) (goes_on part)
        (keeps-goes part) s rest front.more front.is tree end (strict-itself part strict)
        ∙ ap (behind_path (prefix_of s)) (sym (all-gathered (children_of s)))

    beyond : (more : List ℕ) → front.more ≡ more → (length rest == length (prefix_of s)) ≡ false
        → (key : List ℕ) → keeps part [] (more ++ key) ≡ true
    beyond [] none differs key =
        absurd (eqb-false (length rest) (length (prefix_of s)) differs
        (sym (ap length (front.is ∙ ap (λ z. rest ++ z) none ∙ append-nil rest))))
    beyond (b ∷ more) some differs key = (keeps-goes part).inside b (more ++ key)

    ended : (more : List ℕ) → front.more ≡ more → (length rest == length (prefix_of s)) ≡ true
        → more ≡ []
    ended [] is same = refl
    ended (b ∷ more) is same =
        let long = ap length (front.is ∙ ap (λ z. rest ++ z) is) ∙ length-append rest (b ∷ more) in
        let equal = eqb-true (length rest) (length (prefix_of s)) same in
        absurd (omega (arith, long, equal))

    pub end-within : IsTree s → kept
        ≡ cond (is_strict part && (length rest == length (prefix_of s))) (pairs_inside s)
        (pairs_of s)
    end-within tree =
        let P : Bool → Bool → Type 0 =
        λ t u. is_strict part ≡ t → (length rest == length (prefix_of s)) ≡ u
        → kept ≡ cond (t && u) (pairs_inside s) (pairs_of s) in
        let strict : (u : Bool) → P true u = elim [
          | true ↦ (λ is same. within-inside tree (ended front.more refl same) is)
          | false ↦ (λ is differs. within-all (beyond front.more refl differs))
        ] in
        let both : (t u : Bool) → P t u =
        elim [
          | true ↦ strict
          | false ↦
              (λ u is _. within-all (λ key. keeps-itself part is (front.more ++ key)))
        ] in
        both (is_strict part) (length rest == length (prefix_of s)) refl refl

    -- its paths, or those behind its own
    pub end-within-paths : IsTree s → (filter (reaches part rest) (paths_of s) ≡ paths_of s)
        ⊎ (paths_of s ≡ prefix_of s ∷ filter (reaches part rest) (paths_of s))
    end-within-paths tree = at-more front.more refl
      where
        all-paths : ((key : List ℕ) → reaches part [] (front.more ++ key) ≡ true)
            → filter (reaches part rest) (paths_of s) ≡ paths_of s
        all-paths each =
            paths-kept (reaches part rest) s
            ∙ ap keys_of (parted-all own_place own_place-ends (reaches part) (goes_on part)
            (reaches-goes part) s rest front.more front.is each)
            ∙ sym (paths-are s)

        own-first : reaches part [] [] ≡ false → front.more ≡ []
            → paths_of s ≡ prefix_of s ∷ filter (reaches part rest) (paths_of s)
        own-first strict end =
            paths-are s ∙ ap keys_of (gathered-is own_place s)
            ∙ (λ i. append-nil (prefix_of s) i
            ∷ keys_of (behind_path (prefix_of s) (gathered_all own_place (children_of s))))
            ∙ ap (λ kept. prefix_of s ∷ keys_of kept)
            (sym (parted-inside own_place own_place-ends (reaches part) (goes_on part)
            (reaches-goes part) s rest front.more front.is tree end strict))
            ∙ ap (λ kept. prefix_of s ∷ kept) (sym (paths-kept (reaches part rest) s))

        at-more : (more : List ℕ) → front.more ≡ more
            → (filter (reaches part rest) (paths_of s) ≡ paths_of s)
            ⊎ (paths_of s ≡ prefix_of s ∷ filter (reaches part rest) (paths_of s))
        at-more [] end =
            ⊎_elim
            (λ each. inl (all-paths (λ key. each (front.more ++ key))))
            (λ strict. inr (own-first strict end))
            (reaches-itself part)
        at-more (b ∷ more) some =
            inl (all-paths (λ key. ap (λ z. reaches part [] (z ++ key)) some
            ∙ (reaches-goes part).inside b (more ++ key)))

  -- ---- the string leaves the prefix
  module _ (b c : ℕ) (parts : PartsAt (prefix_of s) rest b c) where
    module _ {A : Type 0} (own : Option V → List (List ℕ × A)) (at_end : StandsAtEnd own)
        (test : List ℕ → List ℕ → Bool) (goes : GoesAlong test (goes_on part)) where
      at-front : keeping (test rest) (gathered own s)
          ≡ keeping (test (parts.front ++ (c ∷ parts.left))) (gathered own s)
      at-front = ap (λ z. keeping (test z) (gathered own s)) parts.also

      beside-lower : b < c → keeping (test rest) (gathered own s) ≡ []
      beside-lower less =
          at-front ∙ parted-lower own at_end test (goes_on part) goes s parts.front b parts.more c
          parts.left parts.is less

      beside-upper : c < b
          → keeping (test rest) (gathered own s) ≡ cond (goes_on part) (gathered own s) []
      beside-upper less =
          at-front ∙ parted-upper own at_end test (goes_on part) goes s parts.front b parts.more c
          parts.left parts.is less

      -- it is passed by the part, which goes on there
      pub beside-above : c < b → goes_on part ≡ true
          → keeping (test rest) (gathered own s) ≡ gathered own s
      beside-above less on = beside-upper less ∙ ap (λ t. cond t (gathered own s) []) on

      pub beside-below : b ≤ c → keeping (test rest) (gathered own s) ≡ []
      beside-below most =
          let differs = parts.differs in beside-lower (omega (arith, most, differs))

      -- a part that ends with the string has nothing here
      pub beside-off : goes_on part ≡ false → keeping (test rest) (gathered own s) ≡ []
      beside-off off =
          ⊎_elim
          (λ less. beside-lower less)
          (λ more. beside-upper more ∙ ap (λ t. cond t (gathered own s) []) off)
          (let differs = parts.differs in either-less b c differs)

    abbrev placed : List (List ℕ)
    placed = filter (reaches part rest) (paths_of s)

    pub end-above : c < b → goes_on part ≡ true → (kept ≡ pairs_of s) × (placed ≡ paths_of s)
    end-above less on = (
      kept-gathered ∙ beside-above own_pair own_pair-ends (keeps part) (keeps-goes part) less on
          ∙ sym (pairs-gathered s),
      paths-kept (reaches part rest) s
          ∙ ap keys_of (beside-above own_place own_place-ends (reaches part) (reaches-goes part)
          less on)
          ∙ sym (paths-are s),
    )

    pub end-below : b ≤ c → (kept ≡ []) × (placed ≡ [])
    end-below most = (
      kept-gathered ∙ beside-below own_pair own_pair-ends (keeps part) (keeps-goes part) most,
      paths-kept (reaches part rest) s
          ∙ ap keys_of (beside-below own_place own_place-ends (reaches part) (reaches-goes part)
          most),
    )

    pub end-off : goes_on part ≡ false → (kept ≡ []) × (placed ≡ [])
    end-off off = (
      kept-gathered ∙ beside-off own_pair own_pair-ends (keeps part) (keeps-goes part) off,
      paths-kept (reaches part rest) s
          ∙ ap keys_of (beside-off own_place own_place-ends (reaches part) (reaches-goes part)
          off),
    )

-- The node is entered: what the part has of its paths is left then, or its own is behind the walk.
module _ {V : Type 0} (s : Shape V) where
  pub entered-end : (path first : List ℕ) (left above here : List (List ℕ))
      → first ∷ left ≡ under_path path (paths_of s) ++ above
      → (here ≡ paths_of s) ⊎ (paths_of s ≡ prefix_of s ∷ here)
      → IsEndOf left (under_path path here ++ above)
  entered-end path first left above here opened either =
      ⊎_elim
      (λ all. inr (first, ap (λ z. under_path path z ++ above) all ∙ sym opened))
      (λ behind. inl (ap tail_of (sym (opened
      ∙ ap (λ z. under_path path z ++ above) behind))))
      either
    where
      tail_of : List (List ℕ) → List (List ℕ)
      tail_of [] = []
      tail_of (_ ∷ rest) = rest

-- The end of a list has no more than the list.
pub end-fewer : {A : Type 0} {end whole : List A} → IsEndOf end whole → length end ≤ length whole
end-fewer either =
    ⊎_elim
    (λ all. let same = ap length all in omega (arith, same))
    (λ behind. let more = ap length behind.1 in omega (arith, more))
    either
