-- Two leaves side by side: what they have in common is their key, if it is the same.
use Rattle.std.proofs.Common.{◌≡◌, ◌≢◌, ◌⊎◌, inl, inr, ℕ, suc, cond, ⊎_elim, List, [], ◌∷◌, ◌++◌, Some, None, length, take, drop, refl, sym, ap, ◌∙◌, arith}
use Rattle.std.specs.Prelude.{Bool}
use Rattle.std.specs.Fn.{Mut}
use Rattle.std.specs.List.{concat}
use Rattle.std.proofs.lemmas.Bool.{cases_lt, eq-eqb}
use Rattle.std.proofs.lemmas.List.{append-nil, drop_all}
use Rattle.rart_below.specs.Bytes.{common_length}
use Rattle.rart_maps.specs.Visits.{Answers}
use Rattle.rart_node.specs.Shape.{Shape, node, prefix_of, children_of}
use Rattle.rart_node.specs.Trees.{IsTree}
use Rattle.rart_node.proofs.PrefixRestLemmas.{split-whole, common-within}
use Rattle.rart_lockstep.specs.Children.{common_children}
use Rattle.rart_lockstep.specs.CommonPairs.{common_pairs}
use Rattle.rart_lockstep.specs.Entries.{own_entry, entry_here, behind_key}
use Rattle.rart_lockstep.specs.PairCursors.{CommonBytes, SameBytes}
use Rattle.rart_lockstep.specs.TreeCursors.{behind_bytes, value_here, next_children}
use Rattle.rart_lockstep.proofs.BranchLemmas.{children-with}
use Rattle.rart_lockstep.proofs.ChildLemmas.{common-none}
use Rattle.rart_lockstep.proofs.CommonLemmas.{common_of_all}
use Rattle.rart_lockstep.proofs.LockstepLemmas.{on_common_key-start, on_common_key-over}
use Rattle.rart_lockstep.proofs.PairStepLemmas.{prefix-with, tree-with, own-none, common_pairs-next_children, common_pairs-step, common_pairs-apart, left-split, right-split, one-ends}

-- ---- two strings
pub common-self : (w : List ℕ) → common_length w w ≡ length w
common-self [] = refl
common-self (b ∷ w) =
    ap (λ (t : Bool). cond t (suc (common_length w w)) 0) (eq-eqb b b refl)
    ∙ ap suc (common-self w)

pub same-from-common : (p q : List ℕ) → length q ≡ length p → common_length p q ≡ length p → p ≡ q
same-from-common p q long all =
    sym (split-whole p q (omega (arith, all))
    ∙ (ap (λ (rest : List ℕ). p ++ rest) (drop_all (common_length p q) q (omega (arith, long, all)))
    ∙ append-nil p))

module _ {V : Type 0} where
  pub same-common : (s t : Shape V) (count : ℕ) → SameBytes s t (Some count)
      → CommonBytes s t (Some count)
  same-common s t count same = (
    same.1 ∙ sym (ap (common_length (prefix_of s)) (sym same.0) ∙ common-self (prefix_of s)),
    inl same.1,
  )

  -- ---- leaves of which one has ended
  pub no-step : (s t : Shape V) → children_of s ≡ [] → children_of t ≡ []
      → (prefix_of s ≡ []) ⊎ (prefix_of t ≡ [])
      → common_children (next_children s) (next_children t) ≡ []
  no-step (node [] value width forest) t left right ends =
      ap (λ children. common_children children (next_children t)) left
  no-step (node (b ∷ p) value width forest) (node [] other w below) left right ends =
      let s : Shape V = node (b ∷ p) value width forest in
      ap (λ children. common_children ((b, s) ∷ []) children) right
      ∙ common-none ((b, s) ∷ [])
  no-step (node (b ∷ p) value width forest) (node (c ∷ q) other w below) left right ends =
      ⊎_elim (λ is. absurd (cons-nil b p is)) (λ is. absurd (cons-nil c q is)) ends
    where
      cons-nil : (b : ℕ) (w : List ℕ) → b ∷ w ≡ [] → ⊥
      cons-nil b w is = cc

  none-here : (s t : Shape V) → prefix_of s ≢ prefix_of t
      → own_entry [] (value_here s) (value_here t) ≡ []
  none-here (node [] value width forest) (node [] other w below) differ = absurd (differ refl)
  none-here (node [] value width forest) (node (c ∷ q) other w below) differ = own-none [] value
  none-here (node (b ∷ p) value width forest) t differ = refl

  module _ (s t : Shape V) (tree : IsTree s) (left : children_of s ≡ [])
      (right : children_of t ≡ []) where
    -- behind what both prefixes have in common, where one of them ends there
    behind_step : (count : ℕ) → CommonBytes s t (Some count)
        → common_children (next_children (behind_bytes count s))
        (next_children (behind_bytes count t)) ≡ []
    behind_step count common =
        no-step (behind_bytes count s) (behind_bytes count t)
        (children-with s (drop count (prefix_of s)) ∙ left)
        (children-with t (drop count (prefix_of t)) ∙ right) (one-ends s t count common)

    ended-apart : (count : ℕ) → CommonBytes s t (Some count) → prefix_of s ≢ prefix_of t
        → common_pairs s t ≡ []
    ended-apart count common differ =
        let x = behind_bytes count s in
        let y = behind_bytes count t in
        let differs : prefix_of x ≢ prefix_of y = λ same. differ (
        left-split s t count common.0
        ∙ (ap (λ (rest : List ℕ). take count (prefix_of s) ++ rest)
        (sym (prefix-with s (drop count (prefix_of s))) ∙ (same
        ∙ prefix-with t (drop count (prefix_of t))))
        ∙ sym (right-split s t count common.0))) in
        common_pairs-step s t count common.0
        ∙ ap (behind_key (take count (prefix_of s)))
        (common_pairs-next_children x y (tree-with s (drop count (prefix_of s)) tree)
        (one-ends s t count common)
        ∙ (λ i. none-here x y differs i ++ common_of_all (behind_step count common i)))

    -- Two leaves with different bytes have nothing in common.
    pub leaves-apart : SameBytes s t None → common_pairs s t ≡ []
    leaves-apart differ =
        let count = common_length (prefix_of s) (prefix_of t) in
        let within = common-within (prefix_of s) (prefix_of t) in
        elim (cases_lt count (length (prefix_of s))) [
          | inl some ↦ elim (cases_lt count (length (prefix_of t))) [
            | inl also ↦ common_pairs-apart s t (some, also)
            | inr most ↦ ended-apart count (refl, inr (omega (arith, most, within.1))) differ
          ]
          | inr most ↦ ended-apart count (refl, inl (omega (arith, most, within.0))) differ
        ]

    -- The closure was called on the entry here: so it was on all that they have in common.
    pub leaves-met : {T F A R : Type 0} (g : Mut F A R) (Shows : A → List ℕ × V × V → Type 0)
        (goes : R) (holds : T → List (List ℕ) → Type 0) (count : ℕ)
        → SameBytes s t (Some count) → IsTree t → (key_path key_path' : T) (f f' : F)
        → ((segments : List (List ℕ)) → holds key_path segments
        → holds key_path' (segments ++ take count (prefix_of s) ∷ []))
        → ((segments : List (List ℕ)) → holds key_path segments → Answers g Shows goes f
        (entry_here (concat (segments ++ take count (prefix_of s) ∷ [])) (behind_bytes count s)
        (behind_bytes count t)) f')
        → (segments : List (List ℕ)) → holds key_path segments
        → Answers g Shows goes f (behind_key (concat segments) (common_pairs s t)) f'
    leaves-met g Shows goes holds count same right_tree key_path key_path' f f' held visits =
        let common = same-common s t count same in
        on_common_key-over g Shows goes holds s t count common tree right_tree key_path key_path' f
        f' _ (behind_step count common)
        (on_common_key-start g Shows goes holds s t count common tree right_tree key_path key_path'
        f f' held visits)
