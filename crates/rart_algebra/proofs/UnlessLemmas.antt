-- What the left of two trees has and the right one lacks.
use Rattle.std.proofs.Common.{◌≡◌, ℕ, Bool, true, false, ◌&&◌, cond, List, [], ◌∷◌, ◌++◌, Option, Some, None, IsSome, is_some, length, refl, sym, ap, ◌∙◌, arith}
use Rattle.std.specs.Prelude.{◌==◌}
use Rattle.std.proofs.lemmas.Bool.{eqb-true, false≢true}
use Rattle.rart_lockstep.specs.TreeCursors.{value_here}
use Rattle.rart_node.specs.Shape.{Shape, node, bare, grown, prefix_of, value_of, children_of, width_of, with_prefix, FitsWidth}
use Rattle.rart_node.specs.Trees.{strip_prefix, found}
use Rattle.rart_node.proofs.InsertionLemmas.{nothing-left}
use Rattle.rart_algebra.specs.Ahead.{IsCommonKey}
use Rattle.rart_algebra.specs.Picks.{unless}
use Rattle.rart_algebra.proofs.PickLemmas.{node-picked}
use Rattle.rart_algebra.proofs.ReachLemmas.{found-here}

module _ {V : Type 0} where
  pub unless-none : (other : Option V) → unless None other ≡ None
  unless-none None = refl
  unless-none (Some other) = refl

  both-some : (one other : Option V) → (is_some one && is_some other) ≡ true
      → unless one other ≡ None
  both-some None other is = absurd (false≢true is)
  both-some (Some one) None is = absurd (false≢true is)
  both-some (Some one) (Some other) is = refl

  not-both : (one other : Option V) → (is_some one && is_some other) ≡ false
      → unless one other ≡ one
  not-both None other is = unless-none other
  not-both (Some one) None is = refl
  not-both (Some one) (Some other) is = absurd (false≢true (sym is))

  -- ---- the value where both prefixes end
  module _ (s t : Shape V) (goes : Bool)
      (are : goes ≡ (is_some (value_of s) && is_some (value_here t))) where
    pub own-picked : cond goes None (value_of s) ≡ unless (value_of s) (found t [])
    own-picked =
        elim goes as (λ b. b ≡ (is_some (value_of s) && is_some (value_here t))
        → cond b None (value_of s) ≡ unless (value_of s) (value_here t)) [
          | true ↦ λ is. sym (both-some (value_of s) (value_here t) (sym is))
          | false ↦ λ is. sym (not-both (value_of s) (value_here t) (sym is))
        ] are ∙ ap (unless (value_of s)) (sym (found-here t))

    pub own-common : goes ≡ true → IsCommonKey (with_prefix [] s) t []
    own-common is =
        let both = somes (value_of s) (value_here t) (sym are ∙ is) in
        (ended-value s both.0, found-here-some both.1)
      where
        somes : (x y : Option V) → (is_some x && is_some y) ≡ true → IsSome x × IsSome y
        somes None y none = absurd (false≢true none)
        somes (Some x) None none = absurd (false≢true none)
        somes (Some x) (Some y) both = (refl, refl)

        ended-value : (s : Shape V) → IsSome (value_of s) → IsSome (found (with_prefix [] s) [])
        ended-value (node prefix value width forest) some = some

        found-here-some : IsSome (value_here t) → IsSome (found t [])
        found-here-some some = ap is_some (found-here t) ∙ some

  -- ---- a leaf goes or stays
  pub leaf-children : (s : Shape V) → FitsWidth s → (width_of s == 0) ≡ true
      → length (children_of s) ≡ 0
  leaf-children s fits leaf =
      let room = fits.has_room in
      let zero = eqb-true (width_of s) 0 leaf in
      omega (arith, room, zero)

  module _ (s right t : Shape V) (goes : Bool)
      (none : length (children_of s) ≡ 0)
      (leads : (q : List ℕ) → found right (prefix_of s ++ q) ≡ found t q)
      (are : goes ≡ (is_some (value_of s) && is_some (value_here t))) where
    leaf-picked : (s : Shape V) → length (children_of s) ≡ 0
        → ((q : List ℕ) → found right (prefix_of s ++ q) ≡ found t q)
        → cond goes None (value_of s) ≡ unless (value_of s) (found t [])
        → (q : List ℕ) → found (node (prefix_of s) (cond goes None (value_of s)) 0 bare) q
        ≡ unless (found s q) (found right q)
    leaf-picked (node prefix value width bare) none leads own q =
        node-picked unless prefix value (cond goes None value) width 0 bare bare right t leads own
        (λ byte q. sym (unless-none (found t (byte ∷ q)))) (λ q _. unless-none (found right q)) q
    leaf-picked (node prefix value width (grown byte child forest)) none leads own q =
        absurd (omega (arith, none))

    pub leaf-gone : goes ≡ true → (q : List ℕ) → unless (found s q) (found right q) ≡ None
    leaf-gone is q =
        sym (leaf-picked s none leads (own-picked s t goes are) q)
        ∙ ap (λ b. found (node (prefix_of s) (cond b None (value_of s)) 0 bare) q) is
        ∙ nothing-left (strip_prefix (prefix_of s) q)

    pub leaf-kept : goes ≡ false → (q : List ℕ)
        → unless (found s q) (found right q) ≡ found s q
    leaf-kept is q =
        sym (leaf-picked s none leads (own-picked s t goes are) q)
        ∙ ap (λ b. found (node (prefix_of s) (cond b None (value_of s)) 0 bare) q) is
        ∙ as-it-was s none
      where
        as-it-was : (s : Shape V) → length (children_of s) ≡ 0
            → found (node (prefix_of s) (value_of s) 0 bare) q ≡ found s q
        as-it-was (node prefix value width bare) none = refl
        as-it-was (node prefix value width (grown byte child forest)) none =
            absurd (omega (arith, none))
