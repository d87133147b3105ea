-- Which keys are from a string on, or behind it, one node at a time.
use Rattle.std.proofs.Common.{◌≡◌, ◌<◌, ◌≤◌, ℕ, true, List, [], ◌∷◌, ◌++◌, length, refl, arith, sym, ap, ◌∙◌}
use Rattle.std.specs.Ordering.{is_le, is_lt}
use Rattle.std.proofs.lemmas.List.{append-nil, length-append}
use Rattle.rart_node.specs.Shape.{Shape, prefix_of, children_of}
use Rattle.rart_ways.specs.Starts.{is_from}
use Rattle.rart_ways.specs.declared.seeking.Edge.{Edge}
use Rattle.rart_ways.specs.declared.seeking.Edge.TheVariants.{Included, Excluded}
use Rattle.rart_node.specs.Trees.{IsTree, own_pair, pairs_of}
use Rattle.rart_node.specs.PairsBehind.{behind_path, pairs_inside}
use Rattle.rart_node.proofs.PartingLemmas.{IsFront, PartsAt}
use Rattle.rart_node.proofs.GatherLemmas.{keeping, gathered, pairs-gathered, all-gathered}
use Rattle.rart_node.proofs.AlongLemmas.{GoesAlong, order-goes, own_pair-ends, parted-lower, parted-upper, parted-all, parted-inside}

pub from-goes : (edge : Edge) → GoesAlong (is_from edge) true
from-goes Included = order-goes is_le refl refl
from-goes Excluded = order-goes is_lt refl refl

pub from-itself : (w : List ℕ) → is_from Included [] w ≡ true
from-itself [] = refl
from-itself (b ∷ w) = refl

module _ {V : Type 0} (edge : Edge) (s : Shape V) (rest : List ℕ) where
  abbrev kept : List (List ℕ × V)
  kept = keeping (is_from edge rest) (pairs_of s)

  kept-gathered : kept ≡ keeping (is_from edge rest) (gathered own_pair s)
  kept-gathered = ap (keeping (is_from edge rest)) (pairs-gathered s)

  -- ---- the string ends inside the prefix, or with it
  module _ (front : IsFront rest (prefix_of s)) where
    within-all : ((key : List ℕ) → is_from edge [] (front.more ++ key) ≡ true)
        → kept ≡ pairs_of s
    within-all each =
        kept-gathered ∙ parted-all own_pair own_pair-ends (is_from edge) true
        (from-goes edge) s rest front.more front.is each ∙ sym (pairs-gathered s)

    ended : (more : List ℕ) → front.more ≡ more → length rest ≡ length (prefix_of s) → more ≡ []
    ended [] is same = refl
    ended (b ∷ more) is same =
        let long = ap length (front.is ∙ ap (λ z. rest ++ z) is) ∙ length-append rest (b ∷ more) in
        absurd (omega (arith, long, same))

    pub end-whole : length rest ≡ length (prefix_of s) → rest ≡ prefix_of s
    end-whole same =
        sym (front.is ∙ ap (λ z. rest ++ z) (ended front.more refl same) ∙ append-nil rest)

    pub end-inside : IsTree s → edge ≡ Excluded → length rest ≡ length (prefix_of s)
        → kept ≡ pairs_inside s
    end-inside tree is same =
        kept-gathered ∙ parted-inside own_pair own_pair-ends (is_from edge) true
        (from-goes edge) s rest front.more front.is tree (ended front.more refl same)
        (ap (λ t. is_from t [] []) is)
        ∙ ap (behind_path (prefix_of s)) (sym (all-gathered (children_of s)))

    pub end-weak : edge ≡ Included → kept ≡ pairs_of s
    end-weak is =
        within-all (λ key. ap (λ t. is_from t [] (front.more ++ key)) is
        ∙ from-itself (front.more ++ key))

    beyond : (more : List ℕ) → front.more ≡ more → length rest < length (prefix_of s)
        → (key : List ℕ) → is_from edge [] (more ++ key) ≡ true
    beyond [] none less key =
        let same = ap length (front.is ∙ ap (λ z. rest ++ z) none ∙ append-nil rest) in
        absurd (omega (arith, less, same))
    beyond (b ∷ more) some less key = (from-goes edge).inside b (more ++ key)

    pub end-short : length rest < length (prefix_of s) → kept ≡ pairs_of s
    end-short less = within-all (beyond front.more refl less)

  -- ---- the string leaves the prefix
  module _ (b c : ℕ) (parts : PartsAt (prefix_of s) rest b c) where
    at-front : kept ≡ keeping (is_from edge (parts.front ++ (c ∷ parts.left)))
        (gathered own_pair s)
    at-front =
        kept-gathered ∙ ap (λ z. keeping (is_from edge z) (gathered own_pair s)) parts.also

    pub end-above : c < b → kept ≡ pairs_of s
    end-above less =
        at-front ∙ parted-upper own_pair own_pair-ends (is_from edge) true (from-goes edge) s
        parts.front b parts.more c parts.left parts.is less ∙ sym (pairs-gathered s)

    pub end-below : b ≤ c → kept ≡ []
    end-below most =
        let differs = parts.differs in
        at-front ∙ parted-lower own_pair own_pair-ends (is_from edge) true (from-goes edge) s
        parts.front b parts.more c parts.left parts.is (omega (arith, most, differs))
