-- The way down to where the last of the pairs up to a bound stands.
use Rattle.std.proofs.Common.{◌≡◌, ℕ, List, [], ◌∷◌, ◌++◌, Option, Some, None, length, take, refl, sym, ap, subst, ◌∙◌}
use Rattle.std.specs.Prelude.{◌-◌}
use Rattle.std.proofs.lemmas.List.{append-nil, append_assoc}
use Rattle.rart_below.specs.Children.{child_at, children_below}
use Rattle.rart_node.specs.Shape.{Shape, prefix_of, value_of, children_of}
use Rattle.rart_node.specs.Trees.{IsTree, own_pair, pairs_of}
use Rattle.rart_node.specs.PairsBehind.{behind_path, pairs_of_all, pending_pair}
use Rattle.rart_node.proofs.GatherLemmas.{keeping, kept_at, pairs-gathered}
use Rattle.rart_node.proofs.BehindLemmas.{behind-append, behind-behind, behind-none}
use Rattle.rart_ways.specs.Besides.{is_to}
use Rattle.rart_ways.specs.Lasts.{EndAt, IsEnd}
use Rattle.rart_ways.specs.declared.seeking.Edge.{Edge}
use Rattle.rart_ways.specs.declared.seeking.end.Last.{Last}
use Rattle.rart_ways.proofs.SeekStartLemmas.{front-of}
use Rattle.rart_ways.proofs.ToLemmas.{reached-below}

module _ {V : Type 0} where
  behind-pending : (path prefix : List ℕ) (value : Option V)
      → behind_path path (pending_pair prefix value) ≡ pending_pair (path ++ prefix) value
  behind-pending path prefix None = refl
  behind-pending path prefix (Some value) = refl

module _ {V : Type 0} (edge : Edge) (high : List ℕ) (root : Shape V) where
  abbrev pub to_high : List (List ℕ × V)
  to_high = keeping (is_to edge high) (pairs_of root)

  -- Up to the bound there are the pairs that the way passed, and then those of the node to which it
  -- has come up to the rest of the string, behind the path.
  abbrev pub IsBackAt : Shape V → List ℕ → List ℕ → List (List ℕ × V) → Type 0
  IsBackAt s rest path passed =
      to_high ≡ passed ++ behind_path path (keeping (is_to edge rest) (pairs_of s))

  pub back-start : IsBackAt root high [] []
  back-start = sym (behind-none to_high)

  module _ (s : Shape V) (rest path : List ℕ) (passed : List (List ℕ × V))
      (back : IsBackAt s rest path passed) where
    reached-is : (part : List (List ℕ × V)) → keeping (is_to edge rest) (pairs_of s) ≡ part
        → to_high ≡ passed ++ behind_path path part
    reached-is part is = back ∙ ap (λ z. passed ++ behind_path path z) is

    -- all of the node is reached
    pub back-all : IsTree s → high ≡ path ++ rest
        → keeping (is_to edge rest) (pairs_of s) ≡ pairs_of s
        → IsEnd to_high (take (length high - length rest) high) s
    back-all tree path_is all =
        subst (λ p. IsEnd to_high p s) (sym (front-of high path rest path_is))
        (record { tree = tree; others = passed; is = reached-is (pairs_of s) all })

    -- nothing of it is
    pub back-none : (turn : Option (List ℕ × Last V (Shape V)))
        → keeping (is_to edge rest) (pairs_of s) ≡ [] → EndAt passed turn → EndAt to_high turn
    back-none turn none at =
        subst (λ pairs. EndAt pairs turn) (sym (reached-is [] none ∙ append-nil passed)) at

    -- its own pair is
    pub back-own : (turn : Option (List ℕ × Last V (Shape V))) → high ≡ path ++ rest
        → rest ≡ prefix_of s
        → keeping (is_to edge rest) (pairs_of s) ≡ pending_pair (prefix_of s) (value_of s)
        → EndAt (passed ++ pending_pair high (value_of s)) turn → EndAt to_high turn
    back-own turn path_is end own at =
        subst (λ pairs. EndAt pairs turn)
        (sym (reached-is (pending_pair (prefix_of s) (value_of s)) own
        ∙ ap (λ z. passed ++ z) (behind-pending path (prefix_of s) (value_of s)
        ∙ ap (λ p. pending_pair p (value_of s))
        (sym (path_is ∙ ap (λ z. path ++ z) end))))) at

    -- the way goes on behind its prefix
    module _ (byte : ℕ) (more : List ℕ) (goes : rest ≡ prefix_of s ++ (byte ∷ more))
        (tree : IsTree s) where
      -- what stands before the child under the byte
      abbrev pub passed_on : List (List ℕ × V)
      passed_on =
          (passed ++ pending_pair (path ++ prefix_of s) (value_of s))
          ++ behind_path (path ++ prefix_of s) (pairs_of_all (children_below byte (children_of s)))

      goes-back : to_high ≡ passed_on ++ behind_path (path ++ prefix_of s)
          (kept_at own_pair (is_to edge (byte ∷ more)) (child_at byte (children_of s)))
      goes-back =
          let prefix = prefix_of s in
          let below = pairs_of_all (children_below byte (children_of s)) in
          let last = kept_at own_pair (is_to edge (byte ∷ more)) (child_at byte (children_of s)) in
          let own = pending_pair prefix (value_of s) in
          reached-is ((own ++ behind_path prefix below) ++ behind_path prefix last)
          (ap (λ r. keeping (is_to edge r) (pairs_of s)) goes
          ∙ reached-below edge s byte more tree)
          ∙ ap (λ z. passed ++ z) (behind-append path (own ++ behind_path prefix below)
          (behind_path prefix last)
          ∙ ap (λ z. z ++ behind_path path (behind_path prefix last))
          (behind-append path own (behind_path prefix below)
          ∙ ap (λ z. z ++ behind_path path (behind_path prefix below))
          (behind-pending path prefix (value_of s))
          ∙ ap (λ z. pending_pair (path ++ prefix) (value_of s) ++ z)
          (behind-behind path prefix below))
          ∙ ap (λ z. (pending_pair (path ++ prefix) (value_of s)
          ++ behind_path (path ++ prefix) below) ++ z) (behind-behind path prefix last))
          ∙ sym (append_assoc passed (pending_pair (path ++ prefix) (value_of s)
          ++ behind_path (path ++ prefix) below) (behind_path (path ++ prefix) last))
          ∙ ap (λ z. z ++ behind_path (path ++ prefix) last)
          (sym (append_assoc passed (pending_pair (path ++ prefix) (value_of s))
          (behind_path (path ++ prefix) below)))

      pub back-missing : (turn : Option (List ℕ × Last V (Shape V)))
          → child_at byte (children_of s) ≡ None → EndAt passed_on turn → EndAt to_high turn
      back-missing turn none at =
          subst (λ pairs. EndAt pairs turn)
          (sym (goes-back ∙ ap (λ o. passed_on ++ behind_path (path ++ prefix_of s)
          (kept_at own_pair (is_to edge (byte ∷ more)) o)) none ∙ append-nil passed_on)) at

      pub back-child : (child : Shape V) → child_at byte (children_of s) ≡ Some child
          → IsBackAt child (byte ∷ more) (path ++ prefix_of s) passed_on
      back-child child here =
          goes-back ∙ ap (λ o. passed_on ++ behind_path (path ++ prefix_of s)
          (kept_at own_pair (is_to edge (byte ∷ more)) o)) here
          ∙ ap (λ z. passed_on ++ behind_path (path ++ prefix_of s)
          (keeping (is_to edge (byte ∷ more)) z)) (sym (pairs-gathered child))
