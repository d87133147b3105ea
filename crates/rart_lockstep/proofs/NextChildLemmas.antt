-- Where the next bytes lead from two nodes: what is known of each pair that they lead to.
use Rattle.std.proofs.Common.{◌≡◌, ◌<◌, ◌≤◌, ◌+◌, ◌⊎◌, ℕ, Bool, true, false, cond, ⊎_elim, List, [], ◌∷◌, ◌++◌, Option, Some, None, length, refl, sym, ap, subst, ◌∙◌, arith}
use Rattle.std.specs.Prelude.{◌==◌, ⊤, All, Contains}
use Rattle.std.specs.List.{cons_option}
use Rattle.std.specs.Option.{option_map}
use Rattle.std.specs.Cmp.{unsigned_tied}
use Rattle.std.proofs.lemmas.Bool.{eqb-true}
use Rattle.std.proofs.lemmas.Option.{same_Some, none-some}
use Rattle.std.proofs.lemmas.List.{length-append}
use Rattle.std.proofs.lemmas.List.Elements.{All-contains, Contains-append_left, Contains-append_right}
use Rattle.rart_below.specs.Bytes.{IsAdmitted}
use Rattle.rart_below.specs.Children as children
use Rattle.rart_below.specs.Children.{child_at}
use Rattle.rart_node.specs.Shape.{Shape, Forest, node, bare, grown, prefix_of, entries_of, height, height_below, with_prefix}
use Rattle.rart_node.specs.Trees.{BeginsWith, own_pair, pairs_of, pairs_below, IsTree, AreBranches}
use Rattle.rart_node.proofs.KeyLemmas.{tree-has-pair}
use Rattle.rart_maps.proofs.ElementLemmas.{Contains-here, Contains-later, Contains-cases, Contains-map, All-from_contains}
use Rattle.rart_node.specs.PairsBehind.{AreShort}
use Rattle.rart_node.specs.PairsBehind.{behind_path}
use Rattle.rart_node.proofs.BehindLemmas.{behind-none, behind-behind}
use Rattle.rart_lockstep.specs.Children.{common_children}
use Rattle.rart_lockstep.specs.TreeCursors.{next_children}
use Rattle.rart_lockstep.proofs.ChildLemmas.{ascending-common}
use Rattle.rart_lockstep.proofs.CommonLemmas.{pairs-matched, with_prefix-is}
use Rattle.rart_lockstep.proofs.SharedLemmas.{IsWithin}

module _ {V : Type 0} where
  -- ---- one side
  -- what is known of a tree to which a byte leads
  pub record IsArm (s : Shape V) (byte : ℕ) (x : Shape V) : Type 0 where
    pub tree : IsTree x
    pub begins : BeginsWith byte (prefix_of x)
    pub within : IsWithin x s
    pub low : height x ≤ height s
    pub lower : prefix_of s ≡ [] → height x < height s

  abbrev AreNextChildren : Shape V → List (ℕ × Shape V) → Type 0
  AreNextChildren s [] = ⊤
  AreNextChildren s (next_child ∷ rest) = IsArm s next_child.0 next_child.1 × AreNextChildren s rest

  module _ (s : Shape V) where
    next_children-below : (forest : Forest V) → AreBranches forest → height_below forest < height s
        → ((pair : List ℕ × V) → Contains (pairs_below forest) pair → Contains (pairs_of s) pair)
        → AreNextChildren s (entries_of forest)
    next_children-below bare branches lower within = tt
    next_children-below (grown byte child forest) branches lower within = (
      record {
        tree = branches.1;
        begins = branches.0;
        within = λ pair there.
            within pair (Contains-append_left (pairs_of child) (pairs_below forest) pair there);
        low = omega (arith, lower);
        lower = λ _. omega (arith, lower);
      },
      next_children-below forest branches.2 (omega (arith, lower))
          (λ pair there. within pair
          (Contains-append_right (pairs_of child) (pairs_below forest) pair there)),
    )

  next_children-are : (s : Shape V) → IsTree s → AreNextChildren s (next_children s)
  next_children-are (node [] value width forest) tree =
      let s : Shape V = node [] value width forest in
      let whole = behind-none (own_pair value ++ pairs_below forest) in
      next_children-below s forest tree.1 (omega arith)
      (λ pair there. subst (λ pairs. Contains pairs pair) (sym whole)
      (Contains-append_right (own_pair value) (pairs_below forest) pair there))
  next_children-are (node (b ∷ prefix) value width forest) tree = (
    record {
      tree = tree;
      begins = refl;
      within = λ pair there. there;
      low = omega arith;
      lower = λ is. absurd (cons-nil is);
    },
    tt,
  )
    where
      cons-nil : b ∷ prefix ≡ [] → ⊥
      cons-nil is = cc

  next_children-ascending : (s : Shape V) → IsTree s → children.IsAscending (next_children s)
  next_children-ascending (node [] value width forest) tree = tree.0
  next_children-ascending (node (b ∷ prefix) value width forest) tree = refl

  next_child-at : (s : Shape V) (byte : ℕ) (x : Shape V) (list : List (ℕ × Shape V))
      → AreNextChildren s list
      → child_at byte list ≡ Some x → IsArm s byte x
  next_child-at s byte x [] next_children here = absurd (none-some x here)
  next_child-at s byte x (next_child ∷ rest) next_children here =
      let P : Bool → Type 0 = λ t. (byte == next_child.0) ≡ t
      → cond t (Some next_child.1) (child_at byte rest) ≡ Some x → IsArm s byte x in
      let both : (t : Bool) → P t = elim [
        | true ↦ (λ same is. subst (λ b. IsArm s b x) (sym (eqb-true byte next_child.0 same))
            (subst (IsArm s next_child.0) (same_Some next_child.1 x is) next_children.0))
        | false ↦ (λ other is. next_child-at s byte x rest next_children.1 is)
      ] in
      both (byte == next_child.0) refl (rw (unsigned_tied byte next_child.0) at here)

  -- ---- both sides
  -- Each pair of the list is where a byte leads, on either side.
  abbrev pub ArePairs : Shape V → Shape V → List (ℕ × (Shape V × Shape V)) → Type 0
  ArePairs s t [] = ⊤
  ArePairs s t (pair ∷ rest) =
      (IsArm s pair.0 pair.1.0 × IsArm t pair.0 pair.1.1) × ArePairs s t rest

  pairs-common : (s t : Shape V) (left right : List (ℕ × Shape V)) → AreNextChildren s left
      → AreNextChildren t right → ArePairs s t (common_children left right)
  pairs-common s t [] right next_children also = tt
  pairs-common s t (next_child ∷ left) right next_children also =
      let rest = pairs-common s t left right next_children.1 also in
      elim (child_at next_child.0 right) as (λ o. child_at next_child.0 right ≡ o
      → ArePairs s t (cons_option (option_map (λ other. (next_child.0, (next_child.1, other))) o)
      (common_children left right))) [
        | None ↦ λ _. rest
        | Some other ↦ λ here. (
          (
            next_children.0,
            next_child-at t next_child.0 other right also
                here,
          ),
          rest,
        )
      ] refl

  pub pairs-next_children : (s t : Shape V) → IsTree s → IsTree t
      → ArePairs s t (common_children (next_children s) (next_children t))
  pairs-next_children s t left right =
      pairs-common s t (next_children s) (next_children t) (next_children-are s left)
      (next_children-are t right)

  -- Where one of the two has ended, the way down goes on lower.
  pub pair-lower : (s t : Shape V) (byte : ℕ) (x y : Shape V)
      → (prefix_of s ≡ []) ⊎ (prefix_of t ≡ []) → IsArm s byte x → IsArm t byte y
      → height x + height y < height s + height t
  pair-lower s t byte x y ends left right =
      let left_low = left.low in
      let right_low = right.low in
      ⊎_elim
      (λ is. let lower = left.lower is in omega (arith, lower, right_low))
      (λ is. let lower = right.lower is in omega (arith, lower, left_low)) ends

  pub pairs-ascending : (s t : Shape V) → IsTree s
      → children.IsAscending (common_children (next_children s) (next_children t))
  pairs-ascending s t tree = ascending-common (next_children s) (next_children t)
      (next_children-ascending s tree)

  -- ---- how long the keys are
  pub short-within : (greatest : Option ℕ) (path : List ℕ) (x s : Shape V) → IsWithin x s
      → AreShort greatest (behind_path path (pairs_of s))
      → AreShort greatest (behind_path path (pairs_of x))
  short-within None path x s within short = tt
  short-within (Some most) path x s within short =
      short-each (pairs_of x) (λ pair there.
      All-contains (λ pair. length pair.0 ≤ most) (behind_path path (pairs_of s))
      (path ++ pair.0, pair.1) short
      (Contains-map (λ pair. (path ++ pair.0, pair.1)) (pairs_of s) pair (within pair there)))
    where
      short-each : (pairs : List (List ℕ × V))
          → ((pair : List ℕ × V) → Contains pairs pair → length (path ++ pair.0) ≤ most)
          → All (λ pair. length pair.0 ≤ most) (behind_path path pairs)
      short-each [] each = All-from_contains (λ pair. length pair.0 ≤ most) []
          (λ pair there. absurd (omega (arith, there.1)))
      short-each (pair ∷ pairs) each =
          let more = short-each pairs
          (λ later there. each later (Contains-later pair pairs later there)) in
          let first : List ℕ × V = (path ++ pair.0, pair.1) in
          All-from_contains (λ pair. length pair.0 ≤ most) (first ∷ behind_path path pairs)
          (λ one there. ⊎_elim
          (λ is. subst (λ z. length z.0 ≤ most) is (each pair (Contains-here pair pairs)))
          (λ later. All-contains (λ pair. length pair.0 ≤ most) (behind_path path pairs) one
          more later)
          (Contains-cases first (behind_path path pairs) one there))

  module _ (greatest : Option ℕ) (path : List ℕ) (s : Shape V)
      (short : AreShort greatest (behind_path path (pairs_of s))) where
    -- Bytes of the prefix were matched: they stand above then.
    pub short-matched : (u p : List ℕ) → prefix_of s ≡ u ++ p
        → AreShort greatest (behind_path (path ++ u) (pairs_of (with_prefix p s)))
    short-matched u p is =
        subst (AreShort greatest)
        (ap (behind_path path) (ap pairs_of (with_prefix-is s (u ++ p) is) ∙ pairs-matched s u p)
        ∙ behind-behind path u (pairs_of (with_prefix p s))) short

    -- They are not too long.
    pub short-admits : (u p : List ℕ) → prefix_of s ≡ u ++ p → IsTree s
        → IsAdmitted greatest (length (path ++ u))
    short-admits u p is tree =
        let first = tree-has-pair s tree in
        let whole = subst (λ pairs. AreShort greatest (behind_path path pairs)) first.3 short in
        admits greatest whole
      where
        admits : (greatest : Option ℕ)
            → AreShort greatest (behind_path path
            ((prefix_of s ++ (tree-has-pair s tree).0, (tree-has-pair s tree).1)
            ∷ (tree-has-pair s tree).2))
            → IsAdmitted greatest (length (path ++ u))
        admits None whole = tt
        admits (Some most) whole =
            let first = tree-has-pair s tree in
            let here = All-contains (λ pair. length pair.0 ≤ most)
            (behind_path path ((prefix_of s ++ first.0, first.1) ∷ first.2))
            (path ++ (prefix_of s ++ first.0), first.1) whole
            (Contains-here (path ++ (prefix_of s ++ first.0), first.1)
            (behind_path path first.2)) in
            let whole_length = length-append path (prefix_of s ++ first.0) in
            let key_length = length-append (prefix_of s) first.0 in
            let prefix_length = ap length is ∙ length-append u p in
            let start_length = length-append path u in
            omega (arith, here, whole_length, key_length, prefix_length, start_length)
