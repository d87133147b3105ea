-- How many nodes the way down two trees enters at least: two for each common key.
use Rattle.std.proofs.Common.{◌≡◌, ◌<◌, ◌≤◌, ◌+◌, inl, ℕ, false, ◌&&◌, List, [], ◌∷◌, ◌++◌, Option, Some, None, Result, Ok, Err, length, refl, sym, ap, subst, ◌∙◌, arith, add-zero}
use Rattle.std.specs.Prelude.{OnOk}
use Rattle.std.specs.List.{filter_map, cons_option}
use Rattle.std.specs.Option.{option_map}
use Rattle.std.specs.Ordering.{nat_cmp}
use Rattle.std.specs.FinMap.Entries.{where_key}
use Rattle.std.proofs.lemmas.List.{append-nil}
use Rattle.rart_below.specs.ByteSets.{has_byte, AreBytesOfBoth, TakesFirst}
use Rattle.rart_below.specs.Bytes.{common_length}
use Rattle.rart_below.specs.Children.{child_at}
use Rattle.rart_below.specs.declared.byte_set.ByteSet.{ByteSet}
use Rattle.rart_node.specs.Counts.{Counts}
use Rattle.rart_node.specs.PairsBehind.{behind_path}
use Rattle.rart_node.specs.Shape.{Shape, node, prefix_of, children_of, with_prefix}
use Rattle.rart_node.specs.Trees.{found, pairs_of, IsTree}
use Rattle.rart_node.proofs.FindLemmas.{ascending, ordered}
use Rattle.rart_lockstep.specs.Children.{common_children}
use Rattle.rart_lockstep.specs.CommonPairs.{common_pairs}
use Rattle.rart_lockstep.specs.PairCursors.{CommonBytes}
use Rattle.rart_lockstep.specs.TreeCursors.{behind_bytes, next_children, children_next}
use Rattle.rart_lockstep.proofs.ChildLemmas.{where-all, where-next, where-none}
use Rattle.rart_lockstep.proofs.CommonLemmas.{pairs-matched, with_prefix-is}
use Rattle.rart_lockstep.proofs.LeastCountLemmas.{EntersLeast, least-start, least-next, least-end, leaves-few}
use Rattle.rart_lockstep.proofs.PairStepLemmas.{prefix-with, tree-with}
use Rattle.rart_algebra.specs.Ahead.{EntersForCommon}
use Rattle.rart_algebra.proofs.CarriedLemmas.{ended-next}

pub no-list : {A : Type 0} (list : List A) → length list ≡ 0 → list ≡ []
no-list [] zero = refl
no-list (a ∷ list) zero = absurd (omega (arith, zero))

-- What holds whatever is answered.
pub whatever : {A E P : Type 0} (result : Result A E) → P → OnOk result P
whatever (Ok x) holds = holds
whatever (Err e) holds = tt

module _ {V : Type 0} where
  -- ---- common keys, behind the left prefix
  abbrev met : (List ℕ → Option V) → List (List ℕ × V) → List (List ℕ × V × V)
  met other pairs = filter_map (λ pair. option_map (λ x. (pair.0, pair.1, x)) (other pair.0)) pairs

  met-behind : (path : List ℕ) (one other : List ℕ → Option V) (pairs : List (List ℕ × V))
      → ((q : List ℕ) → one (path ++ q) ≡ other q)
      → length (met one (behind_path path pairs)) ≡ length (met other pairs)
  met-behind path one other [] same = refl
  met-behind path one other (pair ∷ pairs) same =
      let rest = met-behind path one other pairs same in
      ap (λ o. length (cons_option
      (option_map (λ x. (path ++ pair.0, pair.1, x)) o) (met one (behind_path path pairs))))
      (same pair.0)
      ∙ elim (other pair.0) as (λ o. length (cons_option
      (option_map (λ x. (path ++ pair.0, pair.1, x)) o) (met one (behind_path path pairs)))
      ≡ length (cons_option (option_map (λ x. (pair.0, pair.1, x)) o) (met other pairs))) [
        | None ↦ rest
        | Some x ↦ omega (arith, rest)
      ]

  met-none : (other : List ℕ → Option V) (pairs : List (List ℕ × V))
      → ((q : List ℕ) → other q ≡ None) → length (met other pairs) ≡ 0
  met-none other [] none = refl
  met-none other (pair ∷ pairs) none =
      ap (λ o. length (cons_option (option_map (λ x. (pair.0, pair.1, x)) o) (met other pairs)))
      (none pair.0)
      ∙ met-none other pairs none

  -- the pairs of a node, its prefix passed
  pairs-ended : (s : Shape V)
      → pairs_of s ≡ behind_path (prefix_of s) (pairs_of (with_prefix [] s))
  pairs-ended s =
      ap pairs_of (with_prefix-is s (prefix_of s ++ []) (sym (append-nil (prefix_of s))))
      ∙ pairs-matched s (prefix_of s) []

  common-behind_prefix : (s right : Shape V) (other : List ℕ → Option V)
      → ((q : List ℕ) → found right (prefix_of s ++ q) ≡ other q)
      → length (common_pairs s right) ≡ length (met other (pairs_of (with_prefix [] s)))
  common-behind_prefix s right other leads =
      ap (λ pairs. length (met (found right) pairs)) (pairs-ended s)
      ∙ met-behind (prefix_of s) (found right) other (pairs_of (with_prefix [] s)) leads

  -- ---- the way is over at once
  pub least-apart : (s right : Shape V) (before after : Counts)
      → ((q : List ℕ) → found right (prefix_of s ++ q) ≡ None) → before.entered < after.entered
      → EntersForCommon s right before after
  least-apart s right before after none more =
      let all = common-behind_prefix s right (λ q. None) none in
      let no = met-none (λ q. None) (pairs_of (with_prefix [] s)) (λ q. refl) in
      omega (arith, all, no, more)

  pub least-leaf : (s right : Shape V) (before after : Counts) → length (children_of s) ≡ 0
      → before.entered < after.entered → EntersForCommon s right before after
  least-leaf s right before after none more =
      let few = leaves-few s right (no-list (children_of s) none) in
      omega (arith, few, more)

  -- ---- child by child
  -- where the bytes lead that are still ahead
  abbrev pub steps_ahead : Shape V → Shape V → ByteSet → List (ℕ × (Shape V × Shape V))
  steps_ahead s t ahead =
      where_key nat_cmp (has_byte ahead) (common_children (children_of s) (next_children t))

  module _ (s t : Shape V) (tree : IsTree s) where
    abbrev ended : Shape V
    ended = with_prefix [] s

    behind-none : (x : Shape V) → behind_bytes 0 x ≡ x
    behind-none (node prefix value width forest) = refl

    ended-prefix : prefix_of ended ≡ []
    ended-prefix = prefix-with s []

    no_bytes : CommonBytes ended t (Some 0)
    no_bytes = (
      sym (ap (λ p. common_length p (prefix_of t)) ended-prefix),
      inl (sym (ap length ended-prefix)),
    )

    all-steps : common_children (next_children (behind_bytes 0 ended))
        (next_children (behind_bytes 0 t)) ≡ common_children (children_of s) (next_children t)
    all-steps = λ i. common_children
        ((ap next_children (behind-none ended) ∙ ended-next s) i)
        (next_children (behind-none t i))

    pub least-none : (bytes : ByteSet) → AreBytesOfBoth bytes (children_of s) (next_children t)
        → (before : Counts) → EntersLeast ended t 0 (steps_ahead s t bytes) before before
    least-none bytes are before =
        subst (λ steps. EntersLeast ended t 0 steps before before)
        (all-steps ∙ sym (where-all (has_byte bytes) (children_of s) (next_children t)
        (λ byte in_left in_right. are byte ∙ (λ i. in_left i && in_right i))))
        (least-start ended t 0 no_bytes (tree-with s [] tree) before)

    pub least-step : (ahead rest : ByteSet) (byte : ℕ) (child other : Shape V)
        → TakesFirst ahead (Some byte) rest → child_at byte (children_of s) ≡ Some child
        → child_at byte (next_children t) ≡ Some other → (before so_far opened after : Counts)
        → EntersLeast ended t 0 (steps_ahead s t ahead) before so_far
        → opened.entered + 1 ≡ so_far.entered + children_next [] (prefix_of t)
        → EntersForCommon child other opened after
        → EntersLeast ended t 0 (steps_ahead s t rest) before after
    least-step ahead rest byte child other takes here there before so_far opened after least entered
        more =
        let nodes = children_next (prefix_of (behind_bytes 0 ended))
        (prefix_of (behind_bytes 0 t)) in
        let same : nodes ≡ children_next [] (prefix_of t) =
        λ i. children_next ((ap prefix_of (behind-none ended) ∙ ended-prefix) i)
        (prefix_of (behind-none t i)) in
        let both : Counts = record so_far { entered = so_far.entered + nodes } in
        least-next ended t 0 byte child other (steps_ahead s t rest) nodes before so_far both after
        refl
        (subst (λ steps. EntersLeast ended t 0 steps before so_far)
        (where-next (has_byte ahead) (has_byte rest) byte child other (children_of s)
        (next_children t) (ascending s (ordered s tree)) takes.0 takes.1 takes.2 here there) least)
        refl (omega (arith, same, entered, more))

    pub least-all : (right : Shape V) (ahead : ByteSet)
        (before opened reached looked after : Counts)
        → ((q : List ℕ) → found right (prefix_of s ++ q) ≡ found t q)
        → ((byte : ℕ) → has_byte ahead byte ≡ false)
        → EntersLeast ended t 0 (steps_ahead s t ahead) reached looked
        → opened.entered ≡ before.entered + 1 → opened.entered ≤ reached.entered
        → looked.entered ≤ after.entered → EntersForCommon s right before after
    least-all right ahead before opened reached looked after leads none least one grows more =
        let all = least-end ended t 0 (steps_ahead s t ahead) reached looked looked least
        (where-none (has_byte ahead) (common_children (children_of s) (next_children t)) none)
        (same-counts looked) in
        let same = common-behind_prefix s right (found t) leads in
        omega (arith, all, same, one, grows, more)
      where
        same-counts : (c : Counts) → c ≡ record c { entered = c.entered + 0 }
        same-counts c = ap (λ n. record c { entered = n }) (sym (add-zero c.entered))
