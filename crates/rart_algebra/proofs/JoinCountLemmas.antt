-- How many nodes are entered and made where two trees are put together, and what is owed for each
-- common key.
use Rattle.std.proofs.Common.{◌≡◌, ◌<◌, ◌≤◌, ◌+◌, ◌⊎◌, inl, inr, ⊎_elim, ℕ, Bool, true, false, ◌&&◌, cond, List, [], ◌∷◌, ◌++◌, Some, IsSome, length, refl, sym, ap, subst, ◌∙◌, arith, add-zero}
use Rattle.std.proofs.lemmas.Bool.{cases_lt}
use Rattle.rart_below.specs.ByteSets.{has_byte, AreBytesOfBoth, TakesFirst}
use Rattle.rart_below.specs.Children.{child_at}
use Rattle.rart_below.specs.declared.byte_set.ByteSet.{ByteSet}
use Rattle.rart_maps.specs.Pairs.{Strings}
use Rattle.rart_maps.specs.StartLaws.{how_many_under}
use Rattle.rart_maps.proofs.OrderLemmas.{begins-append}
use Rattle.rart_maps.proofs.StartLemmas.{at_least-children}
use Rattle.rart_node.specs.Counts.{Counts}
use Rattle.rart_node.specs.Shape.{Shape, prefix_of, children_of, with_prefix, IsAscending}
use Rattle.rart_node.specs.Trees.{found, IsTree}
use Rattle.rart_node.proofs.FindLemmas.{ascending}
use Rattle.rart_node.proofs.PrefixRestLemmas.{common-within}
use Rattle.rart_lockstep.specs.Children.{common_children}
use Rattle.rart_lockstep.specs.TreeCursors.{behind_bytes, children_next, next_children}
use Rattle.rart_lockstep.proofs.ChildLemmas.{where-all, where-next, where-none}
use Rattle.rart_lockstep.proofs.LeastCountLemmas.{EntersLeast, least-start, least-next, least-end}
use Rattle.rart_lockstep.proofs.PairStepLemmas.{common_pairs-apart}
use Rattle.rart_lockstep.proofs.SharedLemmas.{ahead-children}
use Rattle.rart_algebra.specs.Ahead.{EntersBelow, EntersForCommon, HasAll, HaveChange, IsChange, IsChangedPlace, IsGone, IsPlace, JoinsBelow, ahead_of_both}
use Rattle.rart_algebra.specs.Gains.{HasMore}
use Rattle.rart_algebra.proofs.CarriedLemmas.{all-behind, changed_places-carried, changed-behind, child-left, child-right, gone-carried, in-left, in-right, places-carried}
use Rattle.rart_algebra.proofs.CommonCountLemmas.{steps_ahead}
use Rattle.rart_algebra.proofs.DescentLemmas.{EntersSoFar, JoinsSoFar, paying-most}
use Rattle.rart_algebra.proofs.JoinLemmas.{more-changes}
use Rattle.rart_algebra.proofs.PartedLemmas.{change-parted, cut-more, gone-parted, left-some, left_there, parted-leads, parted-next, parted-ordered, parted-place, parted-prefix, passed, place-parted, right-tree, right_there, whole-or-inside}

-- One of the prefixes ends there.
abbrev pub OneEnds : {V : Type 0} → Shape V → Shape V → Type 0
OneEnds left right = (passed left right ≡ length (prefix_of left))
    ⊎ (passed left right ≡ length (prefix_of right))

module _ {V : Type 0} (left right : Shape V) (tree : IsTree left) (also : IsTree right) where
  abbrev s : Shape V
  s = left_there left right

  abbrev t : Shape V
  t = right_there left right

  abbrev ended : Shape V
  ended = with_prefix [] s

  rises : IsAscending s
  rises = ascending s (parted-ordered left right tree also)

  leads : (q : List ℕ) → found right (prefix_of s ++ q) ≡ found t q
  leads = parted-leads left right tree also

  -- ---- a change there is a change of the left tree
  is-change : (stays : Bool) (change : HaveChange stays ended t)
      → IsChange stays left right (prefix_of s ++ change.0)
  is-change stays change = change-parted left right tree also stays (prefix_of s ++ change.0)
      (changed-behind s right t leads stays change.0 change.1)

  pub change-there : (stays : Bool) → HaveChange stays ended t → HaveChange stays left right
  change-there stays change = (prefix_of s ++ change.0, is-change stays change)

  changed-place : (stays : Bool) → HaveChange stays ended t
      → IsChangedPlace stays left right (prefix_of s)
  changed-place stays change = (
    parted-place left right tree also,
    record {
      key = prefix_of s ++ change.0;
      change = is-change stays change;
      begun = begins-append (prefix_of s) change.0;
    },
  )

  -- ---- the sets that have what is ahead have what is ahead there
  module _ (strings : Strings) (above : List ℕ) where
    abbrev path : List ℕ
    path = above ++ prefix_of s

    ahead-there : how_many_under strings path ≡ ahead_of_both left right strings above
    ahead-there = ap (λ z. how_many_under strings (above ++ z)) (parted-prefix left right tree also)

    places-there : HasAll strings above (IsPlace left right) → HasAll strings path (IsPlace ended t)
    places-there has = all-behind IsPlace places-carried strings s right t leads above
        (λ u place. has u (place-parted left right tree also u place))

    gone-there : (stays : Bool) → HasAll strings above (IsGone stays left right)
        → HasAll strings above (IsGone stays s right)
    gone-there stays has = λ key gone. has key (gone-parted left right tree also stays key gone)

    changed-there : (stays : Bool) → HasAll strings above (IsChangedPlace stays left right)
        → HasAll strings path (IsChangedPlace stays ended t)
    changed-there stays has =
        all-behind (IsChangedPlace stays) (changed_places-carried stays) strings s right t leads
        above
        (λ u place. has u (
          place-parted left right tree also u place.0,
          record {
            key = place.1.key;
            change = change-parted left right tree also stays place.1.key place.1.change;
            begun = place.1.begun;
          },
        ))

  module _ (stays : Bool) (before opened started looked after : Counts) (ahead : ByteSet) where
    pub joins-enter : (goes : Bool) (gone extra spare : ℕ)
        → opened.entered ≡ before.entered + 1 → started.entered ≡ opened.entered
        → EntersSoFar (IsGone stays) s t ahead gone started looked
        → (goes ≡ true → IsGone stays ended t [])
        → looked.entered ≤ after.entered → after.entered ≤ looked.entered + extra
        → extra + spare ≤ cond goes 1 0 + gone
        → EntersBelow (IsGone stays) left right spare before after
    joins-enter goes gone extra spare one still steps owns grows most paid =
        let b = steps.grows in
        record {
          grows = omega (arith, b, grows, one, still);
          entered = λ strings paying above has all.
              let path = above ++ prefix_of s in
              let below = steps.entered strings paying path (places-there strings above has)
              (all-behind (IsGone stays) (gone-carried stays) paying s right t leads above
              (gone-there paying above stays all)) in
              let shared = ahead-children strings path
              (has (prefix_of s) (parted-place left right tree also)) (children_of s) rises in
              let own = paying-most (IsGone stays) (gone-carried stays) s right t rises goes leads
              owns paying above (gone-there paying above stays all) in
              let all_there = ahead-there strings above in
              let paid_there = ahead-there paying above in
              omega (arith, below, shared, own, all_there, paid_there, most, paid, one, still);
        }

    pub joins-make : opened.made ≡ before.made → opened.made ≤ started.made
        → looked.made ≤ after.made → JoinsSoFar stays s t ahead started looked
        → ((started.made ≡ opened.made) × (after.made ≡ looked.made))
        ⊎ ((started.made ≤ opened.made + 2) × (after.made ≤ looked.made + 1)
        × HaveChange stays ended t)
        → JoinsBelow left right stays before after
    joins-make none starts makes steps either =
        let d = steps.makes in
        record {
          makes = omega (arith, d, makes, starts, none);
          made = λ strings above has.
              let path = above ++ prefix_of s in
              let below = steps.made strings path (changed-there strings above stays has) in
              let there = ahead-there strings above in
              ⊎_elim
              (λ same.
              let all = at_least-children strings path (children_of s) rises in
              let one = same.0 in
              let other = same.1 in
              omega (arith, below, one, other, all, there, none))
              (λ some.
              let all = ahead-children strings path
              (has (prefix_of s) (changed-place stays some.2)) (children_of s) rises in
              let one = some.0 in
              let other = some.1 in
              omega (arith, below, one, other, all, there, none))
              either;
        }

  -- ---- two nodes for each common key
  all-steps : common_children (next_children (behind_bytes (passed left right) left))
      (next_children t) ≡ common_children (children_of s) (next_children t)
  all-steps = ap (λ z. common_children z (next_children t))
      (sym (parted-next left right tree also))

  pub joins-least : (bytes : ByteSet) → AreBytesOfBoth bytes (children_of s) (next_children t)
      → (before : Counts) → OneEnds left right
      → EntersLeast left right (passed left right) (steps_ahead s t bytes) before before
  joins-least bytes are before ends =
      subst (λ steps. EntersLeast left right (passed left right) steps before before)
      (all-steps ∙ sym (where-all (has_byte bytes) (children_of s) (next_children t)
      (λ byte in_left in_right. are byte ∙ (λ i. in_left i && in_right i))))
      (least-start left right (passed left right) (refl, ends) tree before)

  nodes-few : (p q : List ℕ) → children_next p q ≤ children_next [] q
  nodes-few [] q = omega arith
  nodes-few (b ∷ p) [] = omega arith
  nodes-few (b ∷ p) (c ∷ q) = omega arith

  pub joins-step : (ahead rest : ByteSet) (byte : ℕ) (child other : Shape V)
      → TakesFirst ahead (Some byte) rest → child_at byte (children_of s) ≡ Some child
      → child_at byte (next_children t) ≡ Some other → (before so_far opened after : Counts)
      → EntersLeast left right (passed left right) (steps_ahead s t ahead) before so_far
      → opened.entered + 1 ≡ so_far.entered + children_next [] (prefix_of t)
      → EntersForCommon child other opened after
      → EntersLeast left right (passed left right) (steps_ahead s t rest) before after
  joins-step ahead rest byte child other takes here there before so_far opened after least entered
      more =
      let p = prefix_of (behind_bytes (passed left right) left) in
      let nodes = children_next p (prefix_of t) in
      let few = nodes-few p (prefix_of t) in
      let both : Counts = record so_far { entered = so_far.entered + nodes } in
      least-next left right (passed left right) byte child other (steps_ahead s t rest) nodes
      before so_far both after refl
      (subst (λ steps. EntersLeast left right (passed left right) steps before so_far)
      (where-next (has_byte ahead) (has_byte rest) byte child other (children_of s)
      (next_children t) rises takes.0 takes.1 takes.2 here there) least)
      refl (omega (arith, few, entered, more))

  pub joins-owed : (ahead : ByteSet) (before started looked after : Counts)
      → ((byte : ℕ) → has_byte ahead byte ≡ false)
      → (OneEnds left right
      → EntersLeast left right (passed left right) (steps_ahead s t ahead) started looked)
      → started.entered ≡ before.entered + 1 → started.entered ≤ looked.entered
      → looked.entered ≤ after.entered → EntersForCommon left right before after
  joins-owed ahead before started looked after none least one grows more =
      ⊎_elim
      (λ ends.
      let all = least-end left right (passed left right) (steps_ahead s t ahead) started looked
      looked (least ends)
      (where-none (has_byte ahead) (common_children (children_of s) (next_children t)) none)
      (ap (λ n. record looked { entered = n }) (sym (add-zero looked.entered))) in
      omega (arith, all, one, grows, more))
      (λ apart.
      let zero = ap length (common_pairs-apart left right apart) in
      omega (arith, zero, one, grows, more))
      ends-or-apart
    where
      within : (passed left right ≤ length (prefix_of left))
          × (passed left right ≤ length (prefix_of right))
      within = common-within (prefix_of left) (prefix_of right)

      ends-or-apart : OneEnds left right ⊎ ((passed left right < length (prefix_of left))
          × (passed left right < length (prefix_of right)))
      ends-or-apart = elim (cases_lt (passed left right) (length (prefix_of left))) [
        | inl less ↦ (elim (cases_lt (passed left right) (length (prefix_of right))) [
          | inl also ↦ inr (less, also)
          | inr more ↦ (let few = within.1 in inl (inr (omega (arith, few, more))))
        ])
        | inr more ↦ (let few = within.0 in inl (inl (omega (arith, few, more))))
      ]

  -- ---- what has changed before the way goes on
  -- The cut made no node, or the right tree has more; and so did what was gained.
  pub cut-changes : (stays : Bool) (opened cut : Counts)
      → (passed left right ≡ length (prefix_of left) → cut ≡ opened)
      → (cut.made ≡ opened.made) ⊎ HaveChange stays ended t
  cut-changes stays opened cut still = ⊎_elim
      (λ whole. inl (ap (λ z. z.made) (still whole)))
      (λ inside. inr (more-changes stays s t (cut-more left right tree also inside)))
      (whole-or-inside left right tree also)

  pub gain-changes : (stays : Bool) (opened cut gained : Counts)
      → (cut.made ≡ opened.made) ⊎ HaveChange stays ended t → (gained ≡ cut) ⊎ HasMore s t
      → (gained.made ≡ opened.made) ⊎ HaveChange stays ended t
  gain-changes stays opened cut gained before more = ⊎_elim
      (λ same. ⊎_elim (λ none. inl (ap (λ z. z.made) same ∙ none)) (λ change. inr change) before)
      (λ more. inr (more-changes stays s t more)) more

  -- The last node is made where something has changed, too.
  pub last-joined : (stays : Bool) (opened started looked after : Counts)
      → started.made ≤ opened.made + 2
      → (started.made ≡ opened.made) ⊎ HaveChange stays ended t
      → (after.made ≡ looked.made) ⊎ ((after.made ≤ looked.made + 1) × HaveChange stays ended t)
      → ((started.made ≡ opened.made) × (after.made ≡ looked.made))
      ⊎ ((started.made ≤ opened.made + 2) × (after.made ≤ looked.made + 1)
      × HaveChange stays ended t)
  last-joined stays opened started looked after few first last = ⊎_elim
      (λ same. ⊎_elim (λ none. inl (none, same))
      (λ change. inr (few, omega (arith, same), change)) first)
      (λ some. inr (few, some.0, some.1)) last

  -- ---- keys of what stands below are keys of both
  module _ (child next : Shape V) (byte : ℕ) (here : child_at byte (children_of s) ≡ Some child)
      (there : child_at byte (next_children t) ≡ Some next) where
    pub left-key : (q : List ℕ) → IsSome (found child q) → IsSome (found left (prefix_of s ++ q))
    left-key q some = left-some left right tree also (prefix_of s ++ q)
        (in-left s right t leads q (child-left s t child next byte here there
        (parted-ordered left right tree also) (right-tree left right tree also) q some))

    pub right-key : (q : List ℕ) → IsSome (found next q) → IsSome (found right (prefix_of s ++ q))
    right-key q some = in-right s right t leads q (child-right s t child next byte here there
        (parted-ordered left right tree also) (right-tree left right tree also) q some)
