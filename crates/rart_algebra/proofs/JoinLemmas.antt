-- What two trees have together, node by node, where a common key stays or goes.
use Rattle.std.proofs.Common.{◌≡◌, ◌⊎◌, inl, inr, ⊎_elim, ℕ, Bool, true, false, not, ◌&&◌, cond, List, [], ◌∷◌, ◌++◌, Option, Some, None, IsSome, is_some, length, refl, sym, ap, subst, ◌∙◌, arith}
use Rattle.std.proofs.lemmas.Bool.{eqb-false, false≢true}
use Rattle.std.proofs.lemmas.List.{length-append}
use Rattle.rart_below.specs.ByteSets.{AreBytesOfBoth}
use Rattle.rart_below.specs.Children.{child_at}
use Rattle.rart_below.specs.declared.byte_set.ByteSet.{ByteSet}
use Rattle.rart_lockstep.specs.TreeCursors.{next_children, value_here}
use Rattle.rart_node.specs.Shape.{Shape, node, value_of, children_of, with_prefix}
use Rattle.rart_node.specs.Trees.{found, IsTree}
use Rattle.rart_ways.specs.Removals.{AreAdmitted}
use Rattle.rart_ways.proofs.RemovalLemmas.{shorter}
use Rattle.rart_algebra.specs.Ahead.{HaveChange, IsCommonKey, IsGone}
use Rattle.rart_algebra.specs.Gains.{Gains, HasMore}
use Rattle.rart_algebra.specs.Picks.{either, together}
use Rattle.rart_algebra.proofs.AmongLemmas.{bytes-apart, bytes-both}
use Rattle.rart_algebra.proofs.PackLemmas.{packed-whole}
use Rattle.rart_algebra.proofs.PartedLemmas.{TwoArms, cut-here, left_byte, left_there, parted-whole, passed, right-goes, right_there, two-many, value-or-arms, whole-or-inside}
use Rattle.rart_algebra.proofs.PickLemmas.{IsPickedUpTo}
use Rattle.rart_algebra.proofs.ReachLemmas.{look, found-here, found-next}

module _ {V : Type 0} where
  pub one-alone : (stays : Bool) (one : Option V) → together stays one None ≡ one
  one-alone true None = refl
  one-alone true (Some one) = refl
  one-alone false None = refl
  one-alone false (Some one) = refl

  pub other-alone : (stays : Bool) (other : Option V) → together stays None other ≡ other
  other-alone true other = refl
  other-alone false other = refl

  pub together-some : (stays : Bool) (one other : Option V) → IsSome (together stays one other)
      → IsSome one ⊎ IsSome other
  together-some stays (Some one) other some = inl refl
  together-some stays None (Some other) some = inr refl
  together-some true None None some = absurd (false≢true some)
  together-some false None None some = absurd (false≢true some)

  -- ---- the value where both prefixes end
  module _ (stays : Bool) (s t : Shape V) (goes : Bool)
      (are : goes ≡ (not stays && (is_some (value_of s) && is_some (value_here t)))) where
    pub joined-value : cond goes None (either (value_of s) (value_here t))
        ≡ together stays (value_of s) (found t [])
    joined-value =
        ap (λ z. cond z None (either (value_of s) (value_here t))) are
        ∙ by stays (value_of s) (value_here t)
        ∙ ap (together stays (value_of s)) (sym (found-here t))
      where
        by : (stays : Bool) (one other : Option V)
            → cond (not stays && (is_some one && is_some other)) None (either one other)
            ≡ together stays one other
        by true one other = refl
        by false None other = refl
        by false (Some one) None = refl
        by false (Some one) (Some other) = refl

    pub value-gone : goes ≡ true → IsGone stays (with_prefix [] s) t []
    value-gone is = by stays (value_of s) (value_here t) refl refl (sym are ∙ is)
      where
        ended-value : (s : Shape V) → found (with_prefix [] s) [] ≡ value_of s
        ended-value (node prefix value width forest) = refl

        by : (z : Bool) (one other : Option V) → value_of s ≡ one → value_here t ≡ other
            → (not z && (is_some one && is_some other)) ≡ true
            → (z ≡ false) × IsCommonKey (with_prefix [] s) t []
        by true one other here there never = absurd (false≢true never)
        by false None other here there never = absurd (false≢true never)
        by false (Some one) None here there never = absurd (false≢true never)
        by false (Some one) (Some other) here there both = (
          refl,
          (
            ap is_some (ended-value s ∙ here),
            ap is_some (found-here t ∙ there),
          ),
        )

    pub value-changes : goes ≡ true → HaveChange stays (with_prefix [] s) t
    value-changes is =
        let gone = value-gone is in (
          [],
          (gone.1.1, λ stay. absurd (false≢true (sym gone.0 ∙ stay))),
        )

  -- ---- what a node gains
  pub more-changes : (stays : Bool) (s t : Shape V) → HasMore s t
      → HaveChange stays (with_prefix [] s) t
  more-changes stays s t more = (more.0, (more.1, λ _. more.2))

  pub joined-start : (stays : Bool) (s t now : Shape V) (bytes : ByteSet)
      → AreBytesOfBoth bytes (children_of s) (next_children t) → Gains s t now
      → IsPickedUpTo (together stays) s t (either (value_of s) (value_here t)) bytes now
  joined-start stays s t now bytes are gains = record {
    order = gains.order;
    prefix = gains.prefix;
    value = gains.value;
    kept = λ byte has. gains.children byte
        ∙ had (child_at byte (children_of s)) (child_at byte (next_children t))
        (bytes-both bytes (children_of s) (next_children t) are byte has).0;
    passed = λ byte gone q. ap (look (byte ∷ q)) (gains.children byte)
        ∙ alone byte q (child_at byte (children_of s)) (child_at byte (next_children t))
        (bytes-apart bytes (children_of s) (next_children t) are byte gone)
        ∙ ap (together stays (look (byte ∷ q) (child_at byte (children_of s))))
        (sym (found-next t byte q));
  }
    where
      had : (one other : Option (Shape V)) → IsSome one → either one other ≡ one
      had None other none = absurd (false≢true none)
      had (Some one) other some = refl

      alone : (byte : ℕ) (q : List ℕ) (one other : Option (Shape V))
          → (one ≡ None) ⊎ (other ≡ None) → look (byte ∷ q) (either one other)
          ≡ together stays (look (byte ∷ q) one) (look (byte ∷ q) other)
      alone byte q None other lacks = sym (other-alone stays (look (byte ∷ q) other))
      alone byte q (Some one) None lacks = sym (one-alone stays (found one (byte ∷ q)))
      alone byte q (Some one) (Some other) lacks =
          ⊎_elim (λ never. absurd (false≢true (sym (ap is_some never))))
          (λ never. absurd (false≢true (sym (ap is_some never)))) lacks

  -- With all that it gains the node is a tree.
  module _ (left right : Shape V) (tree : IsTree left) (also : IsTree right) (now : Shape V)
      (gains : Gains (left_there left right) (right_there left right) now) where
    one-there : {A : Type 0} (one other : Option A) → IsSome one → IsSome (either one other)
    one-there None other none = absurd (false≢true none)
    one-there (Some one) other some = refl

    other-there : {A : Type 0} (one other : Option A) → IsSome other → IsSome (either one other)
    other-there None other some = some
    other-there (Some one) other some = refl

    abbrev s : Shape V
    s = left_there left right

    abbrev t : Shape V
    t = right_there left right

    left-child : (byte : ℕ) → IsSome (child_at byte (children_of s))
        → IsSome (child_at byte (children_of now))
    left-child byte some = ap is_some (gains.children byte)
        ∙ one-there (child_at byte (children_of s)) (child_at byte (next_children t)) some

    value-or-two : IsSome (value_of now) ⊎ TwoArms (children_of now)
    value-or-two = ⊎_elim
        (λ whole.
        let is = sym (parted-whole (passed left right) left whole) in
        ⊎_elim
        (λ some. inl (ap is_some gains.value ∙ one-there (value_of s) (value_here t)
        (subst (λ z. IsSome (value_of z)) is some)))
        (λ arms. inr (record {
          byte = arms.byte;
          next = arms.next;
          differ = arms.differ;
          has_one = left-child arms.byte
              (subst (λ z. IsSome (child_at arms.byte (children_of z))) is arms.has_one);
          has_other = left-child arms.next
              (subst (λ z. IsSome (child_at arms.next (children_of z))) is arms.has_other);
        }))
        (value-or-arms left tree))
        (λ inside. ⊎_elim
        (λ some. inl (ap is_some gains.value ∙ other-there (value_of s) (value_here t) some))
        (λ goes. inr (record {
          byte = goes.next;
          next = left_byte left right;
          differ = eqb-false goes.next (left_byte left right) goes.differ;
          has_one = ap is_some (gains.children goes.next)
              ∙ other-there (child_at goes.next (children_of s))
              (child_at goes.next (next_children t)) (ap is_some goes.there);
          has_other = left-child (left_byte left right) (cut-here left right tree also inside);
        }))
        (right-goes left right tree also inside))
        (whole-or-inside left right tree also)

    pub gained-tree : IsTree now
    gained-tree = (packed-whole now gains.order (λ none. ⊎_elim
        (λ some. absurd (false≢true (sym (ap is_some none) ∙ some)))
        (λ arms. two-many (children_of now) arms) value-or-two)).tree

  -- What is behind a path in an admitted tree is admitted.
  pub admitted-behind : (most : Option ℕ) (s child : Shape V) (path : List ℕ)
      → ((q : List ℕ) → IsSome (found child q) → IsSome (found s (path ++ q)))
      → AreAdmitted most s → AreAdmitted most child
  admitted-behind most s child path in_child admitted key there =
      let long = length-append path key in
      shorter most (length key) (length (path ++ key)) (omega (arith, long))
      (admitted (path ++ key) (in_child key there))
