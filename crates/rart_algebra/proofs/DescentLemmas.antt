-- How many nodes the way down two trees enters and makes, child by child, where strings of a kind
-- pay for what is merged.
use Rattle.std.proofs.Common.{◌≡◌, ◌≤◌, ◌+◌, ◌*◌, ◌⊎◌, inl, inr, ⊎_elim, ℕ, Bool, true, false, not, ◌&&◌, cond, List, [], ◌∷◌, ◌++◌, Some, IsSome, drop, refl, sym, ap, subst, ◌∙◌, arith}
use Rattle.std.specs.Prelude.{◌==◌}
use Rattle.std.specs.FinSet as set
use Rattle.std.proofs.lemmas.List.{append-nil, append_assoc, take-append-drop}
use Rattle.rart_below.specs.ByteSets.{has_byte}
use Rattle.rart_below.specs.Bytes.{common_length}
use Rattle.rart_below.specs.Children.{child_at}
use Rattle.rart_below.specs.declared.byte_set.ByteSet.{ByteSet}
use Rattle.rart_maps.specs.Pairs.{Strings}
use Rattle.rart_maps.specs.StartLaws.{how_many_under, with_byte}
use Rattle.rart_maps.proofs.OrderLemmas.{begins-append}
use Rattle.rart_maps.proofs.StartLemmas.{at_least-children}
use Rattle.rart_node.specs.Counts.{Counts, CountsUpTo}
use Rattle.rart_node.specs.Shape.{Shape, prefix_of, children_of, with_prefix, IsAscending}
use Rattle.rart_node.specs.Trees.{found, IsTree, IsOrdered}
use Rattle.rart_node.proofs.FindLemmas.{ordered, ascending}
use Rattle.rart_lockstep.specs.Steps.{common_start}
use Rattle.rart_lockstep.specs.TreeCursors.{next_children}
use Rattle.rart_lockstep.proofs.PairStepLemmas.{prefix-with, tree-with}
use Rattle.rart_lockstep.proofs.SharedLemmas.{ahead-all, ahead-children, ahead-matched}
use Rattle.rart_algebra.specs.Ahead.{BeginsCommon, EntersAlong, EntersBelow, GoesUpTo, HasAll, HaveCommon, IsChangedPlace, IsCommonKey, IsGone, IsPlace, JoinsBelow, JoinsUpTo, MakesBelow, MeetsUpTo, StepsBelow, ahead_of_both}
use Rattle.rart_algebra.proofs.CarriedLemmas.{IsCarried, all-behind, all-below, ahead-byte, changed_places-carried, keys-carried, places-carried, starts-carried}
use Rattle.rart_algebra.proofs.ReachLemmas.{key-begun, tree-forks}
use Rattle.rart_algebra.proofs.WeightLemmas.{weigh, weigh_all, weigh-all, weigh-taken}

-- how many strings of a set begin with the path and the byte
abbrev pub under_byte : Strings → List ℕ → ℕ → ℕ
under_byte strings path byte = how_many_under strings (with_byte path byte)

module _ {V : Type 0} where
  -- ---- where the left prefix ends
  -- The empty string begins keys of both there, and the left tree has a key, or its keys part.
  pub place-ended : (s t : Shape V) → IsTree s → IsTree t → IsPlace (with_prefix [] s) t []
  place-ended s t tree also =
      let ended = with_prefix [] s in
      let none = prefix-with s [] in
      let left = key-begun ended (tree-with s [] tree) in
      let other = key-begun t also in (
        record {
          one = prefix_of ended ++ left.0;
          other = prefix_of t ++ other.0;
          in_left = left.1;
          in_right = other.1;
          begins_one = refl;
          begins_other = refl;
        },
        ⊎_elim (λ some. inl (inl (subst (λ z. IsSome (found ended z)) none some)))
            (λ forks. inr (record {
              byte = forks.byte;
              next = forks.next;
              differ = forks.differ;
              one = forks.byte ∷ forks.one;
              other = forks.next ∷ forks.other;
              has_one = inl (subst (λ z. IsSome (found ended (z ++ (forks.byte ∷ forks.one)))) none
                  forks.has_one);
              has_other = inl (subst (λ z. IsSome (found ended (z ++ (forks.next ∷ forks.other))))
                  none forks.has_other);
              begins_one = begins-append (forks.byte ∷ []) forks.one;
              begins_other = begins-append (forks.next ∷ []) forks.other;
            }))
            (tree-forks ended (tree-with s [] tree)),
      )

  -- With a common key below it, the prefix begins one.
  pub begun-prefix : (s right t : Shape V)
      → ((q : List ℕ) → found right (prefix_of s ++ q) ≡ found t q)
      → HaveCommon (with_prefix [] s) t → BeginsCommon s right (prefix_of s)
  begun-prefix s right t leads common = record {
    key = prefix_of s ++ common.0;
    common = keys-carried.behind s right t leads common.0 common.1;
    begun = begins-append (prefix_of s) common.0;
  }

-- No more stands under a prefix than under what another has in common with it.
pub under-common : (strings : Strings) (above p q : List ℕ)
    → how_many_under strings (above ++ p) ≤ how_many_under strings (above ++ common_start p q)
under-common strings above p q =
    subst (λ z. how_many_under strings z ≤ how_many_under strings (above ++ common_start p q))
    (append_assoc above (common_start p q) (drop (common_length p q) p)
    ∙ ap (λ z. above ++ z) (take-append-drop (common_length p q) p))
    (ahead-matched strings (above ++ common_start p q) (drop (common_length p q) p))

module _ {V : Type 0} where
  -- ---- child by child
  -- The children of s that are not ahead any more were gone through, from where t stands. So many
  -- are gone that have paid, for which nothing was merged.
  pub record EntersSoFar (Pays : Shape V → Shape V → List ℕ → Type 0) (s t : Shape V)
      (ahead : ByteSet) (gone : ℕ) (before after : Counts) : Type 0 where
    pub grows : before.entered ≤ after.entered
    pub entered : (strings paying : Strings) (path : List ℕ)
        → HasAll strings path (IsPlace (with_prefix [] s) t)
        → HasAll paying path (Pays (with_prefix [] s) t)
        → after.entered + gone + 2 * weigh (under_byte strings path) ahead (children_of s)
        + weigh (under_byte paying path) ahead (children_of s)
        ≤ before.entered + 2 * weigh_all (under_byte strings path) (children_of s)
        + weigh_all (under_byte paying path) (children_of s)

  pub record MakesSoFar (s t : Shape V) (ahead : ByteSet) (before after : Counts) : Type 0 where
    pub makes : before.made ≤ after.made
    pub made : (strings : Strings) (path : List ℕ)
        → HasAll strings path (BeginsCommon (with_prefix [] s) t)
        → after.made + weigh (under_byte strings path) ahead (children_of s)
        ≤ before.made + weigh_all (under_byte strings path) (children_of s)

  pub record JoinsSoFar (stays : Bool) (s t : Shape V) (ahead : ByteSet) (before after : Counts)
      : Type 0 where
    pub makes : before.made ≤ after.made
    pub made : (strings : Strings) (path : List ℕ)
        → HasAll strings path (IsChangedPlace stays (with_prefix [] s) t)
        → after.made + 3 * weigh (under_byte strings path) ahead (children_of s)
        ≤ before.made + 3 * weigh_all (under_byte strings path) (children_of s)

  module _ (s t : Shape V) (ahead : ByteSet) (before : Counts) where
    pub enters-none : (Pays : Shape V → Shape V → List ℕ → Type 0)
        → EntersSoFar Pays s t ahead 0 before before
    enters-none Pays = record {
      grows = omega arith;
      entered = λ strings paying path has also.
          let one = weigh-all (under_byte strings path) ahead (children_of s) in
          let other = weigh-all (under_byte paying path) ahead (children_of s) in
          omega (arith, one, other);
    }

    pub makes-none : MakesSoFar s t ahead before before
    makes-none = record {
      makes = omega arith;
      made = λ strings path has.
          let one = weigh-all (under_byte strings path) ahead (children_of s) in
          omega (arith, one);
    }

    pub joins-none : (stays : Bool) → JoinsSoFar stays s t ahead before before
    joins-none stays = record {
      makes = omega arith;
      made = λ strings path has.
          let one = weigh-all (under_byte strings path) ahead (children_of s) in
          omega (arith, one);
    }

  module _ (s t child other : Shape V) (byte : ℕ)
      (here : child_at byte (children_of s) ≡ Some child)
      (there : child_at byte (next_children t) ≡ Some other)
      (order : IsOrdered s) (also : IsTree t) (ahead next : ByteSet)
      (has_it : has_byte ahead byte ≡ true)
      (taken : (c : ℕ) → has_byte next c ≡ (not (c == byte) && has_byte ahead c)) where
    -- The child was gone through, and may be gone.
    pub enters-next : (Pays : Shape V → Shape V → List ℕ → Type 0) → IsCarried Pays
        → (gone gone' spare : ℕ) (before so_far opened after : Counts)
        → EntersSoFar Pays s t ahead gone before so_far → CountsUpTo 1 0 so_far opened
        → EntersBelow Pays child other spare opened after → gone' ≤ gone + spare
        → EntersSoFar Pays s t next gone' before after
    enters-next Pays carried gone gone' spare before so_far opened after steps one below few =
        let a = steps.grows in
        let b = one.entered_grows in
        let c = one.entered_at_most in
        let d = below.grows in
        record {
          grows = omega (arith, a, b, d);
          entered = λ strings paying path has all.
              let most = steps.entered strings paying path has all in
              let inside = below.entered strings paying path
              (all-below IsPlace places-carried strings s t child other byte here there order also
              path has)
              (all-below Pays carried paying s t child other byte here there order also path all)
              in
              let less = ahead-byte s t child other byte here there order also strings path in
              let fewer = ahead-byte s t child other byte here there order also paying path in
              let passed = weigh-taken (under_byte strings path) ahead next byte taken child
              (children_of s) has_it here in
              let past = weigh-taken (under_byte paying path) ahead next byte taken child
              (children_of s) has_it here in
              omega (arith, most, inside, less, fewer, passed, past, c, few);
        }

    module _ (before so_far opened after : Counts) (one : CountsUpTo 1 0 so_far opened) where
      pub makes-next : MakesSoFar s t ahead before so_far → MakesBelow child other opened after
          → MakesSoFar s t next before after
      makes-next steps below =
          let e = steps.makes in
          let f = one.made_grows in
          let g = one.made_at_most in
          let h = below.makes in
          record {
            makes = omega (arith, e, f, h);
            made = λ strings path has.
                let most = steps.made strings path has in
                let inside = below.made strings path
                (all-below BeginsCommon starts-carried strings s t child other byte here there order
                also path has) in
                let fewer = ahead-byte s t child other byte here there order also strings path in
                let passed = weigh-taken (under_byte strings path) ahead next byte taken child
                (children_of s) has_it here in
                omega (arith, most, inside, fewer, passed, g);
          }

      pub joins-next : (stays : Bool) → JoinsSoFar stays s t ahead before so_far
          → JoinsBelow child other stays opened after → JoinsSoFar stays s t next before after
      joins-next stays steps below =
          let e = steps.makes in
          let f = one.made_grows in
          let g = one.made_at_most in
          let h = below.makes in
          record {
            makes = omega (arith, e, f, h);
            made = λ strings path has.
                let most = steps.made strings path has in
                let inside = below.made strings path
                (all-below (IsChangedPlace stays) (changed_places-carried stays) strings s t child
                other byte here there order also path has) in
                let fewer = ahead-byte s t child other byte here there order also strings path in
                let passed = weigh-taken (under_byte strings path) ahead next byte taken child
                (children_of s) has_it here in
                omega (arith, most, inside, fewer, passed, g);
          }

  -- ---- all children were gone through
  module _ (Pays : Shape V → Shape V → List ℕ → Type 0) (carried : IsCarried Pays)
      (s right t : Shape V) (order : IsAscending s) (pays : Bool)
      (leads : (q : List ℕ) → found right (prefix_of s ++ q) ≡ found t q)
      (owns : pays ≡ true → Pays (with_prefix [] s) t [])
      (paying : Strings) (above : List ℕ) (all : HasAll paying above (Pays s right)) where
    abbrev path : List ℕ
    path = above ++ prefix_of s

    own-here : pays ≡ true → set.contains paying path ≡ true
    own-here is = ap (set.contains paying) (sym (append-nil path))
        ∙ all-behind Pays carried paying s right t leads above all [] (owns is)

    pub paying-most : cond pays 1 0 + weigh_all (under_byte paying path) (children_of s)
        ≤ how_many_under paying path
    paying-most =
        let most = at_least-children paying path (children_of s) order in
        let P : Bool → Type 0 = λ b. pays ≡ b
        → cond b 1 0 + weigh_all (under_byte paying path) (children_of s)
        ≤ how_many_under paying path in
        let both : (b : Bool) → P b = elim [
          | true ↦ (λ is. let here = ap {B = ℕ} (λ b. cond b 1 0) (own-here is) in
              omega (arith, most, here))
          | false ↦ (λ is. omega (arith, most))
        ] in
        both pays refl

  module _ (s right t : Shape V) (ahead : ByteSet)
      (leads : (q : List ℕ) → found right (prefix_of s ++ q) ≡ found t q)
      (tree : IsTree s) (also : IsTree t)
      (before opened reached looked after : Counts)
      (along : EntersAlong s right true opened reached) where
    rises : IsAscending s
    rises = ascending s (ordered s tree)

    place-prefix : IsPlace s right (prefix_of s)
    place-prefix =
        subst (IsPlace s right) (append-nil (prefix_of s))
        (places-carried.behind s right t leads [] (place-ended s t tree also))

    -- the last nodes entered are paid for
    pub enters-end : (Pays : Shape V → Shape V → List ℕ → Type 0) → IsCarried Pays
        → (pays : Bool) (gone extra spare : ℕ)
        → EntersSoFar Pays s t ahead gone reached looked
        → (pays ≡ true → Pays (with_prefix [] s) t []) → opened.entered ≡ before.entered + 1
        → looked.entered ≤ after.entered → after.entered ≤ looked.entered + extra
        → extra + spare ≤ cond pays 1 0 + gone → EntersBelow Pays s right spare before after
    enters-end Pays carried pays gone extra spare steps owns one grows most paid =
        let a = along.grows in
        let b = steps.grows in
        record {
          grows = omega (arith, a, b, grows, one);
          entered = λ strings paying above has all.
              let path = above ++ prefix_of s in
              let below = steps.entered strings paying path
              (all-behind IsPlace places-carried strings s right t leads above has)
              (all-behind Pays carried paying s right t leads above all) in
              let reach = along.most strings above has in
              let shared = ahead-children strings path (has (prefix_of s) place-prefix)
              (children_of s) rises in
              let own = paying-most Pays carried s right t rises pays leads owns paying above all in
              let less = under-common paying above (prefix_of s) (prefix_of right) in
              omega (arith, below, reach, shared, own, less, most, paid, a, one);
        }

    pub makes-end : MakesSoFar s t ahead reached looked → opened.made ≡ before.made
        → looked.made ≤ after.made
        → (after.made ≡ looked.made)
        ⊎ ((after.made ≤ looked.made + 1) × BeginsCommon s right (prefix_of s))
        → MakesBelow s right before after
    makes-end steps none makes last =
        let c = along.made in
        let d = steps.makes in
        record {
          makes = omega (arith, c, d, makes, none);
          made = λ strings above has.
              let path = above ++ prefix_of s in
              let below = steps.made strings path
              (all-behind BeginsCommon starts-carried strings s right t leads above has) in
              let less = under-common strings above (prefix_of s) (prefix_of right) in
              ⊎_elim
              (λ same.
              let all = at_least-children strings path (children_of s) rises in
              omega (arith, below, same, all, less, c, none))
              (λ made.
              let all = ahead-children strings path (has (prefix_of s) made.1)
              (children_of s) rises in
              let least = made.0 in
              omega (arith, below, least, all, less, c, none))
              last;
        }

  -- Where the right tree has no key behind the left prefix, no more is done.
  module _ (s right : Shape V) (before opened reached : Counts)
      (along : EntersAlong s right false opened reached) where
    pub enters-apart : (Pays : Shape V → Shape V → List ℕ → Type 0)
        → opened.entered ≡ before.entered + 1 → EntersBelow Pays s right 0 before reached
    enters-apart Pays one =
        let a = along.grows in
        record {
          grows = omega (arith, a, one);
          entered = λ strings paying above has all.
              let most = along.most strings above has in
              omega (arith, most, a, one);
        }

    pub makes-apart : opened.made ≡ before.made → MakesBelow s right before reached
    makes-apart none =
        let b = along.made in
        record {
          makes = omega (arith, b, none);
          made = λ strings above has. omega (arith, b, none);
        }

module _ {V : Type 0} (Pays : Shape V → Shape V → List ℕ → Type 0) where
  -- ---- nodes entered and made together
  pub record StepsUpTo (s t : Shape V) (ahead : ByteSet) (gone : ℕ) (before after : Counts)
      : Type 0 where
    pub enters : EntersSoFar Pays s t ahead gone before after
    pub makes : MakesSoFar s t ahead before after

  pub steps-none : (s t : Shape V) (ahead : ByteSet) (before : Counts)
      → StepsUpTo s t ahead 0 before before
  steps-none s t ahead before = record {
    enters = enters-none s t ahead before Pays;
    makes = makes-none s t ahead before;
  }

  pub steps-apart : (s right : Shape V) (before opened reached : Counts)
      → EntersAlong s right false opened reached → opened.entered ≡ before.entered + 1
      → opened.made ≡ before.made → StepsBelow Pays s right 0 before reached
  steps-apart s right before opened reached along one none = record {
    enters = enters-apart s right before opened reached along Pays one;
    makes = makes-apart s right before opened reached along none;
  }

  module _ (carried : IsCarried Pays) where
    pub steps-next : (s t child other : Shape V) (byte : ℕ)
        → child_at byte (children_of s) ≡ Some child
        → child_at byte (next_children t) ≡ Some other → IsOrdered s → IsTree t
        → (ahead next : ByteSet) → has_byte ahead byte ≡ true
        → ((c : ℕ) → has_byte next c ≡ (not (c == byte) && has_byte ahead c))
        → (gone gone' spare : ℕ) (before so_far opened after : Counts)
        → StepsUpTo s t ahead gone before so_far → CountsUpTo 1 0 so_far opened
        → StepsBelow Pays child other spare opened after → gone' ≤ gone + spare
        → StepsUpTo s t next gone' before after
    steps-next s t child other byte here there order also ahead next has_it taken gone gone' spare
        before so_far opened after steps one below few = record {
          enters = enters-next s t child other byte here there order also ahead next has_it taken Pays
              carried gone gone' spare before so_far opened after steps.enters one below.enters few;
          makes = makes-next s t child other byte here there order also ahead next has_it taken before
              so_far opened after one steps.makes below.makes;
        }

    pub steps-end : (s right t : Shape V) (ahead : ByteSet) (pays : Bool) (gone : ℕ)
        → ((q : List ℕ) → found right (prefix_of s ++ q) ≡ found t q) → IsTree s → IsTree t
        → (before opened reached looked after : Counts)
        → EntersAlong s right true opened reached → StepsUpTo s t ahead gone reached looked
        → (pays ≡ true → Pays (with_prefix [] s) t []) → opened.entered ≡ before.entered + 1
        → opened.made ≡ before.made → (extra spare : ℕ) → looked.entered ≤ after.entered
        → after.entered ≤ looked.entered + extra → extra + spare ≤ cond pays 1 0 + gone
        → looked.made ≤ after.made
        → (after.made ≡ looked.made)
        ⊎ ((after.made ≤ looked.made + 1) × BeginsCommon s right (prefix_of s))
        → StepsBelow Pays s right spare before after
    steps-end s right t ahead pays gone leads tree also before opened reached looked after along
        steps owns one none extra spare grows most paid makes last = record {
          enters = enters-end s right t ahead leads tree also before opened reached looked after along
              Pays carried pays gone extra spare steps.enters owns one grows most paid;
          makes = makes-end s right t ahead leads tree also before opened reached looked after along
              steps.makes none makes last;
        }

module _ {V : Type 0} where
  -- ---- from the roots, of which the right one was opened
  -- No more is ahead of both roots than there is.
  ahead-few : (left right : Shape V) (strings : Strings)
      → ahead_of_both left right strings [] ≤ set.len strings
  ahead-few left right strings =
      let some = ahead-matched strings [] (common_start (prefix_of left) (prefix_of right)) in
      let all = ahead-all strings in
      omega (arith, some, all)

  module _ (left right : Shape V) (before opened after : Counts)
      (one : opened.entered ≡ before.entered + 1) (none : opened.made ≡ before.made) where
    pub goes-roots : (spare : ℕ) → StepsBelow IsCommonKey left right spare opened after
        → GoesUpTo left right before after
    goes-roots spare steps strings keys starts has all begun =
        let a = steps.enters.grows in
        let b = steps.makes.makes in
        let c = steps.enters.entered strings keys [] has all in
        let d = steps.makes.made starts [] begun in
        let e = ahead-few left right strings in
        let f = ahead-few left right keys in
        let h = ahead-few left right starts in
        record {
          entered_grows = omega (arith, a, one);
          entered_at_most = omega (arith, c, e, f, one);
          made_grows = omega (arith, b, none);
          made_at_most = omega (arith, d, h, none);
        }

    pub meets-roots : StepsBelow IsPlace left right 0 opened after → MeetsUpTo left right before
        after
    meets-roots steps strings starts has begun =
        let a = steps.enters.grows in
        let b = steps.makes.makes in
        let c = steps.enters.entered strings strings [] has has in
        let d = steps.makes.made starts [] begun in
        let e = ahead-few left right strings in
        let h = ahead-few left right starts in
        record {
          entered_grows = omega (arith, a, one);
          entered_at_most = omega (arith, c, e, one);
          made_grows = omega (arith, b, none);
          made_at_most = omega (arith, d, h, none);
        }

    pub joins-roots : (stays : Bool) (spare : ℕ)
        → EntersBelow (IsGone stays) left right spare opened after
        → JoinsBelow left right stays opened after → JoinsUpTo stays left right before after
    joins-roots stays spare enters joins strings gone changed has all begun =
        let a = enters.grows in
        let b = joins.makes in
        let c = enters.entered strings gone [] has all in
        let d = joins.made changed [] begun in
        let e = ahead-few left right strings in
        let f = ahead-few left right gone in
        let h = ahead-few left right changed in
        record {
          entered_grows = omega (arith, a, one);
          entered_at_most = omega (arith, c, e, f, one);
          made_grows = omega (arith, b, none);
          made_at_most = omega (arith, d, h, none);
        }
