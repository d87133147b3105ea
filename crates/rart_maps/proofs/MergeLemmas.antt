-- The laws of conflicts and merges.
use Rattle.std.proofs.Common.{◌≡◌, ◌&&◌, ℕ, Bool, true, false, cond, List, [], Option, Some, None, refl, sym, ap, subst, ◌∙◌}
use Rattle.std.specs.Prelude.{Contains}
use Rattle.std.specs.List.{filter_map}
use Rattle.std.specs.Option.{unwrap_or, is_some}
use Rattle.std.specs.FinMap as finite
use Rattle.std.proofs.lemmas.Bool.{and_parts, and_from, false≢true}
use Rattle.std.proofs.lemmas.Cmp.{nat_list_cmp_total}
use Rattle.rart_maps.specs.FoundLaws.{KeysAscend}
use Rattle.rart_maps.specs.Versions.{Map}
use Rattle.rart_maps.proofs.ElementLemmas.{Contains-nil, Contains-filter_map}
use Rattle.rart_maps.proofs.OrderLemmas.{byte_order-IsAntisymmetric}
use Rattle.rart_maps.proofs.FoundLemmas.{ascending_lists_are_fixed}
use Rattle.rart_maps.specs.ChangeLaws.{Decides, IsReflexive, IsSymmetric}
use Rattle.rart_maps.specs.ChangeLists.{Change, patched, differ, changes}
use Rattle.rart_maps.specs.Merges.{Conflict, Answers, exchanged, answered, in_conflict, conflict_of, conflicts, merged}
use Rattle.rart_maps.specs.MergeLaws.{ConflictsAscend, ConflictsAreFound, MergesAreByKey, SidesAgree, ConflictsExchange, MergesExchange, BaseGivesWay, PatchesAreMerges, merged_at}
use Rattle.rart_maps.proofs.ChangeLemmas.{KeysAscend-kept, filter_map-all, patched-elsewhere, patched-there, changes-ascend, changes-from, changes-to}
use Rattle.rart_maps.proofs.ChangeLawLemmas.{alike, differ-itself, differ-reversed, patched-by_key, symmetric-if-decided}

module _ {V : Type 0} (same : V → V → Bool) where
  conflict_of-is : (c : Change V) (theirs : Option V) (conflict : Conflict V)
      → conflict_of same c theirs ≡ Some conflict
      → (conflict ≡ (c.0, c.1, c.2, theirs)) × (in_conflict same c.1 c.2 theirs ≡ true)
  conflict_of-is c theirs conflict is =
      elim (in_conflict same c.1 c.2 theirs)
      as (λ t. cond t (Some (c.0, c.1, c.2, theirs)) None ≡ Some conflict
      → (conflict ≡ (c.0, c.1, c.2, theirs)) × (t ≡ true)) [
        | true ↦ λ is. (sym (ap (λ o. unwrap_or o (c.0, c.1, c.2, theirs)) is), refl)
        | false ↦ λ is. absurd (false≢true (ap is_some is))
      ] is

  module _ (base ours theirs : Map V) where
    abbrev at_change : Change V → Option (Conflict V)
    at_change c = conflict_of same c (finite.get theirs c.0)

    conflicts-ascend : KeysAscend (λ conflict. conflict.0) (conflicts same base ours theirs)
    conflicts-ascend =
        KeysAscend-kept (λ (c : Change V). c.0) (λ (conflict : Conflict V). conflict.0) at_change
        (λ c conflict is. ap (λ d. d.0) (conflict_of-is c (finite.get theirs c.0) conflict is).0)
        (changes same base ours) (changes-ascend same base ours)

    abbrev IsConflict : Conflict V → Type 0
    IsConflict c = (finite.get base c.0 ≡ c.1) × (finite.get ours c.0 ≡ c.2)
        × (finite.get theirs c.0 ≡ c.3) × (in_conflict same c.1 c.2 c.3 ≡ true)

    conflicts-from : (conflict : Conflict V) → Contains (conflicts same base ours theirs) conflict
        → IsConflict conflict
    conflicts-from conflict there =
        let found = (Contains-filter_map at_change (changes same base ours) conflict).0 there in
        let is = conflict_of-is found.0 (finite.get theirs found.0.0) conflict found.2 in
        let change = changes-from same base ours found.0 found.1 in
        subst IsConflict (sym is.0) (change.0, change.1, refl, is.1)

    conflicts-to : (key : List ℕ) (b x y : Option V) → IsConflict (key, b, x, y)
        → Contains (conflicts same base ours theirs) (key, b, x, y)
    conflicts-to key b x y is =
        (Contains-filter_map at_change (changes same base ours) (key, b, x, y)).1 (
          (key, b, x),
          changes-to same base ours key b x is.0 is.1
              (and_parts (differ same b x) (differ same b y && differ same x y) is.3).0,
          ap (conflict_of same (key, b, x)) is.2
              ∙ ap (λ t. cond t (Some (key, b, x, y)) None) is.3,
        )

  pub conflicts_ascend : ConflictsAscend same
  conflicts_ascend base ours theirs = conflicts-ascend base ours theirs

  pub conflicts_are_found : ConflictsAreFound same
  conflicts_are_found base ours theirs key b x y = (
    λ there.
        let is = conflicts-from base ours theirs (key, b, x, y) there in
        let ours_differs = and_parts (differ same b x) (differ same b y && differ same x y) is.3 in
        let others = and_parts (differ same b y) (differ same x y) ours_differs.1 in
        (is.0, is.1, is.2, ours_differs.0, others.0, others.1),
    λ is. conflicts-to base ours theirs key b x y (
      is.0,
      is.1,
      is.2,
      and_from (differ same b x) (differ same b y && differ same x y) is.3
          (and_from (differ same b y) (differ same x y) is.4 is.5),
    ),
  )

  module _ (answers : Answers V) (base ours theirs : Map V) (key : List ℕ) where
    abbrev b : Option V
    b = finite.get base key

    abbrev x : Option V
    x = finite.get ours key

    abbrev y : Option V
    y = finite.get theirs key

    abbrev given : List (Change V)
    given = filter_map (λ conflict. Some (answered answers conflict))
        (conflicts same base ours theirs)

    given-ascends : KeysAscend (λ c. c.0) given
    given-ascends =
        KeysAscend-kept (λ (conflict : Conflict V). conflict.0) (λ (c : Change V). c.0)
        (λ conflict. Some (answered answers conflict))
        (λ conflict c is. sym (ap (λ o. (unwrap_or o c).0) is))
        (conflicts same base ours theirs) (conflicts-ascend base ours theirs)

    given-answer : (m : Map V) (t : Bool) → in_conflict same b x y ≡ t
        → finite.get (patched m given) key ≡ cond t (answers key b x y) (finite.get m key)
    given-answer m true is =
        patched-there given m given-ascends (answered answers (key, b, x, y))
        ((Contains-filter_map (λ conflict. Some (answered answers conflict))
        (conflicts same base ours theirs) (answered answers (key, b, x, y))).1
        ((key, b, x, y), conflicts-to base ours theirs key b x y (refl, refl, refl, is), refl))
    given-answer m false is =
        patched-elsewhere given m key (λ c there at.
        let found = (Contains-filter_map (λ conflict. Some (answered answers conflict))
        (conflicts same base ours theirs) c).0 there in
        let conflict = conflicts-from base ours theirs found.0 found.1 in
        let here = at ∙ sym (ap (λ o. (unwrap_or o c).0) found.2) in
        false≢true (sym is
        ∙ (λ i. in_conflict same ((ap (finite.get base) here ∙ conflict.0) i)
        ((ap (finite.get ours) here ∙ conflict.1) i)
        ((ap (finite.get theirs) here ∙ conflict.2) i))
        ∙ conflict.3))

    by_key : (t d : Bool) → in_conflict same b x y ≡ t → differ same b y ≡ d
        → finite.get (patched (patched ours (changes same base theirs)) given) key
        ≡ cond t (answers key b x y) (cond d y x)
    by_key t d is changed =
        given-answer (patched ours (changes same base theirs)) t is
        ∙ ap (cond t (answers key b x y)) (patched-by_key same base theirs ours key d changed)

  pub merges_are_by_key : MergesAreByKey same
  merges_are_by_key answers base ours theirs key =
      ap (λ cs. finite.get (patched (patched ours (changes same base theirs)) cs) key)
      (sym (filter_map-all (answered answers) (conflicts same base ours theirs)))
      ∙ by_key answers base ours theirs key
      (in_conflict same (finite.get base key) (finite.get ours key) (finite.get theirs key))
      (differ same (finite.get base key) (finite.get theirs key)) refl refl

  module _ (decides : Decides same) (base ours theirs : Map V)
      (none : conflicts same base ours theirs ≡ []) (q : List ℕ) where
    -- Where both sides changed the key they have the same there.
    both : differ same (finite.get base q) (finite.get ours q) ≡ true
        → differ same (finite.get base q) (finite.get theirs q) ≡ true
        → finite.get theirs q ≡ finite.get ours q
    both left right =
        elim (differ same (finite.get ours q) (finite.get theirs q))
        as (λ t. differ same (finite.get ours q) (finite.get theirs q) ≡ t
        → finite.get theirs q ≡ finite.get ours q) [
          | true ↦ λ apart. absurd (Contains-nil
              (q, finite.get base q, finite.get ours q, finite.get theirs q)
              (subst (λ cs. Contains cs
              (q, finite.get base q, finite.get ours q, finite.get theirs q)) none
              (conflicts-to base ours theirs q
              (finite.get base q) (finite.get ours q) (finite.get theirs q) (
                refl,
                refl,
                refl,
                and_from (differ same (finite.get base q) (finite.get ours q))
                    (differ same (finite.get base q) (finite.get theirs q)
                    && differ same (finite.get ours q) (finite.get theirs q)) left
                    (and_from (differ same (finite.get base q) (finite.get theirs q))
                    (differ same (finite.get ours q) (finite.get theirs q)) right apart),
              ))))
          | false ↦ λ is. sym (alike same decides (finite.get ours q) (finite.get theirs q) is)
        ] refl

    agree-at : (left right : Bool) → differ same (finite.get base q) (finite.get ours q) ≡ left
        → differ same (finite.get base q) (finite.get theirs q) ≡ right
        → cond right (finite.get theirs q) (finite.get ours q)
        ≡ cond left (finite.get ours q) (finite.get theirs q)
    agree-at true true a b = both a b
    agree-at true false a b = refl
    agree-at false true a b = refl
    agree-at false false a b =
        sym (alike same decides (finite.get base q) (finite.get ours q) a)
        ∙ alike same decides (finite.get base q) (finite.get theirs q) b

  pub sides_agree : SidesAgree same
  sides_agree decides base ours theirs none =
      finite.same_map nat_list_cmp_total byte_order-IsAntisymmetric _ _ (λ q.
      patched-by_key same base theirs ours q
      (differ same (finite.get base q) (finite.get theirs q)) refl
      ∙ agree-at decides base ours theirs none q
      (differ same (finite.get base q) (finite.get ours q))
      (differ same (finite.get base q) (finite.get theirs q)) refl refl
      ∙ sym (patched-by_key same base ours theirs q
      (differ same (finite.get base q) (finite.get ours q)) refl))

  -- ---- the sides exchanged

  and-exchanged : (p q r s : Bool) → s ≡ r → (q && (p && s)) ≡ (p && (q && r))
  and-exchanged true true r s is = is
  and-exchanged true false r s is = refl
  and-exchanged false true r s is = refl
  and-exchanged false false r s is = refl

  in_conflict-exchanged : IsSymmetric same → (b x y : Option V)
      → in_conflict same b y x ≡ in_conflict same b x y
  in_conflict-exchanged symmetric b x y =
      and-exchanged (differ same b x) (differ same b y) (differ same x y) (differ same y x)
      (differ-reversed same symmetric x y)

  -- A conflict stands among those of the other side, exchanged.
  exchanged-there : IsSymmetric same → (base ours theirs : Map V) (c : Conflict V)
      → Contains (conflicts same base ours theirs) c
      → Contains (conflicts same base theirs ours) (exchanged c)
  exchanged-there symmetric base ours theirs c there =
      let found = conflicts-from base ours theirs c there in
      conflicts-to base theirs ours c.0 c.1 c.3 c.2
      (found.0, found.2, found.1, in_conflict-exchanged symmetric c.1 c.2 c.3 ∙ found.3)

  pub conflicts_exchange : ConflictsExchange same
  conflicts_exchange symmetric base ours theirs =
      ascending_lists_are_fixed (Conflict V) (λ c. c.0) (conflicts same base theirs ours)
      (filter_map (λ c. Some (exchanged c)) (conflicts same base ours theirs))
      (conflicts-ascend base theirs ours)
      (KeysAscend-kept (λ (c : Conflict V). c.0) (λ (c : Conflict V). c.0)
      (λ c. Some (exchanged c)) (λ c d is. sym (ap (λ o. (unwrap_or o d).0) is))
      (conflicts same base ours theirs) (conflicts-ascend base ours theirs))
      (λ c. (
        λ there. (Contains-filter_map (λ d. Some (exchanged d)) (conflicts same base ours theirs)
            c).1 (exchanged c, exchanged-there symmetric base theirs ours c there, refl),
        λ there.
            let found = (Contains-filter_map (λ d. Some (exchanged d))
            (conflicts same base ours theirs) c).0 there in
            subst (Contains (conflicts same base theirs ours)) (ap (λ o. unwrap_or o c) found.2)
            (exchanged-there symmetric base ours theirs found.0 found.1),
      ))
      ∙ filter_map-all exchanged (conflicts same base ours theirs)

  module _ (decides : Decides same) (b x y : Option V) where
    -- Where there is no conflict both sides have the same.
    settled : (left right apart : Bool) → differ same b x ≡ left → differ same b y ≡ right
        → differ same x y ≡ apart → (left && (right && apart)) ≡ false
        → cond left x y ≡ cond right y x
    settled true true true a b c none = absurd (false≢true (sym none))
    settled true true false a b c none = alike same decides x y c
    settled true false apart a b c none = refl
    settled false true apart a b c none = refl
    settled false false apart a b c none =
        sym (alike same decides _ y b) ∙ alike same decides _ x a

    exchanged-at : (answers : Answers V) (q : List ℕ) → merged_at same answers q b y x
        ≡ merged_at same (λ key b x y. answers key b y x) q b x y
    exchanged-at answers q =
        ap (λ t. cond t (answers q b y x) (cond (differ same b x) x y))
        (in_conflict-exchanged (symmetric-if-decided same decides) b x y)
        ∙ elim (in_conflict same b x y) as (λ t. in_conflict same b x y ≡ t
        → cond t (answers q b y x) (cond (differ same b x) x y)
        ≡ cond t (answers q b y x) (cond (differ same b y) y x)) [
          | true ↦ λ _. refl
          | false ↦ λ none. settled (differ same b x) (differ same b y) (differ same x y)
              refl refl refl none
        ] refl

  pub merges_exchange : MergesExchange same
  merges_exchange decides answers base ours theirs =
      finite.same_map nat_list_cmp_total byte_order-IsAntisymmetric _ _ (λ q.
      merges_are_by_key answers base theirs ours q
      ∙ exchanged-at decides (finite.get base q) (finite.get ours q) (finite.get theirs q)
      answers q
      ∙ sym (merges_are_by_key (λ key b x y. answers key b y x) base ours theirs q))

  -- ---- one side as the base has it

  module _ (decides : Decides same) (answers : Answers V) (q : List ℕ) (b x : Option V) where
    no-change : differ same b b ≡ false
    no-change = differ-itself same (λ value. (decides value value).1 refl) b

    theirs-at : merged_at same answers q b b x ≡ x
    theirs-at =
        ap (λ t. cond (t && (differ same b x && differ same b x)) (answers q b b x)
        (cond (differ same b x) x b)) no-change
        ∙ elim (differ same b x) as (λ d. differ same b x ≡ d → cond d x b ≡ x) [
          | true ↦ λ _. refl
          | false ↦ λ is. alike same decides b x is
        ] refl

    ours-at : merged_at same answers q b x b ≡ x
    ours-at =
        ap (λ t. cond (differ same b x && (t && differ same x b)) (answers q b x b)
        (cond t b x)) no-change
        ∙ elim (differ same b x) as (λ d. cond (d && false) (answers q b x b) x ≡ x) [
          | true ↦ refl
          | false ↦ refl
        ]

  pub base_gives_way : BaseGivesWay same
  base_gives_way decides answers base side = (
    finite.same_map nat_list_cmp_total byte_order-IsAntisymmetric _ _ (λ q.
        merges_are_by_key answers base base side q
        ∙ theirs-at decides answers q (finite.get base q) (finite.get side q)),
    finite.same_map nat_list_cmp_total byte_order-IsAntisymmetric _ _ (λ q.
        merges_are_by_key answers base side base q
        ∙ ours-at decides answers q (finite.get base q) (finite.get side q)),
  )

  -- ---- one side stands

  theirs-stand : (b x y : Option V) (t : Bool) → in_conflict same b x y ≡ t
      → cond (differ same b y) y x ≡ cond t y (cond (differ same b y) y x)
  theirs-stand b x y true is =
      let others = (and_parts (differ same b x) (differ same b y && differ same x y) is).1 in
      ap (λ d. cond d y x) (and_parts (differ same b y) (differ same x y) others).0
  theirs-stand b x y false is = refl

  pub patches_are_merges : PatchesAreMerges same
  patches_are_merges base ours theirs =
      finite.same_map nat_list_cmp_total byte_order-IsAntisymmetric _ _ (λ q.
      let b = finite.get base q in let x = finite.get ours q in let y = finite.get theirs q in
      patched-by_key same base theirs ours q (differ same b y) refl
      ∙ theirs-stand b x y (in_conflict same b x y) refl
      ∙ sym (merges_are_by_key (λ key b x y. y) base ours theirs q))
