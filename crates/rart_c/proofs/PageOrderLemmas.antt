-- Pages in either order: the first pair from one bound to another, and what stands behind it. Where
-- pairs descend it is the last one within the bounds.
use Rattle.std.proofs.Common.{◌≡◌, ⊎_elim, inr, ℕ, Bool, true, false, cond, List, [], ◌∷◌, ◌++◌, length, reverse, refl, arith, sym, ap, subst, ◌∙◌}
use Rattle.std.proofs.lemmas.Bool.{and_from, and_parts, true≢false}
use Rattle.std.proofs.lemmas.List.{append-nil, get_or_append_left, get_or_push, length-append, reverse-append, reverse-reverse}
use Rattle.std.proofs.lemmas.List.Elements.{Contains-append_cases, Contains-append_left, Contains-append_right, filter-append}
use Rattle.std.specs.Prelude.{◌&&◌, ◌==◌, not, filter, Contains}
use Rattle.std.specs.List.{AllPairs}
use Rattle.std.specs.declared.ops.Bound.{Bound}
use Rattle.std.specs.declared.ops.Bound.TheVariants.{Included, Excluded, Unbounded}
use Rattle.rart_c.proofs.PageLemmas.{MeetsLow-behind, some-not_none, within-behind, within-meets, within-none, within-past}
use Rattle.rart_c.specs.Pages.{IsCursorFor, cursor_in, is_before_end, range_in}
use Rattle.rart_c.specs.declared.paging.Order.{Order}
use Rattle.rart_c.specs.declared.paging.Order.TheVariants.{Ascending, Descending}
use Rattle.rart_c.specs.declared.paging.cursor.PageCursor.{PageCursor}
use Rattle.rart_maps.proofs.ElementLemmas.{Contains-cases, Contains-here, Contains-later, Contains-nil}
use Rattle.rart_maps.proofs.FoundLemmas.{ascending_lists_are_fixed, within_ascends, within_is_found}
use Rattle.rart_maps.proofs.OrderLemmas.{IsBefore-itself, bounds_contain-is}
use Rattle.rart_maps.proofs.RangeLemmas.{IsBefore-through, is_above, is_below}
use Rattle.rart_maps.specs.FoundLaws.{KeysAscend}
use Rattle.rart_maps.specs.Order.{IsBefore, MeetsHigh}
use Rattle.rart_maps.specs.Pairs.{pairs, within}
use Rattle.rart_maps.specs.Versions.{Map}
use Rattle.rart_ways.specs.Firsts.{IsFirst}

-- what stands before a string that meets an upper bound meets it too
MeetsHigh-before : (high : Bound (List ℕ)) (u w : List ℕ) → IsBefore u w → MeetsHigh high w
    → MeetsHigh high u
MeetsHigh-before (Included a) u w before meets =
    ⊎_elim
    (λ same. inr (subst (IsBefore u) same before))
    (λ less. inr (IsBefore-through u w a before less))
    meets
MeetsHigh-before (Excluded a) u w before meets = IsBefore-through u w a before meets
MeetsHigh-before Unbounded u w before meets = tt

-- what stands before a string that is below a lower bound is below it too
below-before : (low : Bound (List ℕ)) (u w : List ℕ) → IsBefore u w → is_above low w ≡ false
    → is_above low u ≡ false
below-before low u w before under =
    elim (is_above low u) as (λ b. is_above low u ≡ b → b ≡ false) [
      | true ↦ λ is.
          let met = ((bounds_contain-is low Unbounded u).0
          (and_from (is_above low u) true is refl)).0 in
          let more = (bounds_contain-is low Unbounded w).1
          (MeetsLow-behind low u w met before, tt) in
          absurd (true≢false (sym (and_parts (is_above low w) true more).0 ∙ under))
      | false ↦ λ _. refl
    ] refl

module _ {A : Type 0} where
  filter-swap : (p q : A → Bool) (xs : List A)
      → filter (λ x. p x && q x) xs ≡ filter p (filter q xs)
  filter-swap p q [] = refl
  filter-swap p q (x ∷ xs) =
      elim (p x) as (λ b. p x ≡ b → cond (b && q x) (x ∷ filter (λ x. p x && q x) xs)
      (filter (λ x. p x && q x) xs) ≡ filter p (cond (q x) (x ∷ filter q xs) (filter q xs))) [
        | true ↦ λ is.
            elim (q x) as (λ b. cond b (x ∷ filter (λ x. p x && q x) xs)
            (filter (λ x. p x && q x) xs)
            ≡ filter p (cond b (x ∷ filter q xs) (filter q xs))) [
              | true ↦ ap (λ rest. x ∷ rest) (filter-swap p q xs)
                  ∙ sym (ap (λ b. cond b (x ∷ filter p (filter q xs)) (filter p (filter q xs))) is)
              | false ↦ filter-swap p q xs
            ]
        | false ↦ λ is.
            elim (q x) as (λ b. filter (λ x. p x && q x) xs
            ≡ filter p (cond b (x ∷ filter q xs) (filter q xs))) [
              | true ↦ filter-swap p q xs
                  ∙ sym (ap (λ b. cond b (x ∷ filter p (filter q xs)) (filter p (filter q xs))) is)
              | false ↦ filter-swap p q xs
            ]
      ] refl

  filter-reverse : (p : A → Bool) (xs : List A) → filter p (reverse xs) ≡ reverse (filter p xs)
  filter-reverse p [] = refl
  filter-reverse p (x ∷ xs) =
      ap (filter p) (reverse-append (x ∷ []) xs) ∙ filter-append p (reverse xs) (x ∷ [])
      ∙ ap (λ z. z ++ filter p (x ∷ [])) (filter-reverse p xs)
      ∙ elim (p x) as (λ b. reverse (filter p xs) ++ cond b (x ∷ []) []
      ≡ reverse (cond b (x ∷ filter p xs) (filter p xs))) [
        | true ↦ sym (reverse-append (x ∷ []) (filter p xs))
        | false ↦ append-nil (reverse (filter p xs))
      ]

  filter-none : (p : A → Bool) (xs : List A) → ((x : A) → Contains xs x → p x ≡ false)
      → filter p xs ≡ []
  filter-none p [] fails = refl
  filter-none p (x ∷ xs) fails =
      ap (λ b. cond b (x ∷ filter p xs) (filter p xs)) (fails x (Contains-here x xs))
      ∙ filter-none p xs (λ y there. fails y (Contains-later x xs y there))

  module _ (R : A → A → Type 0) (xs : List A) (x : A) (all : AllPairs R (xs ++ x ∷ [])) where
    all-but-last : AllPairs R xs
    all-but-last i j d below within =
        rw (
          get_or_append_left xs (x ∷ []) d i (omega (arith, below, within)),
          get_or_append_left xs (x ∷ []) d j within,
        ) at (all i j d below (let long = length-append xs (x ∷ []) in omega (arith, within, long)))

    before-last : (y : A) → Contains xs y → R y x
    before-last y there =
        let long = length-append xs (x ∷ []) in
        let lt = there.1 in
        let at = all there.0 (length xs) y (omega (arith, lt)) (omega (arith, long)) in
        rw (
          get_or_append_left xs (x ∷ []) y there.0 lt,
          there.2,
          get_or_push xs x y (length xs) refl,
        ) at at

module _ {V : Type 0} (m : Map V) (low high : Bound (List ℕ)) where
  -- a list that begins with a pair, where it is reversed
  ends : {A : Type 0} (list : List A) (pair : A) (others : List A) → reverse list ≡ pair ∷ others
      → list ≡ reverse others ++ pair ∷ []
  ends list pair others is =
      sym (reverse-reverse list) ∙ ap reverse is ∙ reverse-append (pair ∷ []) others

  -- Before the last pair within both bounds stand the others.
  module _ (pair : List ℕ × V) (others : List (List ℕ × V))
      (is : reverse (within m low high) ≡ pair ∷ others) where
    whole : within m low high ≡ reverse others ++ pair ∷ []
    whole = ends (within m low high) pair others is

    ascends : KeysAscend (λ (pair : List ℕ × V). pair.0) (reverse others ++ pair ∷ [])
    ascends = subst (KeysAscend (λ pair. pair.0)) whole (within_ascends V m low high)

    found : (other : List ℕ × V) → Contains (reverse others ++ pair ∷ []) other
        → Contains (within m low high) other
    found other there = subst (λ list. Contains list other) (sym whole) there

    kept : within m low (Excluded pair.0) ≡ reverse others
    kept =
        let last = (within_is_found V m low high pair.0 pair.1).0
        (found pair (Contains-append_right (reverse others) (pair ∷ []) pair
        (Contains-here pair []))) in
        ascending_lists_are_fixed (List ℕ × V) (λ pair. pair.0)
        (within m low (Excluded pair.0)) (reverse others)
        (within_ascends V m low (Excluded pair.0))
        (all-but-last (λ a b. IsBefore a.0 b.0) (reverse others) pair ascends)
        (λ other. (
          λ there.
              let meets = (within_is_found V m low (Excluded pair.0) other.0 other.1).0 there in
              ⊎_elim
              (λ earlier. earlier)
              (λ here. ⊎_elim
              (λ same. absurd (IsBefore-itself other.0
              (subst (λ p. IsBefore other.0 p.0) same meets.1)))
              (λ none. absurd (Contains-nil other none))
              (Contains-cases pair [] other here))
              (Contains-append_cases (reverse others) (pair ∷ []) other
              (subst (λ list. Contains list other) whole
              ((within_is_found V m low high other.0 other.1).1
              (meets.0, MeetsHigh-before high other.0 pair.0 meets.1 last.1, meets.2)))),
          λ earlier.
              let meets = (within_is_found V m low high other.0 other.1).0
              (found other (Contains-append_left (reverse others) (pair ∷ []) other earlier)) in
              (within_is_found V m low (Excluded pair.0) other.0 other.1).1 (
                meets.0,
                before-last (λ a b. IsBefore a.0 b.0) (reverse others) pair ascends other earlier,
                meets.2,
              ),
        ))

    within-before : reverse (within m low (Excluded pair.0)) ≡ others
    within-before = ap reverse kept ∙ reverse-reverse others

  -- those within both are those up to the upper bound that meet the lower one, descending too
  back-from : reverse (within m low high)
      ≡ filter (λ pair. is_above low pair.0) (reverse (within m Unbounded high))
  back-from =
      ap reverse (filter-swap (λ (pair : List ℕ × V). is_above low pair.0)
      (λ pair. is_below high pair.0) (pairs m))
      ∙ sym (filter-reverse (λ pair. is_above low pair.0) (within m Unbounded high))

  -- Of the last pair up to the upper bound.
  module _ (pair : List ℕ × V) (others : List (List ℕ × V))
      (is : reverse (within m Unbounded high) ≡ pair ∷ others) where
    back-meets : is_above low pair.0 ≡ true → reverse (within m low high)
        ≡ pair ∷ filter (λ pair. is_above low pair.0) others
    back-meets meets =
        back-from ∙ ap (filter (λ pair. is_above low pair.0)) is
        ∙ ap (λ b. cond b (pair ∷ filter (λ pair. is_above low pair.0) others)
        (filter (λ pair. is_above low pair.0) others)) meets

    back-past : is_above low pair.0 ≡ false → reverse (within m low high) ≡ []
    back-past past =
        let list = ends (within m Unbounded high) pair others is in
        let ascends : KeysAscend (λ (pair : List ℕ × V). pair.0) (reverse others ++ pair ∷ []) =
        subst (KeysAscend (λ pair. pair.0)) list (within_ascends V m Unbounded high) in
        ap reverse (filter-swap (λ (pair : List ℕ × V). is_above low pair.0)
        (λ pair. is_below high pair.0) (pairs m)
        ∙ ap (filter (λ pair. is_above low pair.0)) list
        ∙ filter-none (λ pair. is_above low pair.0) (reverse others ++ pair ∷ []) (λ other there.
        ⊎_elim
        (λ earlier. below-before low other.0 pair.0
        (before-last (λ a b. IsBefore a.0 b.0) (reverse others) pair ascends other earlier) past)
        (λ here. ⊎_elim
        (λ same. ap (λ p. is_above low p.0) (sym same) ∙ past)
        (λ none. absurd (Contains-nil other none))
        (Contains-cases pair [] other here))
        (Contains-append_cases (reverse others) (pair ∷ []) other there)))

-- ---- in either order

module _ {V : Type 0} where
  -- behind the first pair stand the others
  pub range-behind : (order : Order) (m : Map V) (from to : Bound (List ℕ))
      (pair : List ℕ × V) (others : List (List ℕ × V))
      → range_in order m from to ≡ pair ∷ others
      → range_in order m (Excluded pair.0) to ≡ others
  range-behind Ascending m from to pair others is = within-behind m from to pair others is
  range-behind Descending m from to pair others is = within-before m to from pair others is

  -- where there is no first pair from the one bound on, there is none
  pub range-none : (order : Order) (m : Map V) (from to : Bound (List ℕ))
      → range_in order m from Unbounded ≡ [] → range_in order m from to ≡ []
  range-none Ascending m from to none = within-none m from to none
  range-none Descending m from to none =
      back-from m to from ∙ ap (filter (λ pair. is_above to pair.0)) none

  -- Of the first pair from the one bound on.
  module _ (m : Map V) (from to : Bound (List ℕ)) (pair : List ℕ × V)
      (others : List (List ℕ × V)) where
    -- where it meets the other bound, it is the first within both
    pub range-first : (order : Order) → range_in order m from Unbounded ≡ pair ∷ others
        → is_before_end order to pair.0 ≡ true
        → range_in order m from to ≡ pair ∷ filter (λ pair. is_before_end order to pair.0) others
    range-first Ascending is meets = within-meets m from to pair others is meets
    range-first Descending is meets = back-meets m to from pair others is meets

    -- where it is past that, there is none
    pub range-past : (order : Order) → range_in order m from Unbounded ≡ pair ∷ others
        → is_before_end order to pair.0 ≡ false → range_in order m from to ≡ []
    range-past Ascending is past = within-past m from to pair others is past
    range-past Descending is past = back-past m to from pair others is past

  module _ (order : Order) (m : Map V) (from to : Bound (List ℕ)) (len : ℕ) (value : V)
      (before after : List ℕ)
      (first : IsFirst (range_in order m from Unbounded) len value before after) where
    pub range-meets : is_before_end order to first.key ≡ true
        → IsFirst (range_in order m from to) len value before after
    range-meets meets = record {
      key = first.key;
      others = filter (λ pair. is_before_end order to pair.0) first.others;
      first = range-first m from to (first.key, value) first.others order first.first meets;
      long = first.long;
      written = first.written;
      behind = first.behind;
    }

    -- whether there is a pair tells whether it is this one
    pub range-told : (told : Bool) → told ≡ not (length (range_in order m from to) == 0)
        → is_before_end order to first.key ≡ told
    range-told told is =
        elim (is_before_end order to first.key) as (λ b.
        is_before_end order to first.key ≡ b → b ≡ told) [
          | true ↦ λ meets. some-not_none (first.key, value) (range-meets meets).others
              ∙ sym (is ∙ ap (λ (list : List (List ℕ × V)). not (length list == 0))
              (range-meets meets).first)
          | false ↦ λ past. sym (is ∙ ap (λ (list : List (List ℕ × V)). not (length list == 0))
              (range-past m from to (first.key, value) first.others order first.first past))
        ] refl

  same-first : (given pair : List ℕ × V) (rest others : List (List ℕ × V))
      → given ∷ rest ≡ pair ∷ others → given.0 ≡ pair.0
  same-first given pair rest others is = cc

  -- behind the first pair from one bound to another, which a cursor gave, it has the others
  pub cursor-behind : (order : Order) (m : Map V) (from to : Bound (List ℕ))
      (cursor after : PageCursor V) (given pair : List ℕ × V) (others : List (List ℕ × V))
      → IsCursorFor order m from cursor → (cursor_in cursor).left ≡ given ∷ (cursor_in after).left
      → is_before_end order to given.0 ≡ true → range_in order m from to ≡ pair ∷ others
      → IsCursorFor order m (Excluded pair.0) after
  cursor-behind order m from to cursor after given pair others has gives meets is =
      let left = (cursor_in after).left in
      let first = range-first m from to given left order (sym has ∙ gives) meets in
      subst (λ key. IsCursorFor order m (Excluded key) after)
      (same-first given pair (filter (λ pair. is_before_end order to pair.0) left) others
      (sym first ∙ is))
      (sym (range-behind order m from Unbounded given left (sym has ∙ gives)))
