-- The laws of maps, their pairs and the prefixes of keys.
use Rattle.std.proofs.Common.{◌≡◌, ℕ, Bool, true, false, cond, ◌&&◌, ◌||◌, nat_eq, List, [], ◌∷◌, ◌++◌, length, map, filter, refl, sym, ap, subst, ◌∙◌, ⊎_elim, inl, inr, arith}
use Rattle.std.specs.Prelude.{Option, Some, None, T, ◌⊎◌}
use Rattle.std.specs.List.{list_any, filter_map, flat_map, cons_option}
use Rattle.std.specs.Option.{option_map}
use Rattle.std.specs.Ordering.{eq_by_cmp, is_lt}
use Rattle.std.specs.Cmp.{Equal-is}
use Rattle.std.specs.Cmp.Lexicographic.{nat_list_cmp_total}
use Rattle.std.specs.Str.{bytes_eq}
use Rattle.std.specs.FinMap as finite
use Rattle.std.specs.FinMap.Entries.{find, is_sorted, below_all, same_entries}
use Rattle.std.specs.FinSet as set
use Rattle.std.proofs.lemmas.Bool.{and_parts, and_from, and_right, false≢true}
use Rattle.std.proofs.lemmas.List.Folds.{list_any-append}
use Rattle.std.proofs.lemmas.Map.Text.{is_eq-slice_cmp}
use Rattle.rart_below.specs.Bytes.{byte_order, begins}
use Rattle.rart_maps.specs.Versions.{Map}
use Rattle.rart_maps.specs.Pairs.{pairs, prefixes_of, starts, shared}
use Rattle.rart_maps.proofs.ElementLemmas.{T-true}
use Rattle.rart_maps.specs.PairLaws.{IsSublist, PairsAscend, WithinIsSublist, UnderIsSublist, PrefixMatchesIsSublist, CommonSwaps, StartsShorten, SharedShorten, SharedIsEmpty}

-- ---- sub-lists

sublist_more : {A : Type 0} (xs ys : List A) (y : A) → IsSublist xs ys → IsSublist xs (y ∷ ys)
sublist_more [] ys y is = tt
sublist_more (x ∷ xs) ys y is = inr is

sublist-filter : {A : Type 0} (p : A → Bool) (xs : List A) → IsSublist (filter p xs) xs
sublist-filter p [] = tt
sublist-filter p (x ∷ xs) =
    elim (p x) as (λ b. IsSublist (cond b (x ∷ filter p xs) (filter p xs)) (x ∷ xs)) [
      | true ↦ inl (refl, sublist-filter p xs)
      | false ↦ sublist_more (filter p xs) xs x (sublist-filter p xs)
    ]

-- ---- what two maps have in common

true-T : (b : Bool) → b ≡ true → T b
true-T b is = subst T (sym is) tt

same_key : (q k : List ℕ) → eq_by_cmp byte_order q k ≡ true → q ≡ k
same_key q k tied =
    finite.slice_cmp-IsAntisymmetric finite.nat_cmp-IsAntisymmetric q k
    ((Equal-is (byte_order q k)).0 tied)

-- both values, where there are both
abbrev both : {A B : Type 0} → Option A → Option B → Option (A × B)
both None b = None
both (Some a) None = None
both (Some a) (Some b) = Some (a, b)

module _ {V : Type 0} where
  -- each pair whose key has another value, with the two
  abbrev joined : List (List ℕ × V) → (List ℕ → Option V) → List (List ℕ × (V × V))
  joined [] other = []
  joined (pair ∷ rest) other =
      cons_option (option_map (λ x. (pair.0, (pair.1, x))) (other pair.0)) (joined rest other)

  abbrev flat : List ℕ × (V × V) → List ℕ × V × V
  flat entry = (entry.0, entry.1.0, entry.1.1)

  abbrev turned : List ℕ × (V × V) → List ℕ × (V × V)
  turned entry = (entry.0, (entry.1.1, entry.1.0))

  flat-joined : (rest : List (List ℕ × V)) (other : List ℕ → Option V)
      → filter_map (λ pair. option_map (λ x. (pair.0, pair.1, x)) (other pair.0)) rest
      ≡ map flat (joined rest other)
  flat-joined [] other = refl
  flat-joined (pair ∷ rest) other =
      elim (other pair.0) as (λ o. cons_option (option_map (λ x. (pair.0, pair.1, x)) o)
      (filter_map (λ pair. option_map (λ x. (pair.0, pair.1, x)) (other pair.0)) rest)
      ≡ map flat (cons_option (option_map (λ x. (pair.0, (pair.1, x))) o) (joined rest other))) [
        | None ↦ flat-joined rest other
        | Some x ↦ ap (λ more. (pair.0, pair.1, x) ∷ more) (flat-joined rest other)
      ]

  flat-turned : (entries : List (List ℕ × (V × V)))
      → map flat (map turned entries)
      ≡ map (λ entry. (entry.0, entry.2, entry.1)) (map flat entries)
  flat-turned [] = refl
  flat-turned (entry ∷ entries) = ap (λ more. flat (turned entry) ∷ more) (flat-turned entries)

  both-none : (o : Option V) → both {B = V} o None ≡ None
  both-none None = refl
  both-none (Some x) = refl

  both_turned : (a b : Option V) → option_map (λ xs. (xs.1, xs.0)) (both a b) ≡ both b a
  both_turned None None = refl
  both_turned None (Some y) = refl
  both_turned (Some x) None = refl
  both_turned (Some x) (Some y) = refl

  find-joined : (rest : List (List ℕ × V)) (other : List ℕ → Option V) (q : List ℕ)
      → find byte_order q (joined rest other) ≡ both (find byte_order q rest) (other q)
  find-joined [] other q = refl
  find-joined (pair ∷ rest) other q =
      let more = find-joined rest other q in
      let there : eq_by_cmp byte_order q pair.0 ≡ true
      → find byte_order q (joined (pair ∷ rest) other) ≡ both (Some pair.1) (other q) =
      λ tied. elim (other pair.0) as (λ o. other q ≡ o
      → find byte_order q (cons_option (option_map (λ x. (pair.0, (pair.1, x))) o)
      (joined rest other)) ≡ both (Some pair.1) (other q)) [
        | None ↦ λ none. more ∙ ap (both (find byte_order q rest)) none ∙ both-none _
            ∙ sym (ap (both (Some pair.1)) none)
        | Some x ↦ λ some. ap (λ t. cond t (Some (pair.1, x))
            (find byte_order q (joined rest other))) tied ∙ sym (ap (both (Some pair.1)) some)
      ] (ap other (same_key q pair.0 tied)) in
      let not_there : eq_by_cmp byte_order q pair.0 ≡ false
      → find byte_order q (joined (pair ∷ rest) other)
      ≡ both (find byte_order q rest) (other q) =
      λ apart. elim (other pair.0) as (λ o.
      find byte_order q (cons_option (option_map (λ x. (pair.0, (pair.1, x))) o)
      (joined rest other)) ≡ both (find byte_order q rest) (other q)) [
        | None ↦ more
        | Some x ↦ ap (λ t. cond t (Some (pair.1, x)) (find byte_order q (joined rest other))) apart
            ∙ more
      ] in
      elim (eq_by_cmp byte_order q pair.0) as (λ t. eq_by_cmp byte_order q pair.0 ≡ t
      → find byte_order q (joined (pair ∷ rest) other)
      ≡ both (cond t (Some pair.1) (find byte_order q rest)) (other q)) [
        | true ↦ there
        | false ↦ not_there
      ] refl

  below-joined : (key : List ℕ) (rest : List (List ℕ × V)) (other : List ℕ → Option V)
      → below_all byte_order key rest ≡ true → below_all byte_order key (joined rest other) ≡ true
  below-joined key [] other below = refl
  below-joined key (pair ∷ rest) other below =
      let parts = and_parts _ (below_all byte_order key rest) below in
      let more = below-joined key rest other parts.1 in
      elim (other pair.0) as (λ o. below_all byte_order key
      (cons_option (option_map (λ x. (pair.0, (pair.1, x))) o) (joined rest other)) ≡ true) [
        | None ↦ more
        | Some x ↦ and_from _ _ parts.0 more
      ]

  sorted-joined : (rest : List (List ℕ × V)) (other : List ℕ → Option V)
      → is_sorted byte_order rest ≡ true → is_sorted byte_order (joined rest other) ≡ true
  sorted-joined [] other sorted = refl
  sorted-joined (pair ∷ rest) other sorted =
      let parts = and_parts (below_all byte_order pair.0 rest) (is_sorted byte_order rest) sorted in
      let more = sorted-joined rest other parts.1 in
      elim (other pair.0) as (λ o. is_sorted byte_order
      (cons_option (option_map (λ x. (pair.0, (pair.1, x))) o) (joined rest other)) ≡ true) [
        | None ↦ more
        | Some x ↦ and_from _ _ (below-joined pair.0 rest other parts.0) more
      ]

  find-turned : (entries : List (List ℕ × (V × V))) (q : List ℕ)
      → find byte_order q (map turned entries)
      ≡ option_map (λ xs. (xs.1, xs.0)) (find byte_order q entries)
  find-turned [] q = refl
  find-turned (entry ∷ entries) q =
      elim (eq_by_cmp byte_order q entry.0)
      as (λ t. cond t (Some (entry.1.1, entry.1.0)) (find byte_order q (map turned entries))
      ≡ option_map (λ xs. (xs.1, xs.0)) (cond t (Some entry.1) (find byte_order q entries))) [
        | true ↦ refl
        | false ↦ find-turned entries q
      ]

  below-turned : (key : List ℕ) (entries : List (List ℕ × (V × V)))
      → below_all byte_order key (map turned entries) ≡ below_all byte_order key entries
  below-turned key [] = refl
  below-turned key (entry ∷ entries) =
      ap (λ b. is_lt (byte_order key entry.0) && b) (below-turned key entries)

  sorted-turned : (entries : List (List ℕ × (V × V)))
      → is_sorted byte_order (map turned entries) ≡ is_sorted byte_order entries
  sorted-turned [] = refl
  sorted-turned (entry ∷ entries) = λ i. below-turned entry.0 entries i && sorted-turned entries i

  ascending : (m : Map V) → is_sorted byte_order (pairs m) ≡ true
  ascending m = T-true _ (finite.entries_sorted m)

  joined-swaps : (left right : Map V)
      → joined (pairs right) (finite.get left) ≡ map turned (joined (pairs left) (finite.get right))
  joined-swaps left right =
      same_entries byte_order nat_list_cmp_total
      (finite.slice_cmp-IsAntisymmetric finite.nat_cmp-IsAntisymmetric) _ _
      (true-T _ (sorted-joined (pairs right) (finite.get left) (ascending right)))
      (true-T _ (sorted-turned (joined (pairs left) (finite.get right))
      ∙ sorted-joined (pairs left) (finite.get right) (ascending left)))
      (λ q.
      find-joined (pairs right) (finite.get left) q
      ∙ ap (λ o. both o (finite.get left q)) (sym (finite.get-entries right q))
      ∙ sym (both_turned (finite.get left q) (finite.get right q))
      ∙ ap (λ o. option_map (λ xs. (xs.1, xs.0)) (both o (finite.get right q)))
      (finite.get-entries left q)
      ∙ ap (option_map (λ xs. (xs.1, xs.0))) (sym (find-joined (pairs left) (finite.get right) q))
      ∙ sym (find-turned _ q))

-- ---- prefixes of keys

no_length : {A : Type 0} (xs : List A) → length xs ≡ 0 → xs ≡ []
no_length [] none = refl
no_length (x ∷ xs) none = absurd (omega arith)

list_any-map : {A B : Type 0} (p : B → Bool) (f : A → B) (xs : List A)
    → list_any p (map f xs) ≡ list_any (λ x. p (f x)) xs
list_any-map p f [] = refl
list_any-map p f (x ∷ xs) = ap (λ b. p (f x) || b) (list_any-map p f xs)

list_any-same : {A : Type 0} (p q : A → Bool) → ((x : A) → p x ≡ q x) → (xs : List A)
    → list_any p xs ≡ list_any q xs
list_any-same p q same [] = refl
list_any-same p q same (x ∷ xs) = λ i. same x i || list_any-same p q same xs i

list_any-flat_map : {A B : Type 0} (p : B → Bool) (f : A → List B) (xs : List A)
    → list_any p (flat_map f xs) ≡ list_any (λ x. list_any p (f x)) xs
list_any-flat_map p f [] = refl
list_any-flat_map p f (x ∷ xs) =
    list_any-append p (f x) (flat_map f xs)
    ∙ ap (λ b. list_any p (f x) || b) (list_any-flat_map p f xs)

list_any-and : {A : Type 0} (b : Bool) (p : A → Bool) (xs : List A)
    → list_any (λ x. b && p x) xs ≡ (b && list_any p xs)
list_any-and true p xs = refl
list_any-and false p [] = refl
list_any-and false p (x ∷ xs) = list_any-and false p xs

-- What each element that passes the one test passes, some element passes.
list_any-weaker : {A : Type 0} (p q : A → Bool) → ((x : A) → p x ≡ true → q x ≡ true)
    → (xs : List A) → list_any p xs ≡ true → list_any q xs ≡ true
list_any-weaker p q weaker [] one = one
list_any-weaker p q weaker (x ∷ xs) one =
    elim (p x) as (λ b. p x ≡ b → (b || list_any p xs) ≡ true → (q x || list_any q xs) ≡ true) [
      | true ↦ λ passes _. ap (λ b. b || list_any q xs) (weaker x passes)
      | false ↦ λ _ later. elim (q x) as (λ b. (b || list_any q xs) ≡ true)
          [ true ↦ refl | false ↦ list_any-weaker p q weaker xs later ]
    ] refl one

-- the prefixes of a string are those that begin it
one-of_prefixes : (u w : List ℕ) → list_any (bytes_eq u) (prefixes_of w) ≡ begins u w
one-of_prefixes [] [] = refl
one-of_prefixes [] (c ∷ w) = refl
one-of_prefixes (b ∷ u) [] = refl
one-of_prefixes (b ∷ u) (c ∷ w) =
    list_any-map (bytes_eq (b ∷ u)) (λ v. c ∷ v) (prefixes_of w)
    ∙ list_any-and (nat_eq b c) (bytes_eq u) (prefixes_of w)
    ∙ ap (λ t. nat_eq b c && t) (one-of_prefixes u w)

-- What begins a string as part of a longer prefix begins it.
pub begins-shorter : (u v w : List ℕ) → begins (u ++ v) w ≡ true → begins u w ≡ true
begins-shorter [] v w is = refl
begins-shorter (b ∷ u) v [] is = is
begins-shorter (b ∷ u) v (c ∷ w) is =
    let parts = and_parts (nat_eq b c) (begins (u ++ v) w) is in
    and_from (nat_eq b c) (begins u w) parts.0 (begins-shorter u v w parts.1)

module _ {V : Type 0} where
  -- A string is one of the prefixes exactly if it begins some key.
  pub contains-prefix_matches : (list : List (List ℕ × V)) (u : List ℕ)
      → set.contains (set.from_list {R = byte_order} (flat_map (λ pair. prefixes_of pair.0) list))
      u ≡ list_any (λ pair. begins u pair.0) list
  contains-prefix_matches list u =
      set.contains-from_list nat_list_cmp_total
      (flat_map (λ pair. prefixes_of pair.0) list) u
      ∙ list_any-same (eq_by_cmp byte_order u) (bytes_eq u) (is_eq-slice_cmp u)
      (flat_map (λ pair. prefixes_of pair.0) list)
      ∙ list_any-flat_map (bytes_eq u) (λ pair. prefixes_of pair.0) list
      ∙ list_any-same (λ pair. list_any (bytes_eq u) (prefixes_of pair.0))
      (λ pair. begins u pair.0) (λ pair. one-of_prefixes u pair.0) list

  pub contains-starts : (m : Map V) (u : List ℕ)
      → set.contains (starts m) u ≡ list_any (λ pair. begins u pair.0) (pairs m)
  contains-starts m u = contains-prefix_matches (pairs m) u

  pub contains-shared : (left right : Map V) (u : List ℕ)
      → set.contains (shared left right) u
      ≡ (set.contains (starts left) u && set.contains (starts right) u)
  contains-shared left right u =
      set.contains-intersection nat_list_cmp_total (starts left) (starts right) u

  starts-shorter : (m : Map V) (u v : List ℕ) → set.contains (starts m) (u ++ v) ≡ true
      → set.contains (starts m) u ≡ true
  starts-shorter m u v is =
      contains-starts m u
      ∙ list_any-weaker (λ pair. begins (u ++ v) pair.0) (λ pair. begins u pair.0)
      (λ pair. begins-shorter u v pair.0) (pairs m) (sym (contains-starts m (u ++ v)) ∙ is)

  empty_or_begun : (m : Map V) → (m ≡ finite.empty) ⊎ (set.contains (starts m) [] ≡ true)
  empty_or_begun m =
      elim (pairs m) as (λ es. pairs m ≡ es → (m ≡ finite.empty)
      ⊎ (set.contains (starts m) [] ≡ true)) [
        | [] ↦ λ none. inl (finite.empty_of_len m (finite.len-entries m ∙ ap length none))
        | pair ∷ rest ↦ λ some. inr (contains-starts m []
            ∙ ap (list_any (λ pair. begins [] pair.0)) some)
      ] refl

  shared-none : (left right : Map V) → ((u : List ℕ) → set.contains (shared left right) u ≡ false)
      → set.len (shared left right) ≡ 0
  shared-none left right none =
      ap set.len (set.same_set nat_list_cmp_total
      (finite.slice_cmp-IsAntisymmetric finite.nat_cmp-IsAntisymmetric)
      (shared left right) set.empty (λ u. none u ∙ sym (set.contains-empty byte_order u)))
      ∙ set.len-empty byte_order

module _ (V : Type 0) where
  -- No pair stands in the empty map.
  pub pairs-empty : pairs {V = V} finite.empty ≡ []
  pairs-empty = no_length _ (sym (finite.len-entries _) ∙ finite.len-empty byte_order V)

  starts-none : (u : List ℕ) → set.contains (starts {V = V} finite.empty) u ≡ false
  starts-none u =
      contains-starts finite.empty u ∙ ap (list_any (λ pair. begins u pair.0)) pairs-empty

  pub pairs_ascend : PairsAscend V
  pairs_ascend m = ascending m

  pub within_is_sublist : WithinIsSublist V
  within_is_sublist m low high = sublist-filter _ (pairs m)

  pub under_is_sublist : UnderIsSublist V
  under_is_sublist m p = sublist-filter _ (pairs m)

  pub prefix_matches_is_sublist : PrefixMatchesIsSublist V
  prefix_matches_is_sublist m w = sublist-filter _ (pairs m)

  pub common_swaps : CommonSwaps V
  common_swaps left right =
      flat-joined (pairs right) (finite.get left)
      ∙ ap (map flat) (joined-swaps left right)
      ∙ flat-turned (joined (pairs left) (finite.get right))
      ∙ ap (map (λ entry. (entry.0, entry.2, entry.1)))
      (sym (flat-joined (pairs left) (finite.get right)))

  pub starts_shorten : StartsShorten V
  starts_shorten m u v is = starts-shorter m u v is

  pub shared_shorten : SharedShorten V
  shared_shorten left right u v is =
      let parts =
      and_parts (set.contains (starts left) (u ++ v)) (set.contains (starts right) (u ++ v))
      (sym (contains-shared left right (u ++ v)) ∙ is) in
      contains-shared left right u ∙ and_from (set.contains (starts left) u)
      (set.contains (starts right) u) (starts-shorter left u v parts.0)
      (starts-shorter right u v parts.1)

  shared_of_both : (left right : Map V) → set.len (shared left right) ≡ 0
      → set.contains (starts left) [] ≡ true → set.contains (starts right) [] ≡ true → ⊥
  shared_of_both left right none begun_left begun_right =
      let begun =
      contains-shared left right [] ∙ and_from (set.contains (starts left) [])
      (set.contains (starts right) []) begun_left begun_right in
      let none_begun =
      ap (λ strings. set.contains strings []) (set.empty_of_len (shared left right) none)
      ∙ set.contains-empty byte_order [] in
      false≢true (sym none_begun ∙ begun)

  pub shared_is_empty : SharedIsEmpty V
  shared_is_empty left right = (
    λ none. ⊎_elim (λ is. inl is) (λ begun_left.
        ⊎_elim (λ is. inr is) (λ begun_right.
        absurd (shared_of_both left right none begun_left begun_right)) (empty_or_begun right))
        (empty_or_begun left),
    λ either. shared-none left right (λ u. contains-shared left right u ∙ ⊎_elim
        (λ is. ap (λ b. b && set.contains (starts right) u) (ap (λ m. set.contains (starts m) u) is
        ∙ starts-none u))
        (λ is. ap (λ b. set.contains (starts left) u && b) (ap (λ m. set.contains (starts m) u) is
        ∙ starts-none u) ∙ and_right (set.contains (starts left) u) false refl)
        either),
  )
