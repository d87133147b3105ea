-- What stands in a filter, in what a partial function gives, and in the entries of a map.
use Rattle.std.proofs.Common.{◌≡◌, ◌↔◌, ◌⊎◌, zero, suc, Bool, true, false, cond, List, [], ◌∷◌, map, refl, sym, ap, subst, ◌∙◌, ⊎_elim, inl, inr, arith}
use Rattle.std.specs.Prelude.{Option, Some, None, T, Contains, All, AllPairs, filter}
use Rattle.std.specs.List.{filter_map, cons_option, list_any}
use Rattle.std.specs.Option.{unwrap_or, is_some}
use Rattle.std.specs.declared.cmp.Ordering.{Ordering}
use Rattle.std.specs.declared.cmp.Ordering.TheVariants.{Less, Equal, Greater}
use Rattle.std.specs.Ordering.{eq_by_cmp, is_lt, is_eq}
use Rattle.std.specs.Cmp.{IsTotalOrder, Equal-is, tied_itself}
use Rattle.std.specs.FinMap as finite
use Rattle.std.specs.FinMap.Entries.{find, is_sorted, below_all}
use Rattle.std.proofs.lemmas.Bool.{and_parts, or_cases, or_left, or_right, false≢true}
use Rattle.std.proofs.lemmas.List.Elements.{Contains-get_or}

module _ {A : Type 0} where
  pub Contains-nil : (x : A) → Contains [] x → ⊥
  Contains-nil x there = omega (arith, there.1)

  pub Contains-here : (x : A) (xs : List A) → Contains (x ∷ xs) x
  Contains-here x xs = (0, omega arith, refl)

  pub Contains-later : (y : A) (xs : List A) (x : A) → Contains xs x → Contains (y ∷ xs) x
  Contains-later y xs x there = (suc there.0, omega (arith, there.1), there.2)

  pub Contains-cases : (y : A) (xs : List A) (x : A) → Contains (y ∷ xs) x → (y ≡ x) ⊎ Contains xs x
  Contains-cases y xs x (zero, below, is) = inl is
  Contains-cases y xs x (suc k, below, is) = inr (k, omega (arith, below), is)

  -- What holds of whatever a list contains holds of each element.
  pub All-from_contains : (P : A → Type 0) (xs : List A) → ((x : A) → Contains xs x → P x)
      → All P xs
  All-from_contains P xs holds k d below = holds _ (Contains-get_or xs k d below)

  -- In a list in which each element stands so to each later one, the first stands so to the others.
  pub AllPairs-first : (R : A → A → Type 0) (x : A) (xs : List A) → AllPairs R (x ∷ xs) → (y : A)
      → Contains xs y → R x y
  AllPairs-first R x xs pairs y there =
      subst (R x) there.2 (pairs 0 (suc there.0) y (omega arith) (omega (arith, there.1)))

  pub AllPairs-rest : (R : A → A → Type 0) (x : A) (xs : List A) → AllPairs R (x ∷ xs)
      → AllPairs R xs
  AllPairs-rest R x xs pairs i j d less below =
      pairs (suc i) (suc j) d (omega (arith, less)) (omega (arith, below))

  filter-contains : (p : A → Bool) (xs : List A) (x : A) → Contains (filter p xs) x
      → Contains xs x × (p x ≡ true)
  filter-contains p [] x there = absurd (Contains-nil x there)
  filter-contains p (y ∷ xs) x there =
      elim (p y) as (λ b. p y ≡ b → Contains (cond b (y ∷ filter p xs) (filter p xs)) x
      → Contains (y ∷ xs) x × (p x ≡ true)) [
        | true ↦ λ passes there. ⊎_elim
            (λ is. (subst (Contains (y ∷ xs)) is (Contains-here y xs), ap p (sym is) ∙ passes))
            (λ later. let found = filter-contains p xs x later in
            (Contains-later y xs x found.0, found.1))
            (Contains-cases y (filter p xs) x there)
        | false ↦ λ fails there. let found = filter-contains p xs x there in
            (Contains-later y xs x found.0, found.1)
      ] refl there

  contains-filter : (p : A → Bool) (xs : List A) (x : A) → Contains xs x → p x ≡ true
      → Contains (filter p xs) x
  contains-filter p [] x there passes = absurd (Contains-nil x there)
  contains-filter p (y ∷ xs) x there passes =
      ⊎_elim
      (λ is. subst (λ b. Contains (cond b (y ∷ filter p xs) (filter p xs)) x)
      (sym (ap p is ∙ passes)) (subst (Contains (y ∷ filter p xs)) is
      (Contains-here y (filter p xs))))
      (λ later. let found = contains-filter p xs x later passes in
      elim (p y) as (λ b. Contains (cond b (y ∷ filter p xs) (filter p xs)) x)
      [ true ↦ Contains-later y (filter p xs) x found | false ↦ found ])
      (Contains-cases y xs x there)

  -- A filter contains what the list contains and the test passes.
  pub Contains-filter : (p : A → Bool) (xs : List A) (x : A) → Contains (filter p xs) x
      ↔ (Contains xs x × (p x ≡ true))
  Contains-filter p xs x = (filter-contains p xs x, λ both. contains-filter p xs x both.0 both.1)

  list_any-contains : (p : A → Bool) (xs : List A) → list_any p xs ≡ true → (x : A) × Contains xs x
      × (p x ≡ true)
  list_any-contains p [] one = absurd (false≢true one)
  list_any-contains p (x ∷ xs) one =
      ⊎_elim
      (λ passes. (x, Contains-here x xs, passes))
      (λ later. let found = list_any-contains p xs later in
      (found.0, Contains-later x xs found.0 found.1, found.2))
      (or_cases (p x) (list_any p xs) one)

  contains-list_any : (p : A → Bool) (xs : List A) (x : A) → Contains xs x → p x ≡ true
      → list_any p xs ≡ true
  contains-list_any p [] x there passes = absurd (Contains-nil x there)
  contains-list_any p (y ∷ xs) x there passes =
      ⊎_elim
      (λ is. or_left (p y) (list_any p xs) (ap p is ∙ passes))
      (λ later. or_right (p y) (list_any p xs) (contains-list_any p xs x later passes))
      (Contains-cases y xs x there)

  -- Some element passes exactly where the list contains one that does.
  pub list_any-is : (p : A → Bool) (xs : List A) → (list_any p xs ≡ true)
      ↔ ((x : A) × Contains xs x × (p x ≡ true))
  list_any-is p xs =
      (list_any-contains p xs, λ found. contains-list_any p xs found.0 found.1 found.2)

module _ {A B : Type 0} where
  pub Contains-map : (f : A → B) (xs : List A) (x : A) → Contains xs x → Contains (map f xs) (f x)
  Contains-map f [] x there = absurd (Contains-nil x there)
  Contains-map f (y ∷ xs) x there =
      ⊎_elim
      (λ is. subst (λ z. Contains (map f (y ∷ xs)) (f z)) is (Contains-here (f y) (map f xs)))
      (λ later. Contains-later (f y) (map f xs) (f x) (Contains-map f xs x later))
      (Contains-cases y xs x there)

  filter_map-contains : (h : A → Option B) (xs : List A) (y : B) → Contains (filter_map h xs) y
      → (x : A) × Contains xs x × (h x ≡ Some y)
  filter_map-contains h [] y there = absurd (Contains-nil y there)
  filter_map-contains h (x ∷ xs) y there =
      elim (h x) as (λ o. h x ≡ o → Contains (cons_option o (filter_map h xs)) y
      → (a : A) × Contains (x ∷ xs) a × (h a ≡ Some y)) [
        | None ↦ λ is there. let found = filter_map-contains h xs y there in
            (found.0, Contains-later x xs found.0 found.1, found.2)
        | Some z ↦ λ is there. ⊎_elim
            (λ same. (x, Contains-here x xs, is ∙ ap (λ v. Some v) same))
            (λ later. let found = filter_map-contains h xs y later in
            (found.0, Contains-later x xs found.0 found.1, found.2))
            (Contains-cases z (filter_map h xs) y there)
      ] refl there

  contains-filter_map : (h : A → Option B) (xs : List A) (x : A) (y : B) → Contains xs x
      → h x ≡ Some y → Contains (filter_map h xs) y
  contains-filter_map h [] x y there is = absurd (Contains-nil x there)
  contains-filter_map h (a ∷ xs) x y there is =
      ⊎_elim
      (λ same. subst (λ o. Contains (cons_option o (filter_map h xs)) y) (sym (ap h same ∙ is))
      (Contains-here y (filter_map h xs)))
      (λ later. let found = contains-filter_map h xs x y later is in
      elim (h a) as (λ o. Contains (cons_option o (filter_map h xs)) y)
      [ None ↦ found | Some z ↦ Contains-later z (filter_map h xs) y found ])
      (Contains-cases a xs x there)

  -- What a partial function gives of a list contains what it gives of an element.
  pub Contains-filter_map : (h : A → Option B) (xs : List A) (y : B) → Contains (filter_map h xs) y
      ↔ ((x : A) × Contains xs x × (h x ≡ Some y))
  Contains-filter_map h xs y =
      (filter_map-contains h xs y, λ found. contains-filter_map h xs found.0 y found.1 found.2)

pub T-true : (b : Bool) → T b → b ≡ true
T-true true holds = refl
T-true false holds = absurd holds

same_Some : {X : Type 0} (x y : X) → Some x ≡ Some y → x ≡ y
same_Some x y is = ap (λ o. unwrap_or o x) is

lt-eq : (r : Ordering) → is_lt r ≡ true → is_eq r ≡ true → ⊥
lt-eq Less less equal = false≢true equal
lt-eq Equal less equal = false≢true less
lt-eq Greater less equal = false≢true less

-- Keys that tie are equal.
pub tied : {K : Type 0} {R : K → K → Ordering} → finite.IsAntisymmetric R → (q k : K)
    → eq_by_cmp R q k ≡ true → q ≡ k
tied {R = R} same q k is = same q k ((Equal-is (R q k)).0 is)

module _ {K X : Type 0} {R : K → K → Ordering} (o : IsTotalOrder R)
    (same : finite.IsAntisymmetric R) where
  -- A key below all of a list is below each that it contains.
  pub below-contains : (key : K) (entries : List (K × X)) → below_all R key entries ≡ true
      → (entry : K × X) → Contains entries entry → is_lt (R key entry.0) ≡ true
  below-contains key [] below entry there = absurd (Contains-nil entry there)
  below-contains key (first ∷ rest) below entry there =
      let parts = and_parts (is_lt (R key first.0)) (below_all R key rest) below in
      ⊎_elim (λ is. ap (λ e. is_lt (R key e.0)) (sym is) ∙ parts.0)
      (below-contains key rest parts.1 entry) (Contains-cases first rest entry there)

  -- Entries in order contain what is found in them, and no other.
  pub contains-find : (entries : List (K × X)) → is_sorted R entries ≡ true → (key : K) (x : X)
      → Contains entries (key, x) → find R key entries ≡ Some x
  contains-find [] sorted key x there = absurd (Contains-nil (key, x) there)
  contains-find (first ∷ rest) sorted key x there =
      let parts = and_parts (below_all R first.0 rest) (is_sorted R rest) sorted in
      ⊎_elim
      (λ is. ap (λ e. find R key (e ∷ rest)) is
      ∙ ap (λ r. cond (is_eq r) (Some x) (find R key rest)) (tied_itself o key))
      (λ later.
      elim (eq_by_cmp R key first.0) as (λ t. eq_by_cmp R key first.0 ≡ t
      → cond t (Some first.1) (find R key rest) ≡ Some x) [
        | true ↦ λ is. absurd (lt-eq (R first.0 key)
            (below-contains first.0 rest parts.0 (key, x) later)
            (ap (λ k. is_eq (R first.0 k)) (tied same key first.0 is)
            ∙ ap is_eq (tied_itself o first.0)))
        | false ↦ λ _. contains-find rest parts.1 key x later
      ] refl)
      (Contains-cases first rest (key, x) there)

  pub find-contains : (entries : List (K × X)) (key : K) (x : X) → find R key entries ≡ Some x
      → Contains entries (key, x)
  find-contains [] key x is = absurd (false≢true (ap is_some is))
  find-contains (first ∷ rest) key x is =
      elim (eq_by_cmp R key first.0) as (λ t. eq_by_cmp R key first.0 ≡ t
      → cond t (Some first.1) (find R key rest) ≡ Some x → Contains (first ∷ rest) (key, x)) [
        | true ↦ λ tie here.
            let entry : ◌≡◌ {A = K × X} first (key, x) =
            λ i. (sym (tied same key first.0 tie) i, same_Some first.1 x here i) in
            subst (Contains (first ∷ rest)) entry (Contains-here first rest)
        | false ↦ λ _ later. Contains-later first rest (key, x) (find-contains rest key x later)
      ] refl is

  -- The entries of a map contain a pair exactly where the map has the value at the key.
  pub Contains-entries : (m : finite.FinMap R X) (key : K) (x : X)
      → Contains (finite.entries m) (key, x) ↔ (finite.get m key ≡ Some x)
  Contains-entries m key x = (
    λ there. finite.get-entries m key
        ∙ contains-find (finite.entries m) (T-true _ (finite.entries_sorted m)) key x there,
    λ is. find-contains (finite.entries m) key x (sym (finite.get-entries m key) ∙ is),
  )
