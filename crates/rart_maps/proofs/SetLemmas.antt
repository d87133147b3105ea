-- Finite sets: what a test keeps of one, and how many that is.
use Rattle.std.proofs.Common.{◌≡◌, ◌≤◌, ◌+◌, ◌-◌, ℕ, length, not, Bool, true, false, cond, ◌&&◌, ◌||◌, List, [], ◌∷◌, refl, sym, ap, subst, ◌∙◌, ⊎_elim, arith}
use Rattle.std.specs.Prelude.{Contains, count_by}
use Rattle.std.specs.declared.cmp.Ordering.{Ordering}
use Rattle.std.specs.Ordering.{eq_by_cmp, is_eq}
use Rattle.std.specs.Cmp.{IsTotalOrder, Equal-is, tied_itself}
use Rattle.std.specs.FinSet as set
use Rattle.std.proofs.lemmas.Bool.{and_parts, false≢true}
use Rattle.std.proofs.lemmas.List.Sums.{sum_by-cons, sum_by-le-sum_by}
use Rattle.rart_maps.proofs.ElementLemmas.{Contains-nil, Contains-cases}

-- what a test keeps of a set with one more element, as the set's own test says it
kept_more : (tie there keeps first : Bool) → (tie ≡ true → keeps ≡ first)
    → ((tie || there) && keeps) ≡ cond first (tie || (there && keeps)) (there && keeps)
kept_more true there keeps true same = same refl
kept_more true true keeps false same = refl
kept_more true false keeps false same = same refl
kept_more false there keeps true same = refl
kept_more false there keeps false same = refl

module _ {K : Type 0} {R : K → K → Ordering} (o : IsTotalOrder R)
    (same : set.IsAntisymmetric R) where
  -- A test keeps of a set what is there and passes.
  pub contains-kept : (s : set.FinSet R) (p : K → Bool) (q : K)
      → set.contains (set.retain s p) q ≡ (set.contains s q && p q)
  contains-kept s p q = set.contains-retain s p q (λ x tie. ap p (sym (same q x tie)))

  pub retain-empty : (p : K → Bool) → set.retain (set.empty {R = R}) p ≡ set.empty
  retain-empty p =
      set.same_set o same _ _ (λ q. contains-kept set.empty p q
      ∙ ap (λ b. b && p q) (set.contains-empty R q) ∙ sym (set.contains-empty R q))

  contains-cond : (b : Bool) (s t : set.FinSet R) (q : K)
      → set.contains (cond b s t) q ≡ cond b (set.contains s q) (set.contains t q)
  contains-cond true s t q = refl
  contains-cond false s t q = refl

  pub retain-insert : (s : set.FinSet R) (k : K) (p : K → Bool)
      → set.retain (set.insert s k) p ≡ cond (p k) (set.insert (set.retain s p) k) (set.retain s p)
  retain-insert s k p =
      set.same_set o same _ _ (λ q.
      contains-kept (set.insert s k) p q
      ∙ ap (λ b. b && p q) (set.contains-insert o s k q)
      ∙ kept_more (eq_by_cmp R q k) (set.contains s q) (p q) (p k)
      (λ tie. ap p (same q k ((Equal-is (R q k)).0 tie)))
      ∙ (λ i. cond (p k) (eq_by_cmp R q k || sym (contains-kept s p q) i)
      (sym (contains-kept s p q) i))
      ∙ ap (λ b. cond (p k) b (set.contains (set.retain s p) q))
      (sym (set.contains-insert o (set.retain s p) k q))
      ∙ sym (contains-cond (p k) (set.insert (set.retain s p) k) (set.retain s p) q))

  pub met_kept : (s t : set.FinSet R) → set.intersection s t ≡ set.retain s (set.contains t)
  met_kept s t =
      set.same_set o same _ _ (λ q. set.contains-intersection o s t q
      ∙ sym (contains-kept s (set.contains t) q))

  pub intersection-empty : (t : set.FinSet R) → set.intersection set.empty t ≡ set.empty
  intersection-empty t = met_kept set.empty t ∙ retain-empty (set.contains t)

  pub intersection-insert : (s t : set.FinSet R) (k : K)
      → set.intersection (set.insert s k) t
      ≡ cond (set.contains t k) (set.insert (set.intersection s t) k) (set.intersection s t)
  intersection-insert s t k =
      met_kept (set.insert s k) t
      ∙ retain-insert s k (set.contains t)
      ∙ (λ i. cond (set.contains t k) (set.insert (sym (met_kept s t) i) k) (sym (met_kept s t) i))

  -- to insert what is there changes nothing
  pub insert_again : (s : set.FinSet R) (k : K) → set.contains s k ≡ true → set.insert s k ≡ s
  insert_again s k there =
      set.same_set o same _ _ (λ q.
      set.contains-insert o s k q
      ∙ elim (eq_by_cmp R q k) as (λ t. eq_by_cmp R q k ≡ t
      → (t || set.contains s q) ≡ set.contains s q) [
        | true ↦ λ tie. sym (ap (set.contains s) (same q k ((Equal-is (R q k)).0 tie)) ∙ there)
        | false ↦ λ _. refl
      ] refl)

  -- the elements of the list, each where it stands last
  abbrev each_once : List K → List K
  each_once [] = []
  each_once (k ∷ ks) =
      cond (set.contains (set.from_list {R = R} ks) k) (each_once ks) (k ∷ each_once ks)

  count-each_once : (ks : List K) (p : K → Bool)
      → set.len (set.retain (set.from_list {R = R} ks) p) ≡ count_by p (each_once ks)
  count-each_once [] p = ap set.len (retain-empty p) ∙ set.len-empty R
  count-each_once (k ∷ ks) p =
      let more = count-each_once ks p in
      let s : set.FinSet R = set.from_list ks in
      elim (set.contains s k) as (λ t. set.contains s k ≡ t
      → set.len (set.retain (set.insert s k) p)
      ≡ count_by p (cond t (each_once ks) (k ∷ each_once ks))) [
        | true ↦ λ there. ap (λ t. set.len (set.retain t p)) (insert_again s k there) ∙ more
        | false ↦ λ missing.
            ap set.len (retain-insert s k p)
            ∙ elim (p k) as (λ b. set.len (cond b (set.insert (set.retain s p) k) (set.retain s p))
            ≡ cond b 1 0 + count_by p (each_once ks)) [
              | true ↦ set.len-insert o (set.retain s p) k
                  ∙ ap (λ t. cond t (set.len (set.retain s p)) (set.len (set.retain s p) + 1))
                  (contains-kept s p k ∙ ap (λ b. b && p k) missing)
                  ∙ omega (arith, more)
              | false ↦ omega (arith, more)
            ]
            ∙ sym (sum_by-cons (λ x. cond (p x) 1 0) k (each_once ks))
      ] refl

  each_once-there : (ks : List K) (k : K) → Contains (each_once ks) k
      → set.contains (set.from_list {R = R} ks) k ≡ true
  each_once-there [] k there = absurd (Contains-nil k there)
  each_once-there (x ∷ ks) k there =
      set.contains-insert o (set.from_list {R = R} ks) x k
      ∙ elim (set.contains (set.from_list {R = R} ks) x)
      as (λ t. Contains (cond t (each_once ks) (x ∷ each_once ks)) k
      → (eq_by_cmp R k x || set.contains (set.from_list {R = R} ks) k) ≡ true) [
        | true ↦ λ there. later_or (eq_by_cmp R k x) (each_once-there ks k there)
        | false ↦ λ there. ⊎_elim
            (λ is. ap (λ r. is_eq r || set.contains (set.from_list {R = R} ks) k)
            (ap (R k) is ∙ tied_itself o k))
            (λ later. later_or (eq_by_cmp R k x) (each_once-there ks k later))
            (Contains-cases x (each_once ks) k there)
      ] there
    where
      later_or : (b : Bool) {c : Bool} → c ≡ true → (b || c) ≡ true
      later_or true is = refl
      later_or false is = is

  listed : (s : set.FinSet R) → s ≡ set.from_list (set.items s)
  listed s =
      set.same_set o same _ _ (λ q. set.contains-items s q
      ∙ sym (set.contains-from_list o (set.items s) q))

  -- the elements of a set, each once
  pub elements : set.FinSet R → List K
  elements s = each_once (set.items s)

  -- As many pass a test as it keeps.
  pub len-retain : (s : set.FinSet R) (p : K → Bool)
      → set.len (set.retain s p) ≡ count_by p (elements s)
  unfolding elements
  len-retain s p = ap (λ t. set.len (set.retain t p)) (listed s) ∙ count-each_once (set.items s) p

  -- A weaker test keeps no fewer.
  pub len-retain-weaker : (s : set.FinSet R) (p q : K → Bool) → ((k : K) → p k ≡ true → q k ≡ true)
      → set.len (set.retain s p) ≤ set.len (set.retain s q)
  len-retain-weaker s p q weaker =
      let few = len-retain s p in
      let many = len-retain s q in
      let fewer = sum_by-le-sum_by (λ k. cond (p k) 1 0) (λ k. cond (q k) 1 0) (elements s) (λ k.
      elim (p k) as (λ b. p k ≡ b → cond b 1 0 ≤ cond (q k) 1 0) [
        | true ↦ λ is. subst (λ b. 1 ≤ cond b 1 0) (sym (weaker k is)) (omega arith)
        | false ↦ λ _. omega arith
      ] refl) in
      omega (arith, few, many, fewer)

  -- Each of the elements is in the set.
  pub Contains-elements : (s : set.FinSet R) (k : K) → Contains (elements s) k
      → set.contains s k ≡ true
  unfolding elements
  Contains-elements s k there =
      ap (λ t. set.contains t k) (listed s) ∙ each_once-there (set.items s) k there

  -- A set has no more elements than a list that has them all.
  pub few-listed : (list : List K) (s : set.FinSet R)
      → ((k : K) → set.contains s k ≡ true → Contains list k) → set.len s ≤ length list
  few-listed [] s all =
      let none =
      ap set.len (set.same_set o same s set.empty (λ q. nothing (set.contains s q) (all q)
      ∙ sym (set.contains-empty R q))) in
      let zero = set.len-empty R in
      omega (arith, none, zero)
    where
      nothing : {q : K} (b : Bool) → (b ≡ true → Contains [] q) → b ≡ false
      nothing true there = absurd (Contains-nil _ (there refl))
      nothing false there = refl
  few-listed (k ∷ list) s all =
      let others = few-listed list (set.remove s k) (λ q there.
      let parts = and_parts (not (eq_by_cmp R q k)) (set.contains s q)
      (sym (set.contains-remove o s k q) ∙ there) in
      ⊎_elim
      (λ is. absurd (false≢true (sym (ap not (ap (λ x. is_eq (R x k)) (sym is)
      ∙ ap is_eq (tied_itself o k))) ∙ parts.0)))
      (λ later. later)
      (Contains-cases k list q (all q parts.1))) in
      let one = one-less (set.contains s k) (set.len s) (set.len (set.remove s k))
      (set.len-remove o s k) in
      omega (arith, others, one)
    where
      one-less : (b : Bool) (n m : ℕ) → m ≡ cond b (n - 1) n → n ≤ m + 1
      one-less true n m is = omega (arith, is)
      one-less false n m is = omega (arith, is)
