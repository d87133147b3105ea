-- Maps with one key set, and what a call that sets a key or takes it out leaves.
use Rattle.std.proofs.Common.{◌≡◌, ℕ, Bool, true, false, cond, List, [], ◌∷◌, ◌++◌, Option, Some, None, is_some, refl, sym, ap, subst, ◌∙◌, ⊎_elim, arith}
use Rattle.std.specs.Prelude.{Contains}
use Rattle.std.specs.Cmp.{tied_itself}
use Rattle.std.specs.Ordering.{eq_by_cmp, is_eq}
use Rattle.std.specs.FinMap as finite
use Rattle.std.proofs.lemmas.Cmp.{nat_list_cmp_total}
use Rattle.std.proofs.lemmas.List.Elements.{Contains-append_right}
use Rattle.rart_below.specs.Bytes.{byte_order}
use Rattle.rart_maps.specs.Changes.{after_removal}
use Rattle.rart_maps.specs.FoundLaws.{KeysAscend}
use Rattle.rart_maps.specs.Lookups.{with_value}
use Rattle.rart_maps.specs.Order.{IsBefore}
use Rattle.rart_maps.specs.Versions.{Map, Version, has_key, with_key, without_key}
use Rattle.rart_maps.proofs.ElementLemmas.{AllPairs-first, AllPairs-rest, Contains-cases, Contains-here, Contains-later, Contains-nil}
use Rattle.rart_maps.proofs.OrderLemmas.{IsBefore-itself, byte_order-IsAntisymmetric}
use Rattle.rart_maps.proofs.VersionLemmas.{same_key}
use Rattle.rart_maps.specs.ChangeLists.{Change, patched}
use Rattle.rart_changes.specs.Setting.{IsSetTo}

-- A key of an ascending list is none of those before it.
pub apart-before : {A : Type 0} (key : A → List ℕ) (front : List A) (x : A) (rest : List A)
    → KeysAscend key (front ++ x ∷ rest) → (y : A) → Contains front y → key x ≡ key y → ⊥
apart-before key [] x rest ascends y there same = Contains-nil y there
apart-before key (z ∷ front) x rest ascends y there same =
    ⊎_elim
    (λ is. IsBefore-itself (key y) (subst (IsBefore (key y)) same
    (subst (λ e. IsBefore (key e) (key x)) is
    (AllPairs-first (λ a b. IsBefore (key a) (key b)) z (front ++ x ∷ rest) ascends x
    (Contains-append_right front (x ∷ rest) x (Contains-here x rest))))))
    (λ later. apart-before key front x rest
    (AllPairs-rest (λ a b. IsBefore (key a) (key b)) z (front ++ x ∷ rest) ascends) y later same)
    (Contains-cases z front y there)

module _ {V : Type 0} where
  pub get-with_value : (m : Map V) (w : List ℕ) (value : Option V) (q : List ℕ)
      → finite.get (with_value m w value) q
      ≡ cond (eq_by_cmp byte_order q w) value (finite.get m q)
  get-with_value m w None q = finite.get-remove nat_list_cmp_total m w q
  get-with_value m w (Some x) q = finite.get-insert nat_list_cmp_total m w x q

  pub get-with_value-itself : (m : Map V) (w : List ℕ) (value : Option V)
      → finite.get (with_value m w value) w ≡ value
  get-with_value-itself m w value =
      get-with_value m w value w
      ∙ ap (λ r. cond (is_eq r) value (finite.get m w)) (tied_itself nat_list_cmp_total w)

  pub get-with_value-other : (m : Map V) (w : List ℕ) (value : Option V) (q : List ℕ)
      → (w ≡ q → ⊥) → finite.get (with_value m w value) q ≡ finite.get m q
  get-with_value-other m w value q apart =
      get-with_value m w value q
      ∙ elim (eq_by_cmp byte_order q w) as (λ t. eq_by_cmp byte_order q w ≡ t
      → cond t value (finite.get m q) ≡ finite.get m q) [
        | true ↦ λ same. absurd (apart (sym (same_key q w same)))
        | false ↦ λ _. refl
      ] refl

  same-by-get : (m n : Map V) → ((q : List ℕ) → finite.get m q ≡ finite.get n q) → m ≡ n
  same-by-get m n same = finite.same_map nat_list_cmp_total byte_order-IsAntisymmetric m n same

  -- What is set twice has what it was set to last,
  pub with_value-again : (m : Map V) (w : List ℕ) (x y : Option V)
      → with_value (with_value m w x) w y ≡ with_value m w y
  with_value-again m w x y =
      same-by-get (with_value (with_value m w x) w y) (with_value m w y) (λ q.
      get-with_value (with_value m w x) w y q
      ∙ ap (cond (eq_by_cmp byte_order q w) y) (get-with_value m w x q)
      ∙ elim (eq_by_cmp byte_order q w) as (λ t. cond t y (cond t x (finite.get m q))
      ≡ cond t y (finite.get m q)) [ true ↦ refl | false ↦ refl ]
      ∙ sym (get-with_value m w y q))

  -- two keys are set in either order,
  with_value-swap : (m : Map V) (w u : List ℕ) (x y : Option V) → (w ≡ u → ⊥)
      → with_value (with_value m w x) u y ≡ with_value (with_value m u y) w x
  with_value-swap m w u x y apart =
      same-by-get (with_value (with_value m w x) u y) (with_value (with_value m u y) w x) (λ q.
      get-with_value (with_value m w x) u y q
      ∙ ap (cond (eq_by_cmp byte_order q u) y) (get-with_value m w x q)
      ∙ swapped q (eq_by_cmp byte_order q w) (eq_by_cmp byte_order q u) refl refl
      ∙ ap (cond (eq_by_cmp byte_order q w) x) (sym (get-with_value m u y q))
      ∙ sym (get-with_value (with_value m u y) w x q))
    where
      swapped : (q : List ℕ) (s t : Bool) → eq_by_cmp byte_order q w ≡ s
          → eq_by_cmp byte_order q u ≡ t
          → cond t y (cond s x (finite.get m q)) ≡ cond s x (cond t y (finite.get m q))
      swapped q true true a b = absurd (apart (sym (same_key q w a) ∙ same_key q u b))
      swapped q true false a b = refl
      swapped q false true a b = refl
      swapped q false false a b = refl

  -- and a key before or after changes of others.
  pub patched-with_value : (cs : List (Change V)) (m : Map V) (w : List ℕ) (x : Option V)
      → ((c : Change V) → Contains cs c → w ≡ c.0 → ⊥)
      → patched (with_value m w x) cs ≡ with_value (patched m cs) w x
  patched-with_value [] m w x apart = refl
  patched-with_value (c ∷ cs) m w x apart =
      ap (λ n. patched n cs) (with_value-swap m w c.0 x c.2 (apart c (Contains-here c cs)))
      ∙ patched-with_value cs (with_value m c.0 c.2) w x
      (λ d there. apart d (Contains-later c cs d there))

  pub patched-append : (m : Map V) (xs ys : List (Change V))
      → patched m (xs ++ ys) ≡ patched (patched m xs) ys
  patched-append m [] ys = refl
  patched-append m (x ∷ xs) ys = patched-append (with_value m x.0 x.2) xs ys

  not_some-is_None : (o : Option V) → is_some o ≡ false → None ≡ o
  not_some-is_None None not = refl
  not_some-is_None (Some x) not = absurd (cc not)

  -- A map without a key is the map without it.
  removed-absent : (m : Map V) (w : List ℕ) → is_some (finite.get m w) ≡ false
      → finite.remove m w ≡ m
  removed-absent m w absent =
      same-by-get (finite.remove m w) m (λ q.
      finite.get-remove nat_list_cmp_total m w q
      ∙ elim (eq_by_cmp byte_order q w) as (λ t. eq_by_cmp byte_order q w ≡ t
      → cond t None (finite.get m q) ≡ finite.get m q) [
        | true ↦ λ same. not_some-is_None (finite.get m q)
            (ap (λ u. is_some (finite.get m u)) (same_key q w same) ∙ absent)
        | false ↦ λ _. refl
      ] refl)

  pub set-by-insertion : (before after : Version V) (w : List ℕ) (x : V)
      → after ≡ with_key before w x 1 → IsSetTo before w (Some x) after
  set-by-insertion before after w x is =
      subst (IsSetTo before w (Some x)) (sym is) (record { content = refl; number = refl })

  deleted : (before : Version V) (w : List ℕ) (there : Bool) → has_key before w ≡ there
      → IsSetTo before w None (cond there (without_key before w 1) before)
  deleted before w true is =
      record {
        content = refl;
        number = let one = ap {B = ℕ} (λ there. cond there 1 0) is in omega (arith, one);
      }
  deleted before w false is =
      record {
        content = sym (removed-absent before.content w is);
        number = let none = ap {B = ℕ} (λ there. cond there 1 0) is in omega (arith, none);
      }

  pub set-by-deletion : (before after : Version V) (w : List ℕ) → after ≡ after_removal before w
      → IsSetTo before w None after
  set-by-deletion before after w is =
      subst (IsSetTo before w None) (sym is) (deleted before w (has_key before w) refl)
