-- What changes make of a tracked version.
use Rattle.std.proofs.Common.{◌≡◌, ◌≢◌, ◌+◌, ◌-◌, ◌≤◌, ◌⊎◌, ⊎_elim, inl, inr, ℕ, Bool, true, false, cond, List, Option, Some, None, refl, sym, ap, subst, ◌∙◌, map, arith, is_some}
use Rattle.std.specs.Borrow.{Bor}
use Rattle.std.specs.Cmp.{tied_itself}
use Rattle.std.specs.FinMap as finite
use Rattle.std.specs.FinSet as set
use Rattle.std.specs.Prelude.{Contains}
use Rattle.std.specs.Option.{option_copied}
use Rattle.std.specs.Ordering.{eq_by_cmp, is_eq}
use Rattle.std.proofs.lemmas.Bool.{false≢true}
use Rattle.std.proofs.lemmas.List.{length-map}
use Rattle.std.proofs.lemmas.Cmp.{nat_list_cmp_total}
use Rattle.rart_below.specs.Bytes.{byte_order}
use Rattle.rart_maps.specs.Changes.{after_removal}
use Rattle.rart_maps.specs.Lookups.{Sets}
use Rattle.rart_maps.specs.Pairs.{Strings, pairs}
use Rattle.rart_maps.specs.Versions.{HasRoom, Map, Version, empty_at, has_key, value_at, with_key, without_key}
use Rattle.rart_maps.proofs.ElementLemmas.{Contains-map}
use Rattle.rart_maps.proofs.OrderLemmas.{byte_order-IsAntisymmetric}
use Rattle.rart_maps.proofs.FoundLemmas.{Contains-pairs, pairs_ascend_by_key}
use Rattle.rart_maps.proofs.PointLemmas.{in-list, key-pair, len-ascending, map-contains}
use Rattle.rart_maps.proofs.SetLemmas.{few-listed}
use Rattle.rart_maps.proofs.VersionLemmas.{same_key}
use Rattle.rart_changes.specs.Asks.{CanMark}
use Rattle.rart_changes.specs.Tracking.{is_in, listed, no_key, with_string, IsKnown, IsMarked, Keeps}

-- whether a string is in a set with one more
is_in-with : (keys : Strings) (w q : List ℕ)
    → finite.get (with_string keys w) q
    ≡ cond (eq_by_cmp byte_order q w) (Some tt) (finite.get keys q)
is_in-with keys w q = finite.get-insert nat_list_cmp_total keys w tt q

some-unit : (o : Option (Unit {0})) → is_some o ≡ true → Some tt ≡ o
some-unit None is = absurd (false≢true is)
some-unit (Some unit) is = refl

-- A set that has the string is it with the string.
pub with-again : (keys : Strings) (w : List ℕ) → is_in keys w ≡ true → with_string keys w ≡ keys
with-again keys w is =
    finite.same_map nat_list_cmp_total byte_order-IsAntisymmetric _ _ (λ q.
    is_in-with keys w q
    ∙ elim (eq_by_cmp byte_order q w) as (λ t. eq_by_cmp byte_order q w ≡ t
    → cond t (Some tt) (finite.get keys q) ≡ finite.get keys q) [
      | true ↦ λ same. some-unit (finite.get keys q)
          (ap (λ u. is_in keys u) (same_key q w same) ∙ is)
      | false ↦ λ _. refl
    ] refl)

-- What is not in the set with one more is another string, and not in the set.
not-in-with : (keys : Strings) (w q : List ℕ) → is_in (with_string keys w) q ≡ false
    → (q ≢ w) × (is_in keys q ≡ false)
not-in-with keys w q not =
    let is : is_some (cond (eq_by_cmp byte_order q w) (Some tt) (finite.get keys q)) ≡ false =
    ap is_some (sym (is_in-with keys w q)) ∙ not in
    elim (eq_by_cmp byte_order q w) as (λ t. eq_by_cmp byte_order q w ≡ t
    → is_some (cond t (Some tt) (finite.get keys q)) ≡ false
    → (q ≢ w) × (is_in keys q ≡ false)) [
      | true ↦ λ same some. absurd (false≢true (sym some))
      | false ↦ λ apart none. (
        λ same. false≢true (sym apart ∙ ap (λ u. eq_by_cmp byte_order q u) (sym same)
            ∙ ap is_eq (tied_itself nat_list_cmp_total q)),
        none,
      )
    ] refl is

-- What is in the set with one more is that one, or in the set.
pub in-with : (keys : Strings) (w q : List ℕ) → is_in (with_string keys w) q ≡ true
    → (q ≡ w) ⊎ (is_in keys q ≡ true)
in-with keys w q there =
    let is : is_some (cond (eq_by_cmp byte_order q w) (Some tt) (finite.get keys q)) ≡ true =
    ap is_some (sym (is_in-with keys w q)) ∙ there in
    elim (eq_by_cmp byte_order q w) as (λ t. eq_by_cmp byte_order q w ≡ t
    → is_some (cond t (Some tt) (finite.get keys q)) ≡ true → (q ≡ w) ⊎ (is_in keys q ≡ true)) [
      | true ↦ λ same some. inl (same_key q w same)
      | false ↦ λ apart some. inr some
    ] refl is

-- What is in the set without one is another string, and in the set.
in-without : (keys : Strings) (w q : List ℕ) → is_in (finite.remove keys w) q ≡ true
    → (q ≢ w) × (is_in keys q ≡ true)
in-without keys w q there =
    let is : is_some (cond (eq_by_cmp byte_order q w) None (finite.get keys q)) ≡ true =
    ap is_some (sym (finite.get-remove nat_list_cmp_total keys w q)) ∙ there in
    elim (eq_by_cmp byte_order q w) as (λ t. eq_by_cmp byte_order q w ≡ t
    → is_some (cond t None (finite.get keys q)) ≡ true → (q ≢ w) × (is_in keys q ≡ true)) [
      | true ↦ λ same some. absurd (false≢true some)
      | false ↦ λ apart some. (
        λ same. false≢true (sym apart ∙ ap (λ u. eq_by_cmp byte_order q u) (sym same)
            ∙ ap is_eq (tied_itself nat_list_cmp_total q)),
        some,
      )
    ] refl is

-- A set without one string has one less at most.
one-less : (keys : Strings) (w : List ℕ)
    → finite.len keys ≤ finite.len (finite.remove keys w) + 1
one-less keys w =
    less-by (is_in keys w) _ _ (finite.len-remove nat_list_cmp_total keys w)
  where
    less-by : (b : Bool) (n m : ℕ) → m ≡ cond b (n - 1) n → n ≤ m + 1
    less-by true n m is = omega (arith, is)
    less-by false n m is = omega (arith, is)

-- A key that is listed is in the set.
pub listed-in : (keys : Strings) (q : List ℕ) → Contains (listed keys) q → is_in keys q ≡ true
listed-in keys q there =
    let found = map-contains (λ (pair : List ℕ × Unit {0}). pair.0) (pairs keys) q there in
    ap (is_in keys) (sym found.2)
    ∙ ap is_some ((Contains-pairs keys found.0.0 tt).0 found.1)

-- In the empty set is none.
pub nothing-in : (q : List ℕ) → is_in no_key q ≡ true → ⊥
nothing-in q there =
    false≢true (ap is_some (sym (finite.get-empty byte_order q)) ∙ there)

-- A reference is there where its value is.
pub copied-some : {A : Type 0} (o : Option (Bor A)) → is_some o ≡ is_some (option_copied o)
copied-some None = refl
copied-some (Some x) = refl

-- A key more is one more.
pub one-more : (v after : Version (Unit {0})) (w : List ℕ) → v.number ≡ finite.len v.content
    → has_key v w ≡ false → after ≡ with_key v w tt 1 → after.number ≡ finite.len after.content
one-more v after w counted absent is =
    ap (λ (u : Version (Unit {0})). u.number) is ∙ ap (λ n. n + 1) counted
    ∙ sym (ap (λ (u : Version (Unit {0})). finite.len u.content) is
    ∙ finite.len-insert nat_list_cmp_total v.content w tt
    ∙ ap (λ t. cond t (finite.len v.content) (finite.len v.content + 1)) absent)

module _ {V : Type 0} where
  -- The removal of a key that is there raises the number by one.
  pub removal-number : (v after : Version V) (w : List ℕ) → has_key v w ≡ true
      → after ≡ after_removal v w → after.number ≡ v.number + 1
  removal-number v after w there is =
      ap (λ (u : Version V). u.number) is
      ∙ ap (λ t. (cond t (without_key v w 1) v).number) there

  -- Strings that are keys of a map are at most as many as these.
  pub keys-few : (m : Map V) (keys : Strings)
      → ((q : List ℕ) → is_in keys q ≡ true → finite.contains_key m q ≡ true)
      → finite.len keys ≤ finite.len m
  keys-few m keys within =
      let list = map (λ (pair : List ℕ × Unit {0}). pair.0) (pairs keys) in
      let few = few-listed nat_list_cmp_total byte_order-IsAntisymmetric
      (map (λ pair. pair.0) (pairs m)) (set.from_list {R = byte_order} list) (λ q there.
      let pair = key-pair m q (within q (listed-in keys q ((in-list list q).0 there))) in
      Contains-map (λ (pair : List ℕ × V). pair.0) (pairs m) (q, pair.0) pair.1) in
      let count = len-ascending (pairs keys) (pairs_ascend_by_key (Unit {0}) keys) in
      let all = finite.len-entries keys in
      let many = length-map (pairs m) (λ (pair : List ℕ × V). pair.0) in
      let every = finite.len-entries m in
      omega (arith, few, count, all, many, every)

  -- A version is its own base where no key is touched.
  pub keeps-begin : {base now : Version V} {touched : Version (Unit {0})} → base ≡ now
      → touched ≡ empty_at 0 → finite.len base.content ≤ base.number → Keeps base now touched
  keeps-begin {base} {now} {touched} same empty few = record {
    tracked = λ q not. ap (λ (v : Version V). value_at v q) (sym same);
    counted = ap (λ (t : Version (Unit {0})). t.number) empty
        ∙ sym (ap (λ (t : Version (Unit {0})). finite.len t.content) empty
        ∙ finite.len-empty byte_order (Unit {0}));
    known = λ keys each.
        let fewer = keys-few base.content keys (λ q there.
        ⊎_elim
        (λ touching. absurd (nothing-in q
        (ap (λ (t : Version (Unit {0})). is_in t.content q) (sym empty) ∙ touching)))
        (λ key. key)
        (each q there)) in
        let number = ap (λ (v : Version V). v.number) same in
        omega (arith, few, fewer, number);
  }

  -- No more keys are touched than the number says.
  pub touched-few : {base now : Version V} {touched : Version (Unit {0})} → Keeps base now touched
      → touched.number ≤ now.number
  touched-few {base} {now} {touched} keeps =
      let few = keeps.known touched.content (λ q there. inl there) in
      let counted = keeps.counted in
      omega (arith, few, counted)

  -- So one more can be, where there is room for a change.
  pub can-mark : {base now : Version V} {touched : Version (Unit {0})} → Keeps base now touched
      → HasRoom now 1 → CanMark touched
  can-mark {base} {now} {touched} keeps room =
      let few = touched-few keeps in
      record { room = omega (arith, few, room); counted = keeps.counted }

  -- A change of one key that touches it, and raises the number.
  pub keeps-raised : {base now after : Version V} {touched marked : Version (Unit {0})}
      (w : List ℕ) (value : Option V) → Keeps base now touched → Sets now after w value
      → marked.content ≡ with_string touched.content w
      → marked.number ≡ finite.len marked.content
      → now.number + 1 ≤ after.number → Keeps base after marked
  keeps-raised {base} {now} {after} {touched} {marked} w value keeps sets keys counted raised =
      record {
        tracked = λ q not.
            let apart = not-in-with touched.content w q
            (ap (λ (s : Strings). is_in s q) (sym keys) ∙ not) in
            sets.1 q apart.0 ∙ keeps.tracked q apart.1;
        counted = counted;
        known = λ known each.
            let others = keeps.known (finite.remove known w) (λ q there.
            let other = in-without known w q there in
            ⊎_elim
            (λ touching. ⊎_elim
            (λ same. absurd (other.0 same))
            (λ was. inl was)
            (in-with touched.content w q
            (ap (λ (s : Strings). is_in s q) (sym keys) ∙ touching)))
            (λ key. inr key)
            (each q other.1)) in
            let one = one-less known w in
            omega (arith, others, one, raised);
      }

  -- The same of one that raises it by one.
  pub keeps-touched : {base now after : Version V} {touched marked : Version (Unit {0})}
      (w : List ℕ) (value : Option V) → Keeps base now touched → Sets now after w value
      → marked.content ≡ with_string touched.content w
      → marked.number ≡ finite.len marked.content
      → after.number ≡ now.number + 1 → Keeps base after marked
  keeps-touched w value keeps sets keys counted number =
      keeps-raised w value keeps sets keys counted (omega (arith, number))

  -- One more key is touched, that is there, and the version stays. It was touched before, or is one
  -- of the base's.
  pub keeps-more : {base now : Version V} {touched marked : Version (Unit {0})} (w : List ℕ)
      → Keeps base now touched → has_key now w ≡ true → IsMarked touched w marked
      → Keeps base now marked
  keeps-more {base} {now} {touched} {marked} w keeps there is = record {
    tracked = λ q not. keeps.tracked q (not-in-with touched.content w q
        (ap (λ (s : Strings). is_in s q) (sym is.keys) ∙ not)).1;
    counted = is.counted;
    known = λ known each. keeps.known known (λ q among.
        ⊎_elim
        (λ touching. ⊎_elim
        (λ same. subst (IsKnown base touched.content) (sym same) was-known)
        (λ was. inl was)
        (in-with touched.content w q
        (ap (λ (s : Strings). is_in s q) (sym is.keys) ∙ touching)))
        (λ key. inr key)
        (each q among));
  }
    where
      was-known : IsKnown base touched.content w
      was-known = elim (is_in touched.content w) as (λ t. is_in touched.content w ≡ t
          → IsKnown base touched.content w) [
            | true ↦ λ was. inl was
            | false ↦ λ not. inr (sym (ap is_some (keeps.tracked w not)) ∙ there)
          ] refl
