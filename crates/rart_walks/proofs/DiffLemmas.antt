-- The changes between two lists of pairs, from one key to the next.
use Rattle.std.proofs.Common.{◌≡◌, ◌⊎◌, ℕ, Bool, true, false, cond, List, [], ◌∷◌, ◌++◌, Option, Some, None, length, refl, sym, ap, subst, ◌∙◌, ⊎_elim, inl, inr}
use Rattle.std.specs.Prelude.{Contains}
use Rattle.std.specs.List.{cons_option}
use Rattle.std.specs.Option.{is_some}
use Rattle.std.specs.Ordering.{eq_by_cmp, is_eq}
use Rattle.std.specs.Cmp.{tied_itself}
use Rattle.std.specs.FinMap as finite
use Rattle.std.specs.FinMap.Entries.{find}
use Rattle.std.proofs.lemmas.Bool.{false≢true}
use Rattle.std.proofs.lemmas.Cmp.{nat_list_cmp_total}
use Rattle.std.proofs.lemmas.List.Elements.{All-contains}
use Rattle.std.proofs.lemmas.List.Kept.{AllPairs-cons}
use Rattle.rart_below.specs.Bytes.{IsAdmitted, byte_order}
use Rattle.rart_maps.specs.FoundLaws.{KeysAscend}
use Rattle.rart_maps.specs.Order.{IsBefore}
use Rattle.rart_maps.proofs.ElementLemmas.{Contains-here, Contains-later, Contains-cases, All-from_contains}
use Rattle.rart_maps.proofs.FoundLemmas.{ascending_lists_are_fixed}
use Rattle.rart_maps.proofs.OrderLemmas.{IsBefore-itself}
use Rattle.rart_maps.proofs.VersionLemmas.{same_key}
use Rattle.rart_maps.specs.ChangeLists.{Change, differ, change_of}
use Rattle.rart_maps.proofs.ChangeLemmas.{nothing-in, changes-ascend, changes-from, changes-to, change_of-is}
use Rattle.rart_walks.specs.Walks.{pending_pair}
use Rattle.rart_walks.specs.Diffs.{AreAdmitted, AreBehind, Leads, changes_between, map_with}

module _ {A : Type 0} where
  first-or_later : (first : Option A) (xs : List A) (x : A) → Contains (cons_option first xs) x
      → (first ≡ Some x) ⊎ Contains xs x
  first-or_later None xs x there = inr there
  first-or_later (Some y) xs x there =
      ⊎_elim (λ is. inl (ap (λ z. Some z) is)) (λ later. inr later) (Contains-cases y xs x there)

  first-there : (first : Option A) (xs : List A) (x : A) → first ≡ Some x
      → Contains (cons_option first xs) x
  first-there first xs x is =
      subst (λ o. Contains (cons_option o xs) x) (sym is) (Contains-here x xs)

  later-there : (first : Option A) (xs : List A) (x : A) → Contains xs x
      → Contains (cons_option first xs) x
  later-there None xs x there = there
  later-there (Some y) xs x there = Contains-later y xs x there

  mid-there : (front : List A) (x : A) (rest : List A) → Contains (front ++ x ∷ rest) x
  mid-there [] x rest = Contains-here x rest
  mid-there (y ∷ front) x rest =
      Contains-later y (front ++ x ∷ rest) x (mid-there front x rest)

module _ {V : Type 0} where
  -- What is found is a pair with that key,
  find-there : (q : List ℕ) (pairs : List (List ℕ × V)) (x : V) → find byte_order q pairs ≡ Some x
      → (pair : List ℕ × V) × Contains pairs pair × (q ≡ pair.0)
  find-there q [] x is = absurd (false≢true (ap is_some is))
  find-there q (pair ∷ pairs) x is =
      elim (eq_by_cmp byte_order q pair.0)
      as (λ t. eq_by_cmp byte_order q pair.0 ≡ t
      → cond t (Some pair.1) (find byte_order q pairs) ≡ Some x
      → (found : List ℕ × V) × Contains (pair ∷ pairs) found × (q ≡ found.0)) [
        | true ↦ λ tie _. (pair, Contains-here pair pairs, same_key q pair.0 tie)
        | false ↦ λ _ later. let found = find-there q pairs x later in
            (found.0, Contains-later pair pairs found.0 found.1, found.2)
      ] refl is

  -- and so stands behind what all do.
  behind-found : (key : List ℕ) (pairs : List (List ℕ × V)) → AreBehind key pairs
      → (q : List ℕ) (x : V) → find byte_order q pairs ≡ Some x → IsBefore key q
  behind-found key pairs behind q x is =
      let found = find-there q pairs x is in
      subst (IsBefore key) (sym found.2)
      (All-contains (λ pair. IsBefore key pair.0) pairs found.0 behind found.1)

  -- A key before all is none of them.
  find-behind : (key : List ℕ) (pairs : List (List ℕ × V)) → AreBehind key pairs
      → find byte_order key pairs ≡ None
  find-behind key pairs behind =
      elim (find byte_order key pairs) as (λ o. find byte_order key pairs ≡ o → o ≡ None) [
        | None ↦ λ _. refl
        | Some x ↦ λ is. absurd (IsBefore-itself key (behind-found key pairs behind key x is))
      ] refl

  -- What is found where a key leads: the value there, and elsewhere what is left.
  find-leads : (key : List ℕ) (value : Option V) (after : List (List ℕ × V)) → AreBehind key after
      → (q : List ℕ) → find byte_order q (pending_pair key value ++ after)
      ≡ cond (eq_by_cmp byte_order q key) value (find byte_order q after)
  find-leads key (Some x) after behind q = refl
  find-leads key None after behind q =
      elim (eq_by_cmp byte_order q key) as (λ t. eq_by_cmp byte_order q key ≡ t
      → find byte_order q after ≡ cond t None (find byte_order q after)) [
        | true ↦ λ tie. subst (λ k. find byte_order k after ≡ None) (sym (same_key q key tie))
            (find-behind key after behind)
        | false ↦ λ _. refl
      ] refl

  get-leads : {key : List ℕ} {value : Option V} {before after : List (List ℕ × V)}
      → Leads key value before after → (q : List ℕ)
      → finite.get (map_with before) q
      ≡ cond (eq_by_cmp byte_order q key) value (finite.get (map_with after) q)
  get-leads {key} {value} {before} {after} leads q =
      finite.get-from_entries nat_list_cmp_total before q
      ∙ ap (find byte_order q) leads.pairs
      ∙ find-leads key value after leads.behind q
      ∙ ap (cond (eq_by_cmp byte_order q key) value)
      (sym (finite.get-from_entries nat_list_cmp_total after q))

  get-behind : (key : List ℕ) (pairs : List (List ℕ × V)) → AreBehind key pairs
      → (q : List ℕ) (x : V) → finite.get (map_with pairs) q ≡ Some x
      → IsBefore key q
  get-behind key pairs behind q x is =
      behind-found key pairs behind q x
      (sym (finite.get-from_entries nat_list_cmp_total pairs q) ∙ is)

  get-nothing : (pairs : List (List ℕ × V)) → pairs ≡ [] → (q : List ℕ) (x : V)
      → finite.get (map_with pairs) q ≡ Some x → ⊥
  get-nothing pairs none q x is =
      false≢true (ap is_some (ap (find byte_order q) (sym none)
      ∙ sym (finite.get-from_entries nat_list_cmp_total pairs q) ∙ is))

  key-admitted : (most : Option ℕ) (pairs : List (List ℕ × V)) → AreAdmitted most pairs
      → (q : List ℕ) (x : V) → finite.get (map_with pairs) q ≡ Some x
      → IsAdmitted most (length q)
  key-admitted most pairs admitted q x is =
      let found = find-there q pairs x
      (sym (finite.get-from_entries nat_list_cmp_total pairs q) ∙ is) in
      subst (λ k. IsAdmitted most (length k)) (sym found.2)
      (All-contains (λ pair. IsAdmitted most (length pair.0)) pairs found.0 admitted found.1)

module _ {V : Type 0} (same : V → V → Bool) where
  some-apart : (x y : Option V) → differ same x y ≡ true
      → ((z : V) × (x ≡ Some z)) ⊎ ((z : V) × (y ≡ Some z))
  some-apart None None apart = absurd (false≢true apart)
  some-apart None (Some y) apart = inr (y, refl)
  some-apart (Some x) y apart = inl (x, refl)

  module _ {key : List ℕ} {before after : Option V} {old old' new new' : List (List ℕ × V)}
      (first : Leads key before old old') (second : Leads key after new new') where
    abbrev rest : List (Change V)
    rest = changes_between same old' new'

    abbrev all : List (Change V)
    all = cons_option (change_of same key before after) rest

    later-behind : (c : Change V) → Contains rest c → IsBefore key c.0
    later-behind c there =
        let found = changes-from same (map_with old') (map_with new') c there in
        ⊎_elim
        (λ some. get-behind key old' first.behind c.0 some.0 (found.0 ∙ some.1))
        (λ some. get-behind key new' second.behind c.0 some.0 (found.1 ∙ some.1))
        (some-apart c.1 c.2 found.2)

    ascends-from : (o : Option (Change V)) → ((c : Change V) → o ≡ Some c → c.0 ≡ key)
        → KeysAscend (λ c. c.0) (cons_option o rest)
    ascends-from None at =
        changes-ascend same (map_with old') (map_with new')
    ascends-from (Some c) at =
        AllPairs-cons (λ a b. IsBefore a.0 b.0) c rest
        (All-from_contains (λ e. IsBefore c.0 e.0) rest
        (λ e there. subst (λ k. IsBefore k e.0) (sym (at c refl)) (later-behind e there)))
        (changes-ascend same (map_with old') (map_with new'))

    into-all : (c : Change V) → Contains (changes_between same old new) c → Contains all c
    into-all c there =
        let found = changes-from same (map_with old) (map_with new) c there in
        elim (eq_by_cmp byte_order c.0 key) as (λ t. eq_by_cmp byte_order c.0 key ≡ t
        → finite.get (map_with old) c.0
        ≡ cond t before (finite.get (map_with old') c.0)
        → finite.get (map_with new) c.0
        ≡ cond t after (finite.get (map_with new') c.0) → Contains all c) [
          | true ↦ λ tie a b.
              first-there (change_of same key before after) rest c
              (is-change c (same_key c.0 key tie) (sym a ∙ found.0) (sym b ∙ found.1) found.2)
          | false ↦ λ _ a b.
              later-there (change_of same key before after) rest c
              (changes-to same (map_with old') (map_with new') c.0 c.1 c.2
              (sym a ∙ found.0) (sym b ∙ found.1) found.2)
        ] refl (get-leads first c.0) (get-leads second c.0)
      where
        is-change : (c : Change V) → c.0 ≡ key → before ≡ c.1 → after ≡ c.2
            → differ same c.1 c.2 ≡ true → change_of same key before after ≡ Some c
        is-change c k a b apart =
            (λ i. change_of same (sym k i) (a i) (b i))
            ∙ ap (λ t. cond t (Some c) None) apart

    from-all : (c : Change V) → Contains all c → Contains (changes_between same old new) c
    from-all c there =
        ⊎_elim
        (λ is.
        let whole = change_of-is same key before after c is in
        let tie = ap is_eq (tied_itself nat_list_cmp_total key) in
        subst (Contains (changes_between same old new)) (sym whole.0)
        (changes-to same (map_with old) (map_with new) key before after
        (get-leads first key
        ∙ ap (λ t. cond t before (finite.get (map_with old') key)) tie)
        (get-leads second key
        ∙ ap (λ t. cond t after (finite.get (map_with new') key)) tie)
        whole.1))
        (λ later.
        let found = changes-from same (map_with old') (map_with new') c later in
        elim (eq_by_cmp byte_order c.0 key) as (λ t. eq_by_cmp byte_order c.0 key ≡ t
        → finite.get (map_with old) c.0
        ≡ cond t before (finite.get (map_with old') c.0)
        → finite.get (map_with new) c.0
        ≡ cond t after (finite.get (map_with new') c.0)
        → Contains (changes_between same old new) c) [
          | true ↦ λ tie _ _. absurd (IsBefore-itself key
              (subst (IsBefore key) (same_key c.0 key tie) (later-behind c later)))
          | false ↦ λ _ a b.
              changes-to same (map_with old) (map_with new) c.0 c.1 c.2
              (a ∙ found.0) (b ∙ found.1) found.2
        ] refl (get-leads first c.0) (get-leads second c.0))
        (first-or_later (change_of same key before after) rest c there)

    -- Where a key leads on both sides, its change is the first, if there is one.
    pub changes-lead : changes_between same old new
        ≡ cons_option (change_of same key before after) (changes_between same old' new')
    changes-lead =
        ascending_lists_are_fixed (Change V) (λ c. c.0) (changes_between same old new) all
        (changes-ascend same (map_with old) (map_with new))
        (ascends-from (change_of same key before after)
        (λ c is. ap (λ d. d.0) (change_of-is same key before after c is).0))
        (λ c. (into-all c, from-all c))

    pub changes-differ : differ same before after ≡ true
        → changes_between same old new ≡ (key, before, after) ∷ changes_between same old' new'
    changes-differ apart =
        changes-lead ∙ ap (λ t. cons_option (cond t (Some (key, before, after)) None) rest) apart

    pub changes-agree : differ same before after ≡ false
        → changes_between same old new ≡ changes_between same old' new'
    changes-agree alike =
        changes-lead ∙ ap (λ t. cons_option (cond t (Some (key, before, after)) None) rest) alike

  -- Between no pairs and no pairs there is no change.
  pub no-changes : (old new : List (List ℕ × V)) → old ≡ [] → new ≡ []
      → changes_between same old new ≡ []
  no-changes old new none neither =
      nothing-in (changes_between same old new) (λ c there.
      let found = changes-from same (map_with old) (map_with new) c there in
      ⊎_elim
      (λ some. get-nothing old none c.0 some.0 (found.0 ∙ some.1))
      (λ some. get-nothing new neither c.0 some.0 (found.1 ∙ some.1))
      (some-apart c.1 c.2 found.2))

  -- A key of which there is a change is one of a pair, so a key can be made of it.
  change-admitted : (most : Option ℕ) (old new : List (List ℕ × V)) → AreAdmitted most old
      → AreAdmitted most new → (c : Change V) → Contains (changes_between same old new) c
      → IsAdmitted most (length c.0)
  change-admitted most old new left right c there =
      let found = changes-from same (map_with old) (map_with new) c there in
      ⊎_elim
      (λ some. key-admitted most old left c.0 some.0 (found.0 ∙ some.1))
      (λ some. key-admitted most new right c.0 some.0 (found.1 ∙ some.1))
      (some-apart c.1 c.2 found.2)

  pub next-admitted : (most : Option ℕ) (old new : List (List ℕ × V)) → AreAdmitted most old
      → AreAdmitted most new → (front left : List (Change V)) (c : Change V)
      (others : List (Change V)) → changes_between same old new ≡ front ++ left
      → left ≡ c ∷ others → IsAdmitted most (length c.0)
  next-admitted most old new left_admitted right_admitted front left c others whole next =
      change-admitted most old new left_admitted right_admitted c
      (subst (λ xs. Contains xs c) (sym (whole ∙ ap (λ xs. front ++ xs) next))
      (mid-there front c others))
