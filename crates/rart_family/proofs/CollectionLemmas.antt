-- Collecting what a walk gives, or what a visit is called on, into a list.
use Rattle.std.proofs.Common.{◌≡◌, ℕ, List, [], ◌∷◌, ◌++◌, Option, Some, None, Result, Ok, Err, refl, sym, ap, subst, ◌∙◌, append_assoc, ⊎_elim}
use Rattle.std.proofs.lemmas.List.{append-nil, map-append}
use Rattle.std.specs.Prelude.{Bool, IfOk, IsTrue, Contains, filter, length}
use Rattle.std.specs.Global.{Vec}
use Rattle.std.specs.Fn.{Mut}
use Rattle.std.specs.declared.alloc.AllocError.{AllocError}
use Rattle.std.specs.Borrow.{Bor}
use Rattle.rart_maps.specs.Pairs.{pairs, common}
use Rattle.rart_maps.specs.Versions.{Version, has_key}
use Rattle.rart_maps.specs.Visits.{CalledOn, CallableOn, CallableInTurn, Visit}
use Rattle.rart_maps.proofs.ElementLemmas.{Contains-here, Contains-later, Contains-filter}
use Rattle.rart_maps.proofs.FoundLemmas.{Contains-pairs, common_is_found}
use Rattle.rart_versioned.specs.Bytes.{IsAdmitted}
use Rattle.rart_versioned.specs.Keys.{IsKeyLength}
use Rattle.rart_maps.specs.Iterations.{ByKey, NextGives}
use Rattle.rart_family.specs.Collections.{pairs_of, IsMember, IsNoMember, GivesAll, Keeps}

Contains-mid : {A : Type 0} (front : List A) (x : A) (rest : List A) →
    Contains (front ++ x ∷ rest) x
Contains-mid [] x rest = Contains-here x rest
Contains-mid (y ∷ front) x rest = Contains-later y (front ++ x ∷ rest) x (Contains-mid front x rest)

-- Where the keys of a version have lengths that are admitted, so have those of its pairs.
pub pair-admitted : {V : Type 0} (v : Version V) (most : Option ℕ) →
    ((key : List ℕ) → IsTrue (has_key v key) → IsKeyLength most (length key)) →
    (pair : List ℕ × V) → Contains (pairs v.content) pair → IsAdmitted most (length pair.0)
pair-admitted v most lengths pair there =
    let found = (Contains-pairs v.content pair.0 pair.1).0 there in
    let has : IsTrue (has_key v pair.0) = rw found refl in
    (lengths pair.0 has).0

pub filtered-admitted : {V : Type 0} (v : Version V) (most : Option ℕ) →
    ((key : List ℕ) → IsTrue (has_key v key) → IsKeyLength most (length key)) →
    (p : List ℕ × V → Bool) (pair : List ℕ × V) →
    Contains (filter p (pairs v.content)) pair → IsAdmitted most (length pair.0)
filtered-admitted v most lengths p pair there =
    pair-admitted v most lengths pair ((Contains-filter p (pairs v.content) pair).0 there).0

-- So have those that it has in common with another.
pub common-admitted : {V : Type 0} (v w : Version V) (most : Option ℕ) →
    ((key : List ℕ) → IsTrue (has_key v key) → IsKeyLength most (length key)) →
    (entry : List ℕ × V × V) → Contains (common v.content w.content) entry →
    IsAdmitted most (length entry.0)
common-admitted {V} v w most lengths entry there =
    let found = (common_is_found V v.content w.content entry.0 entry.1 entry.2).0 there in
    let has : IsTrue (has_key v entry.0) = rw found.0 refl in
    (lengths entry.0 has).0

module _ {K V : Type 0} (bytes : K → List ℕ) where
  -- An entry that is pushed is seen behind those before it.
  pub pairs_of-push : (entries : List (K × V)) (key : K) (value : V) →
      pairs_of bytes (entries ++ (key, value) ∷ [])
      ≡ pairs_of bytes entries ++ (bytes key, value) ∷ []
  pairs_of-push entries key value =
      map-append (λ (entry : K × V). (bytes entry.0, entry.1)) entries ((key, value) ∷ [])

  -- what an item shows
  pub shown-pair : (item : K × Bor V) (pair : List ℕ × V) → ByKey bytes item pair →
      (bytes item.0, item.1.now) ≡ pair
  shown-pair item pair shows =
      ap (λ key. (key, item.1.now)) shows.0 ∙ ap (λ value. (pair.0, value)) shows.1

module _ {W A X E : Type 0} (gives : W → Option (Result A E) → W → Type 0)
    (Shows : A → X → Type 0) where
  -- what the walk at w has left of its members, behind those that were collected
  abbrev pub Collected : List X → W → List X → W → Type 0
  Collected collected w found start =
      GivesAll gives Shows found start →
      (rest : List X) × (collected ++ rest ≡ found) × GivesAll gives Shows rest w

  next_member : {w w' : W} {item : A} (found : List X) → GivesAll gives Shows found w →
      gives w (Some (Ok item)) w' →
      (x : X) × (rest : List X) × (found ≡ x ∷ rest) × Shows item x × GivesAll gives Shows rest w'
  next_member {w} {w'} {item} [] all next = absurd (all (Some (Ok item)) w' next)
  next_member {w} {w'} {item} (x ∷ xs) all next =
      let first = all (Some (Ok item)) w' next in (x, xs, refl, first.0, first.1)

  no_member : {w w' : W} (found : List X) → GivesAll gives Shows found w → gives w None w' →
      found ≡ []
  no_member [] all next = refl
  no_member {w} {w'} (x ∷ xs) all next = absurd (all None w' next)

  -- The next item is collected.
  pub collected-more : {w w' : W} {item : A} (collected after found : List X) (start : W) →
      ((x : X) → Shows item x → after ≡ collected ++ x ∷ []) →
      gives w (Some (Ok item)) w' → Collected collected w found start →
      Collected after w' found start
  collected-more collected after found start adds next before all =
      let here = before all in
      let first = next_member here.0 here.2 next in (
        first.1,
        ap (λ xs. xs ++ first.1) (adds first.0 first.3)
            ∙ append_assoc collected (first.0 ∷ []) first.1
            ∙ ap (λ xs. collected ++ xs) (sym first.2) ∙ here.1,
        first.4,
      )

  -- At the end all are collected.
  pub collected-all : {w w' : W} (collected found : List X) (start : W) → gives w None w' →
      Collected collected w found start → GivesAll gives Shows found start → collected ≡ found
  collected-all collected found start next before all =
      let here = before all in
      sym (append-nil collected) ∙ ap (λ xs. collected ++ xs) (sym (no_member here.0 here.2 next))
      ∙ here.1

module _ {A X : Type 0} (Shows : A → X → Type 0) where
  end_next : (walk later : Option (List X)) (answer : Option (Result A AllocError)) →
      walk ≡ Some [] → NextGives Shows walk answer later →
      IsNoMember (NextGives Shows) Shows answer
  end_next walk later None is next = tt
  end_next walk later (Some (Ok item)) is next =
      let e : Some [] ≡ Some (next.0 ∷ next.1) = sym is ∙ next.2 in cc
  end_next walk later (Some (Err refused)) is next = tt

  member_next : (x : X) (xs : List X) (walk later : Option (List X))
      (answer : Option (Result A AllocError)) {Later : Type 0} → walk ≡ Some (x ∷ xs) →
      (later ≡ Some xs → Later) → NextGives Shows walk answer later →
      IsMember (NextGives Shows) Shows x Later answer
  member_next x xs walk later None is goes next =
      absurd (⊎_elim (λ e. let h : Some (x ∷ xs) ≡ None = sym is ∙ e in cc)
      (λ e. let h : Some (x ∷ xs) ≡ Some [] = sym is ∙ e in cc) next.0)
  member_next x xs walk later (Some (Ok item)) is goes next =
      let e : Some (next.0 ∷ next.1) ≡ Some (x ∷ xs) = sym next.2 ∙ is in
      let first : next.0 ≡ x = cc in
      let rest : next.1 ≡ xs = cc in
      (subst (Shows item) first next.3, goes (next.4 ∙ ap Some rest))
  member_next x xs walk later (Some (Err refused)) is goes next = tt

  -- A walk that has these members to come gives them all.
  pub gives_all : (found : List X) (walk : Option (List X)) → walk ≡ Some found →
      GivesAll (NextGives Shows) Shows found walk
  gives_all [] walk is = λ answer later next. end_next walk later answer is next
  gives_all (x ∷ xs) walk is =
      λ answer later next. member_next x xs walk later answer is (gives_all xs later) next

module _ {A X : Type 0} (seen : List A → List X) where
  keeps-none : (kept : Result (Vec A) AllocError) → Keeps seen kept [] kept
  keeps-none (Ok kept) = sym (append-nil (seen kept.items))
  keeps-none (Err refused) = tt

  keeps-append : (before mid after : Result (Vec A) AllocError) (xs ys : List X) →
      Keeps seen before xs mid → Keeps seen mid ys after → Keeps seen before (xs ++ ys) after
  keeps-append before mid (Err refused) xs ys first later = tt
  keeps-append (Ok before) (Ok mid) (Ok after) xs ys first later =
      later ∙ ap (λ zs. zs ++ ys) first ∙ append_assoc (seen before.items) xs ys
  keeps-append (Err refused) (Ok mid) (Ok after) xs ys first later = absurd first
  keeps-append before (Err refused) (Ok after) xs ys first later = absurd later

  -- What is kept of nothing is the members.
  pub kept_all : (before after : Result (Vec A) AllocError) (members : List X) → seen [] ≡ [] →
      IfOk before (λ kept. kept.items ≡ []) → Keeps seen before members after →
      IfOk after (λ kept. seen kept.items ≡ members)
  kept_all before (Err refused) members none empty keeps = tt
  kept_all (Ok before) (Ok after) members none empty keeps =
      keeps ∙ ap (λ xs. xs ++ members) (ap seen empty ∙ none)
  kept_all (Err refused) (Ok after) members none empty keeps = absurd keeps

-- Where each call of a closure keeps its member, a visit keeps all of them.
module _ {F B A X : Type 0} (g : Mut F B (Unit {0})) (Shows : B → X → Type 0)
    (seen : List A → List X) (at : F → Result (Vec A) AllocError) where
  pub visit_keeps : ((f : F) (x : X) (f' : F) → CalledOn g Shows f x tt f' →
      Keeps seen (at f) (x ∷ []) (at f')) →
      (members : List X) (f last : F) → Visit g Shows f members last →
      Keeps seen (at f) members (at last)
  visit_keeps each [] f last visit =
      subst (λ state. Keeps seen (at f) [] (at state)) visit (keeps-none seen (at f))
  visit_keeps each (x ∷ xs) f last visit =
      keeps-append seen (at f) (at visit.0) (at last) (x ∷ []) xs (each f x visit.0 visit.1)
      (visit_keeps each xs visit.0 last visit.2)

module _ {F B R X : Type 0} (g : Mut F B R) (Shows : B → X → Type 0) (answer : R) where
  -- What is callable on each of the members is so in turn.
  pub callable_each : (members : List X) (f : F) →
      ((x : X) → Contains members x → (f' : F) → CallableOn g Shows f' x) →
      CallableInTurn g Shows answer f members
  callable_each members f each =
      record {
        at = λ x rest f' calls. each x (subst (λ xs. Contains xs x) (sym calls.1)
            (Contains-mid calls.0 x rest)) f';
      }
