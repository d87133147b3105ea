-- Collecting the keys of a set: what is called on each, what is kept, and what it takes.
use Rattle.std.proofs.Common.{◌≡◌, ◌≤◌, ◌+◌, ◌*◌, ◌&&◌, Bool, true, false, ℕ, List, [], ◌∷◌, ◌++◌, map, Option, Result, Ok, Err, refl, sym, ap, subst, ◌∙◌, append_assoc, append-nil, arith}
use Rattle.std.specs.Prelude.{IfOk, IsTrue, Contains, length}
use Rattle.std.specs.Fn.{Mut}
use Rattle.std.specs.Global.{Vec}
use Rattle.std.specs.FinMap as finite
use Rattle.std.specs.FinSet as set
use Rattle.std.specs.declared.alloc.AllocError.{AllocError}
use Rattle.std.proofs.lemmas.Cmp.{nat_list_cmp_total}
use Rattle.rart_below.specs.Bytes.{IsAdmitted, byte_order}
use Rattle.rart_maps.specs.Bounds.{node_count}
use Rattle.rart_maps.specs.Pairs.{Strings, pairs}
use Rattle.rart_maps.specs.Points.{points}
use Rattle.rart_maps.specs.Versions.{Version, has_key}
use Rattle.rart_maps.specs.Visits.{CalledOn, CallableOn, CallableInTurn, Visit}
use Rattle.rart_maps.proofs.ElementLemmas.{Contains-here, Contains-later}
use Rattle.rart_maps.proofs.FoundLemmas.{Contains-pairs, pairs_ascend_by_key}
use Rattle.rart_maps.proofs.PointLemmas.{in-list, keys_are_points, len-ascending, points_are_few}
use Rattle.rart_maps.proofs.OrderLemmas.{byte_order-IsAntisymmetric}
use Rattle.rart_maps.proofs.SetLemmas.{contains-kept, len-retain-weaker}
use Rattle.rart_versioned.specs.Counts.{Counts, CountsUpTo}
use Rattle.rart_versioned.specs.Keys.{IsKeyLength}
use Rattle.rart_changes.specs.KeptKeys.{Kept}
use Rattle.rart_changes.proofs.TrackingLemmas.{listed-in}

Contains-mid : {A : Type 0} (front : List A) (x : A) (rest : List A) →
    Contains (front ++ x ∷ rest) x
Contains-mid [] x rest = Contains-here x rest
Contains-mid (y ∷ front) x rest = Contains-later y (front ++ x ∷ rest) x (Contains-mid front x rest)

-- Where the keys of a set have lengths that are admitted, so have those of its pairs.
pub key-admitted : (v : Version (Unit {0})) (most : Option ℕ) →
    ((key : List ℕ) → IsTrue (has_key v key) → IsKeyLength most (length key)) →
    (pair : List ℕ × Unit {0}) → Contains (pairs v.content) pair → IsAdmitted most (length pair.0)
key-admitted v most lengths pair there =
    let found = (Contains-pairs v.content pair.0 pair.1).0 there in
    let has : IsTrue (has_key v pair.0) = rw found refl in
    (lengths pair.0 has).0

-- What is callable on each of the members is so in turn.
pub callable-each : {F B R X : Type 0} (g : Mut F B R) (Shows : B → X → Type 0) (answer : R)
    (members : List X) (f : F) →
    ((x : X) → Contains members x → (f' : F) → CallableOn g Shows f' x) →
    CallableInTurn g Shows answer f members
callable-each g Shows answer members f each =
    record {
      at = λ x rest f' calls. each x (subst (λ xs. Contains xs x) (sym calls.1)
          (Contains-mid calls.0 x rest)) f';
    }

module _ {K : Type 0} (bytes : K → List ℕ) where
  kept-none : (kept : Result (Vec K) AllocError) → Kept bytes kept [] kept
  kept-none (Ok kept) = sym (append-nil (map bytes kept.items))
  kept-none (Err refused) = tt

  kept-append : (before mid after : Result (Vec K) AllocError) (xs ys : List (List ℕ)) →
      Kept bytes before xs mid → Kept bytes mid ys after → Kept bytes before (xs ++ ys) after
  kept-append before mid (Err refused) xs ys first later = tt
  kept-append (Ok before) (Ok mid) (Ok after) xs ys first later =
      later ∙ ap (λ zs. zs ++ ys) first ∙ append_assoc (map bytes before.items) xs ys
  kept-append (Err refused) (Ok mid) (Ok after) xs ys first later = absurd first
  kept-append before (Err refused) (Ok after) xs ys first later = absurd later

  -- What is kept from nothing on is all.
  pub kept-all : (before after : Result (Vec K) AllocError) (keys : List (List ℕ)) →
      IfOk before (λ kept. kept.items ≡ []) → Kept bytes before keys after →
      IfOk after (λ kept. map bytes kept.items ≡ keys)
  kept-all before (Err refused) keys empty kept = tt
  kept-all (Ok before) (Ok after) keys empty kept =
      kept ∙ ap (λ xs. xs ++ keys) (ap (map bytes) empty)
  kept-all (Err refused) (Ok after) keys empty kept = absurd kept

  -- Where each call keeps its key, a visit keeps all of them.
  pub visit-keeps : {F B X : Type 0} (g : Mut F B (Unit {0})) (Shows : B → X → Type 0)
      (key_of : X → List ℕ) (at : F → Result (Vec K) AllocError) →
      ((f : F) (x : X) (f' : F) → CalledOn g Shows f x tt f' →
      Kept bytes (at f) (key_of x ∷ []) (at f')) →
      (members : List X) (f last : F) → Visit g Shows f members last →
      Kept bytes (at f) (map key_of members) (at last)
  visit-keeps g Shows key_of at each [] f last visit =
      subst (λ state. Kept bytes (at f) [] (at state)) visit (kept-none (at f))
  visit-keeps g Shows key_of at each (x ∷ xs) f last visit =
      kept-append (at f) (at visit.0) (at last) (key_of x ∷ []) (map key_of xs)
      (each f x visit.0 visit.1)
      (visit-keeps g Shows key_of at each xs visit.0 last visit.2)

-- A walk over all keys of a set enters at most two nodes for each.
pub counted-keys : (keys : Strings) {start now : Counts} → CountsUpTo (node_count keys) 0 start now
    → CountsUpTo (2 * finite.len keys) 0 start now
counted-keys keys counted =
    let few = points_are_few (Unit {0}) keys in
    let grows = counted.entered_grows in
    let most = counted.entered_at_most in
    record {
      entered_grows = grows;
      entered_at_most = omega (arith, few, most);
      made_grows = counted.made_grows;
      made_at_most = counted.made_at_most;
    }

both-met : (b c : Bool) → (c ≡ true → b ≡ true) → (b && c) ≡ c
both-met true c within = refl
both-met false true within = within refl
both-met false false within = refl

and-true : (b : Bool) → (b && true) ≡ b
and-true true = refl
and-true false = refl

-- A set within another one has no more elements.
subset-len : (s t : Strings) → ((q : List ℕ) → set.contains t q ≡ true → set.contains s q ≡ true)
    → set.len t ≤ set.len s
subset-len s t within =
    let o = nat_list_cmp_total in
    let anti = byte_order-IsAntisymmetric in
    let less = len-retain-weaker o anti s (set.contains t) (λ q. true) (λ q is. refl) in
    let kept = ap set.len (set.same_set o anti (set.retain s (set.contains t)) t (λ q.
    contains-kept o anti s (set.contains t) q
    ∙ both-met (set.contains s q) (set.contains t q) (within q))) in
    let whole = ap set.len (set.same_set o anti (set.retain s (λ q. true)) s (λ q.
    contains-kept o anti s (λ q. true) q ∙ and-true (set.contains s q))) in
    omega (arith, less, kept, whole)

-- Each key is a node of such a walk, which so enters at least one for each.
pub all-entered : (keys : Strings) (start now : Counts)
    → now.entered ≡ start.entered + node_count keys → start.entered + finite.len keys ≤ now.entered
all-entered keys start now is =
    let list = map (λ (pair : List ℕ × Unit {0}). pair.0) (pairs keys) in
    let few = subset-len (points keys) (set.from_list {R = byte_order} list)
    (λ q there. keys_are_points (Unit {0}) keys q (listed-in keys q ((in-list list q).0 there))) in
    let count = len-ascending (pairs keys) (pairs_ascend_by_key (Unit {0}) keys) in
    let all = finite.len-entries keys in
    omega (arith, is, few, count, all)
