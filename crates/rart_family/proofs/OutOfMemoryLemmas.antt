-- Where out of memory is no reply.
use Rattle.std.proofs.Common.{◌≡◌, ℕ, ◌+◌, ◌^◌, Bool, true, false, nat_lt, cond, List, sym, ap, refl, subst, ⊎_elim, IsTrue}
use Rattle.std.specs.Prelude.{Option, Some, None, IfSome, is_some, slice_set, Ok}
use Rattle.rart_versioned.specs.SlotUpdate.{SlotUpdate}
use Rattle.rart_versioned.specs.SlotUpdate.TheVariants.{Keep, Insert as Put, Remove as TakeOut}
use Rattle.rart_maps.specs.Versions.{Version, value_at, has_key}
use Rattle.rart_maps.specs.Changes.{after_removal, slot_of, slot_update, slot_update_from, slot_attempt, slot_attempt_from}
use Rattle.rart_family.specs.declared.family.command.Command.{Command}
use Rattle.rart_family.specs.declared.family.command.Command.TheVariants.{Discard, Version as NumberOf, IsEmpty, Get, Remove, Delete, Update, TryUpdate, IntersectCount}
use Rattle.rart_family.specs.Replies.{Reply, Value, Flag, NoRoom, NoMemory}
use Rattle.rart_family.specs.Families.{Family, Outcome, call_outcome, version_at, value_after_write, tried_reply, reply_to}
use Rattle.rart_family.specs.Runs.{Step, may_want_memory}
use Rattle.rart_family.specs.Updates.{Inserts}
use Rattle.rart_family.specs.Laws.{TakesNoMemory, NoWantWithoutMemory, NoWantBeforeLack}
use Rattle.rart_family.proofs.LawLemmas.{no_want}

module _ {K V : Type 0} (f : Family V) (c : Command K V) where
  -- what holds of a call's reply on each version holds of its reply at a place
  called_not : (call : Version V → Outcome V) (found : Option (Version V))
      → ((v : Version V) → found ≡ Some v → may_want_memory c (call v).0 ≡ false)
      → may_want_memory c (call_outcome f call found).0 ≡ false
  called_not call None tells = refl
  called_not call (Some v) tells = tells v refl

  room_not : (b : Bool) (reply : Reply V) (after : Family V) → may_want_memory c reply ≡ false
      → may_want_memory c (cond {A = Outcome V} b (reply, after) (NoRoom, f)).0 ≡ false
  room_not true reply after tells = tells
  room_not false reply after tells = refl

module _ {K V : Type 0} (place : ℕ) (key : K) where
  get_not : (value : Option V) → is_some value ≡ false
      → may_want_memory (Get place key) (Value value) ≡ false
  get_not None lacks = refl
  get_not (Some x) lacks = lacks

  remove_not : (value : Option V) → is_some value ≡ false
      → may_want_memory (Remove place key) (Value value) ≡ false
  remove_not None lacks = refl
  remove_not (Some x) lacks = lacks

module _ {K V : Type 0} (place : ℕ) (key : K) (v : Version V) (w : List ℕ) where
  update_not : (found : Option V) (left : Option V) (answer : SlotUpdate V)
      → is_some found ≡ false → ¬ Inserts answer
      → may_want_memory (Update place key None answer)
      (Flag (slot_update_from v w found (slot_of left) answer).0) ≡ false
  update_not None left Keep lacks none = refl
  update_not None left TakeOut lacks none = refl
  update_not None left (Put x) lacks none = absurd (none tt)
  update_not (Some old) left answer lacks none = absurd (cc)

  try_update_not : (found : Option V) (left : Option V) (answer : SlotUpdate V)
      → is_some found ≡ false → ¬ Inserts answer
      → may_want_memory (TryUpdate place key None (Some answer))
      (tried_reply (slot_attempt_from v w found (slot_of left) (Ok answer)).0) ≡ false
  try_update_not None left Keep lacks none = refl
  try_update_not None left TakeOut lacks none = refl
  try_update_not None left (Put x) lacks none = absurd (none tt)
  try_update_not (Some old) left answer lacks none = absurd (cc)

delete_not : {K : Type 0} (V : Type 0) (place : ℕ) (key : K) (flag : Bool) → flag ≡ false
    → may_want_memory {V = V} (Delete place key) (Flag flag) ≡ false
delete_not V place key true lacks = lacks
delete_not V place key false lacks = refl

module _ {K V : Type 0} (bytes : K → List ℕ) where
  lacks_at : (found : Option (Version V)) (w : List ℕ) (v : Version V)
      → IfSome found (λ v. has_key v w ≡ false) → found ≡ Some v → has_key v w ≡ false
  lacks_at found w v lacks is = subst (λ found. IfSome found (λ v. has_key v w ≡ false)) is lacks

  takes_none : (f : Family V) (c : Command K V) → TakesNoMemory K V bytes f c
      → may_want_memory c (reply_to bytes f c) ≡ false
  takes_none f (Discard place) none =
      called_not {K = K} f (Discard place) _ (version_at f place) (λ v is. refl)
  takes_none f (NumberOf place) none =
      called_not {K = K} f (NumberOf place) _ (version_at f place) (λ v is. refl)
  takes_none f (IsEmpty place) none =
      called_not {K = K} f (IsEmpty place) _ (version_at f place) (λ v is. refl)
  takes_none f (Get place key) none =
      called_not {K = K} f (Get place key) _ (version_at f place)
      (λ v is. get_not place key (value_at v (bytes key))
      (lacks_at (version_at f place) (bytes key) v none is))
  takes_none f (Remove place key) none =
      called_not {K = K} f (Remove place key) _ (version_at f place) (λ v is.
      room_not f (Remove place key) (nat_lt (v.number + 1) (2 ^ 64))
      (Value (value_at v (bytes key))) (slice_set f place (Some (after_removal v (bytes key))))
      (remove_not place key (value_at v (bytes key))
      (lacks_at (version_at f place) (bytes key) v none is)))
  takes_none f (Delete place key) none =
      called_not {K = K} f (Delete place key) _ (version_at f place) (λ v is.
      room_not f (Delete place key) (nat_lt (v.number + 1) (2 ^ 64)) (Flag (has_key v (bytes key)))
      (slice_set f place (Some (after_removal v (bytes key))))
      (delete_not V place key (has_key v (bytes key))
      (lacks_at (version_at f place) (bytes key) v none is)))
  takes_none f (Update place key None answer) none =
      called_not {K = K} f (Update place key None answer) _ (version_at f place) (λ v is.
      let left = value_after_write (value_at v (bytes key)) None in
      room_not f (Update place key None answer) (nat_lt (v.number + 1) (2 ^ 64))
      (Flag (slot_update v (bytes key) (slot_of left) answer).0)
      (slice_set f place (Some (slot_update v (bytes key) (slot_of left) answer).1))
      (update_not place key v (bytes key) (value_at v (bytes key)) left answer
      (lacks_at (version_at f place) (bytes key) v none.0 is) none.1))
  takes_none f (TryUpdate place key None (Some answer)) none =
      called_not {K = K} f (TryUpdate place key None (Some answer)) _ (version_at f place) (λ v is.
      let left = value_after_write (value_at v (bytes key)) None in
      let tried = slot_attempt v (bytes key) (slot_of left) (Ok answer) in
      room_not f (TryUpdate place key None (Some answer)) (nat_lt (v.number + 2) (2 ^ 64))
      (tried_reply tried.0) (slice_set f place (Some tried.1))
      (try_update_not place key v (bytes key) (value_at v (bytes key)) left answer
      (lacks_at (version_at f place) (bytes key) v none.0 is) none.1))
  takes_none f (IntersectCount left right) none =
      called_not {K = K} f (IntersectCount left right) _ (version_at f left) (λ one is.
      called_not {K = K} f (IntersectCount left right) _ (version_at f right) (λ other is. refl))
  takes_none f c none = absurd none

  no_step : (old new : Family V) (c : Command K V)
      → may_want_memory c (reply_to bytes old c) ≡ false → ¬ Step bytes old c NoMemory new
  no_step old new c never step =
      ⊎_elim (λ own. no_want K V bytes old c (sym own.0))
      (λ want. let wants : IsTrue false = subst IsTrue never want.2 in cc) step

module _ (K V : Type 0) (bytes : K → List ℕ) where
  pub no_want_without_memory : NoWantWithoutMemory K V bytes
  no_want_without_memory old new c none = no_step bytes old new c (takes_none bytes old c none)

  pub no_want_before_lack : NoWantBeforeLack K V bytes
  no_want_before_lack old new c lack =
      no_step bytes old new c (⊎_elim (λ is. ap (may_want_memory c) is)
      (λ is. ap (may_want_memory c) is) lack)
