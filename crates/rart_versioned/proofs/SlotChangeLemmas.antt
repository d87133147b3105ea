-- What a callback's answer makes of a version, arm by arm.
use Rattle.std.proofs.Common.{◌≡◌, ℕ, List, Option, Some, None, Result, Ok, Err, IfOk, OnErr, inl, inr, is_some, cond, Bool, true, false, refl, sym, ap, subst, ◌∙◌}
use Rattle.std.specs.Prelude.{◌+◌}
use Rattle.std.specs.Borrow.{MutBor}
use Rattle.std.proofs.lemmas.Result.{IfOk-weaker, on_err_weaker}
use Rattle.std.specs.Fn.{Once}
use Rattle.std.specs.Ordering.{is_eq, eq_by_cmp}
use Rattle.std.specs.declared.cmp.Ordering.{Ordering}
use Rattle.std.specs.declared.cmp.Ordering.TheVariants.{Less, Equal, Greater}
use Rattle.std.specs.FinMap as finite
use Rattle.std.proofs.lemmas.Bool.{false≢true}
use Rattle.std.proofs.lemmas.Cmp.{nat_list_cmp_total}
use Rattle.rart_below.specs.Bytes.{byte_order}
use Rattle.rart_below.specs.declared.slot.Slot.{Slot}
use Rattle.rart_below.specs.declared.slot.Slot.TheVariants.{Vacant, Occupied}
use Rattle.rart_below.specs.declared.slot.SlotUpdate.{SlotUpdate}
use Rattle.rart_below.specs.declared.slot.SlotUpdate.TheVariants.{Keep, Insert, Remove}
use Rattle.rart_below.specs.declared.slot.Refusal.{Refusal}
use Rattle.rart_below.specs.declared.slot.Refusal.TheVariants.{Callback, Memory}
use Rattle.rart_maps.specs.Changes.{slot_of, slot_update}
use Rattle.rart_versioned.specs.SlotChanges.{change_of, version_after, outcome_of_absent, is_occupied, rise_of, AsksMemory, IsTried, Tries, TriesAbsent}
use Rattle.rart_versioned.specs.Updates.{Tells, Updates, TellsOrFails, TriesUpdate, UpdateTakesMemory}
use Rattle.rart_maps.specs.Versions.{Map, Version, value_at, has_key, with_rise}
use Rattle.rart_versioned.proofs.SoundLemmas.{same-map}

tied : (o : Ordering) → is_eq o ≡ true → o ≡ Equal
tied Less e = absurd (false≢true e)
tied Equal e = refl
tied Greater e = absurd (false≢true e)

module _ {V : Type 0} where
  -- A map in which the key is set to the value that it has is the same map.
  insert-same : (m : Map V) (key : List ℕ) (value : V) → finite.get m key ≡ Some value
      → finite.insert m key value ≡ m
  insert-same m key value is =
      same-map (finite.insert m key value) m (λ q.
      let P : Bool → Type 0 =
      λ t. eq_by_cmp byte_order q key ≡ t
      → cond t (Some value) (finite.get m q) ≡ finite.get m q in
      let both : (t : Bool) → P t = elim [
        | true ↦ (λ same. sym is ∙ finite.get_tied nat_list_cmp_total m q key
            (tied (byte_order q key) same))
        | false ↦ (λ differs. refl)
      ] in
      finite.get-insert nat_list_cmp_total m key value q ∙ both (eq_by_cmp byte_order q key) refl)

  -- ---- whether the key was there, by the slot that the callback is lent
  occupied : (o : Option V) (slot : Slot V) → slot ≡ slot_of o → is_occupied slot ≡ true
      → (value : V) × (o ≡ Some value)
  occupied None slot is there = absurd (false≢true (sym (ap is_occupied is) ∙ there))
  occupied (Some value) slot is there = (value, refl)

  vacant : (o : Option V) (slot : Slot V) → slot ≡ slot_of o → is_occupied slot ≡ false → o ≡ None
  vacant None slot is absent = refl
  vacant (Some value) slot is absent = absurd (false≢true (sym absent ∙ ap is_occupied is))

  module _ (v : Version V) (w : List ℕ) where
    pub there-by-slot : (slot : Slot V) → slot ≡ slot_of (value_at v w) → is_occupied slot ≡ true
        → has_key v w ≡ true
    there-by-slot slot is there = ap is_some (occupied (value_at v w) slot is there).1

    pub absent-by-slot : (slot : Slot V) → slot ≡ slot_of (value_at v w) → is_occupied slot ≡ false
        → has_key v w ≡ false
    absent-by-slot slot is absent = ap is_some (vacant (value_at v w) slot is absent)

    -- ---- what an answer makes of a version
    pub none : has_key v w ≡ false → (o : Option V) → o ≡ value_at v w → o ≡ None
    none absent None is = refl
    none absent (Some value) is = absurd (false≢true (sym absent ∙ sym (ap is_some is)))

    pub some : has_key v w ≡ true → (o : Option V) → o ≡ value_at v w
        → (value : V) × (o ≡ Some value)
    some there None is = absurd (false≢true (ap is_some is ∙ there))
    some there (Some value) is = (value, refl)

    kept : (more : ℕ) (value : V) → value_at v w ≡ Some value
        → with_rise v more ≡ record {
          content = finite.insert v.content w value;
          number = v.number + more;
        }
    kept more value is =
        ap (λ m. record { content = m; number = v.number + more })
        (sym (insert-same v.content w value is))

    updated-there : (value : V) → value_at v w ≡ Some value → (left : Slot V) (told : SlotUpdate V)
        → (true, version_after v w (change_of left told) 1) ≡ slot_update v w left told
    updated-there value is left (Insert x) = rw is refl
    updated-there value is left Remove = rw is refl
    updated-there value is Vacant Keep = rw is (ap (λ z. (true, z)) (kept 1 value is))
    updated-there value is (Occupied x) Keep = rw is refl

    updated-absent : value_at v w ≡ None → (left : Slot V) (told : SlotUpdate V)
        → outcome_of_absent v w told ≡ slot_update v w left told
    updated-absent is left (Insert x) = rw is refl
    updated-absent is left Remove = rw is refl
    updated-absent is left Keep = rw is refl

    pub there-updated : (left : Slot V) (told : SlotUpdate V) → has_key v w ≡ true
        → (true, version_after v w (change_of left told) 1) ≡ slot_update v w left told
    there-updated left told there = let is = some there (value_at v w) refl in
        updated-there is.0 is.1 left told

    pub absent-updated : (left : Slot V) (told : SlotUpdate V) → has_key v w ≡ false
        → outcome_of_absent v w told ≡ slot_update v w left told
    absent-updated left told absent = updated-absent (none absent (value_at v w) refl) left told

    module _ {E : Type 0} where
      tried-there : (value : V) → value_at v w ≡ Some value → (left : Slot V) (told : SlotUpdate V)
          → IsTried {E = E} v w left (Ok told) (Ok true)
          (version_after v w (change_of left told) (rise_of told))
      tried-there value is left (Insert x) = rw is refl
      tried-there value is left Remove = rw is refl
      tried-there value is Vacant Keep = rw is (ap (λ z. (Ok true, z)) (kept 1 value is))
      tried-there value is (Occupied x) Keep = rw is refl

      pub there-tried : (left : Slot V) (told : SlotUpdate V) (after : Version V)
          → has_key v w ≡ true → after ≡ version_after v w (change_of left told) (rise_of told)
          → IsTried {E = E} v w left (Ok told) (Ok true) after
      there-tried left told after there is = let value = some there (value_at v w) refl in
          subst (IsTried {E = E} v w left (Ok told) (Ok true)) (sym is)
          (tried-there value.0 value.1 left told)

-- ---- what a call of the callback allows
module _ {F V : Type 0} (callback : Once F (MutBor (Slot V) × Unit {0})
    (SlotUpdate V × (MutBor (Slot V) × Unit {0}))) (f : F) (v : Version V) (w : List ℕ) where
  pub tells : (lent left : MutBor (Slot V)) (told : SlotUpdate V)
      → lent.now ≡ slot_of (value_at v w) → callback.post f (lent, tt) (told, (left, tt))
      → Tells callback f v w left.now told
  tells lent left told is met =
      record { shown = lent; shows = is; left = left; met = met; leaves = refl }

  pub updates-there : (left : Slot V) (told : SlotUpdate V) (after : Version V)
      → Tells callback f v w left told → has_key v w ≡ true
      → after ≡ version_after v w (change_of left told) 1 → Updates callback f v w true after
  updates-there left told after tell there is =
      (left, told, tell, ap (λ z. (true, z)) is ∙ there-updated v w left told there)

  module _ {E : Type 0} (left : Slot V) (told : SlotUpdate V) (result : Result Bool E)
      (tell : Tells callback f v w left told) where
    pub updates-absent : (after : Version V) → has_key v w ≡ false
        → IfOk result (λ answer. (answer, after) ≡ outcome_of_absent v w told)
        → IfOk result (λ answer. Updates callback f v w answer after)
    updates-absent after absent done =
        IfOk-weaker result _ _
        (λ answer is. (left, told, tell, is ∙ absent-updated v w left told absent)) done

    -- Refused, it is for a value that is to be stored.
    pub asked-memory : OnErr result (AsksMemory told)
        → OnErr result (UpdateTakesMemory callback f v w)
    asked-memory asks =
        on_err_weaker result
        (λ asks. inr (left, asks.0, subst (λ t. Tells callback f v w left t) asks.1 tell)) asks

module _ {F V E : Type 0} (callback : Once F (MutBor (Slot V) × Unit {0})
    (Result (SlotUpdate V) E × (MutBor (Slot V) × Unit {0}))) (f : F) (v : Version V)
    (w : List ℕ) where
  pub tells-or-fails : (lent left : MutBor (Slot V)) (told : Result (SlotUpdate V) E)
      → lent.now ≡ slot_of (value_at v w) → callback.post f (lent, tt) (told, (left, tt))
      → TellsOrFails callback f v w left.now told
  tells-or-fails lent left told is met =
      record { shown = lent; shows = is; left = left; met = met; leaves = refl }

  pub tries-there : (left : Slot V) (told : Result (SlotUpdate V) E)
      (answer : Result Bool (Refusal E)) (after : Version V) → TellsOrFails callback f v w left told
      → has_key v w ≡ true → Tries v w left told answer after
      → TriesUpdate callback f v w answer after
  tries-there left told (Ok answer) after tell there is = (left, told, tell, is)
  tries-there left told (Err (Callback e)) after tell there is = (left, told, tell, is)
  tries-there left told (Err (Memory refusal)) after tell there is = (is, inl there)

  pub tries-absent : (left : Slot V) (told : Result (SlotUpdate V) E)
      (answer : Result Bool (Refusal E)) (after : Version V) → TellsOrFails callback f v w left told
      → TriesAbsent v w told answer after → TriesUpdate callback f v w answer after
  tries-absent left told (Ok answer) after tell is = (left, told, tell, is left)
  tries-absent left told (Err (Callback e)) after tell is = (left, told, tell, is left)
  tries-absent left told (Err (Memory refusal)) after tell is =
      (is.0, inr (left, is.1.0, subst (λ t. TellsOrFails callback f v w left t) is.1.1 tell))
