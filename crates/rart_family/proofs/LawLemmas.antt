-- The laws of steps and runs, for all commands.
use Rattle.std.proofs.Common.{◌≡◌, ◌≢◌, ℕ, zero, suc, ◌<◌, ◌≤◌, ◌+◌, ◌^◌, Bool, true, false, nat_lt, cond, List, [], ◌∷◌, ◌++◌, length, refl, sym, ap, ◌∙◌, subst, ⊎_elim, arith}
use Rattle.std.proofs.lemmas.List.{length-append}
use Rattle.std.specs.Prelude.{Option, Some, None, slice_get, slice_set}
use Rattle.rart_maps.specs.Versions.{Version}
use Rattle.rart_family.specs.declared.family.command.Command.{Command}
use Rattle.rart_family.specs.Replies.{Reply, NoRoom}
use Rattle.rart_family.specs.Families.{Family, Outcome, Call, Makes, Copies, Discards, Reads, Meets, Changes, call_outcome, with_room, placement, called, version_at, call_of}
use Rattle.rart_family.specs.Runs.{Step, Run}
use Rattle.rart_family.specs.Laws.{place_changed, StepsAreIsolated, PlacesStay, RepliesFixSteps, RepliesFixRuns, StepsReplyTheirOwn, RunsReplyToEach, NoReplyIsWant}
use Rattle.rart_family.proofs.RunLemmas.{is_no_memory, reply_is_no_want, step_next}

get-push : {A : Type 0} (xs : List A) (x : A) (p : ℕ) → p < length xs
    → slice_get (xs ++ x ∷ []) p ≡ slice_get xs p
get-push [] x p within = absurd (omega arith)
get-push (y ∷ xs) x zero within = refl
get-push (y ∷ xs) x (suc p) within = get-push xs x p (omega arith)

get-set_other : {A : Type 0} (xs : List A) (q : ℕ) (x : A) (p : ℕ) → q ≢ p
    → slice_get (slice_set xs q x) p ≡ slice_get xs p
get-set_other [] q x p apart = refl
get-set_other (y ∷ xs) zero x zero apart = absurd (apart refl)
get-set_other (y ∷ xs) zero x (suc p) apart = refl
get-set_other (y ∷ xs) (suc q) x zero apart = refl
get-set_other (y ∷ xs) (suc q) x (suc p) apart = get-set_other xs q x p (λ e. apart (ap suc e))

length-slice_set : {A : Type 0} (xs : List A) (q : ℕ) (x : A)
    → length (slice_set xs q x) ≡ length xs
length-slice_set [] q x = refl
length-slice_set (y ∷ xs) zero x = refl
length-slice_set (y ∷ xs) (suc q) x = ap suc (length-slice_set xs q x)

module _ {V : Type 0} (f : Family V) (P : Family V → Type 0) (same : P f) where
  -- A fact of the family that holds where a call is made holds of what is left in every case.
  kept_called : (call : Version V → Outcome V) → ((v : Version V) → P (call v).1)
      → (found : Option (Version V)) → P (call_outcome f call found).1
  kept_called call kept None = same
  kept_called call kept (Some v) = kept v

  kept_cond : (b : Bool) (outcome : Outcome V) → P outcome.1 → P (cond b outcome (NoRoom, f)).1
  kept_cond true outcome kept = kept
  kept_cond false outcome kept = same

  kept_room : (v : Version V) (room : ℕ) (outcome : Outcome V) → P outcome.1
      → P (with_room f v room outcome).1
  kept_room v zero outcome kept = kept
  kept_room v (suc room) outcome kept = kept_cond (nat_lt (v.number + suc room) (2 ^ 64)) outcome kept

  -- A fact of families holds after a call where it holds of the family, of the family with a new
  -- last place, and of the family with another version at the place that the call may change.
  kept_after : ((v : Option (Version V)) → P (f ++ v ∷ [])) → (call : Call V)
      → ((place : ℕ) (v : Option (Version V)) → place_changed call ≡ Some place
      → P (slice_set f place v)) → P (called f call).1
  kept_after push (Makes v) set = push _
  kept_after push (Copies place room copy) set =
      kept_called _ (λ v. kept_room v room (placement f (copy v)) (push _)) (version_at f place)
  kept_after push (Discards place) set =
      kept_called _ (λ v. set place None refl) (version_at f place)
  kept_after push (Reads place reply) set = kept_called _ (λ v. same) (version_at f place)
  kept_after push (Meets left right reply) set =
      kept_called _ (λ one. kept_called _ (λ other. same) (version_at f right)) (version_at f left)
  kept_after push (Changes place room key change) set =
      kept_called _ (λ v. kept_room v room ((change v).0, slice_set f place (Some (change v).1))
      (set place (Some (change v).1) refl)) (version_at f place)

module _ {K V : Type 0} (bytes : K → List ℕ) where
  -- The same after a step.
  kept_step : (P : Family V → Type 0) (old new : Family V) (c : Command K V) (r : Reply V)
      → Step bytes old c r new → P old → ((v : Option (Version V)) → P (old ++ v ∷ []))
      → ((place : ℕ) (v : Option (Version V)) → place_changed (call_of bytes c) ≡ Some place
      → P (slice_set old place v)) → P new
  kept_step P old new c r step same push set =
      ⊎_elim (λ own. subst P (sym own.1) (kept_after old P same push (call_of bytes c) set))
      (λ want. subst P (sym want.1) same) step

module _ (K V : Type 0) (bytes : K → List ℕ) where
  pub isolated : StepsAreIsolated K V bytes
  isolated old new c r place step within other =
      kept_step bytes (λ f. slice_get f place ≡ slice_get old place) old new c r step
      refl
      (λ v. get-push old v place within)
      (λ changed v is. get-set_other old changed v place (λ e. other (is ∙ ap Some e)))

  pub places_stay : PlacesStay K V bytes
  places_stay old new c r step =
      kept_step bytes (λ f. length old ≤ length f) old new c r step
      (omega arith)
      (λ v. omega (arith, length-append old (v ∷ [])))
      (λ changed v is. omega (arith, length-slice_set old changed v))

  pub steps_fixed : RepliesFixSteps K V bytes
  steps_fixed old new other c r step again =
      step_next bytes old c r new step ∙ sym (step_next bytes old c r other again)

  pub runs_fixed : RepliesFixRuns K V bytes
  runs_fixed old new other [] [] run again = run ∙ sym again
  runs_fixed old new other (c ∷ cs) (r ∷ rs) run again =
      runs_fixed run.0 new other cs rs run.2
      (subst (λ f. Run bytes f cs rs other)
      (steps_fixed old again.0 run.0 c r again.1 run.1) again.2)
  runs_fixed old new other [] (r ∷ rs) run again = absurd run
  runs_fixed old new other (c ∷ cs) [] run again = absurd run

  pub own_replies : StepsReplyTheirOwn K V bytes
  own_replies old new c r step other = ⊎_elim (λ own. own) (λ want. absurd (other want.0)) step

  pub one_each : RunsReplyToEach K V bytes
  one_each old new [] [] run = refl
  one_each old new (c ∷ cs) (r ∷ rs) run = ap suc (one_each run.0 new cs rs run.2)
  one_each old new [] (r ∷ rs) run = absurd run
  one_each old new (c ∷ cs) [] run = absurd run

  pub no_want : NoReplyIsWant K V bytes
  no_want f c is_want = let h = sym (reply_is_no_want bytes f c) ∙ ap is_no_memory is_want in cc
