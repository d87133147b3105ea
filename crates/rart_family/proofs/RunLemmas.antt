-- Laws of steps and runs: out of memory is no command's own reply, a reply fixes the family after
-- it, and a run goes on by one step at its end.
use Rattle.std.proofs.Common.{◌≡◌, ℕ, zero, suc, ◌+◌, Bool, true, false, cond, length, take, List, [], ◌∷◌, ◌++◌, refl, sym, ap, ◌∙◌, subst, add_assoc, ⊎_elim, zero-add, add-zero, rules}
use Rattle.std.specs.Prelude.{Option, Some, None, Result, Ok, Err, slice_set, ⊤}
use Rattle.rart_maps.specs.Versions.{Version}
use Rattle.rart_family.specs.declared.family.command.Failure.{Failure}
use Rattle.rart_family.specs.declared.family.command.Command.{Command}
use Rattle.rart_family.specs.declared.family.command.Command.TheVariants.{TryUpdate, Until}
use Rattle.rart_family.specs.Replies.{Reply, Stopped, NoVersion, NoRoom, NoMemory}
use Rattle.rart_family.specs.Families.{Family, Outcome, Call, Makes, Copies, Discards, Reads, Meets, Changes, call_outcome, with_room, placement, called, tried_reply, is_reached, stopped, version_at, call_of, reply_to, after}
use Rattle.rart_family.specs.Runs.{Step, Run, next}
use Rattle.rart_family.specs.Costs.{along}

abbrev pub is_no_memory : {V : Type 0} → Reply V → Bool
is_no_memory NoMemory = true
is_no_memory r = false

abbrev pub is_refusal : {V : Type 0} → Reply V → Bool
is_refusal NoVersion = true
is_refusal NoRoom = true
is_refusal NoMemory = true
is_refusal r = false

no_refusal : {V : Type 0} (reply : Reply V) → is_refusal reply ≡ false → is_no_memory reply ≡ false
no_refusal NoMemory e = absurd (cc)
no_refusal reply e = refl

either_tells : {V : Type 0} (b : Bool) (one other : Reply V) →
    is_refusal one ≡ false → is_refusal other ≡ false → is_refusal (cond b one other) ≡ false
either_tells true one other tells told = tells
either_tells false one other tells told = told

stopped_tells : {V : Type 0} (visit : ℕ) (fails : Bool) (values : List V) →
    is_refusal (stopped visit fails values) ≡ false
stopped_tells visit fails values =
    either_tells (is_reached visit (length values))
    (Stopped (take visit values) fails) (Stopped values false) refl refl

module _ {V : Type 0} where
  -- What the call itself replies is no refusal.
  abbrev pub Answers : Call V → Type 0
  Answers (Makes v) = ⊤
  Answers (Copies place room copy) = ⊤
  Answers (Discards place) = ⊤
  Answers (Reads place reply) = (v : Version V) → is_refusal (reply v) ≡ false
  Answers (Meets left right reply) =
      (one other : Version V) → is_refusal (reply one other) ≡ false
  Answers (Changes place room key change) = (v : Version V) → is_refusal (change v).0 ≡ false

module _ {V : Type 0} (f : Family V) where
  tried_tells : (answer : Result Bool Failure) → is_refusal (tried_reply {V = V} answer) ≡ false
  tried_tells (Ok flag) = refl
  tried_tells (Err failure) = refl

  placed_tells : (call : Version V → Outcome V)
      → ((v : Version V) → is_no_memory (call v).0 ≡ false) → (found : Option (Version V))
      → is_no_memory (call_outcome f call found).0 ≡ false
  placed_tells call tells None = refl
  placed_tells call tells (Some v) = tells v

  room_tells : (v : Version V) (room : ℕ) (outcome : Outcome V) → is_no_memory outcome.0 ≡ false
      → is_no_memory (with_room f v room outcome).0 ≡ false
  room_tells v zero outcome tells = tells
  room_tells v (suc room) outcome tells = grind rules

  called_tells : (call : Call V) → Answers call → is_no_memory (called f call).0 ≡ false
  called_tells (Makes v) tells = refl
  called_tells (Copies place room copy) tells =
      placed_tells _ (λ v. room_tells v room (placement f (copy v)) refl) (version_at f place)
  called_tells (Discards place) tells = placed_tells _ (λ v. refl) (version_at f place)
  called_tells (Reads place reply) tells =
      placed_tells _ (λ v. no_refusal (reply v) (tells v)) (version_at f place)
  called_tells (Meets left right reply) tells =
      placed_tells _ (λ one. placed_tells _ (λ other. no_refusal (reply one other) (tells one other))
      (version_at f right)) (version_at f left)
  called_tells (Changes place room key change) tells =
      placed_tells _ (λ v. room_tells v room
      ((change v).0, slice_set f place (Some (change v).1)) (no_refusal (change v).0 (tells v)))
      (version_at f place)

module _ {K V : Type 0} (bytes : K → List ℕ) where
  pub command_answers : (f : Family V) (c : Command K V) → Answers (call_of bytes c)
  command_answers f (TryUpdate place key write answer) = λ v. tried_tells f _
  command_answers f (Until place prefix visits fails) = λ v. stopped_tells visits fails _
  command_answers f c = search rules

  pub reply_is_no_want : (f : Family V) (c : Command K V)
      → is_no_memory (reply_to bytes f c) ≡ false
  reply_is_no_want f c = called_tells f (call_of bytes c) (command_answers f c)

  next_after : (f : Family V) (c : Command K V) (r : Reply V) → is_no_memory r ≡ false
      → next bytes f c r ≡ after bytes f c
  next_after f c NoMemory is_other = cc
  next_after f c r is_other = refl

  -- a reply fixes the family after it
  pub step_next : (f : Family V) (c : Command K V) (r : Reply V) (new : Family V)
      → Step bytes f c r new → new ≡ next bytes f c r
  step_next f c r new step =
      ⊎_elim
      (λ own. own.1 ∙ sym (next_after f c r (ap is_no_memory own.0 ∙ reply_is_no_want f c)))
      (λ want. want.1 ∙ ap (next bytes f c) (sym want.0))
      step

  pub run_more : (old mid new : Family V) (cs : List (Command K V)) (rs : List (Reply V))
      (c : Command K V) (r : Reply V) → Run bytes old cs rs mid → Step bytes mid c r new
      → Run bytes old (cs ++ c ∷ []) (rs ++ r ∷ []) new
  run_more old mid new [] [] c r run step = (new, subst (λ f. Step bytes f c r new) run step, refl)
  run_more old mid new (x ∷ cs) (y ∷ rs) c r run step =
      (run.0, run.1, run_more run.0 mid new cs rs c r run.2 step)
  run_more old mid new [] (y ∷ rs) c r run step = absurd run
  run_more old mid new (x ∷ cs) [] c r run step = absurd run

  pub along_more : (cost : Family V → Command K V → Reply V → ℕ) (old mid : Family V)
      (cs : List (Command K V)) (rs : List (Reply V)) (c : Command K V) (r : Reply V)
      → Run bytes old cs rs mid → along bytes cost old (cs ++ c ∷ []) (rs ++ r ∷ [])
      ≡ along bytes cost old cs rs + cost mid c r
  along_more cost old mid [] [] c r run = ap (λ f. cost f c r + 0) (sym run) ∙ add-zero _
      ∙ sym (zero-add _)
  along_more cost old mid (x ∷ cs) (y ∷ rs) c r run =
      let rest = subst (λ f. Run bytes f cs rs mid) (step_next old x y run.0 run.1) run.2 in
      ap (λ n. cost old x y + n) (along_more cost (next bytes old x y) mid cs rs c r rest)
      ∙ sym (add_assoc _ _ _)
  along_more cost old mid [] (y ∷ rs) c r run = absurd run
  along_more cost old mid (x ∷ cs) [] c r run = absurd run
