-- A command's reply, its keys seen as their bytes.
use Rattle.std.proofs.Common.{inl, inr, ◌≡◌, ℕ, List, false, refl, ◌∙◌, ap, subst, IsTrue}
use Rattle.std.specs.declared.option.Option.TheVariants.{None}
use Rattle.std.specs.declared.ops.Bound.{Bound}
use Rattle.std.specs.declared.ops.Bound.TheVariants.{Included, Excluded, Unbounded}
use Rattle.std.specs.Range.Bound.{bound_map}
use Rattle.rart_family.specs.declared.family.command.Command.{Command}
use Rattle.rart_family.specs.declared.family.command.Command.TheVariants.{Discard, Version as NumberOf, IsEmpty, Get, Remove, Delete, Update, TryUpdate, IntersectCount, Range, RangeViews}
use Rattle.rart_family.specs.Replies.{Reply, Value, Flag, NoVersion, NoRoom}
use Rattle.rart_family.specs.Families.{Family, outcome, reply_to}
use Rattle.rart_family.specs.Runs.{Step, may_want_memory}
use Rattle.rart_family.specs.Keys.{by_bytes}
use Rattle.vtree_lines.specs.Transcript.{Replies}

pub bound_same : (bound : Bound (List ℕ)) → bound_map (λ key. key) bound ≡ bound
bound_same (Included key) = refl
bound_same (Excluded key) = refl
bound_same Unbounded = refl

pub outcome_once : {K : Type 0} (bytes : K → List ℕ) (f : Family ℕ) (command : Command K ℕ) →
    outcome bytes f command ≡ outcome (λ key. key) f (by_bytes bytes command)
outcome_once bytes f (Range place lo hi) =
    rw (bound_same (bound_map bytes lo), bound_same (bound_map bytes hi))
outcome_once bytes f (RangeViews place lo hi) =
    rw (bound_same (bound_map bytes lo), bound_same (bound_map bytes hi))
outcome_once bytes f command = refl

-- whether out of memory may be replied
want_once : {K : Type 0} (bytes : K → List ℕ) (command : Command K ℕ) (reply : Reply ℕ) →
    may_want_memory command reply ≡ may_want_memory (by_bytes bytes command) reply
want_once bytes command NoVersion = refl
want_once bytes command NoRoom = refl
want_once bytes (Discard place) reply = refl
want_once bytes (NumberOf place) reply = refl
want_once bytes (IsEmpty place) reply = refl
want_once bytes (IntersectCount left right) reply = refl
want_once bytes (Get place key) (Value None) = refl
want_once bytes (Remove place key) (Value None) = refl
want_once bytes (Delete place key) (Flag false) = refl
want_once bytes (Update place key None answer) (Flag false) = refl
want_once bytes (TryUpdate place key None answer) (Flag false) = refl
want_once bytes command reply = refl

-- a step is a reply to the command
pub replies_once : {K : Type 0} (bytes : K → List ℕ) (old new : Family ℕ) (command : Command K ℕ)
    (reply : Reply ℕ) → Step bytes old command reply new →
    Replies old (by_bytes bytes command) reply new
replies_once bytes old new command reply (inl own) =
    inl (
      own.0 ∙ ap (λ o. o.0) (outcome_once bytes old command),
      own.1
          ∙ ap (λ o. o.1) (outcome_once bytes old command),
    )
replies_once bytes old new command reply (inr want) = inr (
  want.0,
  want.1,
  subst IsTrue
      (want_once bytes command (reply_to bytes old command)
      ∙ ap (λ o. may_want_memory (by_bytes bytes command) o.0) (outcome_once bytes old command))
      want.2,
)
