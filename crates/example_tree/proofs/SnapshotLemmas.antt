-- What the commands of `snapshots` are replied.
use Rattle.std.proofs.Common.{◌≡◌, ◌≢◌, ℕ, List, [], ◌∷◌, ap, ◌∙◌, subst, cond, arith}
use Rattle.std.specs.Prelude.{Some, slice_get, All}
use Rattle.std.specs.FinMap as finite
use Rattle.std.specs.Ordering.{is_eq}
use Rattle.std.specs.Cmp.{tied_itself}
use Rattle.std.proofs.lemmas.Cmp.{nat_list_cmp_total}
use Rattle.rart_family.specs.Bytes.{byte_order}
use Rattle.rart_family.specs.Versions.{empty_at, with_rise, with_key}
use Rattle.rart_family.specs.declared.family.command.Command.{Command}
use Rattle.rart_family.specs.declared.family.command.Command.TheVariants.{New, Snapshot, Insert, Get}
use Rattle.rart_family.specs.Replies.{Reply, Value, NoMemory}
use Rattle.rart_family.specs.Families.{Family, reply_to, after}
use Rattle.rart_family.specs.Runs.{Run}
use Rattle.rart_family.proofs.CallerLemmas.{own_replies}

module _ {K V : Type 0} (bytes : K → List ℕ) where
  abbrev pub commands : K → K → K → V → V → List (Command K V)
  commands a b d first second =
      New ∷ Insert 0 a first ∷ Snapshot 0 ∷ Insert 0 b second ∷ Get 1 d ∷ []

  pub run_of : (f new : Family V) (given told : List (Command K V)) (rs : List (Reply V)) → f ≡ []
      → given ≡ told → Run bytes f given rs new → Run bytes [] told rs new
  run_of f new given told rs empty same run =
      subst (λ f. Run bytes f told rs new) empty (subst (λ cs. Run bytes f cs rs new) same run)

  module _ (a b d : K) (first second : V) (same : bytes d ≡ bytes a) where
    value_there : finite.get {R = byte_order} (finite.insert finite.empty (bytes a) first) (bytes d)
        ≡ Some first
    value_there =
        rw same
        (finite.get-insert nat_list_cmp_total finite.empty (bytes a) first (bytes a)
        ∙ ap (λ o. cond (is_eq o) (Some first) (finite.get {R = byte_order} finite.empty (bytes a)))
        (tied_itself nat_list_cmp_total (bytes a)))

    pub snapshot_replies : (rs : List (Reply V)) (new : Family V)
        → Run bytes [] (commands a b d first second) rs new → All (λ r. r ≢ NoMemory) rs
        → slice_get rs 4 ≡ Some (Value (Some first))
    snapshot_replies (r0 ∷ r1 ∷ r2 ∷ r3 ∷ r4 ∷ []) new run told =
        let own = own_replies K V bytes in
        let own0 = own [] run.0 New r0 run.1 (told 0 r0 (omega arith)) in
        let own1 = own run.0 run.2.0 (Insert 0 a first) r1 run.2.1 (told 1 r0 (omega arith)) in
        let own2 = own run.2.0 run.2.2.0 (Snapshot 0) r2 run.2.2.1 (told 2 r0 (omega arith)) in
        let own3 =
        own run.2.2.0 run.2.2.2.0 (Insert 0 b second) r3 run.2.2.2.1
        (told 3 r0 (omega arith)) in
        let own4 =
        own run.2.2.2.0 run.2.2.2.2.0 (Get 1 d) r4 run.2.2.2.2.1 (told 4 r0 (omega arith)) in
        let made : run.0 ≡ Some (empty_at 0) ∷ [] = own0.1 in
        let inserted : run.2.0 ≡ Some (with_key (empty_at 0) (bytes a) first 1) ∷ [] =
        own1.1 ∙ ap (λ f. after bytes f (Insert 0 a first)) made in
        let copied : run.2.2.0 ≡ Some (with_key (empty_at 0) (bytes a) first 1)
        ∷ Some (with_rise (with_key (empty_at 0) (bytes a) first 1) 1) ∷ [] =
        own2.1 ∙ ap (λ f. after bytes f (Snapshot 0)) inserted in
        let changed : run.2.2.2.0 ≡ Some
        (with_key (with_key (empty_at 0) (bytes a) first 1) (bytes b) second 1)
        ∷ Some (with_rise (with_key (empty_at 0) (bytes a) first 1) 1) ∷ [] =
        own3.1 ∙ ap (λ f. after bytes f (Insert 0 b second)) copied in
        ap Some (own4.0 ∙ ap (λ f. reply_to bytes f (Get 1 d)) changed ∙ ap Value value_there)
    snapshot_replies [] new run told = absurd run
    snapshot_replies (r0 ∷ []) new run told = absurd run.2
    snapshot_replies (r0 ∷ r1 ∷ []) new run told = absurd run.2.2
    snapshot_replies (r0 ∷ r1 ∷ r2 ∷ []) new run told = absurd run.2.2.2
    snapshot_replies (r0 ∷ r1 ∷ r2 ∷ r3 ∷ []) new run told = absurd run.2.2.2.2
    snapshot_replies (r0 ∷ r1 ∷ r2 ∷ r3 ∷ r4 ∷ r5 ∷ rs) new run told = absurd run.2.2.2.2.2
