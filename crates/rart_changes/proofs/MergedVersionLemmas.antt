-- The conflicts, found among the changes of theirs, and the law of answers by a function.
use Rattle.std.proofs.Common.{◌≡◌, ◌&&◌, Bool, true, false, cond, List, [], ◌∷◌, ◌++◌, map, append_assoc, append-nil, Option, Some, None, is_some, refl, sym, ap, subst, ◌∙◌}
use Rattle.std.specs.Prelude.{Contains}
use Rattle.std.specs.Fn.{Mut}
use Rattle.std.specs.FinMap as finite
use Rattle.std.specs.List.{filter_map}
use Rattle.std.specs.Option.{unwrap_or}
use Rattle.std.proofs.lemmas.Bool.{and_parts, and_from, false≢true}
use Rattle.rart_maps.specs.Versions.{Map}
use Rattle.rart_maps.proofs.ElementLemmas.{Contains-filter_map}
use Rattle.rart_maps.proofs.FoundLemmas.{ascending_lists_are_fixed}
use Rattle.rart_maps.specs.ChangeLists.{Change, changes, differ, patched}
use Rattle.rart_maps.specs.Merges.{Answers, Conflict, answered, conflicts, in_conflict}
use Rattle.rart_maps.proofs.ChangeLemmas.{KeysAscend-kept, changes-ascend, changes-from, changes-to}
use Rattle.rart_maps.proofs.MergeLemmas.{conflicts_are_found, conflicts_ascend}
use Rattle.rart_versioned.specs.Replies.{Replies}
use Rattle.rart_versioned.proofs.ReplyLemmas.{replies-asked}
use Rattle.rart_changes.specs.Merging.{AnswersAreKept, AnswersAreMerged, AnswersBy, AsksInOrder, KeepsReplies, Reply, change_for}

module _ {V : Type 0} (same : V → V → Bool) (ours : Map V) where
  -- what the three have at a key that theirs changed
  abbrev pub three_at : Change V → Conflict V
  three_at c = (c.0, c.1, finite.get ours c.0, c.2)

  abbrev pub at_conflict : Change V → Bool
  at_conflict c = in_conflict same c.1 (finite.get ours c.0) c.2

  abbrev pub conflict_at : Change V → Option (Conflict V)
  conflict_at c = cond (at_conflict c) (Some (three_at c)) None

  -- the conflicts at these changes of theirs
  abbrev pub conflicts_in : List (Change V) → List (Conflict V)
  conflicts_in cs = filter_map conflict_at cs

  pub conflict_at-is : (c : Change V) (k : Conflict V) → conflict_at c ≡ Some k
      → (k ≡ three_at c) × (at_conflict c ≡ true)
  conflict_at-is c k is =
      elim (at_conflict c) as (λ t. cond t (Some (three_at c)) None ≡ Some k
      → (k ≡ three_at c) × (t ≡ true)) [
        | true ↦ λ is. (sym (ap (λ o. unwrap_or o (three_at c)) is), refl)
        | false ↦ λ is. absurd (false≢true (ap is_some is))
      ] is

  module _ (base theirs : Map V) where
    there-in : (k : Conflict V) → Contains (conflicts same base ours theirs) k
        → Contains (conflicts_in (changes same base theirs)) k
    there-in k there =
        let found = (conflicts_are_found same base ours theirs k.0 k.1 k.2 k.3).0 there in
        (Contains-filter_map conflict_at (changes same base theirs) k).1 (
          (k.0, k.1, k.3),
          changes-to same base theirs k.0 k.1 k.3 found.0 found.2 found.4,
          ap (λ x. cond (in_conflict same k.1 x k.3) (Some (k.0, k.1, x, k.3)) None) found.1
              ∙ ap (λ t. cond t (Some k) None)
              (and_from (differ same k.1 k.2) (differ same k.1 k.3 && differ same k.2 k.3) found.3
              (and_from (differ same k.1 k.3) (differ same k.2 k.3) found.4 found.5)),
        )

    in-there : (k : Conflict V) → Contains (conflicts_in (changes same base theirs)) k
        → Contains (conflicts same base ours theirs) k
    in-there k there =
        let found = (Contains-filter_map conflict_at (changes same base theirs) k).0 there in
        let c = found.0 in
        let x = finite.get ours c.0 in
        let is = conflict_at-is c k found.2 in
        let change = changes-from same base theirs c found.1 in
        let ours_differs = and_parts (differ same c.1 x) (differ same c.1 c.2 && differ same x c.2)
        is.1 in
        let others = and_parts (differ same c.1 c.2) (differ same x c.2) ours_differs.1 in
        subst (Contains (conflicts same base ours theirs)) (sym is.0)
        ((conflicts_are_found same base ours theirs c.0 c.1 x c.2).1
        (change.0, refl, change.1, ours_differs.0, others.0, others.1))

    pub conflicts-of_theirs : conflicts same base ours theirs
        ≡ conflicts_in (changes same base theirs)
    conflicts-of_theirs =
        ascending_lists_are_fixed (Conflict V) (λ k. k.0) (conflicts same base ours theirs)
        (conflicts_in (changes same base theirs)) (conflicts_ascend same base ours theirs)
        (KeysAscend-kept (λ (c : Change V). c.0) (λ (k : Conflict V). k.0) conflict_at
        (λ c k is. ap (λ three. three.0) (conflict_at-is c k is).0)
        (changes same base theirs) (changes-ascend same base theirs))
        (λ k. (there-in k, in-there k))

module _ {F A V : Type 0} (g : Mut F A (Option V)) (Shows : A → Conflict V → Type 0) where
  replies-by : (answers : Answers V) → AnswersBy g Shows answers → (replies : List (Reply V))
      → (f f' : F) → Replies g Shows f replies f'
      → map change_for replies ≡ map (answered answers) (map (λ reply. reply.0) replies)
  replies-by answers by [] f f' calls = refl
  replies-by answers by (reply ∷ replies) f f' calls =
      λ i. (reply.0.0, reply.0.2, by f reply.0 reply.1 calls.0 calls.1 i)
      ∷ replies-by answers by replies calls.0 f' calls.2 i

  pub answers_are_merged : (same : V → V → Bool) → AnswersAreMerged g Shows same
  answers_are_merged same answers by base ours theirs after f f' merges =
      merges.content
      ∙ ap (patched (patched ours (changes same base theirs)))
      (replies-by answers by merges.replies f f' merges.calls
      ∙ ap (map (answered answers)) merges.asked)

  pub asks_in_order : (same : V → V → Bool) → AsksInOrder g Shows same
  asks_in_order same asked keeps f f' base ours theirs after merges =
      replies-asked g Shows asked keeps merges.replies f f' merges.calls
      ∙ ap (λ list. asked f ++ list) merges.asked

  replies-kept : (kept : F → List (Reply V)) → KeepsReplies g Shows kept
      → (replies : List (Reply V)) (f f' : F) → Replies g Shows f replies f'
      → kept f' ≡ kept f ++ replies
  replies-kept kept keeps [] f f' calls = ap kept (sym calls) ∙ sym (append-nil (kept f))
  replies-kept kept keeps (reply ∷ replies) f f' calls =
      replies-kept kept keeps replies calls.0 f' calls.2
      ∙ ap (λ list. list ++ replies) (keeps f reply.0 reply.1 calls.0 calls.1)
      ∙ append_assoc (kept f) (reply ∷ []) replies

  pub answers_are_kept : (same : V → V → Bool) → AnswersAreKept g Shows same
  answers_are_kept same kept keeps f f' base ours theirs after merges = (
    merges.replies,
    replies-kept kept keeps merges.replies f f' merges.calls,
    merges.content,
  )
