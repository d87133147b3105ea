-- How a closure is asked at the conflicts, and what a merge makes of its answers.
use Rattle.std.specs.Prelude.{◌≡◌, ◌↔◌, ℕ, List, [], ◌∷◌, ◌++◌, ◌||◌, Option, Bool, map}
use Rattle.std.specs.Borrow.{Bor}
use Rattle.std.specs.Fn.{Mut}
use Rattle.std.specs.FinMap as finite
use Rattle.std.specs.List.{count_by}
use Rattle.std.specs.Option.{option_copied}
use Rattle.rart_maps.specs.Versions.{Map}
use Rattle.rart_maps.specs.Visits.{CalledOn}
use Rattle.rart_maps.specs.ChangeLists.{Change, changes, patched}
use Rattle.rart_maps.specs.Merges.{Conflict, Answers, conflicts, merged}
use Rattle.rart_versioned.specs.Replies.{KeepsAsked, Replies}
use Rattle.rart_changes.specs.ConflictVisits.{ByConflict}

-- a conflict, as `ByConflict` shows it, by a reference to the key
abbrev pub ByLentConflict : {K V : Type 0} → (K → List ℕ) →
    Bor K × (Option (Bor V) × (Option (Bor V) × (Option (Bor V) × Unit {0}))) → Conflict V → Type 0
ByLentConflict bytes = ByConflict (λ key. bytes key.now)

-- What a closure is shown of a conflict: its key, by one of these bytes, and references to the
-- values of the base, of ours and of theirs, where there are any.
abbrev pub ArgumentsShowTheirConflicts : (K V : Type 0) → (K → List ℕ) → Type 0
ArgumentsShowTheirConflicts K V bytes = (k : K) (lent : Bor K) (base ours theirs : Option (Bor V))
    (w : List ℕ) (x y z : Option V) →
    (ByConflict bytes (k, (base, (ours, (theirs, tt)))) (w, x, y, z)
    ↔ ((bytes k ≡ w) × (option_copied base ≡ x) × (option_copied ours ≡ y)
    × (option_copied theirs ≡ z)))
    × (ByLentConflict bytes (lent, (base, (ours, (theirs, tt)))) (w, x, y, z)
    ↔ ((bytes lent.now ≡ w) × (option_copied base ≡ x) × (option_copied ours ≡ y)
    × (option_copied theirs ≡ z)))

-- a conflict, and what its key is to have
abbrev pub Reply : Type 0 → Type 0
Reply V = Conflict V × Option V

module _ {V : Type 0} where
  -- the change of our side that a reply asks for
  abbrev pub change_for : Reply V → Change V
  change_for reply = (reply.0.0, reply.0.2, reply.1)

  -- how many of the keys of these changes are there after, or before
  abbrev pub held_in_either : Map V → Map V → List (Change V) → ℕ
  held_in_either before after changes =
      count_by (λ change. finite.contains_key after change.0 || finite.contains_key before change.0)
      changes

module _ {F A V : Type 0} (g : Mut F A (Option V)) (Shows : A → Conflict V → Type 0) where
  -- A merge: the closure f replies to each conflict in turn. Ours has then the changes of theirs,
  -- and at each conflict the answer.
  pub record MergesTo (same : V → V → Bool) (f : F) (base ours theirs : Map V) (f' : F)
      (after : Map V) : Type 0 where
    pub replies : List (Reply V)
    pub asked : map (λ reply. reply.0) replies ≡ conflicts same base ours theirs
    pub calls : Replies g Shows f replies f'
    pub content : after ≡ patched (patched ours (changes same base theirs)) (map change_for replies)

  -- Each answer of the closure is that of a function of the key and what the three have there.
  abbrev pub AnswersBy : Answers V → Type 0
  AnswersBy answers = (f : F) (conflict : Conflict V) (answer : Option V) (f' : F) →
      CalledOn g Shows f conflict answer f'
      → answer ≡ answers conflict.0 conflict.1 conflict.2 conflict.3

  -- With answers by a function, what a merge leaves is the merge by that function.
  abbrev pub AnswersAreMerged : (V → V → Bool) → Type 0
  AnswersAreMerged same = (answers : Answers V) → AnswersBy answers →
      (base ours theirs after : Map V) (f f' : F) →
      MergesTo same f base ours theirs f' after → after ≡ merged same answers base ours theirs

  -- A closure that keeps the conflicts which it was asked about: a merge asks about each conflict
  -- once, in order.
  abbrev pub AsksInOrder : (V → V → Bool) → Type 0
  AsksInOrder same = (asked : F → List (Conflict V)) → KeepsAsked g Shows asked → (f f' : F)
      (base ours theirs after : Map V) → MergesTo same f base ours theirs f' after
      → asked f' ≡ asked f ++ conflicts same base ours theirs

  -- To say what it answered: a closure that keeps each conflict with its answer. What a merge
  -- leaves has these answers.
  abbrev pub KeepsReplies : (F → List (Reply V)) → Type 0
  KeepsReplies kept = (f : F) (conflict : Conflict V) (answer : Option V) (f' : F) →
      CalledOn g Shows f conflict answer f' → kept f' ≡ kept f ++ (conflict, answer) ∷ []

  abbrev pub AnswersAreKept : (V → V → Bool) → Type 0
  AnswersAreKept same = (kept : F → List (Reply V)) → KeepsReplies kept → (f f' : F)
      (base ours theirs after : Map V) → MergesTo same f base ours theirs f' after
      → (replies : List (Reply V)) × (kept f' ≡ kept f ++ replies)
      × (after ≡ patched (patched ours (changes same base theirs)) (map change_for replies))
