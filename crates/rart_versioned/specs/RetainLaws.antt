-- What is said of a version of which a closure tells which pairs stay, and worked values.
use Rattle.std.specs.Prelude.{◌≡◌, ℕ, ◌+◌, List, [], ◌∷◌, ◌++◌, Bool, true, false, filter, not, codes}
use Rattle.std.specs.Fn.{Mut}
use Rattle.std.specs.List.{count_by}
use Rattle.rart_maps.specs.Pairs.{pairs}
use Rattle.rart_maps.specs.Versions.{Version}
use Rattle.rart_maps.specs.Visits.{CalledOn}
use Rattle.rart_versioned.specs.Replies.{KeepsAsked}
use Rattle.rart_versioned.specs.Retained.{Retains, count_dropped, kept_pairs}

module _ {F A V : Type 0} (g : Mut F A Bool) (Shows : A → List ℕ × V → Type 0) where
  -- Each answer of the closure is that of a function of the pair.
  abbrev pub AnswersBy : (List ℕ × V → Bool) → Type 0
  AnswersBy keeps = (f : F) (pair : List ℕ × V) (kept : Bool) (f' : F) →
      CalledOn g Shows f pair kept f' → kept ≡ keeps pair

  -- With such answers the pairs are filtered by that function.
  abbrev pub PairsAreFiltered : Type 0
  PairsAreFiltered = (keeps : List ℕ × V → Bool) → AnswersBy keeps →
      (before after : Version V) (f f' : F) → Retains g Shows f before f' after
      → (pairs after.content ≡ filter keeps (pairs before.content))
      × (after.number
      ≡ before.number + count_by (λ pair. not (keeps pair)) (pairs before.content))

  -- A closure that keeps the pairs which it was asked about: `retain` asks about each pair once, in
  -- order.
  abbrev pub AsksInOrder : Type 0
  AsksInOrder = (asked : F → List (List ℕ × V)) → KeepsAsked g Shows asked → (f f' : F)
      (before after : Version V) → Retains g Shows f before f' after
      → asked f' ≡ asked f ++ pairs before.content

-- Of three pairs the second is not kept.
abbrev pub WorkedReplies : Type 0
WorkedReplies =
    let replies : List ((List ℕ × ℕ) × Bool) =
    ((codes "a", 1), true) ∷ ((codes "b", 2), false) ∷ ((codes "c", 3), true) ∷ [] in
    (kept_pairs replies ≡ (codes "a", 1) ∷ (codes "c", 3) ∷ []) × (count_dropped replies ≡ 1)
