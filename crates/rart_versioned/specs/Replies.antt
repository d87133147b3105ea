-- What a closure answers to the members of a list.
use Rattle.std.specs.Prelude.{◌≡◌, ◌↔◌, List, [], ◌∷◌, ◌++◌, map}
use Rattle.std.specs.Fn.{Mut}
use Rattle.std.specs.List.{FoldsTo}
use Rattle.rart_maps.specs.Visits.{CalledOn, CallableOn}

-- A reply is a member, and what the closure answers to it. f is shown a member x by arguments a
-- where `Shows a x`.
module _ {F A R X : Type 0} (g : Mut F A R) (Shows : A → X → Type 0) where
  -- f is called on the members of these replies in order, once each, and on nothing else, and
  -- gives these answers.
  abbrev pub Replies : F → List (X × R) → F → Type 0
  Replies f replies f' = FoldsTo (λ j reply j'. CalledOn g Shows j reply.0 reply.1 j') f replies f'

  -- It replies so to the members before the rest.
  pub record RepliesUpTo (f : F) (members : List X) (replies : List (X × R)) (rest : List X)
      (f' : F) : Type 0 where
    pub asked : members ≡ map (λ reply. reply.0) replies ++ rest
    pub calls : Replies f replies f'

  -- It may be called on each member, in every state that calls on those before it may leave.
  pub record Answerable (f : F) (members : List X) : Type 0 where
    pub at : (replies : List (X × R)) (x : X) (rest : List X) (f' : F)
        → RepliesUpTo f members replies (x ∷ rest) f' → CallableOn g Shows f' x

  -- It is called on the members of a prefix, which is what a refusal leaves.
  abbrev pub IsAskedUpTo : F → List X → F → Type 0
  IsAskedUpTo f members f' =
      (replies : List (X × R)) × (rest : List X) × RepliesUpTo f members replies rest f'

  -- To say what it was asked: a closure that keeps a list of the members, one more with each call.
  abbrev pub KeepsAsked : (F → List X) → Type 0
  KeepsAsked asked = (f : F) (x : X) (reply : R) (f' : F) →
      CalledOn g Shows f x reply f' → asked f' ≡ asked f ++ x ∷ []

  -- Where such a closure was asked about a prefix of these members, it keeps these first ones.
  abbrev pub AsksFirstMembers : Type 0
  AsksFirstMembers = (asked : F → List X) → KeepsAsked asked → (f f' : F) (all : List X) →
      IsAskedUpTo f all f' → (rest : List X) × (asked f ++ all ≡ asked f' ++ rest)

  -- What may be asked about the members may be asked about the first, and, whatever that leaves,
  -- about the others.
  abbrev pub AnswerableStepByStep : Type 0
  AnswerableStepByStep = (f : F) (x : X) (rest : List X) →
      Answerable f (x ∷ rest) ↔ (CallableOn g Shows f x
      × ((reply : R) (f' : F) → CalledOn g Shows f x reply f' → Answerable f' rest))
