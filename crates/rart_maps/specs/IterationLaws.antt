-- What an iterator gives, call after call.
use Rattle.std.specs.Prelude.{◌≡◌, ◌↔◌, ◌⊎◌, ℕ, List, [], ◌∷◌, ◌++◌, drop, length, map, replicate, take, Option, Some, None, Result, Ok, Err}
use Rattle.std.specs.List.{AllZip, FoldsTo}
use Rattle.std.specs.declared.alloc.AllocError.{AllocError}
use Rattle.std.specs.Iterator.{at_most}
use Rattle.rart_maps.specs.Iterations.{ByKey, ByReference, IsTakenFrom, NextGives, items_left}

module _ {A X : Type 0} (Shows : A → X → Type 0) where
  -- Calls in turn gave these answers.
  abbrev pub Gives :
      Option (List X) → List (Option (Result A AllocError)) → Option (List X) → Type 0
  Gives before answers after = FoldsTo (NextGives Shows) before answers after

  -- an answer for each item of a list
  abbrev pub items_given : List A → List (Option (Result A AllocError))
  items_given items = map (λ item. Some (Ok item)) items

  -- nothing, a number of times
  abbrev pub nothing_given : ℕ → List (Option (Result A AllocError))
  nothing_given times = replicate times None

  -- The answers are the first members, and the others are still to come.
  abbrev pub GivesFirst :
      List X → List (Option (Result A AllocError)) → Option (List X) → Type 0
  GivesFirst members answers after = (items : List A) × (front rest : List X)
      × (members ≡ front ++ rest) × AllZip Shows items front
      × (answers ≡ items_given items) × (after ≡ Some rest)

  -- The answers are all members, and then nothing, at least once.
  abbrev pub GivesAll : List X → List (Option (Result A AllocError)) → Option (List X) → Type 0
  GivesAll members answers after = (items : List A) × (more : ℕ)
      × AllZip Shows items members
      × (answers ≡ items_given items ++ None ∷ nothing_given more) × (after ≡ None)

  -- The answers are the first members, then one refusal, and then nothing.
  abbrev pub GivesUntilRefused :
      List X → List (Option (Result A AllocError)) → Option (List X) → Type 0
  GivesUntilRefused members answers after = (items : List A) × (front rest : List X)
      × (refused : AllocError) × (more : ℕ)
      × (members ≡ front ++ rest) × AllZip Shows items front
      × (answers ≡ items_given items ++ Some (Err refused) ∷ nothing_given more)
      × (after ≡ None)

  -- Calls in turn may give each of these three, and nothing else.
  abbrev pub MembersAreGiven : Type 0
  MembersAreGiven = (members : List X) (answers : List (Option (Result A AllocError)))
      (after : Option (List X)) → Gives (Some members) answers after
      ↔ (GivesFirst members answers after ⊎ GivesAll members answers after
      ⊎ GivesUntilRefused members answers after)

  -- Behind the end it is nothing, however often it is asked for.
  abbrev pub NothingIsGivenBehind : Type 0
  NothingIsGivenBehind = (answers : List (Option (Result A AllocError)))
      (after : Option (List X)) → Gives None answers after
      ↔ ((times : ℕ) × (answers ≡ nothing_given times) × (after ≡ None))

-- Of two members three items come at most, the third of them a refusal; behind the end, none.
abbrev pub ItemsLeftOfTwo : Type 0 → Type 0
ItemsLeftOfTwo X = (x y : X) → items_left (Some (x ∷ y ∷ [])) ≡ at_most 3

-- What was taken are the first members, and the others are still to come.
abbrev pub TakenAreFirst : Type 0 → Type 0
TakenAreFirst X = (members taken : List X) (left : Option (List X)) →
    IsTakenFrom members taken left
    ↔ ((take (length taken) members ≡ taken) × (left ≡ Some (drop (length taken) members)))

abbrev pub ItemsLeftBehind : Type 0 → Type 0
ItemsLeftBehind X = items_left {X = X} None ≡ at_most 0

module _ (V : Type 0) where
  -- so of values by references, and of pairs by keys with their bytes and references to values
  abbrev pub ValuesAreGiven : Type 0
  ValuesAreGiven = MembersAreGiven (ByReference {V = V})

  abbrev pub NoValueIsGivenBehind : Type 0
  NoValueIsGivenBehind = NothingIsGivenBehind (ByReference {V = V})

  abbrev pub PairsAreGiven : {K : Type 0} → (K → List ℕ) → Type 0
  PairsAreGiven bytes = MembersAreGiven (ByKey {V = V} bytes)

  abbrev pub NoPairIsGivenBehind : {K : Type 0} → (K → List ℕ) → Type 0
  NoPairIsGivenBehind bytes = NothingIsGivenBehind (ByKey {V = V} bytes)
