-- What a walk gives, or a visit is called on, collected into a list.
use Rattle.std.specs.Prelude.{◌≡◌, ℕ, List, [], ◌∷◌, ◌++◌, map, Option, Some, None, Result, Ok, Err, ⊤}
use Rattle.std.specs.Global.{Vec}
use Rattle.std.specs.declared.alloc.AllocError.{AllocError}

module _ {K V : Type 0} (bytes : K → List ℕ) where
  -- entries as they are replied, each key by its bytes
  abbrev pub pairs_of : List (K × V) → List (List ℕ × V)
  pairs_of entries = map (λ entry. (bytes entry.0, entry.1)) entries

  -- the same of keys with two values each
  abbrev pub triples_of : List (K × V × V) → List (List ℕ × V × V)
  triples_of entries = map (λ entry. (bytes entry.0, entry.1, entry.2)) entries

-- A walk w may give an answer, and leave w', where `gives w answer w'`. Its item a is a member x
-- where `Shows a x`.
module _ {W A X E : Type 0} (gives : W → Option (Result A E) → W → Type 0)
    (Shows : A → X → Type 0) where
  -- It is this member, and what is to come later holds; or a refusal.
  abbrev pub IsMember : X → Type 0 → Option (Result A E) → Type 0
  IsMember x Later None = ⊥
  IsMember x Later (Some (Ok item)) = Shows item x × Later
  IsMember x Later (Some (Err refused)) = ⊤

  -- It is the end, or a refusal.
  abbrev pub IsNoMember : Option (Result A E) → Type 0
  IsNoMember None = ⊤
  IsNoMember (Some (Ok item)) = ⊥
  IsNoMember (Some (Err refused)) = ⊤

  -- The walk gives the members in order, and then ends; or it is refused before, or at its end.
  abbrev pub GivesAll : List X → W → Type 0
  GivesAll [] w = (answer : Option (Result A E)) (w' : W) → gives w answer w' → IsNoMember answer
  GivesAll (x ∷ xs) w =
      (answer : Option (Result A E)) (w' : W) → gives w answer w' →
      IsMember x (GivesAll xs w') answer

-- What a visit has kept so far, `seen` as a list of its members, or that memory was refused.
module _ {A X : Type 0} (seen : List A → List X) where
  -- These members were put behind what was kept before; or memory was refused, then or before.
  abbrev pub Keeps : Result (Vec A) AllocError → List X → Result (Vec A) AllocError → Type 0
  Keeps before members (Err refused) = ⊤
  Keeps (Ok before) members (Ok after) = seen after.items ≡ seen before.items ++ members
  Keeps (Err refused) members (Ok after) = ⊥
