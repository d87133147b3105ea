-- Changes that are listed by a closure, one after the other.
use Rattle.std.proofs.Common.{◌≡◌, ◌+◌, ◌≤◌, ℕ, List, [], ◌∷◌, ◌++◌, length, map, sym, ap, subst, ◌∙◌, arith}
use Rattle.std.specs.Fn.{Mut, Takes}
use Rattle.std.proofs.lemmas.List.{length-map, map-append}
use Rattle.rart_changes.proofs.CallLemmas.{holds-of_all, holds-up_to}
use Rattle.rart_maps.specs.ChangeLists.{Change}
use Rattle.rart_maps.specs.Visits.{Answers, AnswersUpTo, CallableInTurn, CalledOn}
use Rattle.rart_saved.specs.FamilyForms.{as_setting, optional}
use Rattle.rart_saved.specs.Forms.{entries, entry}
use Rattle.rart_saved.proofs.EntryLemmas.{IsListed, listed-next, listed-none}
use Rattle.rart_saved.proofs.FormLengthLemmas.{entries-long}

-- What a closure makes of a list to which it adds each key that it is shown, with what is there
-- now, where it answers so.
module _ {S A R V : Type 0} (closure : Mut S A R) (Shows : A → Change V → Type 0) (answer : R)
    (written : V → List ℕ) (listed before : S → List ℕ) (count : S → ℕ)
    (adds : (s : S) (c : Change V) (s' : S) → CalledOn closure Shows s c answer s'
    → (listed s' ≡ listed s ++ entry (optional written) (before s) (as_setting c))
    × (before s' ≡ c.0) × (count s' ≡ count s + 1))
    (all : List (Change V)) where
  -- These were listed so far.
  abbrev AreListed : List (Change V) → S → Type 0
  AreListed front s =
      IsListed (optional written) [] (listed s) (before s) (count s) (map as_setting front)

  step : (front : List (Change V)) (c : Change V) (rest : List (Change V)) (s s' : S)
      → all ≡ front ++ c ∷ rest → AreListed front s
      → CalledOn closure Shows s c answer s' → AreListed (front ++ c ∷ []) s'
  step front c rest s s' parts is called =
      let added = adds s c s' called in
      subst (λ pairs. IsListed (optional written) [] (listed s') (before s') (count s') pairs)
      (sym (map-append as_setting front (c ∷ [])))
      (listed-next (optional written) [] (listed s) (before s) (listed s') (before s') (count s)
      (count s') (map as_setting front) c.0 c.2 is added.0 added.1 added.2)

  module _ (first : S) (empty : listed first ≡ []) (start : before first ≡ [])
      (zeroed : count first ≡ 0) where
    begun : AreListed [] first
    begun =
        listed-none (optional written) [] (listed first) (before first) (count first) empty start
        zeroed

    pub settings-listed : (s : S) → Answers closure Shows answer first all s
        → (listed s ≡ entries (optional written) [] (map as_setting all))
        × (count s ≡ length all)
    settings-listed s calls =
        let is = holds-of_all closure Shows answer all AreListed step first s begun calls in
        (is.listed, is.counted ∙ length-map all as_setting)

    room : (rest : List (Change V)) (s : S) → AnswersUpTo closure Shows answer first all rest s
        → count s ≤ length (listed s)
    room rest s calls =
        let is = holds-up_to closure Shows answer all AreListed step rest first s begun calls in
        omega (
          arith,
          is.counted,
          ap length is.listed,
          entries-long (optional written) [] (map as_setting calls.0),
        )

    -- Before each call there is room to count one more.
    pub settings-callable : ((s : S) (c : Change V) (a : A) → count s ≤ length (listed s)
        → Shows a c → Takes closure s a)
        → CallableInTurn closure Shows answer first all
    settings-callable takes =
        record { at = λ c rest s calls a shown. takes s c a (room (c ∷ rest) s calls) shown }
