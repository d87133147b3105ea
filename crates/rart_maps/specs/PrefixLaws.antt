-- Laws that show what a map cut at a prefix is.
use Rattle.std.specs.Prelude.{◌≡◌, ◌+◌, ◌↔◌, ℕ, Bool, false, not, List, [], None, IsTrue, filter, if◌then◌else◌}
use Rattle.std.specs.FinMap as finite
use Rattle.rart_below.specs.Bytes.{begins}
use Rattle.rart_maps.specs.ChangeLaws.{IsReflexive}
use Rattle.rart_maps.specs.ChangeLists.{changes}
use Rattle.rart_maps.specs.Pairs.{pairs, under}
use Rattle.rart_maps.specs.Prefixes.{pairs_under, without_prefix, with_prefix_of, has_under, under_prefix, after_prefix_removal, after_prefix_restoring}
use Rattle.rart_maps.specs.Versions.{Map, Version, has_key, value_at}

module _ (V : Type 0) where
  -- ---- look-ups: they say all of each map, as maps that answer alike are one
  -- Under the prefix alone, a key has what it had where p begins it.
  abbrev pub UnderAnswers : Type 0
  UnderAnswers = (m : Map V) (p key : List ℕ) →
      finite.get (pairs_under m p) key ≡ (if begins p key then finite.get m key else None)

  -- Without the prefix, a key has what it had where p does not begin it.
  abbrev pub WithoutAnswers : Type 0
  WithoutAnswers = (m : Map V) (p key : List ℕ) →
      finite.get (without_prefix m p) key ≡ (if begins p key then None else finite.get m key)

  -- With another's pairs, a key that p begins has what the other has there.
  abbrev pub WithAnswers : Type 0
  WithAnswers = (other m : Map V) (p key : List ℕ) →
      finite.get (with_prefix_of p other m) key
      ≡ (if begins p key then finite.get other key else finite.get m key)

  -- Maps that answer alike are the same.
  abbrev pub AnswersFixTheMap : Type 0
  AnswersFixTheMap = (m n : Map V) → ((key : List ℕ) → finite.get m key ≡ finite.get n key) → m ≡ n

  -- A version has something under p exactly where p begins a key of it.
  abbrev pub HasUnderIsOfAKey : Type 0
  HasUnderIsOfAKey = (v : Version V) (p : List ℕ) →
      IsTrue (has_under v p)
      ↔ ((key : List ℕ) × IsTrue (begins p key) × IsTrue (has_key v key))

  -- ---- what the calls on a prefix make of a version
  abbrev pub PartsAnswer : Type 0
  PartsAnswer = (v : Version V) (p : List ℕ) (more : ℕ) (key : List ℕ) →
      value_at (under_prefix v p more) key ≡ (if begins p key then value_at v key else None)

  abbrev pub RemovalsAnswer : Type 0
  RemovalsAnswer = (v : Version V) (p key : List ℕ) →
      value_at (after_prefix_removal v p) key ≡ (if begins p key then None else value_at v key)

  -- The number rises where something goes, and else nothing changes.
  abbrev pub RemovalsRaise : Type 0
  RemovalsRaise = (v : Version V) (p : List ℕ) →
      (IsTrue (has_under v p) → (after_prefix_removal v p).number ≡ v.number + 1)
      × (has_under v p ≡ false → after_prefix_removal v p ≡ v)

  -- What is restored has the other version's value where p begins the key.
  abbrev pub RestoringsAnswer : Type 0
  RestoringsAnswer = (v other : Version V) (p key : List ℕ) →
      value_at (after_prefix_restoring v p other) key
      ≡ (if begins p key then value_at other key else value_at v key)

  -- A part's number is greater by as much as it is told, and what is restored has the sum of both.
  abbrev pub NumbersAdd : Type 0
  NumbersAdd = (v other : Version V) (p : List ℕ) (more : ℕ) →
      ((under_prefix v p more).number ≡ v.number + more)
      × ((after_prefix_restoring v p other).number ≡ v.number + other.number)

  -- ---- lists of pairs
  abbrev pub PairsUnderAreUnder : Type 0
  PairsUnderAreUnder = (m : Map V) (p : List ℕ) → pairs (pairs_under m p) ≡ under m p

  abbrev pub PairsWithoutAreTheOthers : Type 0
  PairsWithoutAreTheOthers = (m : Map V) (p : List ℕ) →
      pairs (without_prefix m p) ≡ filter (λ pair. not (begins p pair.0)) (pairs m)

  -- Under p there stands what the other map has there.
  abbrev pub UnderIsTheOthers : Type 0
  UnderIsTheOthers = (other m : Map V) (p : List ℕ) →
      under (with_prefix_of p other m) p ≡ under other p

  -- ---- together
  -- What was kept of a map under p brings that map back, if nothing else has changed since.
  abbrev pub RestoringUndoes : Type 0
  RestoringUndoes = (before after : Map V) (p : List ℕ) →
      ((key : List ℕ) → begins p key ≡ false → finite.get after key ≡ finite.get before key)
      → with_prefix_of p (pairs_under before p) after ≡ before

  -- So does what was taken out.
  abbrev pub PuttingBackIsNothing : Type 0
  PuttingBackIsNothing = (m : Map V) (p : List ℕ) →
      with_prefix_of p (pairs_under m p) (without_prefix m p) ≡ m

  -- To remove is to restore from a map without a key, and to keep what is under p is to restore
  -- into one.
  abbrev pub RemovingRestoresNothing : Type 0
  RemovingRestoresNothing = (m : Map V) (p : List ℕ) →
      without_prefix m p ≡ with_prefix_of p finite.empty m

  abbrev pub KeepingRestoresIntoNothing : Type 0
  KeepingRestoresIntoNothing = (m : Map V) (p : List ℕ) →
      pairs_under m p ≡ with_prefix_of p m finite.empty

  -- The empty prefix is that of the whole map.
  abbrev pub EmptyPrefixIsAll : Type 0
  EmptyPrefixIsAll = (other m : Map V) → (pairs_under m [] ≡ m)
      × (without_prefix m [] ≡ finite.empty) × (with_prefix_of [] other m ≡ other)

  -- Prefixes of which neither begins the other can be restored in any order.
  abbrev pub ApartPrefixesCommute : Type 0
  ApartPrefixesCommute = (one other m : Map V) (p q : List ℕ) →
      begins p q ≡ false → begins q p ≡ false
      → with_prefix_of p one (with_prefix_of q other m)
      ≡ with_prefix_of q other (with_prefix_of p one m)

-- What changes as pairs are restored is what differs from the other map under p.
abbrev pub RestoringChangesUnder : {V : Type 0} → (V → V → Bool) → Type 0
RestoringChangesUnder {V} same = IsReflexive same → (other m : Map V) (p : List ℕ) →
    changes same m (with_prefix_of p other m)
    ≡ filter (λ change. begins p change.0) (changes same m other)
