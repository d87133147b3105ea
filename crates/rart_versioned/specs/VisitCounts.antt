-- How a visit that its closure ends raises the counts: under a prefix, and of changes.
use Rattle.std.specs.Prelude.{◌≡◌, ℕ, ◌+◌, ◌*◌, ◌≤◌, Bool, List, [], ◌∷◌, Result, length, ⊤}
use Rattle.std.specs.Fn.{Mut}
use Rattle.std.specs.FinSet as set
use Rattle.rart_below.specs.declared.slot.Refusal.{Refusal}
use Rattle.rart_below.specs.declared.visit.VisitControl.{VisitControl}
use Rattle.rart_maps.specs.ChangeLists.{Change, changes}
use Rattle.rart_walks.specs.DiffEnds.{pairs_from, is_up_to_first}
use Rattle.rart_maps.specs.Bounds.{node_count}
use Rattle.rart_maps.specs.Pairs.{pairs}
use Rattle.rart_maps.specs.Points.{points}
use Rattle.rart_maps.specs.Versions.{Map}
use Rattle.rart_node.specs.Counts.{Counts, CountsUpTo}
use Rattle.rart_walks.specs.Ends.{Ends}

-- the most nodes that are entered under p up to the key k, where a number of values are visited
abbrev pub end_bound : List ℕ → List ℕ → ℕ → ℕ
end_bound p k visited = length p + length k + 2 + 2 * visited

-- The visit ends on the last of these pairs, behind those in front: at most `end_bound` nodes are
-- entered, and one at least for each of them.
pub record EndsSoon {V : Type 0} (p : List ℕ) (before after : Counts)
    (front : List (List ℕ × V)) (last : List ℕ × V) : Type 0 where
  pub at_most : CountsUpTo (end_bound p last.0 (length front + 1)) 0 before after
  pub at_least : before.entered + (length front + 1) ≤ after.entered

module _ {V : Type 0} where
  -- how many points of a map are not behind its first key from k on; all, where there is none
  abbrev pub node_count_to : Map V → List ℕ → ℕ
  node_count_to m k =
      set.len (set.retain (points m) (is_up_to_first (pairs_from k (pairs m))))

  -- A diff ends on the last of these changes, behind those in front: of either tree no node is
  -- entered that is behind its first key from there on, and one at least is for each of them.
  pub record DiffEndsSoon (old new : Map V) (before after : Counts) (front : List (Change V))
      (last : Change V) : Type 0 where
    pub at_most : CountsUpTo (node_count_to old last.0 + node_count_to new last.0) 0 before after
    pub at_least : before.entered + (length front + 1) ≤ after.entered

  -- The first of these changes was looked for: it ends there, and where there is none, each node of
  -- either tree is entered.
  abbrev pub EndsAtFirst : Map V → Map V → Counts → Counts → List (Change V) → Type 0
  EndsAtFirst old new before after [] =
      after.entered ≡ before.entered + (node_count old + node_count new)
  EndsAtFirst old new before after (first ∷ changes) =
      DiffEndsSoon old new before after [] first

module _ {F A V E : Type 0} (callback : Mut F A (Result VisitControl E))
    (Shows : A → List ℕ × V → Type 0) where
  -- What a visit of these pairs, whose keys p begins, has entered by its answer: one node at least
  -- for each pair where it went through all of them, and few where its closure ended it.
  abbrev pub CountsVisit : List ℕ → F → List (List ℕ × V) → Result (Unit {0}) (Refusal E) → F
      → Counts → Counts → Type 0
  CountsVisit p f pairs result f' before after =
      Ends callback Shows (before.entered + length pairs ≤ after.entered) (EndsSoon p before after)
      result f pairs f'

module _ {F A V E : Type 0} (callback : Mut F A (Result VisitControl E))
    (Shows : A → Change V → Type 0) (same : V → V → Bool) where
  -- What a diff of two maps has entered by its answer: each node of both where it went through all
  -- changes, and few where its closure ended it.
  abbrev pub CountsDiff : F → Map V → Map V → Result (Unit {0}) (Refusal E) → F
      → Counts → Counts → Type 0
  CountsDiff f old new result f' before after =
      Ends callback Shows (after.entered ≡ before.entered + (node_count old + node_count new))
      (DiffEndsSoon old new before after) result f (changes same old new) f'

module _ {F A V E : Type 0} (callback : Mut F A (Result VisitControl E))
    (Shows : A → List ℕ × V × V → Type 0) where
  -- What an intersection has entered by its answer: two nodes at least for each common key where it
  -- went through all of them. Of one that its closure ended nothing is said here.
  abbrev pub CountsCommon : F → List (List ℕ × V × V) → Result (Unit {0}) (Refusal E) → F
      → Counts → Counts → Type 0
  CountsCommon f entries result f' before after =
      Ends callback Shows (before.entered + 2 * length entries ≤ after.entered) (λ front last. ⊤)
      result f entries f'
