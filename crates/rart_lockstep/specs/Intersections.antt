-- What is done where two trees have a key in common: a call of a closure.
use Rattle.std.specs.Prelude.{ℕ, List, Option, Result, OnOk}
use Rattle.std.specs.Fn.{Mut}
use Rattle.std.specs.List.{concat}
use Rattle.rart_maps.specs.Visits.{CallableInTurn}
use Rattle.rart_node.specs.Shape.{Shape}
use Rattle.rart_node.specs.Trees.{pairs_of}
use Rattle.rart_node.specs.PairsBehind.{behind_path}
use Rattle.rart_node.specs.PairsBehind.{AreShort}
use Rattle.rart_lockstep.specs.CommonPairs.{common_pairs}
use Rattle.rart_lockstep.specs.Endings.{VisitsBy}
use Rattle.rart_lockstep.specs.Entries.{behind_key}

module _ {T V F A R : Type 0} (g : Mut F A R) (Shows : A → List ℕ × V × V → Type 0) (goes : R)
    (holds : T → List (List ℕ) → Type 0) where
  -- The key path keeps the way to two nodes, no key is too long for it, and the closure may be
  -- called on what the two have in common.
  abbrev pub CanIntersect : Option ℕ → T → F → Shape V → Shape V → Type 0
  CanIntersect greatest key_path f left right =
      (segments : List (List ℕ)) × holds key_path segments
      × AreShort greatest (behind_path (concat segments) (pairs_of left))
      × CallableInTurn g Shows goes f (behind_key (concat segments) (common_pairs left right))

  -- The closure was called on what the two have in common, or on a prefix of that, where it ended
  -- early. The key path keeps the way to them again, unless it ended early.
  abbrev pub HasIntersected : {E : Type 0} → (E → Option R)
      → T → F → Result (Unit {0}) E → Shape V → Shape V → T → F → Type 0
  HasIntersected told key_path f result left right key_path' f' =
      (segments : List (List ℕ)) → holds key_path segments →
      VisitsBy g Shows goes told result f (behind_key (concat segments) (common_pairs left right))
      f'
      × OnOk result (holds key_path' segments)
