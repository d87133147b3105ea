-- A walk that has given the next of its pairs has keys as before: they are in order still, and of
-- each one can be made.
use Rattle.std.proofs.Common.{rules, ℕ, List, Option, Some, None, length, sym, subst}
use Rattle.std.proofs.lemmas.List.Elements.{All-nil}
use Rattle.rart_below.specs.Bytes.{IsAdmitted}
use Rattle.rart_maps.proofs.ElementLemmas.{AllPairs-rest}
use Rattle.rart_versioned.specs.TreeWalks.{AreAdmitted}
use Rattle.rart_versioned.specs.Walkers.{AreInOrder, IsKeyWalk, IsRangeWalk, LendsNext}
use Rattle.rart_versioned.proofs.VersionIterationLemmas.{rest-admitted}

module _ {W V L : Type 0} (left : W → List (List ℕ × V)) (is_sound : W → Type 0)
    (most : Option ℕ) (value : L → V) (before after : W) (key : List ℕ) where
  pub key_walk-next : (lent : Option L) → LendsNext value (left before) key lent (left after)
      → is_sound after → IsKeyWalk left is_sound most before → IsKeyWalk left is_sound most after
  key_walk-next None gives sound walk = record {
    sound = sound;
    admitted = subst (AreAdmitted most) (sym gives.1)
        (All-nil (λ (pair : List ℕ × V). IsAdmitted most (length pair.0)));
  }
  key_walk-next (Some lent) gives sound walk = record {
    sound = sound;
    admitted = rest-admitted most _ _ _ gives walk.admitted;
  }

  module _ (comes_before : List ℕ → List ℕ → Type 0) where
    in_order-next : (lent : Option L) → LendsNext value (left before) key lent (left after)
        → AreInOrder comes_before (left before) → AreInOrder comes_before (left after)
    in_order-next None gives ordered =
        subst (AreInOrder comes_before) (sym gives.1) (search rules)
    in_order-next (Some lent) gives ordered =
        AllPairs-rest (λ (a b : List ℕ × V). comes_before a.0 b.0) _ _
        (subst (AreInOrder comes_before) gives ordered)

    pub range_walk-next : (lent : Option L) → LendsNext value (left before) key lent (left after)
        → is_sound after → IsRangeWalk left is_sound comes_before most before
        → IsRangeWalk left is_sound comes_before most after
    range_walk-next lent gives sound walk = record {
      keyed = key_walk-next lent gives sound walk.keyed;
      ordered = in_order-next lent gives walk.ordered;
    }
