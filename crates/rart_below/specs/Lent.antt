-- What becomes of a mapping that a child was lent out of.
use Rattle.std.specs.Prelude.{◌≡◌, ℕ, Bool, List, Option, OnSome, IsTrue}
use Rattle.std.specs.Borrow.{LendsSo, Fml, RattleType, MutBor}
use Rattle.rart_below.specs.Children.{with_child}

module _ (M C : RattleType) (in_order : M.Denot → Bool)
    (children : M.Denot → List (ℕ × C.Denot)) where
  -- The mapping has the child as it was left behind the result, and where there is none is as
  -- before.
  abbrev pub LendsChild : MutBor M.Denot → ℕ → Option (MutBor C.Denot) → Fml
  LendsChild lender byte result =
      LendsSo M C lender result
      (λ after left. OnSome result (IsTrue (in_order after)
      × (children after ≡ with_child byte left (children lender.now))))
      (λ after. after ≡ lender.now)
