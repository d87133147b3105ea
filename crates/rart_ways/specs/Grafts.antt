-- The tree with another node at the end of the way that a key takes.
use Rattle.std.specs.Prelude.{◌≡◌, ℕ, zero, suc, List, Option, Some, None, Result}
use Rattle.std.specs.Borrow.{RattleType, MutBor, Fml, LendsSoOk}
use Rattle.std.specs.declared.alloc.AllocError.{AllocError}
use Rattle.rart_below.specs.declared.partial.Partial.{Ghosts as Prefixes}
use Rattle.rart_node.specs.contracts.node_ref.NodeRef as pointer
use Rattle.rart_node.specs.contracts.node.VersionedNode as pointed
use Rattle.rart_node.specs.Seen.{Seen}
use Rattle.rart_node.specs.Shape.{Shape, with_replaced}
use Rattle.rart_ways.specs.Paths.{first_byte, step}
use Rattle.rart_node.specs.Trees.{IsPut}

module _ {V : Type 0} where
  abbrev pub graft_at : (List ℕ → Shape V → Shape V) → Shape V → Option (Shape V × List ℕ) → Shape V
  graft_at graft s None = s
  graft_at graft s (Some below) = with_replaced (first_byte below.1) (graft below.1 below.0) s

  -- the tree with another one in place of the node `steps` nodes down
  abbrev pub graft : ℕ → Shape V → List ℕ → Shape V → Shape V
  graft zero new key s = new
  graft (suc steps) new key s = graft_at (graft steps new) s (step key s)

module _ (P V : RattleType) (prefixes : Prefixes P.Denot) where
  -- The pointer shows the tree with the node `steps` nodes down as it was left behind the result,
  -- and refused, what it showed.
  abbrev pub LendsPathEnd : MutBor (Seen V.Denot) → ℕ → List ℕ
      → Result (MutBor (Seen V.Denot)) AllocError → Fml
  LendsPathEnd lender steps key result =
      LendsSoOk (pointer.the_row P V prefixes) (pointed.the_row P V prefixes) lender result
      (λ after left. after.shape
      ≡ graft steps left.shape key lender.now.shape)
      (λ after. after.shape ≡ lender.now.shape)

  -- The pointer shows the tree with the key set to the value as it was left behind the result, and
  -- refused, what it showed.
  abbrev pub LendsAlong : MutBor (Seen V.Denot) → List ℕ
      → Result (MutBor V.Denot) AllocError → Fml
  LendsAlong lender key result =
      LendsSoOk (pointer.the_row P V prefixes) V lender result
      (λ after left. IsPut key left lender.now.shape after.shape)
      (λ after. after.shape ≡ lender.now.shape)
