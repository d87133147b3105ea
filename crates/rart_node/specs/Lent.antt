-- What becomes of a pointer or a node that a reference for writing was lent out of.
use Rattle.std.specs.Prelude.{◌≡◌, ℕ, Option, Some, Result, OnSome}
use Rattle.std.specs.Borrow.{RattleType, MutBor, Fml, LendsSo, LendsSoOk}
use Rattle.std.specs.declared.alloc.AllocError.{AllocError}
use denote.Param.{number}
use Rattle.std.specs.contracts.boxed.Box as boxed
use Rattle.std.specs.contracts.alloc.Global as global
use Rattle.std.specs.contracts.impls.GlobalAllocator.TheImpl as GlobalAllocator
use Rattle.rart_below.specs.declared.partial.Partial.{Ghosts as Prefixes}
use Rattle.rart_below.specs.contracts.mapping.sorted.SortedKeyedMapping as sorted
use Rattle.rart_below.specs.contracts.mapping.indexed.IndexedMapping as indexed
use Rattle.rart_below.specs.contracts.mapping.direct.DirectMapping as direct
use Rattle.rart_node.specs.contracts.content.Layout as layout
use Rattle.rart_node.specs.contracts.wide_box.WideBox as wide_box
use Rattle.rart_node.specs.contracts.held.Held as held
use Rattle.rart_node.specs.declared.held.Held.{Held}
use Rattle.rart_node.specs.Contents.{Content, content_shape, held_value, Holds}
use Rattle.rart_node.specs.contracts.node.VersionedNode as node
use Rattle.rart_node.specs.contracts.node_ref.NodeRef as pointer
use Rattle.rart_below.specs.Children.{with_child}
use Rattle.rart_node.specs.Seen.{Seen}
use Rattle.rart_node.specs.Shape.{with_replaced, with_value}

-- the type of a content, as the logic has it
abbrev content_row : RattleType → RattleType
content_row C = layout.the_row
    (boxed.the_row (sorted.the_row C (number 4)) global.the_row GlobalAllocator.ghosts)
    (wide_box.the_row (sorted.the_row C (number 16)) C)
    (wide_box.the_row (indexed.the_row C) C)
    (wide_box.the_row (direct.the_row C) C)

-- The value is as it was left behind the result, and where there is none nothing has changed.
abbrev pub LendsHeld : (V : RattleType) → MutBor (Held V.Denot) → Option (MutBor V.Denot) → Fml
LendsHeld V lender result =
    LendsSo (held.the_row V) V lender result
    (λ after left. OnSome result (held_value after ≡ Some left))
    (λ after. held_value after ≡ held_value lender.now)

-- Over the rows of prefixes and values, and the ghosts of the prefixes' trait.
module _ (P V : RattleType) (prefixes : Prefixes P.Denot) where
  -- The content has the child as it was left behind the result, and where there is none holds what
  -- it held.
  abbrev pub LendsContentChild : MutBor (Content (Seen V.Denot)) → ℕ
      → Option (MutBor (Seen V.Denot)) → Fml
  LendsContentChild lender byte result =
      LendsSo (content_row (pointer.the_row P V prefixes)) (pointer.the_row P V prefixes) lender
      result
      (λ after left. OnSome result (Holds after (content_shape lender.now).width
      (with_child byte left (content_shape lender.now).children)))
      (λ after. content_shape after ≡ content_shape lender.now)

  -- The pointer shows the node as it was left behind the result, and where there was no memory what
  -- it showed.
  abbrev pub LendsNode : MutBor (Seen V.Denot)
      → Result (MutBor (Seen V.Denot)) AllocError → Fml
  LendsNode lender result =
      LendsSoOk (pointer.the_row P V prefixes) (node.the_row P V prefixes) lender result
      (λ after left. after.shape ≡ left.shape)
      (λ after. after.shape ≡ lender.now.shape)

  -- The node has the child as it was left behind the result, and where there is none is as before.
  abbrev pub LendsChild : MutBor (Seen V.Denot) → ℕ
      → Option (MutBor (Seen V.Denot)) → Fml
  LendsChild lender byte result =
      LendsSo (node.the_row P V prefixes) (pointer.the_row P V prefixes) lender result
      (λ after left. OnSome result (after.shape
      ≡ with_replaced byte left.shape lender.now.shape))
      (λ after. after.shape ≡ lender.now.shape)

  -- The node has the value as it was left behind the result, and where there is none is as before.
  abbrev pub LendsValue : MutBor (Seen V.Denot) → Option (MutBor V.Denot) → Fml
  LendsValue lender result =
      LendsSo (node.the_row P V prefixes) V lender result
      (λ after left. OnSome result (after.shape
      ≡ with_value (Some left) lender.now.shape))
      (λ after. after.shape ≡ lender.now.shape)
