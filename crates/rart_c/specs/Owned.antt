-- What a handle owns: nothing at null, which is a tree as it is at first, else the table
-- at its pointer and the right to free it.
use Rattle.std.specs.Prelude.{◌≡◌}
use Rattle.std.specs.Box.Ownership.{box_owns}
use Rattle.std.specs.declared.alloc.Global.{Global}
use Rattle.std.specs.declared.clone.Clone.{Ghosts}
use Rattle.std.specs.contracts.impls.GlobalAllocator.TheImpl.{ghosts}
use base.Fml.{Fml, ftrue, fex}
use denote.RattleType.{RattleType}
use denote.RawPtr.{Ptr, null_ptr, block_ptr}
use Rattle.rart_c.specs.contracts.table.Table.{the_row}
use Rattle.rart_c.specs.Trees.{Tree, tree_at}

-- a handle of values of this type, of which nothing is known but how they are cloned
abbrev pub held : (V : RattleType) → Ghosts V.Denot → Global → Ptr → Tree V.Denot → Fml
held V clones heap null_ptr shown = fex (shown ≡ tree_at 0) (λ _. ftrue)
held V clones heap (block_ptr block offset) shown =
    box_owns (ghosts.dealloc_token heap) (the_row V clones) (block_ptr block offset) shown
