-- What a handle shows once the table that it lends has come back.
use Rattle.std.specs.Prelude.{ℕ, List, Option}
use Rattle.std.specs.Borrow.{Fml, MutBor, LendsIf}
use denote.Builtin.{u64}
use Rattle.core.specs.contracts.clone.U64Clone.TheImpl as number
use Rattle.rart_c.specs.contracts.bytes.handle.RartBytes as bytes_handle
use Rattle.rart_c.specs.contracts.bytes.value.Bytes as bytes
use Rattle.rart_c.specs.contracts.bytes.value.BytesClone.TheImpl as bytes_clone
use Rattle.rart_c.specs.contracts.handle.RartTree as handle
use Rattle.rart_c.specs.contracts.table.Table as table
use Rattle.rart_c.specs.declared.bytes.handle.RartBytes.{RartBytes}
use Rattle.rart_c.specs.declared.handle.RartTree.{RartTree}
use Rattle.rart_c.specs.Rests.{Rests}
use Rattle.rart_c.specs.Trees.{Tree}

-- the last tree of the table; what it showed before, where it has none
abbrev pub lends : MutBor RartTree → Option (MutBor (Tree ℕ)) → Fml
lends tree lent =
    LendsIf handle.the_row (table.the_row u64 number.ghosts) tree lent
    (λ last. record tree.now { shows = last }) tree.now

abbrev pub lends_bytes : MutBor RartBytes → Option (MutBor (Tree (List ℕ))) → Fml
lends_bytes tree lent =
    LendsIf bytes_handle.the_row (table.the_row bytes.the_row bytes_clone.ghosts) tree lent
    (λ last. record tree.now { shows = last }) tree.now

-- what it showed before
abbrev pub rests : MutBor RartTree → Fml
rests tree = Rests handle.the_row tree

abbrev pub rests_bytes : MutBor RartBytes → Fml
rests_bytes tree = Rests bytes_handle.the_row tree
