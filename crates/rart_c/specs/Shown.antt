-- What a table shows that is lent, or none.
use Rattle.std.specs.Prelude.{Option, Some, None}
use Rattle.std.specs.Borrow.{Bor}
use Rattle.rart_c.specs.Trees.{Tree, tree_at}

-- the tree that zeros show where there is no table, else the table's
abbrev pub shown : {V : Type 0} → Option (Bor (Tree V)) → Tree V
shown None = tree_at 0
shown (Some table) = table.now
