use Rattle.std.proofs.Common.{◌≡◌, ◌++◌, IsTrue, length}
use Rattle.rart_below.specs.IndexedMapping.{indexed_children, indexed_in_order}
use Rattle.rart_below.specs.Children.{children_from}
use Rattle.rart_below.proofs.mapping.indexed.IndexedMapping.move_into.Given as goal

-- what was moved and what is left make the whole, and all that is left stands from the least byte
-- on
abbrev pub invariant-loop-byte : goal.invariant-loop-byte
invariant-loop-byte g l = record {
  order : IsTrue (indexed_in_order l.self);
  to_order : IsTrue (g.M.NodeMapping.in_order l.to);
  together : g.M.NodeMapping.children l.to ++ indexed_children l.self
      ≡ indexed_children l.initial.self;
  walked : children_from l.least (indexed_children l.self)
      ≡ indexed_children l.self;
}

abbrev pub decreases-loop-byte : goal.decreases-loop-byte
decreases-loop-byte g l = length (indexed_children l.self)
