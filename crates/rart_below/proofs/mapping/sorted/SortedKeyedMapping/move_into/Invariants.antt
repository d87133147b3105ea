use Rattle.std.proofs.Common.{◌≡◌, IsTrue}
use Rattle.rart_below.specs.SortedKeyedMapping.{sorted_children}
use Rattle.rart_below.proofs.MoveLemmas.{IsMoving}
use Rattle.rart_below.proofs.mapping.sorted.SortedKeyedMapping.move_into.Given as goal

abbrev pub invariant-loop-place : goal.invariant-loop-place
invariant-loop-place g l = record {
  keys : l.self.keys ≡ l.fn.self.keys;
  moving : IsMoving l.place l.self.keys.items l.self.children.slots
      (g.M.NodeMapping.children l.to) (sorted_children l.fn.self);
  to_order : IsTrue (g.M.NodeMapping.in_order l.to);
}
