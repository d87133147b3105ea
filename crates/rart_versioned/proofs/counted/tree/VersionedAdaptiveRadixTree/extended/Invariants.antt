use Rattle.std.proofs.Common.{◌≡◌, ◌+◌, ◌<◌, ◌^◌}
use Rattle.std.specs.Iterator.{size}
use Rattle.rart_below.specs.Plain.{by_bytes}
use Rattle.rart_versioned.specs.Extended.{with_pairs}
use Rattle.rart_versioned.proofs.counted.tree.VersionedAdaptiveRadixTree.extended.Given as goal

abbrev pub invariant-putting : goal.invariant-putting
invariant-putting g l = record {
  can : (goal.iterator-putting g).can_next l.key-iterator;
  ends : (goal.iterator-putting g).is_finite l.key-iterator;
  room : l.next.number + size (g.I.IntoIter.Iterator.remaining l.key-iterator) < 2 ^ 64;
  set : l.next ≡ with_pairs l.fn.self (by_bytes g.K.KeyTrait.bytes l.yielded);
}
