use Rattle.std.specs.Io.Iter.{bytes_remaining}
use Rattle.std.specs.Iterator.Adapters.{take_source, take_count}
use Rattle.vtree_lines.proofs.ServeLemmas.{InMidst}
use Rattle.vtree_lines.proofs.server.serve.Given as goal

abbrev pub invariant-loop-byte : goal.invariant-loop-byte
invariant-loop-byte g l = record {
  can_next : (goal.iterator-loop-byte g).can_next l.byte-iterator;
  is_finite : (goal.iterator-loop-byte g).is_finite l.byte-iterator;
  serving : InMidst (g.R.Read.remaining l.fn.reader)
      (bytes_remaining g.R.Read.remaining (take_source l.byte-iterator))
      (take_count l.byte-iterator) l.session
      (g.W.Write.contents l.fn.writer) (g.W.Write.contents l.writer);
}
