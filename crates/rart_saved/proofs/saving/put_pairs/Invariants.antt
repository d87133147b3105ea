use Rattle.std.proofs.Common.{◌≡◌, ◌++◌, ℕ, List, [], length}
use Rattle.rart_maps.specs.Pairs.{pairs}
use Rattle.rart_saved.proofs.EntryLemmas.{last_key}
use Rattle.rart_saved.proofs.SinkLemmas.{ArePut}
use Rattle.rart_saved.proofs.saving.put_pairs.Given as goal

abbrev pub invariant-listing : goal.invariant-listing
invariant-listing g l = record {
  taken : List (List ℕ × g.row.V.Denot);
  all : pairs l.tree.content ≡ taken ++ l.cursor.left;
  last : l.before.items ≡ last_key [] taken;
  counted : l.count ≡ length taken;
  listed : ArePut g.V.SavedValue.written g.S.Sink.holds l.fn.sink taken l.sink;
}

abbrev pub decreases-listing : goal.decreases-listing
decreases-listing g l = length l.cursor.left
