use Rattle.rart_saved.specs.Loads.{HasKeysWithin}
use Rattle.rart_saved.proofs.LoadLemmas.{IsTaken}
use Rattle.rart_saved.proofs.loading.take_pairs.Given as goal

abbrev pub invariant-taking : goal.invariant-taking
invariant-taking g l =
    IsTaken g.V.SavedValue.written l.bytes l.at l.end l.fn.tree.number l._done l.key.items l.tree
    × HasKeysWithin l.longest l.tree
