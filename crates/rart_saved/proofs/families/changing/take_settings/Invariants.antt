use Rattle.std.proofs.Common.{ℕ, List, Option}
use Rattle.rart_saved.specs.Loads.{HasKeysWithin}
use Rattle.rart_saved.proofs.SettingReadLemmas.{IsMade}
use Rattle.rart_saved.proofs.families.changing.take_settings.Given as goal

abbrev pub invariant-taking : goal.invariant-taking
invariant-taking g l =
    (list : List (List ℕ × Option g.row.V.Denot))
    × IsMade g.V.SavedValue.written g.V.PartialEq.eq l.before.content l.bytes l.at l.end l.done
    l.key.items l.latest.tree.content l.latest.keys list
    × HasKeysWithin l.longest l.latest.tree
