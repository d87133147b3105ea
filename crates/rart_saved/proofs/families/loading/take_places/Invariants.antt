use Rattle.rart_saved.specs.FamilyLoads.{HasVersionsWithin}
use Rattle.rart_saved.specs.Loads.{HasKeysWithin}
use Rattle.rart_saved.proofs.FamilyReadLemmas.{IsPlaced}
use Rattle.rart_saved.proofs.families.loading.take_places.Given as goal

abbrev pub invariant-placing : goal.invariant-placing
invariant-placing g l = record {
  placed : IsPlaced g.V.SavedValue.written g.V.PartialEq.eq l.bytes l.at l.end l._done
      l.versions.items l.latest.tree.content l.latest.keys;
  latest : HasKeysWithin l.longest l.latest.tree;
  versions : HasVersionsWithin l.longest l.versions.items;
}
