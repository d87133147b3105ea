-- The changes from one version to another are a list of changes.
use Rattle.std.proofs.Common.{◌≡◌, ℕ, List, Bool, Option, Some, None, true, is_some, length, ap, arith}
use Rattle.std.proofs.lemmas.Bool.{false≢true}
use Rattle.std.specs.FinMap as finite
use Rattle.rart_maps.specs.ChangeLists.{differ}
use Rattle.rart_maps.specs.Versions.{Version}
use Rattle.rart_maps.proofs.ChangeLemmas.{changes-ascend, changes-from}
use Rattle.rart_versioned.specs.Keys.{IsKeyLength}
use Rattle.rart_versioned.proofs.VersionDiffLemmas.{changes-few}
use Rattle.rart_saved.specs.ChangeListLaws.{ChangesAreLists}
use Rattle.rart_saved.specs.Forms.{IsVersionOf}

-- A key at which two versions differ is one of either.
length-at : {V : Type 0} (same : V → V → Bool) (most : Option ℕ) (old new : Version V)
    → IsVersionOf most old → IsVersionOf most new → (key : List ℕ) (before after : Option V)
    → finite.get old.content key ≡ before → finite.get new.content key ≡ after
    → differ same before after ≡ true → IsKeyLength most (length key)
length-at same most old new is_old is_new key None None was is differs =
    absurd (false≢true differs)
length-at same most old new is_old is_new key None (Some after) was is differs =
    is_new.lengths key (ap is_some is)
length-at same most old new is_old is_new key (Some before) after was is differs =
    is_old.lengths key (ap is_some was)

pub changes-listed : (V : Type 0) → ChangesAreLists V
changes-listed V same most old new is_old is_new few = record {
  ascends = changes-ascend same old.content new.content;
  fits = let all = changes-few same old.content new.content in omega (arith, all, few);
  lengths = λ change there.
      let found = changes-from same old.content new.content change there in
      length-at same most old new is_old is_new change.0 change.1 change.2
      found.0 found.1 found.2;
}
