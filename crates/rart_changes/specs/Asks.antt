-- What is asked of the calls that touch keys.
use Rattle.std.specs.Prelude.{◌≡◌, ℕ, List, length}
use Rattle.std.specs.FinMap as finite
use Rattle.rart_below.specs.Clones.{ClonesEqual}
use Rattle.rart_maps.specs.FoundLaws.{KeysAscend}
use Rattle.rart_maps.specs.Versions.{Version, HasRoom}

-- One key more can be put among the touched ones, whose number is how many they are.
pub record CanMark (touched : Version (Unit {0})) : Type 0 where
  pub room : HasRoom touched 1
  pub counted : touched.number ≡ finite.len touched.content

module _ {V : Type 0} (is_clone : V → V → Type 0) where
  -- The changes at these keys, which ascend, can be made, one for each.
  pub record CanReplay {K : Type 0} (bytes : K → List ℕ) (current : Version V) (keys : List K)
      : Type 0 where
    pub clones : ClonesEqual is_clone
    pub room : HasRoom current (length keys)
    pub ascending : KeysAscend bytes keys
