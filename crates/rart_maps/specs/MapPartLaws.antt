-- Laws that show what the parts of a map are that another one cuts it into, and what two maps are
-- together.
use Rattle.std.specs.Prelude.{◌≡◌, ◌&&◌, ◌||◌, ℕ, List, None, not, filter, if◌then◌else◌}
use Rattle.std.specs.FinMap as finite
use Rattle.rart_maps.specs.ChangeLists.{joined}
use Rattle.rart_maps.specs.MapParts.{apart, common_part, without}
use Rattle.rart_maps.specs.Pairs.{pairs}
use Rattle.rart_maps.specs.Versions.{Map}

module _ (V W : Type 0) where
  -- In the common part, a key has what it had where the other map has the key.
  abbrev pub CommonPartAnswers : Type 0
  CommonPartAnswers = (m : Map V) (other : Map W) (key : List ℕ) →
      finite.get (common_part m other) key
      ≡ (if finite.contains_key other key then finite.get m key else None)

  -- In the other part, it has what it had where the other map lacks the key.
  abbrev pub OtherPartAnswers : Type 0
  OtherPartAnswers = (m : Map V) (other : Map W) (key : List ℕ) →
      finite.get (without m other) key
      ≡ (if finite.contains_key other key then None else finite.get m key)

  -- The pairs of either part, in order.
  abbrev pub CommonPartHasThesePairs : Type 0
  CommonPartHasThesePairs = (m : Map V) (other : Map W) →
      pairs (common_part m other)
      ≡ filter (λ pair. finite.contains_key other pair.0) (pairs m)

  abbrev pub OtherPartHasThesePairs : Type 0
  OtherPartHasThesePairs = (m : Map V) (other : Map W) →
      pairs (without m other)
      ≡ filter (λ pair. not (finite.contains_key other pair.0)) (pairs m)

  -- Put together, the two parts are the map.
  abbrev pub PartsAreTheMap : Type 0
  PartsAreTheMap = (m : Map V) (other : Map W) →
      joined (common_part m other) (without m other) ≡ m

  -- A map without a key cuts nothing off.
  abbrev pub NoKeyCutsNothing : Type 0
  NoKeyCutsNothing = (m : Map V) →
      (without m (finite.empty {X = W}) ≡ m) × (common_part m (finite.empty {X = W}) ≡ finite.empty)

  -- What was cut off once is not there to be cut off again.
  abbrev pub CuttingTwiceIsCuttingOnce : Type 0
  CuttingTwiceIsCuttingOnce = (m : Map V) (other : Map W) →
      (without (without m other) other ≡ without m other)
      × (common_part (without m other) other ≡ finite.empty)

  -- A key of the common part is a key of both.
  abbrev pub CommonKeysAreOfBoth : Type 0
  CommonKeysAreOfBoth = (m : Map V) (other : Map W) (key : List ℕ) →
      finite.contains_key (common_part m other) key
      ≡ (finite.contains_key m key && finite.contains_key other key)

  -- The common part is what is left without what is left.
  abbrev pub CommonIsLeftWithoutTheRest : Type 0
  CommonIsLeftWithoutTheRest = (m : Map V) (other : Map W) →
      without m (without m other) ≡ common_part m other

module _ (V : Type 0) where
  -- Without its own keys nothing is left of a map.
  abbrev pub NothingIsLeftWithoutItself : Type 0
  NothingIsLeftWithoutItself = (m : Map V) →
      (without m m ≡ finite.empty) × (common_part m m ≡ m)

  -- The keys of two maps go at once, or one after the other.
  abbrev pub KeysGoOneAfterTheOther : Type 0
  KeysGoOneAfterTheOther = (m one other : Map V) →
      without (without m one) other ≡ without m (joined one other)

  -- Of two maps together, a key has what the first has there, and else what the other has.
  abbrev pub JoinedAnswers : Type 0
  JoinedAnswers = (one other : Map V) (key : List ℕ) →
      finite.get (joined one other) key
      ≡ (if finite.contains_key one key then finite.get one key else finite.get other key)

  -- Of what they don't share, it has what one of them has there alone.
  abbrev pub ApartAnswers : Type 0
  ApartAnswers = (one other : Map V) (key : List ℕ) →
      finite.get (apart one other) key
      ≡ (if finite.contains_key other key
      then (if finite.contains_key one key then None else finite.get other key)
      else finite.get one key)

  -- With itself a map is itself, and with an empty one.
  abbrev pub JoinedWithItself : Type 0
  JoinedWithItself = (m : Map V) →
      (joined m m ≡ m) × (joined m finite.empty ≡ m) × (joined finite.empty m ≡ m)

  -- The keys of two maps together don't depend on which is first, and they are at most as many as
  -- those of either in sum.
  abbrev pub JoinedKeysAreOfEither : Type 0
  JoinedKeysAreOfEither = (one other : Map V) (key : List ℕ) →
      finite.contains_key (joined one other) key
      ≡ (finite.contains_key one key || finite.contains_key other key)

  -- Which of two maps is first makes no difference to what they don't share; a map shares all with
  -- itself and nothing with an empty one.
  abbrev pub ApartEitherWay : Type 0
  ApartEitherWay = (one other : Map V) →
      (apart one other ≡ apart other one) × (apart one one ≡ finite.empty)
      × (apart one finite.empty ≡ one)

  -- It is what both are together, without the keys of both.
  abbrev pub ApartIsJoinedWithoutCommon : Type 0
  ApartIsJoinedWithoutCommon = (one other : Map V) →
      apart one other ≡ without (joined one other) (common_part one other)
