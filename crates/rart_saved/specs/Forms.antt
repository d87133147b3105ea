-- The one form that a version has as bytes.
use Rattle.std.specs.Prelude.{◌-◌, ◌<◌, ◌≤◌, ◌^◌, ℕ, List, [], ◌∷◌, ◌++◌, Option, IsTrue, length, drop, codes}
use Rattle.std.specs.FinMap as finite
use Rattle.sha2.specs.Sha256.{sha256}
use Rattle.rart_below.specs.Bytes.{common_length}
use Rattle.rart_maps.specs.Pairs.{pairs}
use Rattle.rart_maps.specs.Versions.{Version}
use Rattle.rart_versioned.specs.Keys.{IsKeyLength}
use Rattle.rart_saved.specs.Numbers.{leb}

-- A key behind the one before: how many bytes both have in common at their start, how many more it
-- has, and these.
unfoldable pub key_form : List ℕ → List ℕ → List ℕ
key_form before key =
    leb (common_length before key)
    ++ leb (length key - common_length before key)
    ++ drop (common_length before key) key

-- the name of all files, the number of the format, and the kind of values
unfoldable pub head : ℕ → List ℕ
head kind = codes "comfrey" ++ 1 ∷ kind ∷ []

module _ {V : Type 0} (written : V → List ℕ) where
  -- A pair behind the one with the key before.
  unfoldable pub entry : List ℕ → List ℕ × V → List ℕ
  entry before pair = key_form before pair.0 ++ written pair.1

  -- Pairs, each behind the one before it.
  unfoldable pub entries : List ℕ → List (List ℕ × V) → List ℕ
  entries before [] = []
  entries before (pair ∷ later) = entry before pair ++ entries pair.0 later

  -- all but the sum: the head, the number, how many pairs there are, and the pairs ascending
  unfoldable pub body : ℕ → Version V → List ℕ
  body kind v =
      head kind ++ leb v.number ++ leb (finite.len v.content) ++ entries [] (pairs v.content)

  -- A version as bytes: its body, and the SHA-256 sum of that.
  unfoldable pub saved : ℕ → Version V → List ℕ
  saved kind v = body kind v ++ sha256 (body kind v)

module _ {V : Type 0} where
  -- A tree whose keys have at most this length may be this version.
  pub record IsVersionOf (most : Option ℕ) (v : Version V) : Type 0 where
    pub few : finite.len v.content ≤ v.number
    pub fits : v.number < 2 ^ 64
    pub lengths : (key : List ℕ) → IsTrue (finite.contains_key v.content key)
        → IsKeyLength most (length key)
