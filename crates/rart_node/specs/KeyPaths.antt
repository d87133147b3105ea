-- Which segments a key path keeps, the root's first, by what it shows.
use Rattle.std.specs.Prelude.{◌≡◌, ℕ, List, length, ⊤}
use Rattle.std.specs.List.{concat}

-- These bytes are the segments, joined.
abbrev pub HoldsBytes : List ℕ → List (List ℕ) → Type 0
HoldsBytes bytes segments = bytes ≡ concat segments

-- These segments are the segments.
abbrev pub HoldsSegments : List (List ℕ) → List (List ℕ) → Type 0
HoldsSegments kept segments = kept ≡ segments

-- Whatever is shown, any segments will do.
abbrev pub HoldsNothing : {T : Type 0} → T → List (List ℕ) → Type 0
HoldsNothing key_path segments = ⊤

-- How far segments reach: how many bytes they are, joined; how many they are; or nothing is said.
abbrev pub extent_in_bytes : List (List ℕ) → ℕ
extent_in_bytes segments = length (concat segments)

abbrev pub extent_in_segments : List (List ℕ) → ℕ
extent_in_segments segments = length segments

abbrev pub no_extent : List (List ℕ) → ℕ
no_extent segments = 0
