-- A tracked version: the version that it began with, the current one, and the keys that were
-- touched in between. What a change makes of it.
use Rattle.std.specs.Prelude.{◌≡◌, ◌⊎◌, ℕ, ◌≤◌, Bool, false, List, IsTrue, refl, if◌then◌else◌}
use Rattle.std.specs.Coded.{Coded, code_by, coded×, coded_ℕ, coded_list}
use Rattle.std.specs.FinMap as finite
use Rattle.std.specs.FinSet as set
use Rattle.rart_maps.specs.Pairs.{Strings}
use Rattle.rart_maps.specs.Versions.{Version, version_code, value_at, has_key, with_key, without_key}

-- ---- the keys that were touched

abbrev pub no_key : Strings
no_key = finite.empty

abbrev pub is_in : Strings → List ℕ → Bool
is_in keys w = finite.contains_key keys w

abbrev pub with_string : Strings → List ℕ → Strings
with_string keys w = finite.insert keys w tt

-- ascending
abbrev pub listed : Strings → List (List ℕ)
listed keys = finite.keys keys

pub record Tracking (V : Type 0) : Type 0 where
  pub base : Version V
  pub current : Version V
  pub touched : Strings

abbrev pub tracking_code : {V : Type 0} → Coded V → Coded (Tracking V)
tracking_code {V} values =
    code_by (Version V × (Version V × Strings))
    (coded× (version_code values) (coded× (version_code values) (set.code (coded_list coded_ℕ))))
    (λ t. (t.base, (t.current, t.touched)))
    (λ p. record { base = p.0; current = p.1.0; touched = p.1.1 }) (λ _. refl)

module _ {V : Type 0} where
  -- A key that was not touched has now what it has in the base.
  abbrev pub IsTracked : Tracking V → Type 0
  IsTracked t = (q : List ℕ) → is_in t.touched q ≡ false → value_at t.current q ≡ value_at t.base q

  -- nothing touched since this version
  abbrev pub tracking_from : Version V → Tracking V
  tracking_from v = record { base = v; current = v; touched = no_key }

  -- with a key touched, and this version now
  abbrev pub touching : Tracking V → List ℕ → Version V → Tracking V
  touching t w v = record { base = t.base; current = v; touched = with_string t.touched w }

  -- with this version now, and a key touched where it is told to be
  abbrev pub updated : Tracking V → List ℕ → Bool → Version V → Tracking V
  updated t w is_touched v =
      record {
        base = t.base;
        current = v;
        touched = if is_touched then with_string t.touched w else t.touched;
      }

  -- with a key set to a value, and touched
  abbrev pub after_insertion : Tracking V → List ℕ → V → Tracking V
  after_insertion t w x = touching t w (with_key t.current w x 1)

  -- with a key taken out and touched, where it was there
  abbrev pub after_removal : Tracking V → List ℕ → Tracking V
  after_removal t w = if has_key t.current w then touching t w (without_key t.current w 1) else t

-- The tree of touched keys with one more. Its number is how many there are.
pub record IsMarked (before : Version (Unit {0})) (w : List ℕ) (after : Version (Unit {0}))
    : Type 0 where
  pub keys : after.content ≡ with_string before.content w
  pub counted : after.number ≡ finite.len after.content

-- The trees inside: a key that was not touched is as in the base. The number of the tree of touched
-- keys is how many there are. These and the keys of the base together are at most as many as the
-- current number says, since it was one for each of the base's, and each touch of another raised
-- it.
module _ {V : Type 0} where
  abbrev pub tracking_of : Version V → Version V → Version (Unit {0}) → Tracking V
  tracking_of base now touched = record { base = base; current = now; touched = touched.content }

  -- It was touched, or is a key of the base.
  abbrev pub IsKnown : Version V → Strings → List ℕ → Type 0
  IsKnown base touched q = IsTrue (is_in touched q) ⊎ IsTrue (has_key base q)

  pub record Keeps (base now : Version V) (touched : Version (Unit {0})) : Type 0 where
    pub tracked : IsTracked (tracking_of base now touched)
    pub counted : touched.number ≡ finite.len touched.content
    pub known : (keys : Strings)
        → ((q : List ℕ) → IsTrue (is_in keys q) → IsKnown base touched.content q)
        → finite.len keys ≤ now.number
