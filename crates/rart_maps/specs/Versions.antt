-- A version: a finite map from byte strings to values, and a number. What it becomes by one key.
use Rattle.std.specs.Prelude.{ℕ, ◌+◌, ◌<◌, ◌^◌, ◌==◌, Bool, List, Option, refl}
use Rattle.std.specs.Coded.{Coded, code_by, coded×, coded_ℕ, coded_list}
use Rattle.std.specs.Ordering.{nat_cmp}
use Rattle.std.specs.Cmp.Lexicographic.{slice_cmp}
use Rattle.std.specs.FinMap as finite

-- a finite map from byte strings to values, its keys in the order of byte strings
abbrev pub Map : Type 0 → Type 0
Map V = finite.FinMap (slice_cmp nat_cmp) V

pub record Version (V : Type 0) : Type 0 where
  pub content : Map V
  pub number : ℕ

abbrev pub version_code : {V : Type 0} → Coded V → Coded (Version V)
version_code {V} values =
    code_by (Map V × ℕ) (coded× (finite.code (coded_list coded_ℕ) values) coded_ℕ)
    (λ v. (v.content, v.number)) (λ p. record { content = p.0; number = p.1 }) (λ _. refl)

module _ {V : Type 0} where
  -- no key, and this number
  abbrev pub empty_at : ℕ → Version V
  empty_at number = record { content = finite.empty; number = number }

  -- whether there is no key
  abbrev pub has_no_key : Version V → Bool
  has_no_key v = finite.len v.content == 0

  -- the value of a key
  abbrev pub value_at : Version V → List ℕ → Option V
  value_at v w = finite.get v.content w

  -- whether the key is there
  abbrev pub has_key : Version V → List ℕ → Bool
  has_key v w = finite.contains_key v.content w

  -- the same map, the number so much greater
  abbrev pub with_rise : Version V → ℕ → Version V
  with_rise v more = record { content = v.content; number = v.number + more }

  -- the map with the key set to the value, the number so much greater
  abbrev pub with_key : Version V → List ℕ → V → ℕ → Version V
  with_key v w x more = record { content = finite.insert v.content w x; number = v.number + more }

  -- the map without the key, the number so much greater
  abbrev pub without_key : Version V → List ℕ → ℕ → Version V
  without_key v w more = record { content = finite.remove v.content w; number = v.number + more }

  -- The number can be raised by so much and stay below 2^64.
  abbrev pub HasRoom : Version V → ℕ → Type 0
  HasRoom v more = v.number + more < 2 ^ 64
