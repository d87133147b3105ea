-- What a contract sees of keys that are ranked, and how they lie in their array.
use Rattle.std.specs.Prelude.{◌≡◌, ◌≤◌, ℕ, List, length, drop, refl}
use Rattle.std.specs.List.{All}
use Rattle.std.specs.Coded.{Coded, code_by, coded_list, coded_ℕ}

-- the keys, in order
pub record RankedKeys : Type 0 where
  pub items : List ℕ

-- keys are stored as their list
abbrev pub ranked_keys_code : Coded RankedKeys
ranked_keys_code =
    code_by (List ℕ) (coded_list coded_ℕ) (λ keys. keys.items) (λ items. record { items = items })
    (λ keys. refl)

-- The array is as wide as it is to be, and behind the keys each byte is the greatest.
pub record IsFilledUp (width len : ℕ) (bytes : List ℕ) : Type 0 where
  pub fits : len ≤ width
  pub wide : length bytes ≡ width
  pub rest : All (λ byte. byte ≡ 255) (drop len bytes)
