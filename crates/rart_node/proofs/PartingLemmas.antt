-- A string and the prefix of a node: the string ends inside the prefix, or with it, leaves it at a
-- byte, or goes on behind it.
use Rattle.std.proofs.Common.{◌≡◌, ◌<◌, ◌≤◌, ◌⊎◌, ⊎_elim, ◌≢◌, ℕ, suc, Bool, true, false, cond, List, [], ◌∷◌, ◌++◌, Some, length, drop, slice_get, refl, arith, sym, ap, subst, ◌∙◌}
use Rattle.std.specs.Prelude.{◌==◌, slice_index_or}
use Rattle.std.proofs.lemmas.Bool.{eqb-true, eqb-false}
use Rattle.std.proofs.lemmas.List.{length-drop}
use Rattle.rart_below.specs.Bytes.{common_length}
use Rattle.rart_node.specs.Trees.{strip_prefix}
use Rattle.rart_node.proofs.PrefixRestLemmas.{strip_prefix-whole, split-whole, common_fits}

-- The first list is the front of the second.
pub record IsFront (rest prefix : List ℕ) : Type 0 where
  pub more : List ℕ
  pub is : prefix ≡ rest ++ more

-- a string that is matched to its end
pub common-front : (prefix rest : List ℕ) → common_length prefix rest ≡ length rest
    → IsFront rest prefix
common-front prefix [] all = record { more = prefix; is = refl }
common-front [] (c ∷ rest) all = absurd (omega (arith, all))
common-front (b ∷ prefix) (c ∷ rest) all =
    let P : Bool → Type 0 =
    λ t. (b == c) ≡ t → cond t (suc (common_length prefix rest)) 0 ≡ suc (length rest)
    → IsFront (c ∷ rest) (b ∷ prefix) in
    let both : (t : Bool) → P t = elim [
      | true ↦ (λ same e. let front = common-front prefix rest (omega (arith, e)) in
          record { more = front.more; is = λ i. eqb-true b c same i ∷ front.is i })
      | false ↦ (λ differs e. absurd (omega (arith, e)))
    ] in
    both (b == c) refl all

-- Two strings part at two bytes.
pub record PartsAt (prefix rest : List ℕ) (b c : ℕ) : Type 0 where
  pub front : List ℕ
  pub more : List ℕ
  pub left : List ℕ
  pub is : prefix ≡ front ++ (b ∷ more)
  pub also : rest ≡ front ++ (c ∷ left)
  pub differs : b ≢ c

-- strings that are matched to the end of neither
pub common-parts : (prefix rest : List ℕ) → common_length prefix rest < length prefix
    → common_length prefix rest < length rest
    → PartsAt prefix rest (slice_index_or prefix (common_length prefix rest) 0)
    (slice_index_or rest (common_length prefix rest) 0)
common-parts [] rest short also = absurd (omega (arith, short))
common-parts (b ∷ prefix) [] short also = absurd (omega (arith, also))
common-parts (b ∷ prefix) (c ∷ rest) short also =
    let P : Bool → Type 0 =
    λ t. (b == c) ≡ t → cond t (suc (common_length prefix rest)) 0 < suc (length prefix)
    → cond t (suc (common_length prefix rest)) 0 < suc (length rest)
    → PartsAt (b ∷ prefix) (c ∷ rest)
    (slice_index_or (b ∷ prefix) (cond t (suc (common_length prefix rest)) 0) 0)
    (slice_index_or (c ∷ rest) (cond t (suc (common_length prefix rest)) 0) 0) in
    let both : (t : Bool) → P t = elim [
      | true ↦ (λ same s a.
          let parts = common-parts prefix rest (omega (arith, s)) (omega (arith, a)) in
          record {
            front = b ∷ parts.front;
            more = parts.more;
            left = parts.left;
            is = ap (λ z. b ∷ z) parts.is;
            also = λ i. sym (eqb-true b c same) i ∷ parts.also i;
            differs = parts.differs;
          })
      | false ↦ (λ differs s a. record {
        front = [];
        more = prefix;
        left = rest;
        is = refl;
        also = refl;
        differs = eqb-false b c differs;
      })
    ] in
    both (b == c) refl short also

pub parts-at : (prefix rest : List ℕ) (common : ℕ) → common ≡ common_length prefix rest
    → (common ≡ length rest) ⊎ (common < length prefix) → (common ≡ length rest → ⊥)
    → PartsAt prefix rest (slice_index_or prefix common 0) (slice_index_or rest common 0)
parts-at prefix rest common is ends goes_on =
    let fits = common_fits prefix rest in
    let short : common_length prefix rest < length prefix =
    ⊎_elim (λ end. absurd (goes_on end)) (λ less. omega (arith, less, is)) ends in
    let also : common_length prefix rest < length rest = omega (arith, fits, is, goes_on) in
    subst (λ n. PartsAt prefix rest (slice_index_or prefix n 0) (slice_index_or rest n 0)) (sym is)
    (common-parts prefix rest short also)

-- The string goes on behind the prefix, with this byte.
pub record GoesOn (prefix rest : List ℕ) (byte : ℕ) (left : List ℕ) : Type 0 where
  pub more : List ℕ
  pub is : left ≡ byte ∷ more
  pub whole : rest ≡ prefix ++ (byte ∷ more)
  pub strips : Some left ≡ strip_prefix prefix rest
  pub next : Some byte ≡ slice_get left 0

goes-parts : (prefix rest left : List ℕ) → 0 < length left → rest ≡ prefix ++ left
    → Some left ≡ strip_prefix prefix rest → GoesOn prefix rest (slice_index_or left 0 0) left
goes-parts prefix rest [] some split strips = absurd (omega (arith, some))
goes-parts prefix rest (b ∷ more) some split strips =
    record { more = more; is = refl; whole = split; strips = strips; next = refl }

pub goes-on : (prefix rest left : List ℕ) (common : ℕ) → left ≡ drop common rest
    → common ≡ common_length prefix rest → (common ≡ length rest → ⊥) → length prefix ≤ common
    → GoesOn prefix rest (slice_index_or left 0 0) left
goes-on prefix rest left common is matched on whole =
    let fits = common_fits prefix rest in
    let long : length prefix ≤ common_length prefix rest = omega (arith, matched, whole) in
    let some : 0 < length (drop common rest) = let l = length-drop common rest in
    omega (arith, l, fits, matched, on) in
    let split : rest ≡ prefix ++ drop common rest =
    split-whole prefix rest long ∙ ap (λ n. prefix ++ drop n rest) (sym matched) in
    let strips : Some (drop common rest) ≡ strip_prefix prefix rest =
    sym (strip_prefix-whole prefix rest long ∙ ap (λ n. Some (drop n rest)) (sym matched)) in
    subst (λ z. GoesOn prefix rest (slice_index_or z 0 0) z) (sym is)
    (goes-parts prefix rest (drop common rest) some split strips)

pub goes-some : (prefix rest : List ℕ) (byte : ℕ) (left : List ℕ) → GoesOn prefix rest byte left
    → 0 < length left
goes-some prefix rest byte left goes = let l = ap length goes.is in omega (arith, l)
