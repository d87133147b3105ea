-- Blocks of bytes that are compared as numbers.
use Rattle.std.proofs.Common.{◌≡◌, ℕ, suc, zero, ◌+◌, ◌<◌, ◌≤◌, List, [], ◌∷◌, ◌++◌, length, take, drop, get_or, refl, sym, ap, ◌∙◌, arith, lit<, cond, eqb, eqb-true, true, false}
use Rattle.std.specs.Int.{from_le_bytes, w32, w64}
use Rattle.std.proofs.lemmas.List.{take-append-drop, drop-drop, length-drop, length-take-le}
use Rattle.std.proofs.lemmas.Nat.{le_bytes_4, le_bytes_8}
use Rattle.rart_below.specs.Bytes.{common_length}
use Rattle.rart_below.proofs.CommonLengthLemmas.{common_length-append, common_length-split}

abbrev pub AreBytes : List ℕ → Type 0
AreBytes bytes = (place : ℕ) → get_or bytes place 0 < 256

AreBytes-take : (count : ℕ) (bytes : List ℕ) → AreBytes bytes → AreBytes (take count bytes)
AreBytes-take zero bytes are place = lit< tt
AreBytes-take (suc count) [] are place = lit< tt
AreBytes-take (suc count) (byte ∷ bytes) are zero = are zero
AreBytes-take (suc count) (byte ∷ bytes) are (suc place) =
    AreBytes-take count bytes (λ k. are (suc k)) place

AreBytes-drop : (count : ℕ) (bytes : List ℕ) → AreBytes bytes → AreBytes (drop count bytes)
AreBytes-drop zero bytes are = are
AreBytes-drop (suc count) [] are = are
AreBytes-drop (suc count) (byte ∷ bytes) are = AreBytes-drop count bytes (λ k. are (suc k))

-- A string has a block of `count` bytes at this place.
pub record HasBlock (count place : ℕ) (bytes : List ℕ) : Type 0 where
  pub within : place + count ≤ length bytes
  pub are_bytes : AreBytes bytes

abbrev pub block : ℕ → ℕ → List ℕ → List ℕ
block count place bytes = take count (drop place bytes)

pub length-block : (count place : ℕ) (bytes : List ℕ) → HasBlock count place bytes
    → length (block count place bytes) ≡ count
length-block count place bytes has =
    let long : count ≤ length (drop place bytes) =
    omega (arith, length-drop place bytes, has.within) in
    length-take-le count (drop place bytes) long

pub AreBytes-block : (count place : ℕ) (bytes : List ℕ) → HasBlock count place bytes
    → AreBytes (block count place bytes)
AreBytes-block count place bytes has =
    AreBytes-take count (drop place bytes) (AreBytes-drop place bytes has.are_bytes)

pub block-rest : (count place : ℕ) (bytes : List ℕ)
    → drop place bytes ≡ block count place bytes ++ drop (place + count) bytes
block-rest count place bytes = sym (take-append-drop count (drop place bytes))
    ∙ ap (λ rest. block count place bytes ++ rest) (drop-drop count place bytes)

-- past a block that is the same in both, the common prefix goes on
past_block : (count place : ℕ) (left right : List ℕ) → HasBlock count place left
    → block count place left ≡ block count place right
    → place + count + common_length (drop (place + count) left) (drop (place + count) right)
    ≡ place + common_length (drop place left) (drop place right)
past_block count place left right has same =
    let in_left = block-rest count place left in
    let in_right =
    block-rest count place right ∙ ap (λ front. front ++ drop (place + count) right)
    (sym same) in
    let whole : common_length (drop place left) (drop place right)
    ≡ length (block count place left) + common_length (drop (place + count) left)
    (drop (place + count) right) =
    (λ i. common_length (in_left i) (in_right i))
    ∙ common_length-append (block count place left) _ _ in
    omega (arith, whole, length-block count place left has)

-- a prefix that is the same in both is longer by a block that is
longer_by : (count place : ℕ) (left right : List ℕ) → HasBlock count place left
    → block count place left ≡ block count place right → place ≤ common_length left right
    → place + count ≤ common_length left right
longer_by count place left right has same le =
    let split = common_length-split left right place le in
    let past = past_block count place left right has same in
    omega (arith, split, past)

-- A block of what two strings have in common at their start is the same in both.
pub same_block : (count place : ℕ) (left right : List ℕ)
    → place + count ≤ common_length left right
    → take count (drop place left) ≡ take count (drop place right)
same_block zero place left right le = refl
same_block (suc count) place [] right le = absurd (omega (arith, le))
same_block (suc count) place (b ∷ left) [] le = absurd (omega (arith, le))
same_block (suc count) zero (b ∷ left) (c ∷ right) le =
    elim (eqb b c) as (λ t. eqb b c ≡ t → 0 + suc count ≤ cond t (suc (common_length left right)) 0
    → b ∷ take count left ≡ c ∷ take count right) [
      | true ↦ λ e le. (λ i. eqb-true b c e i ∷ same_block count 0 left right (omega (arith, le)) i)
      | false ↦ λ e le. absurd (omega (arith, le))
    ] refl le
same_block (suc count) (suc place) (b ∷ left) (c ∷ right) le =
    elim (eqb b c) as (λ t. suc place + suc count ≤ cond t (suc (common_length left right)) 0
    → take (suc count) (drop place left) ≡ take (suc count) (drop place right)) [
      | true ↦ λ le. same_block (suc count) place left right (omega (arith, le))
      | false ↦ λ le. absurd (omega (arith, le))
    ] le

module _ (place number : ℕ) (left right : List ℕ) where
  -- the same where the block of each is this number
  pub longer_by_eight : HasBlock 8 place left → HasBlock 8 place right
      → number ≡ from_le_bytes w64 (take 8 (drop place left))
      → number ≡ from_le_bytes w64 (take 8 (drop place right))
      → place ≤ common_length left right → place + 8 ≤ common_length left right
  longer_by_eight has_left has_right is_left is_right =
      let bytes_left =
      le_bytes_8 (block 8 place left) number (length-block 8 place left has_left)
      (AreBytes-block 8 place left has_left) is_left in
      let bytes_right =
      le_bytes_8 (block 8 place right) number (length-block 8 place right has_right)
      (AreBytes-block 8 place right has_right) is_right in
      longer_by 8 place left right has_left (sym bytes_left ∙ bytes_right)

  pub longer_by_four : HasBlock 4 place left → HasBlock 4 place right
      → number ≡ from_le_bytes w32 (take 4 (drop place left))
      → number ≡ from_le_bytes w32 (take 4 (drop place right))
      → place ≤ common_length left right → place + 4 ≤ common_length left right
  longer_by_four has_left has_right is_left is_right =
      let bytes_left =
      le_bytes_4 (block 4 place left) number (length-block 4 place left has_left)
      (AreBytes-block 4 place left has_left) is_left in
      let bytes_right =
      le_bytes_4 (block 4 place right) number (length-block 4 place right has_right)
      (AreBytes-block 4 place right has_right) is_right in
      longer_by 4 place left right has_left (sym bytes_left ∙ bytes_right)
