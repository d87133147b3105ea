-- How two blocks of bytes stand to one another, read as numbers to which the first byte adds most.
use Rattle.std.proofs.Common.{◌≡◌, ℕ, suc, zero, ◌+◌, ◌*◌, ◌^◌, ◌<◌, ◌≤◌, List, [], ◌∷◌, length, take, drop, refl, sym, ap, ◌∙◌, arith, lit<, cond, eqb, eqb-true, true, false}
use Rattle.std.proofs.Math.Nat.{pow-succ', le_refl}
use Rattle.std.specs.Int.{from_be_bytes, from_le_bytes, w64}
use Rattle.std.specs.declared.cmp.Ordering.TheVariants.{Less, Equal, Greater}
use Rattle.std.specs.Cmp.{nat_cmp_is}
use Rattle.std.specs.Ordering.{MatchOrdering, nat_cmp, ordering_then, is_eq}
use Rattle.std.proofs.lemmas.Cmp.{ranked}
use Rattle.std.proofs.lemmas.List.{length-drop}
use Rattle.std.proofs.lemmas.Map.Text.{is_eq-slice_cmp}
use Rattle.std.proofs.lemmas.Nat.{row_fits}
use Rattle.std.proofs.lemmas.Slice.Eq.{bytes_eq-Decides}
use Rattle.rart_below.specs.Bytes.{byte_order, common_length}
use Rattle.rart_below.proofs.BlockLemmas.{AreBytes, block, block-rest, length-block, AreBytes-block, HasBlock}
use Rattle.rart_below.proofs.CommonLengthLemmas.{nat_cmp-same}
use Rattle.rart_below.proofs.SegmentLemmas.{order-append, ordering_then-decided}

-- The number that bytes are to the base 256.
abbrev number : List ℕ → ℕ
number [] = 0
number (byte ∷ bytes) = byte * 256 ^ length bytes + number bytes

number-below : (bytes : List ℕ) → AreBytes bytes → number bytes < 256 ^ length bytes
number-below [] are = lit< tt
number-below (byte ∷ bytes) are =
    let k = 256 ^ length bytes in
    let rest = number-below bytes (λ place. are (suc place)) in
    let row = row_fits byte k 256 k (are 0) (le_refl k) in
    omega (arith, rest, row, pow-succ' 256 (length bytes))

nat_cmp-shifted : (n x y : ℕ) → nat_cmp (n + x) (n + y) ≡ nat_cmp x y
nat_cmp-shifted n x y =
    sym (nat_cmp_is (n + x) (n + y) (nat_cmp x y) (elim (nat_cmp x y) as (λ r.
    r ≡ nat_cmp x y → MatchOrdering r (n + x < n + y) (n + x ≡ n + y) (n + y < n + x)) [
      | Less ↦ λ is. let less : x < y = ranked x y Less is in omega (arith, less)
      | Equal ↦ λ is. ap (λ it. n + it) (ranked x y Equal is)
      | Greater ↦ λ is. let greater : y < x = ranked x y Greater is in omega (arith, greater)
    ] refl))

number-order : (bs cs : List ℕ) → length bs ≡ length cs → AreBytes bs → AreBytes cs
    → nat_cmp (number bs) (number cs) ≡ byte_order bs cs
number-order [] [] same are_bs are_cs = nat_cmp-same 0 0 refl
number-order [] (c ∷ cs) same are_bs are_cs = absurd (omega (arith, same))
number-order (b ∷ bs) [] same are_bs are_cs = absurd (omega (arith, same))
number-order (b ∷ bs) (c ∷ cs) same are_bs are_cs =
    let k = 256 ^ length bs in
    let as_long : length bs ≡ length cs = omega (arith, same) in
    let weight : k ≡ 256 ^ length cs = ap (λ n. 256 ^ n) as_long in
    let x = b * k + number bs in
    let y = c * k + number cs in
    let below_b = number-below bs (λ place. are_bs (suc place)) in
    let below_c = number-below cs (λ place. are_cs (suc place)) in
    ap (λ it. nat_cmp x (c * it + number cs)) (sym weight)
    ∙ elim (nat_cmp b c) as (λ r. r ≡ nat_cmp b c →
    nat_cmp x y ≡ ordering_then r (byte_order bs cs)) [
      | Less ↦ λ is. let row = row_fits b k c k (ranked b c Less is) (le_refl k) in
          sym (nat_cmp_is x y Less (omega (arith, row, below_b)))
      | Equal ↦ λ is. ap (λ it. nat_cmp x (it * k + number cs))
          (sym (ranked b c Equal is))
          ∙ nat_cmp-shifted (b * k) (number bs) (number cs)
          ∙ number-order bs cs as_long (λ place. are_bs (suc place))
          (λ place. are_cs (suc place))
      | Greater ↦ λ is. let row = row_fits c k b k (ranked b c Greater is) (le_refl k) in
          sym (nat_cmp_is x y Greater (omega (arith, row, below_c, weight)))
    ] refl

from_be-number : (bytes : List ℕ) → length bytes ≡ 8
    → from_be_bytes w64 bytes ≡ number bytes
from_be-number [] eight = absurd (omega (arith, eight))
from_be-number (a ∷ []) eight = absurd (omega (arith, eight))
from_be-number (a ∷ b ∷ []) eight = absurd (omega (arith, eight))
from_be-number (a ∷ b ∷ c ∷ []) eight = absurd (omega (arith, eight))
from_be-number (a ∷ b ∷ c ∷ d ∷ []) eight = absurd (omega (arith, eight))
from_be-number (a ∷ b ∷ c ∷ d ∷ e ∷ []) eight = absurd (omega (arith, eight))
from_be-number (a ∷ b ∷ c ∷ d ∷ e ∷ f ∷ []) eight = absurd (omega (arith, eight))
from_be-number (a ∷ b ∷ c ∷ d ∷ e ∷ f ∷ g ∷ []) eight = absurd (omega (arith, eight))
from_be-number (a ∷ b ∷ c ∷ d ∷ e ∷ f ∷ g ∷ h ∷ []) eight = omega arith
from_be-number (a ∷ b ∷ c ∷ d ∷ e ∷ f ∷ g ∷ h ∷ i ∷ bytes) eight =
    absurd (omega (arith, eight))

module _ (place : ℕ) (left right : List ℕ) (in_left : HasBlock 8 place left)
    (in_right : HasBlock 8 place right) where
  -- Blocks of eight bytes stand to one another as these numbers do.
  pub block_order : nat_cmp (from_be_bytes w64 (take 8 (drop place left)))
      (from_be_bytes w64 (take 8 (drop place right)))
      ≡ byte_order (take 8 (drop place left)) (take 8 (drop place right))
  block_order =
      let long_left = length-block 8 place left in_left in
      let long_right = length-block 8 place right in_right in
      (λ i. nat_cmp (from_be-number (block 8 place left) long_left i)
      (from_be-number (block 8 place right) long_right i))
      ∙ number-order (block 8 place left) (block 8 place right) (long_left ∙ sym long_right)
      (AreBytes-block 8 place left in_left) (AreBytes-block 8 place right in_right)

-- What two strings have in common at their start does not decide their order.
order-behind : (xs ys : List ℕ) (n : ℕ) → n ≤ common_length xs ys
    → byte_order (drop n xs) (drop n ys) ≡ byte_order xs ys
order-behind xs ys zero le = refl
order-behind [] ys (suc n) le = absurd (omega (arith, le))
order-behind (x ∷ xs) [] (suc n) le = absurd (omega (arith, le))
order-behind (x ∷ xs) (y ∷ ys) (suc n) le =
    elim (eqb x y) as (λ t. eqb x y ≡ t → suc n ≤ cond t (suc (common_length xs ys)) 0
    → byte_order (drop n xs) (drop n ys) ≡ ordering_then (nat_cmp x y) (byte_order xs ys)) [
      | true ↦ λ e le. order-behind xs ys n (omega (arith, le))
          ∙ ap (λ first. ordering_then first (byte_order xs ys))
          (sym (nat_cmp-same x y (eqb-true x y e)))
      | false ↦ λ e le. absurd (omega (arith, le))
    ] refl le

-- Strings that differ do not stand equal.
order-parted : (xs ys : List ℕ) → (xs ≡ ys → ⊥) → byte_order xs ys ≡ Equal → ⊥
order-parted xs ys parted equal =
    parted ((bytes_eq-Decides xs ys).0 (sym (is_eq-slice_cmp xs ys) ∙ ap is_eq equal))

module _ (place one other : ℕ) (left right : List ℕ) (in_left : HasBlock 8 place left)
    (in_right : HasBlock 8 place right) where
  -- The first blocks that are not the same number decide the order of two strings.
  pub order_by_block : place ≤ common_length left right
      → one ≡ from_le_bytes w64 (take 8 (drop place left))
      → other ≡ from_le_bytes w64 (take 8 (drop place right))
      → (one ≡ other → ⊥)
      → byte_order left right
      ≡ byte_order (take 8 (drop place left)) (take 8 (drop place right))
  order_by_block le is_one is_other unequal =
      let first = block 8 place left in
      let later = drop (place + 8) left in
      let rest = drop place right in
      let long = length-block 8 place left in_left in
      let within : length first ≤ length rest =
      omega (arith, long, length-drop place right, in_right.within) in
      sym (order-behind left right place le)
      ∙ ap (λ front. byte_order front rest) (block-rest 8 place left)
      ∙ order-append first later rest within
      ∙ (λ i. ordering_then (byte_order first (take (long i) rest))
      (byte_order later (drop (long i) rest)))
      ∙ ordering_then-decided (byte_order first (take 8 rest)) (byte_order later (drop 8 rest))
      (order-parted first (take 8 rest) (λ same. unequal
      (is_one ∙ ap (from_le_bytes w64) same ∙ sym is_other)))
