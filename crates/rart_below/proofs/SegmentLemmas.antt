-- Byte strings in segments, one behind the other: a segment more, and their order.
use Rattle.std.proofs.Common.{◌≡◌, ℕ, ◌+◌, ◌<◌, ◌≤◌, List, [], ◌∷◌, ◌++◌, length, take, drop, get_or, refl, sym, ap, ◌∙◌, arith, add-one}
use Rattle.std.proofs.Math.Seq.{drop-cons}
use Rattle.std.specs.Borrow.{Bor}
use Rattle.std.specs.declared.cmp.Ordering.{Ordering}
use Rattle.std.specs.declared.cmp.Ordering.TheVariants.{Less, Equal, Greater}
use Rattle.std.specs.Ordering.{nat_cmp, ordering_then}
use Rattle.rart_below.specs.Bytes.{byte_order}
use Rattle.rart_below.specs.LendingKeyView.{joined_bytes}

-- the bytes from one segment on
pub joined_bytes-drop : (segments : List (Bor (List ℕ))) (i : ℕ) (other : Bor (List ℕ)) →
    i < length segments →
    joined_bytes (drop i segments) ≡ (get_or segments i other).now
    ++ joined_bytes (drop (i + 1) segments)
joined_bytes-drop segments i other inside =
    ap joined_bytes (drop-cons segments i other inside)
    ∙ ap (λ k. (get_or segments i other).now ++ joined_bytes (drop k segments)) (sym (add-one i))

-- ---- orders

ordering_then_assoc : (a b c : Ordering) →
    ordering_then (ordering_then a b) c ≡ ordering_then a (ordering_then b c)
ordering_then_assoc Less b c = refl
ordering_then_assoc Equal b c = refl
ordering_then_assoc Greater b c = refl

-- What isn't equal decides.
pub ordering_then-decided : (first later : Ordering) → (first ≡ Equal → ⊥) →
    ordering_then first later ≡ first
ordering_then-decided Less later unequal = refl
ordering_then-decided Equal later unequal = absurd (unequal refl)
ordering_then-decided Greater later unequal = refl

-- A segment that the other string is long enough for is compared with its front, and what follows
-- with the rest.
pub order-append : (segment later other : List ℕ) → length segment ≤ length other →
    byte_order (segment ++ later) other
    ≡ ordering_then (byte_order segment (take (length segment) other))
    (byte_order later (drop (length segment) other))
order-append [] later other fits = refl
order-append (b ∷ segment) later [] fits = absurd (omega (arith, fits))
order-append (b ∷ segment) later (c ∷ other) fits =
    let n = length segment in
    ap (ordering_then (nat_cmp b c)) (order-append segment later other (omega (arith, fits)))
    ∙ sym (ordering_then_assoc (nat_cmp b c) (byte_order segment (take n other))
    (byte_order later (drop n other)))

-- Against a shorter string a segment decides alone.
order-append_longer : (segment later other : List ℕ) → length other < length segment →
    byte_order (segment ++ later) other ≡ byte_order segment other
order-append_longer [] later other longer = absurd (omega (arith, longer))
order-append_longer (b ∷ segment) later [] longer = refl
order-append_longer (b ∷ segment) later (c ∷ other) longer =
    ap (ordering_then (nat_cmp b c))
    (order-append_longer segment later other (omega (arith, longer)))

module _ (segments : List (Bor (List ℕ))) (i : ℕ) (other : Bor (List ℕ)) (rest : List ℕ)
    (inside : i < length segments) where
  -- the bytes from one segment on, and a string that is at least as long as it
  pub joined_bytes-order : (front behind : List ℕ) →
      length (get_or segments i other).now ≤ length rest →
      front ≡ take (length (get_or segments i other).now) rest →
      behind ≡ drop (length (get_or segments i other).now) rest →
      byte_order (joined_bytes (drop i segments)) rest
      ≡ ordering_then (byte_order (get_or segments i other).now front)
      (byte_order (joined_bytes (drop (i + 1) segments)) behind)
  joined_bytes-order front behind fits is_front is_behind =
      let segment = (get_or segments i other).now in
      let later = joined_bytes (drop (i + 1) segments) in
      ap (λ bytes. byte_order bytes rest) (joined_bytes-drop segments i other inside)
      ∙ order-append segment later rest fits
      ∙ (λ k. ordering_then (byte_order segment (sym is_front k))
      (byte_order later (sym is_behind k)))

  -- the same, and a shorter string
  pub joined_bytes-order_longer : length rest < length (get_or segments i other).now →
      byte_order (joined_bytes (drop i segments)) rest
      ≡ byte_order (get_or segments i other).now rest
  joined_bytes-order_longer longer =
      let segment = (get_or segments i other).now in
      ap (λ bytes. byte_order bytes rest) (joined_bytes-drop segments i other inside)
      ∙ order-append_longer segment (joined_bytes (drop (i + 1) segments)) rest longer
