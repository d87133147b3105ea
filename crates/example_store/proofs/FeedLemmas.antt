-- Where the first line feed of bytes stands.
use Rattle.std.proofs.Common.{◌≡◌, ◌≢◌, ℕ, zero, suc, ◌+◌, ◌<◌, List, [], ◌∷◌, ◌++◌, take, drop, length, slice_index, sym, ◌∙◌, ap, arith}
use Rattle.std.proofs.lemmas.Bool.{eqb-true, eq-eqb}
use Rattle.std.proofs.lemmas.List.{take_all}
use Rattle.memchr.specs.Find.{is_byte, Nowhere, NoneBefore, Passes}
use Rattle.vtree_lines.specs.Laws.{HasNoFeed}

no_feed_before : (bytes : List ℕ) (n : ℕ) → ((k : ℕ) → k < n → slice_index bytes k ≢ 10) →
    HasNoFeed (take n bytes)
no_feed_before bytes zero h = tt
no_feed_before [] (suc n) h = tt
no_feed_before (b ∷ bytes) (suc n) h = (
  h 0 (omega arith),
  no_feed_before bytes n (λ k l. h (suc k) (omega (arith, l))),
)

feed_splits : (bytes : List ℕ) (n : ℕ) → n < length bytes → slice_index bytes n ≡ 10 →
    bytes ≡ take n bytes ++ 10 ∷ drop (suc n) bytes
feed_splits [] n l e = absurd (omega (arith, l))
feed_splits (b ∷ bytes) zero l e = ap (λ s. s ∷ bytes) e
feed_splits (b ∷ bytes) (suc n) l e = ap (λ s. b ∷ s) (feed_splits bytes n (omega (arith, l)) e)

-- a text, its line feed, and what stands behind it
pub record IsCut (bytes text behind : List ℕ) : Type 0 where
  pub split : bytes ≡ text ++ 10 ∷ behind
  pub feedless : HasNoFeed text

pub first_feed : (bytes : List ℕ) (end : ℕ) → NoneBefore (Passes (is_byte 10) bytes) 0 (length bytes) end ×
    Passes (is_byte 10) bytes end → IsCut bytes (take end bytes) (drop (end + 1) bytes)
first_feed bytes end (first, is) = record {
  split = (λ (n : ℕ) (e : n ≡ suc end). feed_splits bytes end first.high (eqb-true (slice_index bytes end) 10 is) ∙ ap (λ m. take end bytes ++ 10 ∷ drop m bytes) (sym e)) (end + 1) (omega arith);
  feedless = no_feed_before bytes end (λ k l e. first.before k (omega arith) l (eq-eqb (slice_index bytes k) 10 e));
}

pub no_feed : (bytes : List ℕ) → Nowhere (Passes (is_byte 10) bytes) 0 (length bytes) → HasNoFeed bytes
no_feed bytes none =
    rw (take_all (length bytes) bytes (omega arith)) at
    (no_feed_before bytes (length bytes) (λ k l e. none k (omega arith) l (eq-eqb (slice_index bytes k) 10 e)))
