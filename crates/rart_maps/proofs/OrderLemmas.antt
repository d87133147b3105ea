-- The order of byte strings, the bounds on it, and prefixes.
use Rattle.std.proofs.Common.{◌≡◌, ◌<◌, ◌↔◌, ◌⊎◌, ℕ, true, List, [], ◌∷◌, ◌++◌, length, refl, sym, ap, ◌∙◌, ⊎_elim, inl, inr, arith}
use Rattle.std.specs.Prelude.{◌==◌}
use Rattle.std.specs.declared.cmp.Ordering.{Ordering}
use Rattle.std.specs.declared.cmp.Ordering.TheVariants.{Less, Equal, Greater}
use Rattle.std.specs.declared.ops.Bound.{Bound}
use Rattle.std.specs.declared.ops.Bound.TheVariants.{Included, Excluded, Unbounded}
use Rattle.std.specs.Ordering.{nat_cmp, ordering_then, ordering_reverse, is_lt, is_le, as_partial_cmp}
use Rattle.std.specs.Cmp.{ranked, nat_cmp_is, tied_itself}
use Rattle.std.specs.Cmp.Lexicographic.{nat_list_cmp_total}
use Rattle.std.specs.Range.Bound.{is_from_start, is_up_to_end, bounds_contain}
use Rattle.std.specs.FinMap as finite
use Rattle.std.proofs.lemmas.Bool.{and_parts, and_from, eqb-true, eq-eqb, false≢true}
use Rattle.rart_below.specs.Bytes.{byte_order, begins}
use Rattle.rart_maps.specs.Order.{IsBefore, IsAtMost, MeetsLow, MeetsHigh, OrderIsOfFirstDifference, BeginsIsOfRest}

-- Only equal strings tie.
pub byte_order-IsAntisymmetric : finite.IsAntisymmetric byte_order
byte_order-IsAntisymmetric = finite.slice_cmp-IsAntisymmetric finite.nat_cmp-IsAntisymmetric

less-before : (u w : List ℕ) → byte_order u w ≡ Less → IsBefore u w
less-before [] [] is = absurd (false≢true (ap is_lt is))
less-before [] (c ∷ w) is = tt
less-before (b ∷ u) [] is = absurd (false≢true (ap is_lt is))
less-before (b ∷ u) (c ∷ w) is =
    elim (nat_cmp b c) as (λ r. r ≡ nat_cmp b c → ordering_then r (byte_order u w) ≡ Less
    → (b < c) ⊎ ((b ≡ c) × IsBefore u w)) [
      | Less ↦ λ here _. inl (ranked b c Less here)
      | Equal ↦ λ here more. inr (ranked b c Equal here, less-before u w more)
      | Greater ↦ λ _ more. absurd (false≢true (ap is_lt more))
    ] refl is

before-less : (u w : List ℕ) → IsBefore u w → byte_order u w ≡ Less
before-less [] [] before = absurd before
before-less (b ∷ u) [] before = absurd before
before-less [] (c ∷ w) before = refl
before-less (b ∷ u) (c ∷ w) before =
    ⊎_elim
    (λ less. ap (λ r. ordering_then r (byte_order u w)) (sym (nat_cmp_is b c Less less)))
    (λ both. ap (λ r. ordering_then r (byte_order u w)) (sym (nat_cmp_is b c Equal both.0))
    ∙ before-less u w both.1)
    before

pub order_is_of_first_difference : OrderIsOfFirstDifference
order_is_of_first_difference u w = (
  (less-before u w, before-less u w),
  (
    byte_order-IsAntisymmetric u w,
    λ same. ap (λ v. byte_order u v) (sym same) ∙ tied_itself nat_list_cmp_total u,
  ),
  (
    λ greater. less-before w u
        (nat_list_cmp_total.antisymm w u ∙ ap ordering_reverse greater),
    λ before. nat_list_cmp_total.antisymm u w ∙ ap ordering_reverse (before-less w u before),
  ),
)

-- No string stands before itself, nor two each before the other.
pub IsBefore-itself : (u : List ℕ) → IsBefore u u → ⊥
IsBefore-itself [] before = before
IsBefore-itself (b ∷ u) before =
    ⊎_elim (λ less. omega (arith, less)) (λ both. IsBefore-itself u both.1) before

pub IsBefore-back : (u w : List ℕ) → IsBefore u w → IsBefore w u → ⊥
IsBefore-back u [] before back = before
IsBefore-back [] (c ∷ w) before back = back
IsBefore-back (b ∷ u) (c ∷ w) before back =
    ⊎_elim
    (λ less. ⊎_elim (λ more. omega (arith, less, more)) (λ both. omega (arith, less, both.0)) back)
    (λ here. ⊎_elim (λ more. omega (arith, here.0, more))
    (λ both. IsBefore-back u w here.1 both.1) back)
    before

pub lt-less : (r : Ordering) → is_lt r ≡ true → r ≡ Less
lt-less Less is = refl
lt-less Equal is = absurd (false≢true is)
lt-less Greater is = absurd (false≢true is)

pub lt-before : (u w : List ℕ) → is_lt (byte_order u w) ≡ true → IsBefore u w
lt-before u w is = less-before u w (lt-less (byte_order u w) is)

pub before-lt : (u w : List ℕ) → IsBefore u w → is_lt (byte_order u w) ≡ true
before-lt u w before = ap is_lt (before-less u w before)

le-at_most : (u w : List ℕ) → is_le (byte_order u w) ≡ true → IsAtMost u w
le-at_most u w is =
    elim (byte_order u w) as (λ r. byte_order u w ≡ r → is_le r ≡ true → IsAtMost u w) [
      | Less ↦ λ less _. inr (less-before u w less)
      | Equal ↦ λ equal _. inl (byte_order-IsAntisymmetric u w equal)
      | Greater ↦ λ _ no. absurd (false≢true no)
    ] refl is

at_most-le : (u w : List ℕ) → IsAtMost u w → is_le (byte_order u w) ≡ true
at_most-le u w most =
    ⊎_elim (λ same. ap (λ v. is_le (byte_order u v)) (sym same)
    ∙ ap is_le (tied_itself nat_list_cmp_total u))
    (λ before. ap is_le (before-less u w before)) most

low-meets : (low : Bound (List ℕ)) (key : List ℕ)
    → (is_from_start (as_partial_cmp byte_order) low key ≡ true) ↔ MeetsLow low key
low-meets (Included a) key = (le-at_most a key, at_most-le a key)
low-meets (Excluded a) key = (lt-before a key, before-lt a key)
low-meets Unbounded key = (λ _. tt, λ _. refl)

pub high-meets : (high : Bound (List ℕ)) (key : List ℕ)
    → (is_up_to_end (as_partial_cmp byte_order) high key ≡ true) ↔ MeetsHigh high key
high-meets (Included a) key = (le-at_most key a, at_most-le key a)
high-meets (Excluded a) key = (lt-before key a, before-lt key a)
high-meets Unbounded key = (λ _. tt, λ _. refl)

-- A key is within two bounds exactly where it meets both.
pub bounds_contain-is : (low high : Bound (List ℕ)) (key : List ℕ)
    → (bounds_contain (as_partial_cmp byte_order) low high key ≡ true)
    ↔ (MeetsLow low key × MeetsHigh high key)
bounds_contain-is low high key = (
  λ is. let parts =
      and_parts (is_from_start (as_partial_cmp byte_order) low key)
      (is_up_to_end (as_partial_cmp byte_order) high key) is in
      ((low-meets low key).0 parts.0, (high-meets high key).0 parts.1),
  λ both. and_from (is_from_start (as_partial_cmp byte_order) low key)
      (is_up_to_end (as_partial_cmp byte_order) high key) ((low-meets low key).1 both.0)
      ((high-meets high key).1 both.1),
)

-- ---- prefixes

-- Of two that begin the same string, the later one is the longer one.
pub before-longer : (u v w : List ℕ) → begins u w ≡ true → begins v w ≡ true → IsBefore u v
    → length u < length v
before-longer u [] w first later before = absurd before
before-longer [] (c ∷ v) w first later before = omega arith
before-longer (b ∷ u) (c ∷ v) [] first later before = absurd (false≢true first)
before-longer (b ∷ u) (c ∷ v) (d ∷ w) first later before =
    let one = and_parts (b == d) (begins u w) first in
    let other = and_parts (c == d) (begins v w) later in
    ⊎_elim
    (λ less. absurd (omega (arith, less, eqb-true b d one.0, eqb-true c d other.0)))
    (λ both. let more = before-longer u v w one.1 other.1 both.1 in omega (arith, more))
    before

pub begins-append : (u rest : List ℕ) → begins u (u ++ rest) ≡ true
begins-append [] rest = refl
begins-append (b ∷ u) rest =
    and_from (b == b) (begins u (u ++ rest)) (eq-eqb b b refl) (begins-append u rest)

pub begins-rest : (u w : List ℕ) → begins u w ≡ true → (rest : List ℕ) × (w ≡ u ++ rest)
begins-rest [] w is = (w, refl)
begins-rest (b ∷ u) [] is = absurd (false≢true is)
begins-rest (b ∷ u) (c ∷ w) is =
    let parts = and_parts (b == c) (begins u w) is in
    let more = begins-rest u w parts.1 in
    (more.0, λ i. sym (eqb-true b c parts.0) i ∷ more.1 i)

pub begins_is_of_rest : BeginsIsOfRest
begins_is_of_rest u w = (begins-rest u w, λ found. ap (begins u) found.1 ∙ begins-append u found.0)
