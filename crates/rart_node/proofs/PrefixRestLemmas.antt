-- What is left of a string behind a prefix.
use Rattle.std.proofs.Common.{◌≡◌, ℕ, suc, zero, ◌<◌, ◌≤◌, List, [], ◌∷◌, ◌++◌, Option, Some, None, slice_get, length, take, drop, cond, Bool, true, false, ◌&&◌, refl, arith, sym, ap, ◌∙◌}
use Rattle.std.specs.Prelude.{◌==◌, slice_index_or}
use Rattle.std.specs.Option.{option_and_then}
use Rattle.std.specs.Str.{bytes_eq}
use Rattle.std.proofs.lemmas.Bool.{false≢true, eqb-true, eqb-false, ne_eqb, eq-eqb}
use Rattle.std.proofs.lemmas.Option.{same_Some, none-some}
use Rattle.rart_below.specs.Bytes.{begins, common_length}
use Rattle.rart_node.specs.Trees.{strip_prefix, BeginsWith}

pub eqb-sym : (a b : ℕ) → (a == b) ≡ (b == a)
eqb-sym a b =
    let P : Bool → Type 0 = λ t. (a == b) ≡ t → t ≡ (b == a) in
    let both : (t : Bool) → P t =
    elim [
      | true ↦ (λ e. sym (eq-eqb b a (sym (eqb-true a b e))))
      | false ↦ (λ e. sym (ne_eqb b a (λ h. eqb-false a b e (sym h))))
    ] in
    both (a == b) refl

-- A string that leaves the prefix before its end has nothing behind it.
pub strip_prefix-short : (p q : List ℕ) → common_length p q < length p → strip_prefix p q ≡ None
strip_prefix-short [] q short = absurd (omega (arith, short))
strip_prefix-short (b ∷ p) [] short = refl
strip_prefix-short (b ∷ p) (c ∷ q) short =
    let P : Bool → Type 0 = λ t. cond t (suc (common_length p q)) 0 < suc (length p)
    → cond t (strip_prefix p q) None ≡ None in
    let both : (t : Bool) → P t =
    elim [ true ↦ (λ lt. strip_prefix-short p q (omega (arith, lt))) | false ↦ (λ lt. refl) ] in
    rw (eqb-sym c b) (both (b == c) short)

-- A string that has the whole prefix goes on behind it.
pub strip_prefix-whole : (p q : List ℕ) → length p ≤ common_length p q
    → strip_prefix p q ≡ Some (drop (common_length p q) q)
strip_prefix-whole [] q whole = refl
strip_prefix-whole (b ∷ p) [] whole = absurd (omega (arith, whole))
strip_prefix-whole (b ∷ p) (c ∷ q) whole =
    let P : Bool → Type 0 = λ t. suc (length p) ≤ cond t (suc (common_length p q)) 0
    → cond t (strip_prefix p q) None
    ≡ Some (drop (cond t (suc (common_length p q)) 0) (c ∷ q)) in
    let both : (t : Bool) → P t =
    elim [
      | true ↦ (λ le. strip_prefix-whole p q (omega (arith, le)))
      | false ↦ (λ le. absurd (omega (arith, le)))
    ] in
    rw (eqb-sym c b) (both (b == c) whole)

-- What is left of a string that begins with the prefix, and that none is of another.
pub strip_prefix-begun : (p q : List ℕ) → begins p q ≡ true
    → strip_prefix p q ≡ Some (drop (length p) q)
strip_prefix-begun [] q begun = refl
strip_prefix-begun (b ∷ p) [] begun = absurd (false≢true begun)
strip_prefix-begun (b ∷ p) (c ∷ q) begun =
    let P : Bool → Type 0 = λ t. (t && begins p q) ≡ true
    → cond t (strip_prefix p q) None ≡ Some (drop (length p) q) in
    let both : (t : Bool) → P t =
    elim [ true ↦ strip_prefix-begun p q | false ↦ (λ never. absurd (false≢true never)) ] in
    rw (eqb-sym c b) (both (b == c) begun)

pub strip_prefix-other : (p q : List ℕ) → begins p q ≡ false → strip_prefix p q ≡ None
strip_prefix-other [] q other = absurd (false≢true (sym other))
strip_prefix-other (b ∷ p) [] other = refl
strip_prefix-other (b ∷ p) (c ∷ q) other =
    let P : Bool → Type 0 = λ t. (t && begins p q) ≡ false
    → cond t (strip_prefix p q) None ≡ None in
    let both : (t : Bool) → P t =
    elim [ true ↦ strip_prefix-other p q | false ↦ (λ _. refl) ] in
    rw (eqb-sym c b) (both (b == c) other)

pub begins-within : (p q : List ℕ) → begins p q ≡ true → length p ≤ length q
begins-within [] q begun = omega arith
begins-within (b ∷ p) [] begun = absurd (false≢true begun)
begins-within (b ∷ p) (c ∷ q) begun =
    let P : Bool → Type 0 = λ t. (t && begins p q) ≡ true → suc (length p) ≤ suc (length q) in
    let both : (t : Bool) → P t =
    elim [
      | true ↦ (λ rest. let later = begins-within p q rest in omega (arith, later))
      | false ↦ (λ never. absurd (false≢true never))
    ] in
    both (b == c) begun

pub strip_prefix-own : (p q : List ℕ) → strip_prefix p (p ++ q) ≡ Some q
strip_prefix-own [] q = refl
strip_prefix-own (b ∷ p) q = rw (eq-eqb b b refl) (strip_prefix-own p q)

pub strip_prefix-is : (p q rest : List ℕ) → strip_prefix p q ≡ Some rest → q ≡ p ++ rest
strip_prefix-is [] q rest is = same_Some q rest is
strip_prefix-is (b ∷ p) [] rest is = absurd (none-some rest is)
strip_prefix-is (b ∷ p) (c ∷ q) rest is =
    let P : Bool → Type 0 = λ t. (c == b) ≡ t → cond t (strip_prefix p q) None ≡ Some rest
    → c ∷ q ≡ b ∷ (p ++ rest) in
    let both : (t : Bool) → P t =
    elim [
      | true ↦ (λ e there. let same = eqb-true c b e in
          let later = strip_prefix-is p q rest there in λ i. same i ∷ later i)
      | false ↦ (λ e there. absurd (none-some rest there))
    ] in
    both (c == b) refl is

pub behind-append : (p r q : List ℕ)
    → strip_prefix (p ++ r) q ≡ option_and_then (strip_prefix r) (strip_prefix p q)
behind-append [] r q = refl
behind-append (b ∷ p) r [] = refl
behind-append (b ∷ p) r (c ∷ q) =
    elim (c == b) as (λ t. cond t (strip_prefix (p ++ r) q) None
    ≡ option_and_then (strip_prefix r) (cond t (strip_prefix p q) None))
    [ true ↦ behind-append p r q | false ↦ refl ]

-- whether what is left is the key
abbrev pub is_left : Option (List ℕ) → List ℕ → Bool
is_left None key = false
is_left (Some rest) key = bytes_eq rest key

pub bytes_eq-strip_prefix : (p q key : List ℕ)
    → bytes_eq q (p ++ key) ≡ is_left (strip_prefix p q) key
bytes_eq-strip_prefix [] q key = refl
bytes_eq-strip_prefix (b ∷ p) [] key = refl
bytes_eq-strip_prefix (b ∷ p) (c ∷ q) key =
    elim (c == b) as (λ t. (t && bytes_eq q (p ++ key))
    ≡ is_left (cond t (strip_prefix p q) None) key) [
      | true ↦ bytes_eq-strip_prefix p q key
      | false ↦ refl
    ]

-- A string of which the whole prefix is matched is the prefix and what is behind.
pub split-common : (p key : List ℕ)
    → key ≡ take (common_length p key) p ++ drop (common_length p key) key
split-common [] key = refl
split-common (b ∷ p) [] = refl
split-common (b ∷ p) (c ∷ key) =
    let P : Bool → Type 0 =
    λ t. (b == c) ≡ t → c ∷ key ≡ take (cond t (suc (common_length p key)) 0) (b ∷ p)
    ++ drop (cond t (suc (common_length p key)) 0) (c ∷ key) in
    let both : (t : Bool) → P t =
    elim [
      | true ↦ (λ e. let same = eqb-true b c e in λ i. sym same i ∷ split-common p key i)
      | false ↦ (λ e. refl)
    ] in
    both (b == c) refl

take-all : (p : List ℕ) (n : ℕ) → length p ≤ n → take n p ≡ p
take-all [] zero le = refl
take-all [] (suc n) le = refl
take-all (b ∷ p) zero le = absurd (omega (arith, le))
take-all (b ∷ p) (suc n) le = ap (λ rest. b ∷ rest) (take-all p n (omega (arith, le)))

pub split-whole : (p key : List ℕ) → length p ≤ common_length p key
    → key ≡ p ++ drop (common_length p key) key
split-whole p key whole =
    split-common p key ∙ ap (λ front. front ++ drop (common_length p key) key)
    (take-all p (common_length p key) whole)

-- Where a prefix is left, the next byte of the string is another one.
pub differs-strip_prefix : (p key : List ℕ) (byte : ℕ) → common_length p key < length p
    → slice_get (drop (common_length p key) key) 0 ≡ Some byte
    → (byte == slice_index_or p (common_length p key) 0) ≡ false
differs-strip_prefix [] key byte short next = absurd (omega (arith, short))
differs-strip_prefix (b ∷ p) [] byte short next = absurd (none-some byte next)
differs-strip_prefix (b ∷ p) (c ∷ key) byte short next =
    let P : Bool → Type 0 =
    λ t. (b == c) ≡ t → cond t (suc (common_length p key)) 0 < suc (length p)
    → slice_get (drop (cond t (suc (common_length p key)) 0) (c ∷ key)) 0 ≡ Some byte
    → (byte == slice_index_or (b ∷ p) (cond t (suc (common_length p key)) 0) 0) ≡ false in
    let both : (t : Bool) → P t = elim [
      | true ↦ (λ e lt n. differs-strip_prefix p key byte (omega (arith, lt)) n)
      | false ↦ (λ e lt n. ne_eqb byte b (λ z. eqb-false b c e (sym z ∙ sym (same_Some c byte n))))
    ] in
    both (b == c) refl short next

pub begins-drop : (p : List ℕ) (at : ℕ) → at < length p
    → BeginsWith (slice_index_or p at 0) (drop at p)
begins-drop [] at lt = absurd (omega (arith, lt))
begins-drop (b ∷ p) zero lt = refl
begins-drop (b ∷ p) (suc at) lt = begins-drop p at (omega (arith, lt))

-- A first byte in common is in the common prefix.
pub begins-common : (p key : List ℕ) (byte : ℕ) → BeginsWith byte p → BeginsWith byte key
    → BeginsWith byte (take (common_length p key) p)
begins-common [] key byte begins also = absurd begins
begins-common (b ∷ p) [] byte begins also = absurd also
begins-common (b ∷ p) (c ∷ key) byte begins also = rw (eq-eqb b c (begins ∙ sym also)) begins

pub common-long : (p key : List ℕ) (byte : ℕ) → BeginsWith byte p → BeginsWith byte key
    → 0 < common_length p key
common-long [] key byte begins also = absurd begins
common-long (b ∷ p) [] byte begins also = absurd also
common-long (b ∷ p) (c ∷ key) byte begins also = rw (eq-eqb b c (begins ∙ sym also)) (omega arith)

pub common-within : (p key : List ℕ) → (common_length p key ≤ length p)
    × (common_length p key ≤ length key)
common-within [] key = (omega arith, omega arith)
common-within (b ∷ p) [] = (omega arith, omega arith)
common-within (b ∷ p) (c ∷ key) =
    let P : Bool → Type 0 = λ t. (cond t (suc (common_length p key)) 0 ≤ suc (length p))
    × (cond t (suc (common_length p key)) 0 ≤ suc (length key)) in
    let rest = common-within p key in
    let both : (t : Bool) → P t =
    elim [
      | true ↦ (let l = rest.0 in omega (arith, l), let r = rest.1 in omega (arith, r))
      | false ↦ (omega arith, omega arith)
    ] in
    both (b == c)

pub begins-long : (byte : ℕ) (p : List ℕ) → BeginsWith byte p → 0 < length p
begins-long byte [] begins = absurd begins
begins-long byte (b ∷ p) begins = omega arith

pub begins-first : (byte : ℕ) (w : List ℕ) → slice_get w 0 ≡ Some byte → BeginsWith byte w
begins-first byte [] first = absurd (none-some byte first)
begins-first byte (b ∷ w) first = same_Some b byte first

pub no-first : (w : List ℕ) → slice_get w 0 ≡ None → w ≡ []
no-first [] first = refl
no-first (b ∷ w) first = absurd (none-some b (sym first))

pub first-parts : (w : List ℕ) (byte : ℕ) → slice_get w 0 ≡ Some byte
    → (rest : List ℕ) × (w ≡ byte ∷ rest)
first-parts [] byte first = absurd (none-some byte first)
first-parts (b ∷ w) byte first = (w, ap (λ z. z ∷ w) (same_Some b byte first))

pub common_fits : (p key : List ℕ) → common_length p key ≤ length key
common_fits p key = (common-within p key).1
