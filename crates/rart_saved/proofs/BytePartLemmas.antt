-- Where in some bytes a part stands, and what a refusal says.
use Rattle.std.proofs.Common.{◌≡◌, ◌+◌, ◌-◌, ◌<◌, ◌≤◌, ℕ, zero, suc, List, [], ◌∷◌, ◌++◌, length, take, drop, get_or, Result, Ok, Err, sym, ap, ◌∙◌, append_assoc, arith}
use Rattle.std.specs.Result.{IfErr}
use Rattle.std.proofs.Math.Seq.{drop-cons, take-append_seam}
use Rattle.std.proofs.lemmas.List.{drop_all, drop-drop, length-append, length-drop, length-take-le, take-append-drop}
use Rattle.rart_saved.specs.declared.error.LoadError.{LoadError}
use Rattle.rart_saved.specs.Parts.{HasPart}
use Rattle.rart_saved.specs.Refusals.{OnOtherErr}

-- What is so beside each error.
pub each_error : {T E : Type 0} (r : Result T E) (Q : Type 0) → Q → IfErr r (λ _. Q)
each_error (Ok x) Q is = tt
each_error (Err e) Q is = is

pub error_on : {T E : Type 0} (r : Result T E) (P Q : Type 0) → (P → Q) → IfErr r (λ _. P)
    → IfErr r (λ _. Q)
error_on (Ok x) P Q on is = tt
error_on (Err e) P Q on is = on is

pub other_error : {T : Type 0} (r : Result T LoadError) (P : Type 0) → P → OnOtherErr r P
other_error (Ok x) P is = tt
other_error (Err e) P is = λ _. is

-- ---- parts

-- One part behind another.
pub part-join : (bytes : List ℕ) (a b c : ℕ) (p q : List ℕ) → HasPart bytes a p b
    → HasPart bytes b q c → HasPart bytes a (p ++ q) c
part-join bytes a b c p q one other = record {
  within = other.within;
  stands = one.stands ∙ ap (λ g. p ++ g) other.stands
      ∙ sym (append_assoc p q (drop c bytes));
}

-- The part that stands at the front.
pub part-front : (bytes part : List ℕ) (to : ℕ) → HasPart bytes 0 part to → take to bytes ≡ part
part-front bytes part to is =
    let long : length part ≡ to =
    omega (
      arith,
      is.within,
      ap length is.stands,
      length-append part (drop to bytes),
      length-drop to bytes,
    ) in
    (λ i. take (sym long i) (is.stands i)) ∙ take-append_seam part (drop to bytes)

-- the part between two places
pub part-slice : (bytes : List ℕ) (a b : ℕ) → a ≤ b → b ≤ length bytes
    → HasPart bytes a (take (b - a) (drop a bytes)) b
part-slice bytes a b up within = record {
  within = within;
  stands = sym (take-append-drop (b - a) (drop a bytes))
      ∙ ap (λ g. take (b - a) (drop a bytes) ++ g)
      (drop-drop (b - a) a bytes ∙ ap (λ n. drop n bytes) (omega (arith, up)));
}

-- so many bytes from a place on, and how many they are
pub part-counted : (bytes : List ℕ) (a n : ℕ) → a + n ≤ length bytes
    → HasPart bytes a (take (a + n - a) (drop a bytes)) (a + n)
part-counted bytes a n within = part-slice bytes a (a + n) (omega arith) within

pub long-counted : (bytes : List ℕ) (a n : ℕ) → a + n ≤ length bytes
    → length (take (a + n - a) (drop a bytes)) ≡ n
long-counted bytes a n within =
    length-take-le (a + n - a) (drop a bytes) (omega (arith, within, length-drop a bytes))
    ∙ omega arith

-- Where each number is a byte, so it is in a part.
small-drop : (from : ℕ) (bytes : List ℕ) → ((i : ℕ) → get_or bytes i 0 < 256) → (i : ℕ)
    → get_or (drop from bytes) i 0 < 256
small-drop zero bytes small i = small i
small-drop (suc from) [] small i = omega arith
small-drop (suc from) (b ∷ bytes) small i = small-drop from bytes (λ j. small (suc j)) i

small-take : (n : ℕ) (bytes : List ℕ) → ((i : ℕ) → get_or bytes i 0 < 256) → (i : ℕ)
    → get_or (take n bytes) i 0 < 256
small-take zero bytes small i = omega arith
small-take (suc n) [] small i = omega arith
small-take (suc n) (b ∷ bytes) small zero = small zero
small-take (suc n) (b ∷ bytes) small (suc i) = small-take n bytes (λ j. small (suc j)) i

pub small-part : (bytes : List ℕ) (from n : ℕ) → ((i : ℕ) → get_or bytes i 0 < 256) → (i : ℕ)
    → get_or (take n (drop from bytes)) i 0 < 256
small-part bytes from n small = small-take n (drop from bytes) (small-drop from bytes small)

-- no byte past the end
pub drop-past : (bytes : List ℕ) (at : ℕ) → length bytes ≤ at → drop at bytes ≡ []
drop-past bytes at past = drop_all at bytes past

pub drop-byte : (bytes : List ℕ) (at b : ℕ) → at < length bytes
    → ((d : ℕ) → b ≡ get_or bytes at d) → drop at bytes ≡ b ∷ drop (at + 1) bytes
drop-byte bytes at b inside is =
    drop-cons bytes at 0 inside ∙ (λ i. sym (is 0) i ∷ drop (next i) bytes)
  where
    next : suc at ≡ at + 1
    next = omega arith
