-- Values as bytes: written, read and refused.
use Rattle.std.proofs.Common.{◌≡◌, ◌+◌, ◌-◌, ◌/◌, ◌%◌, ◌<◌, ◌^◌, ℕ, List, [], ◌∷◌, ◌++◌, length, drop, get_or, refl, sym, ap, subst, ◌∙◌, append_assoc, arith}
use Rattle.std.proofs.lemmas.List.{length-append, length-drop}
use Rattle.std.proofs.lemmas.Nat.{le_bytes_8}
use Rattle.std.specs.Int.{from_le_bytes, to_le_bytes, w64}
use Rattle.rart_saved.specs.Laws.{leb-apart}
use Rattle.rart_saved.specs.Numbers.{leb, LacksNumber}
use Rattle.rart_saved.specs.Parts.{HasPart}
use Rattle.rart_saved.specs.Values.{bytes_of, eight_bytes, sized, LacksValue}
use Rattle.rart_saved.proofs.BytePartLemmas.{part-join}

-- ---- numbers

pub eight-low : (n : ℕ) → n < 2 ^ 64 → to_le_bytes w64 n ≡ eight_bytes n
unfolding eight_bytes bytes_of
eight-low n below =
    let e2 : n / 65536 % 256 ≡ n / 256 / 256 % 256 = omega arith in
    let e3 : n / 16777216 % 256 ≡ n / 256 / 256 / 256 % 256 = omega arith in
    let e4 : n / 4294967296 % 256 ≡ n / 256 / 256 / 256 / 256 % 256 = omega arith in
    let e5 : n / 1099511627776 % 256 ≡ n / 256 / 256 / 256 / 256 / 256 % 256 = omega arith in
    let e6 : n / 281474976710656 % 256 ≡ n / 256 / 256 / 256 / 256 / 256 / 256 % 256 =
    omega arith in
    let e7 : n / 72057594037927936 % 256 ≡ n / 256 / 256 / 256 / 256 / 256 / 256 / 256 =
    omega (arith, below) in
    λ i. n % 256 ∷ n / 256 % 256 ∷ e2 i ∷ e3 i ∷ e4 i ∷ e5 i ∷ e6 i ∷ e7 i ∷ []

eight-long : (n : ℕ) → length (eight_bytes n) ≡ 8
unfolding eight_bytes bytes_of
eight-long n = refl

-- No number has its form in fewer than eight bytes.
pub lacks-eight : (bytes : List ℕ) (at : ℕ) → length bytes - at < 8
    → LacksValue eight_bytes (drop at bytes)
lacks-eight bytes at few x rest stands =
    omega (
      arith,
      few,
      ap length stands,
      length-drop at bytes,
      length-append (eight_bytes x) rest,
      eight-long x,
    )

-- Eight bytes are the form of the number that they make.
pub eight-read : (bytes part : List ℕ) (at n : ℕ) → HasPart bytes at part (at + 8)
    → length part ≡ 8 → ((i : ℕ) → get_or part i 0 < 256) → n < 2 ^ 64
    → n ≡ from_le_bytes w64 part → HasPart bytes at (eight_bytes n) (at + 8)
eight-read bytes part at n stands long small below is =
    subst (λ g. HasPart bytes at g (at + 8))
    (sym (le_bytes_8 part n long small is) ∙ eight-low n below) stands

-- ---- byte strings

pub sized-written : (before middle after w : List ℕ) → middle ≡ before ++ leb (length w)
    → after ≡ middle ++ w → after ≡ before ++ sized w
unfolding sized
sized-written before middle after w first second =
    second ∙ ap (λ g. g ++ w) first ∙ append_assoc before (leb (length w)) w

sized-then : (w rest : List ℕ) → sized w ++ rest ≡ leb (length w) ++ (w ++ rest)
unfolding sized
sized-then w rest = append_assoc (leb (length w)) w rest

pub lacks-length : (bytes : List ℕ) (at : ℕ) → length bytes < 2 ^ 64
    → LacksNumber (drop at bytes) → LacksValue sized (drop at bytes)
lacks-length bytes at fits lacks w rest stands =
    let whole = stands ∙ sized-then w rest in
    lacks (length w) (w ++ rest)
    (omega (
      arith,
      fits,
      ap length whole,
      length-drop at bytes,
      length-append (leb (length w)) (w ++ rest),
      length-append w rest,
    )) whole

pub lacks-rest : (bytes : List ℕ) (at from count : ℕ) → HasPart bytes at (leb count) from
    → length bytes - from < count → LacksValue sized (drop at bytes)
lacks-rest bytes at from count one few w rest stands =
    let parts =
    leb-apart count (length w) _ _ (sym one.stands ∙ stands ∙ sized-then w rest) in
    omega (arith, few, parts.0, ap length parts.1, length-drop from bytes, length-append w rest)

pub sized-read : (bytes w : List ℕ) (at from count : ℕ) → HasPart bytes at (leb count) from
    → HasPart bytes from w (from + count) → length w ≡ count
    → HasPart bytes at (sized w) (from + count)
unfolding sized
sized-read bytes w at from count one other long =
    part-join bytes at from (from + count) (leb (length w)) w
    (subst (λ n. HasPart bytes at (leb n) from) (sym long) one) other
