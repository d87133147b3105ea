-- No form of a number or a value begins another: proofs of the law of values.
use Rattle.std.proofs.Common.{◌≡◌, ◌+◌, ◌/◌, ◌%◌, ◌<◌, ◌≤◌, ℕ, zero, suc, List, [], ◌∷◌, ◌++◌, length, refl, sym, ap, ◌∙◌, ⊎_elim, append_assoc, arith}
use Rattle.std.specs.Prelude.{if◌then◌else◌}
use Rattle.std.proofs.lemmas.Bool.{lt-ltb, le-ltb, cases_lt}
use Rattle.rart_saved.specs.Numbers.{groups, leb}
use Rattle.rart_saved.specs.Values.{bytes_of, eight_bytes, sized}

-- the first of a list of numbers, and the rest
pub first_of : ℕ → List ℕ → ℕ
first_of d [] = d
first_of d (b ∷ bs) = b

pub rest_of : List ℕ → List ℕ
rest_of [] = []
rest_of (b ∷ bs) = bs

pub same_first : {a b : ℕ} {cs bs : List ℕ} → a ∷ cs ≡ b ∷ bs → a ≡ b
unfolding first_of
same_first {a} same = ap (first_of a) same

pub same_rest : {a b : ℕ} {cs bs : List ℕ} → a ∷ cs ≡ b ∷ bs → cs ≡ bs
unfolding rest_of
same_rest same = ap rest_of same

pub groups-small : (more n : ℕ) → n < 128 → groups more n ≡ n ∷ []
unfolding groups
groups-small zero n small = refl
groups-small (suc more) n small =
    ap (λ b. if b then n ∷ [] else (n % 128 + 128) ∷ groups more (n / 128)) (lt-ltb n 128 small)

pub groups-great : (more n : ℕ) → 128 ≤ n
    → groups (suc more) n ≡ (n % 128 + 128) ∷ groups more (n / 128)
unfolding groups
groups-great more n great =
    ap (λ b. if b then n ∷ [] else (n % 128 + 128) ∷ groups more (n / 128)) (le-ltb n 128 great)

pub groups-last : (n : ℕ) → groups zero n ≡ n ∷ []
unfolding groups
groups-last n = refl

both : {g g' h h' : List ℕ} (r s : List ℕ) → g ≡ g' → h ≡ h' → g ++ r ≡ h ++ s
    → g' ++ r ≡ h' ++ s
both r s one other same =
    sym (ap (λ g. g ++ r) one) ∙ same ∙ ap (λ h. h ++ s) other

pub groups-apart : (more a b : ℕ) (r s : List ℕ) → groups more a ++ r ≡ groups more b ++ s
    → (a ≡ b) × (r ≡ s)
groups-apart zero a b r s same =
    let e = both r s (groups-last a) (groups-last b) same in
    (same_first e, same_rest e)
groups-apart (suc more) a b r s same =
    ⊎_elim
    (λ a_small. ⊎_elim
    (λ b_small.
    let e = both r s (groups-small (suc more) a a_small) (groups-small (suc more) b b_small)
    same in
    (same_first e, same_rest e))
    (λ b_great.
    let e = both r s (groups-small (suc more) a a_small) (groups-great more b b_great)
    same in
    absurd (omega (arith, a_small, same_first e)))
    (cases_lt b 128))
    (λ a_great. ⊎_elim
    (λ b_small.
    let e = both r s (groups-great more a a_great) (groups-small (suc more) b b_small)
    same in
    absurd (omega (arith, b_small, same_first e)))
    (λ b_great.
    let e = both r s (groups-great more a a_great) (groups-great more b b_great) same in
    let rest = groups-apart more (a / 128) (b / 128) r s (same_rest e) in
    (omega (arith, same_first e, rest.0), rest.1))
    (cases_lt b 128))
    (cases_lt a 128)

pub leb-apart : (a b : ℕ) (r s : List ℕ) → leb a ++ r ≡ leb b ++ s → (a ≡ b) × (r ≡ s)
unfolding leb
leb-apart a b r s same = groups-apart 9 a b r s same

-- two lists by their lengths
pub split-same : (xs ys r s : List ℕ) → length xs ≡ length ys → xs ++ r ≡ ys ++ s
    → (xs ≡ ys) × (r ≡ s)
split-same [] [] r s long same = (refl, same)
split-same [] (y ∷ ys) r s long same = absurd (omega (arith, long))
split-same (x ∷ xs) [] r s long same = absurd (omega (arith, long))
split-same (x ∷ xs) (y ∷ ys) r s long same =
    let more = split-same xs ys r s (omega (arith, long)) (same_rest same) in
    (λ i. same_first same i ∷ more.0 i, more.1)

bytes_of-apart : (more a b : ℕ) (r s : List ℕ) → bytes_of more a ++ r ≡ bytes_of more b ++ s
    → a ≡ b
unfolding bytes_of
bytes_of-apart zero a b r s same = same_first same
bytes_of-apart (suc more) a b r s same =
    let rest = bytes_of-apart more (a / 256) (b / 256) r s (same_rest same) in
    omega (arith, same_first same, rest)

pub eight_bytes-apart : (a b : ℕ) (r s : List ℕ) → eight_bytes a ++ r ≡ eight_bytes b ++ s → a ≡ b
unfolding eight_bytes
eight_bytes-apart a b r s same = bytes_of-apart 7 a b r s same

pub sized-apart : (u w r s : List ℕ) → sized u ++ r ≡ sized w ++ s → u ≡ w
unfolding sized
sized-apart u w r s same =
    let parts =
    leb-apart (length u) (length w) (u ++ r) (w ++ s)
    (sym (append_assoc (leb (length u)) u r) ∙ same ∙ append_assoc (leb (length w)) w s) in
    (split-same u w r s parts.0 parts.1).0
