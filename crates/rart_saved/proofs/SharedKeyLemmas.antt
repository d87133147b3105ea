-- Keys by what they have in common with the one before.
use Rattle.std.proofs.Common.{◌≡◌, ◌≢◌, ◌+◌, ◌-◌, ◌<◌, ◌≤◌, ◌^◌, ◌⊎◌, ℕ, zero, suc, Bool, true, false, List, [], ◌∷◌, ◌++◌, length, take, drop, get_or, Option, Some, None, refl, sym, ap, subst, ◌∙◌, ⊎_elim, inl, inr, append_assoc, arith}
use Rattle.std.specs.Prelude.{◌==◌, if◌then◌else◌}
use Rattle.std.proofs.lemmas.Bool.{eqb-true, eq-eqb, false≢true}
use Rattle.std.proofs.lemmas.List.{length-append, length-drop, length-take-le}
use Rattle.std.proofs.Math.Nat.{min-le_left, min-le_right}
use Rattle.std.proofs.Math.Seq.{drop-append_seam}
use Rattle.rart_below.specs.Bytes.{IsAdmitted, common_length}
use Rattle.rart_maps.specs.Order.{IsBefore}
use Rattle.rart_saved.specs.Forms.{key_form}
use Rattle.rart_saved.specs.Keys.{Follows, IsNext, LacksKey, narrowed}
use Rattle.rart_saved.specs.Numbers.{leb, LacksNumber}
use Rattle.rart_saved.specs.Parts.{HasPart}
use Rattle.rart_saved.proofs.BytePartLemmas.{part-join}
use Rattle.rart_saved.specs.Laws.{leb-apart, same_first, split-same}

-- ---- the longest common start

-- A key is what it has in common with the one before, and its rest.
pub key-whole : (before key : List ℕ)
    → key ≡ take (common_length before key) before ++ drop (common_length before key) key
key-whole [] key = refl
key-whole (b ∷ u) [] = refl
key-whole (b ∷ u) (c ∷ w) =
    elim (b == c) as (λ t. (b == c) ≡ t → c ∷ w
    ≡ take (if t then suc (common_length u w) else 0) (b ∷ u)
    ++ drop (if t then suc (common_length u w) else 0) (c ∷ w)) [
      | true ↦ λ same i. sym (eqb-true b c same) i ∷ key-whole u w i
      | false ↦ λ _. refl
    ] refl

pub common-within : (before key : List ℕ) → common_length before key ≤ length before
common-within [] key = omega arith
common-within (b ∷ u) [] = omega arith
common-within (b ∷ u) (c ∷ w) =
    let more = common-within u w in
    elim (b == c) as (λ t. (if t then suc (common_length u w) else 0) ≤ suc (length u)) [
      | true ↦ omega (arith, more)
      | false ↦ omega arith
    ]

pub common-within_key : (before key : List ℕ) → common_length before key ≤ length key
common-within_key [] key = omega arith
common-within_key (b ∷ u) [] = omega arith
common-within_key (b ∷ u) (c ∷ w) =
    let more = common-within_key u w in
    elim (b == c) as (λ t. (if t then suc (common_length u w) else 0) ≤ suc (length w)) [
      | true ↦ omega (arith, more)
      | false ↦ omega arith
    ]

pub common-same : (b : ℕ) (u w : List ℕ) → common_length (b ∷ u) (b ∷ w) ≡ suc (common_length u w)
common-same b u w = ap (λ t. if t then suc (common_length u w) else 0) (eq-eqb b b refl)

common-other : (b c : ℕ) (u w : List ℕ) → b < c → common_length (b ∷ u) (c ∷ w) ≡ 0
common-other b c u w less =
    elim (b == c) as (λ t. (b == c) ≡ t → (if t then suc (common_length u w) else 0) ≡ 0) [
      | true ↦ λ same. absurd (omega (arith, less, eqb-true b c same))
      | false ↦ λ _. refl
    ] refl

-- ---- which keys may follow

-- The key before ends there, or has a lesser byte.
abbrev pub Parts : List ℕ → ℕ → ℕ → Type 0
Parts before shared b = (shared ≡ length before) ⊎ (get_or before shared 0 < b)

follows-byte : (before : List ℕ) (shared b : ℕ) (bs : List ℕ) → shared ≤ length before
    → Parts before shared b → (common_length before (take shared before ++ b ∷ bs) ≡ shared)
    × IsBefore before (take shared before ++ b ∷ bs)
follows-byte [] zero b bs within parts = (refl, tt)
follows-byte [] (suc shared) b bs within parts = absurd (omega (arith, within))
follows-byte (c ∷ u) zero b bs within parts =
    ⊎_elim
    (λ ends. absurd (omega (arith, ends)))
    (λ less. (common-other c b u bs less, inl less))
    parts
follows-byte (c ∷ u) (suc shared) b bs within parts =
    let more =
    follows-byte u shared b bs (omega (arith, within))
    (⊎_elim (λ ends. inl (omega (arith, ends))) (λ less. inr less) parts) in (
      common-same c u (take shared u ++ b ∷ bs) ∙ ap suc more.0,
      inr (refl, more.1),
    )

pub follows-some : (f : Bool) (before : List ℕ) (shared b : ℕ) (rest bs : List ℕ)
    → rest ≡ b ∷ bs → shared ≤ length before → Parts before shared b
    → Follows f before shared rest
follows-some f before shared b rest bs is within parts =
    let found = follows-byte before shared b bs within parts in
    subst (Follows f before shared) (sym is)
    (record { within = within; common = found.0; next = inr found.1 })

pub follows-first : (f : Bool) (before : List ℕ) (shared : ℕ) (rest : List ℕ) → f ≡ true
    → before ≡ [] → shared ≤ length before → rest ≡ [] → Follows f before shared rest
follows-first f [] zero rest first none within is =
    subst (Follows f [] zero) (sym is)
    (record { within = within; common = refl; next = inl first })
follows-first f [] (suc shared) rest first none within is = absurd (omega (arith, within))
follows-first f (b ∷ u) shared rest first none within is =
    absurd (omega (arith, ap length none))

-- a key behind another goes on by a byte
before-byte : (before key : List ℕ) → IsBefore before key
    → (b : ℕ) × (bs : List ℕ) × (drop (common_length before key) key ≡ b ∷ bs)
    × Parts before (common_length before key) b
before-byte u [] before = absurd before
before-byte [] (c ∷ w) before = (c, w, refl, inl refl)
before-byte (b ∷ u) (c ∷ w) before =
    ⊎_elim
    (λ less. (
      c,
      w,
      ap (λ n. drop n (c ∷ w)) (common-other b c u w less),
      inr (subst (λ n. get_or (b ∷ u) n 0 < c) (sym (common-other b c u w less)) less),
    ))
    (λ both.
    let more = before-byte u w both.1 in
    let longer : common_length (b ∷ u) (c ∷ w) ≡ suc (common_length u w) =
    ap (λ d. common_length (b ∷ u) (d ∷ w)) (sym both.0) ∙ common-same b u w in (
      more.0,
      more.1,
      ap (λ n. drop n (c ∷ w)) longer ∙ more.2,
      subst (λ n. Parts (b ∷ u) n more.0) (sym longer)
          (⊎_elim (λ ends. inl (omega (arith, ends))) (λ less. inr less) more.3),
    ))
    before

-- No key may come next where the bytes are none and it is not the first,
pub lacks-rest : (before key rest : List ℕ) (f : Bool) → f ≡ false → rest ≡ []
    → IsNext f before key → rest ≡ drop (common_length before key) key → ⊥
lacks-rest before key rest f later none next is =
    ⊎_elim
    (λ first. false≢true (sym later ∙ first))
    (λ behind.
    let found = before-byte before key behind in
    omega (arith, ap length (sym none ∙ is ∙ found.2)))
    next

-- nor where the first of them is no greater.
pub lacks-greater : (before key rest bs : List ℕ) (b shared : ℕ) (f : Bool) → rest ≡ b ∷ bs
    → (f ≡ true → before ≡ []) → shared ≢ length before → b ≤ get_or before shared 0
    → shared ≤ length before
    → IsNext f before key → shared ≡ common_length before key
    → rest ≡ drop (common_length before key) key → ⊥
lacks-greater before key rest bs b shared f begins none goes_on most within next same is =
    ⊎_elim
    (λ first. goes_on (omega (arith, within, ap length (none first))))
    (λ behind.
    let found = before-byte before key behind in
    let byte = same_first (sym begins ∙ is ∙ found.2) in
    ⊎_elim
    (λ ends. goes_on (same ∙ ends))
    (λ less. omega (arith, most, byte, subst (λ n. get_or before n 0 < found.0) (sym same) less))
    found.3)
    next

-- ---- no form begins another

-- the form of a key, and what stands behind it
pub key_form-then : (before key rest : List ℕ) → key_form before key ++ rest
    ≡ leb (common_length before key) ++ (leb (length key - common_length before key)
    ++ (drop (common_length before key) key ++ rest))
unfolding key_form
key_form-then before key rest =
    append_assoc (leb (common_length before key) ++ leb (length key - common_length before key))
    (drop (common_length before key) key) rest
    ∙ append_assoc (leb (common_length before key)) (leb (length key - common_length before key))
    (drop (common_length before key) key ++ rest)

-- By its two numbers and its rest a key is fixed.
pub key-fixed : (before one other : List ℕ)
    → common_length before one ≡ common_length before other
    → drop (common_length before one) one ≡ drop (common_length before other) other → one ≡ other
key-fixed before one other same rest =
    key-whole before one ∙ (λ i. take (same i) before ++ rest i) ∙ sym (key-whole before other)

pub key_form-apart : (before one other r s : List ℕ)
    → key_form before one ++ r ≡ key_form before other ++ s → (one ≡ other) × (r ≡ s)
key_form-apart before one other r s same =
    let first =
    leb-apart (common_length before one) (common_length before other) _ _
    (sym (key_form-then before one r) ∙ same ∙ key_form-then before other s) in
    let second =
    leb-apart (length one - common_length before one) (length other - common_length before other)
    _ _ first.1 in
    let third =
    split-same (drop (common_length before one) one) (drop (common_length before other) other) r s
    (length-drop (common_length before one) one ∙ second.0
    ∙ sym (length-drop (common_length before other) other))
    second.1 in
    (key-fixed before one other first.0 third.0, third.1)

-- ---- read at a place

-- What stands at a place where a key has its form.
pub key-opened : (bytes before key rest : List ℕ) (at from behind shared count : ℕ)
    → HasPart bytes at (leb shared) from → HasPart bytes from (leb count) behind
    → drop at bytes ≡ key_form before key ++ rest
    → (shared ≡ common_length before key) × (count ≡ length (drop (common_length before key) key))
    × (drop behind bytes ≡ drop (common_length before key) key ++ rest)
key-opened bytes before key rest at from behind shared count one other stands =
    let first =
    leb-apart shared (common_length before key) _ _
    (sym one.stands ∙ stands ∙ key_form-then before key rest) in
    let second =
    leb-apart count (length key - common_length before key) _ _
    (sym other.stands ∙ first.1) in
    (first.0, second.0 ∙ sym (length-drop (common_length before key) key), second.1)

-- No key has its form where there is no first number,
pub lacks-shared : (bytes before : List ℕ) (at : ℕ) (f : Bool) → length before < 2 ^ 64
    → LacksNumber (drop at bytes) → LacksKey f before (drop at bytes)
lacks-shared bytes before at f fits lacks key rest next stands =
    lacks (common_length before key) _ (omega (arith, fits, common-within before key))
    (stands ∙ key_form-then before key rest)

-- nor where there is no second one,
pub lacks-count : (bytes before : List ℕ) (at from shared : ℕ) (f : Bool)
    → length bytes < 2 ^ 64 → HasPart bytes at (leb shared) from → LacksNumber (drop from bytes)
    → LacksKey f before (drop at bytes)
lacks-count bytes before at from shared f fits one lacks key rest next stands =
    let more =
    (leb-apart shared (common_length before key) _ _
    (sym one.stands ∙ stands ∙ key_form-then before key rest)).1 in
    lacks (length key - common_length before key) _
    (omega (
      arith,
      fits,
      ap length more,
      length-drop from bytes,
      length-append (leb (length key - common_length before key))
          (drop (common_length before key) key ++ rest),
      length-append (drop (common_length before key) key) rest,
      length-drop (common_length before key) key,
    )) more

-- nor where fewer bytes follow,
pub lacks-bytes : (bytes before : List ℕ) (at from behind shared count : ℕ) (f : Bool)
    → HasPart bytes at (leb shared) from → HasPart bytes from (leb count) behind
    → length bytes - behind < count → LacksKey f before (drop at bytes)
lacks-bytes bytes before at from behind shared count f one other few key rest next stands =
    let found = key-opened bytes before key rest at from behind shared count one other stands in
    omega (
      arith,
      few,
      found.1,
      ap length found.2,
      length-drop behind bytes,
      length-append (drop (common_length before key) key) rest,
    )

-- nor where those that do follow are not of one that may come next.
pub lacks-next : (bytes before part : List ℕ) (at from behind shared count : ℕ) (f : Bool)
    → HasPart bytes at (leb shared) from → HasPart bytes from (leb count) behind
    → HasPart bytes behind part (behind + count) → length part ≡ count
    → ((key : List ℕ) → IsNext f before key → shared ≡ common_length before key
    → part ≢ drop shared key)
    → LacksKey f before (drop at bytes)
lacks-next bytes before part at from behind shared count f one other last long lacks key rest
    next stands =
    let found = key-opened bytes before key rest at from behind shared count one other stands in
    lacks key next found.0
    ((split-same part (drop (common_length before key) key) _ rest (long ∙ found.1)
    (sym last.stands ∙ found.2)).0
    ∙ ap (λ n. drop n key) (sym found.0))

-- What was read is the form of the key that was made.
pub key-read : (bytes before new part : List ℕ) (at from behind shared count : ℕ) (f : Bool)
    → HasPart bytes at (leb shared) from → HasPart bytes from (leb count) behind
    → HasPart bytes behind part (behind + count) → length part ≡ count
    → Follows f before shared part → new ≡ take shared before ++ part
    → HasPart bytes at (key_form before new) (behind + count)
unfolding key_form
key-read bytes before new part at from behind shared count f one other last long follows is =
    let common = ap (common_length before) is ∙ follows.common in
    let taken : length (take shared before) ≡ shared =
    length-take-le shared before follows.within in
    let rest : drop (common_length before new) new ≡ part =
    (λ i. drop ((common ∙ sym taken) i) (is i)) ∙ drop-append_seam (take shared before) part in
    let more : length new - common_length before new ≡ count =
    omega (arith, common, ap length is, length-append (take shared before) part, taken, long) in
    let form : leb shared ++ leb count ++ part ≡ leb (common_length before new)
    ++ leb (length new - common_length before new) ++ drop (common_length before new) new =
    λ i. leb (sym common i) ++ leb (sym more i) ++ sym rest i in
    subst (λ g. HasPart bytes at g (behind + count)) form
    (part-join bytes at behind (behind + count) (leb shared ++ leb count) part
    (part-join bytes at from behind (leb shared) (leb count) one other) last)

-- The parts of a key's form, written one by one.
pub key-written : (before key one two three four : List ℕ) (shared : ℕ)
    → shared ≡ common_length before key → two ≡ one ++ leb shared
    → three ≡ two ++ leb (length key - shared) → four ≡ three ++ drop shared key
    → four ≡ one ++ key_form before key
unfolding key_form
key-written before key one two three four shared is first second third =
    third ∙ ap (λ g. g ++ drop shared key) (second ∙ ap (λ g. g ++ leb (length key - shared)) first)
    ∙ ap (λ g. g ++ drop shared key)
    (append_assoc one (leb shared) (leb (length key - shared)))
    ∙ append_assoc one (leb shared ++ leb (length key - shared)) (drop shared key)
    ∙ ap (λ n. one ++ (leb n ++ leb (length key - n) ++ drop n key)) is

-- What is within the lesser of two limits is within both.
pub narrowed-both : (longest most : Option ℕ) (n : ℕ) → IsAdmitted (narrowed longest most) n
    → IsAdmitted longest n × IsAdmitted most n
narrowed-both None None n is = (tt, tt)
narrowed-both None (Some most) n is = (tt, is)
narrowed-both (Some longest) None n is = (is, tt)
narrowed-both (Some longest) (Some most) n is = (
  omega (arith, is, min-le_left longest most),
  omega (arith, is, min-le_right longest most),
)

-- What is within both is within the lesser.
pub both-narrowed : (longest most : Option ℕ) (n : ℕ) → IsAdmitted longest n → IsAdmitted most n
    → IsAdmitted (narrowed longest most) n
both-narrowed None None n one other = tt
both-narrowed None (Some most) n one other = other
both-narrowed (Some longest) None n one other = one
both-narrowed (Some longest) (Some most) n one other = omega (arith, one, other)
