-- What the bytes of a log say of its lines.
use Rattle.std.proofs.Common.{inl, inr, ◌≡◌, ◌≢◌, ℕ, zero, suc, ◌+◌, ◌*◌, ◌/◌, ◌%◌, ◌≤◌, ◌<◌, List, [], ◌∷◌, ◌++◌, take, length, slice_index, refl, sym, ◌∙◌, ap, arith, ◌==◌, not, true, append_assoc, length-append, subst}
use Rattle.std.proofs.lemmas.List.{append-nil, length-take}
use Rattle.std.proofs.lemmas.Bool.{and_parts}
use Rattle.std.specs.List.{list_all}
use Rattle.std.specs.Prelude.{◌⊎◌, IfNone, None, Some, Option}
use Rattle.hex.specs.Hex.{encode_with, lower_digits}
use Rattle.hex.proofs.HexLemmas.{length-encode_with}
use Rattle.sha2.specs.Sha256.{sha256}
use Rattle.sha2.proofs.Facts256.{length-sha256}
use Rattle.vtree_lines.specs.Laws.{HasNoFeed}
use Rattle.example_store.specs.Log.{next_sum, entry, entry_text, entries, sum_behind, IsTorn}

pub sum_length : (sum line : List ℕ) → length (next_sum sum line) ≡ 16
sum_length sum line =
    let digest = sha256 (sum ++ line) in
    let eight : length (take 8 digest) ≡ 8 = omega (arith, length-take 8 digest, length-sha256 (sum ++ line)) in
    length-encode_with lower_digits (take 8 digest) ∙ ap (λ n. 2 * n) eight

digit_no_feed : (digits : List ℕ) (n : ℕ) → HasNoFeed digits → slice_index digits n ≢ 10
digit_no_feed [] n h = λ e. absurd (omega (arith, e))
digit_no_feed (d ∷ digits) zero h = h.0
digit_no_feed (d ∷ digits) (suc n) h = digit_no_feed digits n h.1

hex_no_feed : (digits bytes : List ℕ) → HasNoFeed digits → HasNoFeed (encode_with digits bytes)
unfolding encode_with
hex_no_feed digits [] h = tt
hex_no_feed digits (b ∷ bytes) h = (
  digit_no_feed digits (b / 16) h,
  (digit_no_feed digits (b % 16) h, hex_no_feed digits bytes h),
)

no_feed_found : (text : List ℕ) → list_all (λ byte. not (byte == 10)) text ≡ true → HasNoFeed text
no_feed_found [] h = tt
no_feed_found (byte ∷ text) h =
    let both = and_parts (not (byte == 10)) (list_all (λ b. not (b == 10)) text) h in (
      λ e. absurd (subst (λ (n : ℕ). not (n == 10) ≡ true → ⊥) (sym e) (λ h. cc) both.0),
      no_feed_found text both.1,
    )

no_feed_in_digits : HasNoFeed lower_digits
no_feed_in_digits = no_feed_found lower_digits refl

pub sum_no_feed : (sum line : List ℕ) → HasNoFeed (next_sum sum line)
sum_no_feed sum line = hex_no_feed lower_digits (take 8 (sha256 (sum ++ line))) no_feed_in_digits

-- texts of one length before others
pub parts : (a b x y : List ℕ) → length a ≡ length b → a ++ x ≡ b ++ y → (a ≡ b) × (x ≡ y)
parts [] [] x y l e = (refl, e)
parts [] (q ∷ b) x y l e = absurd (omega (arith, l))
parts (p ∷ a) [] x y l e = absurd (omega (arith, l))
parts (p ∷ a) (q ∷ b) x y l e =
    let first : p ≡ q = cc in
    let rest : a ++ x ≡ b ++ y = cc in
    let more = parts a b x y (omega (arith, l)) rest in
    (rw (first, more.0) refl, more.1)

-- lines before their feeds
pub lines_one : (a b x y : List ℕ) → HasNoFeed a → HasNoFeed b → a ++ 10 ∷ x ≡ b ++ 10 ∷ y → (a ≡ b) × (x ≡ y)
lines_one [] [] x y h k e = (refl, cc)
lines_one [] (q ∷ b) x y h k e = absurd (k.0 (cc))
lines_one (p ∷ a) [] x y h k e = absurd (h.0 (cc))
lines_one (p ∷ a) (q ∷ b) x y h k e =
    let first : p ≡ q = cc in
    let rest : a ++ 10 ∷ x ≡ b ++ 10 ∷ y = cc in
    let more = lines_one a b x y h.1 k.1 rest in
    (rw (first, more.0) refl, more.1)

-- an entry before other bytes
pub entry_before : (sum line rest : List ℕ) → entry sum line ++ rest ≡ next_sum sum line ++ 32 ∷ (line ++ 10 ∷ rest)
entry_before sum line rest =
    append_assoc (next_sum sum line) (32 ∷ (line ++ 10 ∷ [])) rest
    ∙ ap (λ s. next_sum sum line ++ 32 ∷ s) (append_assoc line (10 ∷ []) rest)

behind_space : (a x y : List ℕ) → a ≡ a → 32 ∷ x ≡ 32 ∷ y → x ≡ y
behind_space a x y k e = cc

pub entries_are_one : (sum line other rest more : List ℕ) → HasNoFeed line → HasNoFeed other →
    entry sum line ++ rest ≡ entry sum other ++ more → (line ≡ other) × (rest ≡ more)
entries_are_one sum line other rest more h k e =
    let whole = sym (entry_before sum line rest) ∙ e ∙ entry_before sum other more in
    let split = parts (next_sum sum line) (next_sum sum other) (32 ∷ (line ++ 10 ∷ rest)) (32 ∷ (other ++ 10 ∷ more)) (sum_length sum line ∙ sym (sum_length sum other)) whole in
    lines_one line other rest more h k (behind_space [] (line ++ 10 ∷ rest) (other ++ 10 ∷ more) refl split.1)

-- one more entry
pub entries_more : (sum : List ℕ) (lines : List (List ℕ)) (line : List ℕ) →
    entries sum (lines ++ line ∷ []) ≡ entries sum lines ++ entry (sum_behind sum lines) line
entries_more sum [] line = append-nil (entry sum line)
entries_more sum (l ∷ lines) line =
    ap (λ s. entry sum l ++ s) (entries_more (next_sum sum l) lines line)
    ∙ sym (append_assoc (entry sum l) (entries (next_sum sum l) lines)
    (entry (sum_behind (next_sum sum l) lines) line))

pub sum_more : (sum : List ℕ) (lines : List (List ℕ)) (line : List ℕ) →
    sum_behind sum (lines ++ line ∷ []) ≡ next_sum (sum_behind sum lines) line
sum_more sum [] line = refl
sum_more sum (l ∷ lines) line = sum_more (next_sum sum l) lines line

-- a front of bytes takes in those before others, or is shorter
pub record Beyond (a b x y : List ℕ) : Type 0 where
  pub more : List ℕ
  pub front : x ≡ a ++ more
  pub rest : b ≡ more ++ y

pub record Within (a b x y : List ℕ) : Type 0 where
  pub first : ℕ
  pub more : List ℕ
  pub front : a ≡ x ++ first ∷ more

pub where_cut : (a b x y : List ℕ) → a ++ b ≡ x ++ y → Beyond a b x y ⊎ Within a b x y
where_cut [] b x y e = inl (record { more = x; front = refl; rest = e })
where_cut (p ∷ a) b [] y e = inr (record { first = p; more = a; front = refl })
where_cut (p ∷ a) b (q ∷ x) y e =
    let first : p ≡ q = cc in
    let rest : a ++ b ≡ x ++ y = cc in
    elim (where_cut a b x y rest) [
      | inl h ↦ inl (record { more = h.more; front = rw (first, h.front) refl; rest = h.rest })
      | inr h ↦ inr (record { first = h.first; more = h.more; front = rw (first, h.front) refl })
    ]

-- what stands before the one feed has none
cut_no_feed : (text x : List ℕ) (b : ℕ) (more : List ℕ) → HasNoFeed text →
    text ++ 10 ∷ [] ≡ x ++ b ∷ more → HasNoFeed x
cut_no_feed text [] b more h e = tt
cut_no_feed [] (q ∷ []) b more h e = absurd (cc)
cut_no_feed [] (q ∷ r ∷ x) b more h e = absurd (cc)
cut_no_feed (p ∷ text) (q ∷ x) b more h e =
    let first : p ≡ q = cc in
    let rest : text ++ 10 ∷ [] ≡ x ++ b ∷ more = cc in
    (subst (λ (n : ℕ). n ≢ 10) first h.0, cut_no_feed text x b more h.1 rest)

no_feed_both : (a b : List ℕ) → HasNoFeed a → HasNoFeed b → HasNoFeed (a ++ b)
no_feed_both [] b h k = k
no_feed_both (p ∷ a) b h k = (h.0, no_feed_both a b h.1 k)

-- the bytes before an entry's feed
pub text_no_feed : (sum line : List ℕ) → HasNoFeed line → HasNoFeed (entry_text (next_sum sum line) line)
text_no_feed sum line h = no_feed_both (next_sum sum line) (32 ∷ line) (sum_no_feed sum line) ((λ e. absurd (omega (arith, e))), h)

pub entry_ends : (sum line : List ℕ) → entry sum line ≡ entry_text (next_sum sum line) line ++ 10 ∷ []
entry_ends sum line = sym (append_assoc (next_sum sum line) (32 ∷ line) (10 ∷ []))

pub entry_length : (sum line : List ℕ) → length (entry sum line) ≡ 18 + length line
entry_length sum line = omega (
  arith,
  sum_length sum line,
  length-append (next_sum sum line) (32 ∷ (line ++ 10 ∷ [])),
  length-append line (10 ∷ []),
)

-- a front of an entry is a torn tail
pub entry_torn : (sum line x : List ℕ) (b : ℕ) (more : List ℕ) → HasNoFeed line → length line ≤ 200 →
    entry sum line ≡ x ++ b ∷ more → IsTorn x
entry_torn sum line x b more h l e = (
  cut_no_feed (entry_text (next_sum sum line) line) x b more (text_no_feed sum line h) (sym (entry_ends sum line) ∙ e),
  omega (arith, l, entry_length sum line, ap length e, length-append x (b ∷ more)),
)

-- no feed stands in bytes that have none
pub no_feed_in : (a rest tail : List ℕ) → HasNoFeed tail → a ++ 10 ∷ rest ≡ tail → ⊥
no_feed_in [] rest [] h e = absurd (cc)
no_feed_in [] rest (q ∷ tail) h e = h.0 (cc)
no_feed_in (p ∷ a) rest [] h e = absurd (cc)
no_feed_in (p ∷ a) rest (q ∷ tail) h e =
    let more : a ++ 10 ∷ rest ≡ tail = cc in
    no_feed_in a rest tail h.1 more

-- bytes without a feed are no entry and more
pub torn_no_entry : (sum line rest tail : List ℕ) → HasNoFeed tail → entry sum line ++ rest ≡ tail → ⊥
torn_no_entry sum line rest tail h e =
    no_feed_in (entry_text (next_sum sum line) line) rest tail h
    (sym (append_assoc (entry_text (next_sum sum line) line) (10 ∷ []) rest) ∙ ap (λ s. s ++ rest) (sym (entry_ends sum line)) ∙ e)

-- what stands before and behind the place where a text was cut
pub text_cut : (sum text stated rest line : List ℕ) → text ≡ stated ++ rest → length stated ≡ 16 →
    text ≡ entry_text (next_sum sum line) line → (stated ≡ next_sum sum line) × (rest ≡ 32 ∷ line)
text_cut sum text stated rest line cut l e =
    parts stated (next_sum sum line) rest (32 ∷ line) (l ∙ sym (sum_length sum line)) (sym cut ∙ e)

pub text_long : (sum text line : List ℕ) → text ≡ entry_text (next_sum sum line) line → 17 ≤ length text
text_long sum text line e = omega (arith, ap length e, length-append (next_sum sum line) (32 ∷ line), sum_length sum line)

pub text_behind : (sum text stated rest line : List ℕ) → text ≡ stated ++ rest → length stated ≡ 16 →
    text ≡ entry_text (next_sum sum line) line → 0 < length rest
text_behind sum text stated rest line cut l e = let h = (text_cut sum text stated rest line cut l e).1 in omega (arith, ap length h)

pub when_none : {X P : Type 0} (answer : Option X) → P → IfNone answer P
when_none None p = p
when_none (Some x) p = tt
