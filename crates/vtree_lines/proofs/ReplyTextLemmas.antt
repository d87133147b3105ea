-- Each reply's text is a line, and tells the reply.
use Rattle.std.proofs.Common.{◌≡◌, ◌≢◌, ℕ, ◌<◌, List, [], ◌∷◌, ◌++◌, refl, sym, ◌∙◌, ap, subst, append_assoc, arith, rules, Bool, true, false, eqb, cond}
use Rattle.std.proofs.lemmas.List.{append-nil, append_cancel_right}
use Rattle.std.proofs.lemmas.List.Elements.{All-head, All-tail}
use Rattle.std.proofs.lemmas.Fmt.{decimal_is_IsNumeral, digits_value-decimal}
use Rattle.std.proofs.lemmas.Str.Parse.{IsNumeralModel, numerals_by_fold}
use Rattle.std.specs.Prelude.{codes, decimal, Some, None}
use Rattle.std.specs.List.{AllPass, flat_map}
use Rattle.std.specs.Char.{is_ascii_graphic, digit_value}
use Rattle.std.specs.Str.{all_ascii_digits}
use Rattle.std.specs.Str.Parse.{AllDigits}
use Rattle.rart_family.specs.Replies.{Reply, Place, Discarded, Number, Flag, Value, Entries, Values, Stopped, Pairs, ValuePairs, Count, Failed, NoVersion, NoRoom, NoMemory}
use Rattle.vtree_lines.specs.Lines.{words, value_from}
use Rattle.vtree_lines.specs.ReplyTexts.{number_text, key_text, entry_text, pair_text, value_pair_text, line, reply_line, bad_line}
use Rattle.vtree_lines.specs.OwnLines.{Fits}
use Rattle.vtree_lines.specs.OwnLines.{Each}
use Rattle.vtree_lines.specs.Laws.{HasNoFeed, Stands, TextsAreLines, BadTextIsNoReply, told, TextsTell, TellingFixesText}
use Rattle.vtree_lines.proofs.OwnLineLemmas.{NoSpace, split_word, split_last, digits_no_space, graphic_no_space, no_space}

ap2 : {A B X : Type 0} (f : A → B → X) {a a' : A} {b b' : B} → a ≡ a' → b ≡ b' → f a b ≡ f a' b'
ap2 f {a} {a'} {b} {b'} e g = ap (λ t. f t b) e ∙ ap (f a') g

ap3 : {A B C X : Type 0} (f : A → B → C → X) {a a' : A} {b b' : B} {c c' : C} → a ≡ a' →
    b ≡ b' → c ≡ c' → f a b c ≡ f a' b' c'
ap3 f {a} {a'} {b} {b'} {c} {c'} e g h = ap (λ t. f t b c) e ∙ ap (λ t. f a' t c) g ∙ ap (f a' b') h

abbrev behind_first : List ℕ → List ℕ
behind_first [] = []
behind_first (x ∷ xs) = xs

abbrev first_of_text : List ℕ → ℕ
first_of_text [] = 0
first_of_text (x ∷ xs) = x

-- ---- one line feed, at the end

pub feedless_both : (xs ys : List ℕ) → HasNoFeed xs → HasNoFeed ys → HasNoFeed (xs ++ ys)
feedless_both [] ys h k = k
feedless_both (x ∷ xs) ys h k = (h.0, feedless_both xs ys h.1 k)

pub feedless_digits : (word : List ℕ) → AllDigits 10 word → HasNoFeed word
feedless_digits [] h = tt
feedless_digits (byte ∷ word) h = (
  (λ e. let d : digit_value 10 < 10 = subst (λ (b : ℕ). digit_value b < 10) e h.0 in
      omega (arith, d)),
  feedless_digits word h.1,
)

pub feedless_key : (key : List ℕ) → AllPass is_ascii_graphic key → HasNoFeed key
feedless_key [] h = tt
feedless_key (byte ∷ key) h = (
  (λ e. let g : false ≡ true = subst (λ (b : ℕ). is_ascii_graphic b ≡ true) e
      (All-head (λ b. is_ascii_graphic b ≡ true) byte key h) in absurd (cc)),
  feedless_key key (All-tail (λ b. is_ascii_graphic b ≡ true) byte key h),
)

pub not_feed : (byte : ℕ) → eqb byte 10 ≡ false → byte ≢ 10
not_feed byte h e = let clash : false ≡ true = sym h ∙ ap (λ b. eqb b 10) e in absurd (cc)

abbrev pub has_no_feed : List ℕ → Bool
has_no_feed [] = true
has_no_feed (byte ∷ text) = cond (eqb byte 10) false (has_no_feed text)

pub cond_no : (b c : Bool) → cond b false c ≡ true → (b ≡ false) × (c ≡ true)
cond_no true c e = absurd (cc)
cond_no false c e = (refl, e)

pub feedless : (text : List ℕ) → has_no_feed text ≡ true → HasNoFeed text
feedless [] e = tt
feedless (byte ∷ text) e = let (one, more) = cond_no (eqb byte 10) (has_no_feed text) e in
    (not_feed byte one, feedless text more)

pub feedless_number : (n : ℕ) → Fits n → HasNoFeed (number_text n)
feedless_number n h = (not_feed 32 refl, feedless_digits (decimal n) (decimal_is_IsNumeral n h).0.1)

pub feedless_key_text : (key : List ℕ) → AllPass is_ascii_graphic key → HasNoFeed (key_text key)
feedless_key_text key h = (not_feed 32 refl, (not_feed 39 refl, feedless_key key h))

pub feedless_all : {X : Type 0} (f : X → List ℕ) (Is : X → Type 0) →
    ((x : X) → Is x → HasNoFeed (f x)) → (xs : List X) → Each Is xs → HasNoFeed (flat_map f xs)
feedless_all f Is each [] h = tt
feedless_all f Is each (x ∷ xs) h =
    feedless_both (f x) (flat_map f xs) (each x h.0) (feedless_all f Is each xs h.1)

pub line_is : (word behind : List ℕ) → has_no_feed word ≡ true → HasNoFeed behind →
    (text : List ℕ) × (line word behind ≡ text ++ codes "\n") × HasNoFeed text
line_is word behind e h = (
  word ++ behind,
  sym (append_assoc word behind (codes "\n")),
  feedless_both word behind (feedless word e) h,
)

pub texts_are_lines : TextsAreLines
texts_are_lines (Place n) h = line_is (codes "at") (number_text n) refl (feedless_number n h)
texts_are_lines Discarded h = line_is (codes "discarded") [] refl tt
texts_are_lines (Number n) h = line_is (codes "version") (number_text n) refl (feedless_number n h)
texts_are_lines (Flag true) h = line_is (codes "true") [] refl tt
texts_are_lines (Flag false) h = line_is (codes "false") [] refl tt
texts_are_lines (Value (Some n)) h =
    line_is (codes "some") (number_text n) refl (feedless_number n h)
texts_are_lines (Value None) h = line_is (codes "none") [] refl tt
texts_are_lines (Entries es) h = line_is (codes "entries") (flat_map entry_text es) refl
    (feedless_all entry_text (λ e. AllPass is_ascii_graphic e.0 × Fits e.1)
    (λ e k. feedless_both (key_text e.0) (number_text e.1) (feedless_key_text e.0 k.0)
    (feedless_number e.1 k.1)) es h)
texts_are_lines (Values vs) h =
    line_is (codes "values") (flat_map number_text vs) refl
    (feedless_all number_text Fits feedless_number vs h)
texts_are_lines (Stopped vs false) h =
    line_is (codes "values") (flat_map number_text vs) refl
    (feedless_all number_text Fits feedless_number vs h)
texts_are_lines (Stopped vs true) h =
    line_is (codes "failed") (flat_map number_text vs) refl
    (feedless_all number_text Fits feedless_number vs h)
texts_are_lines (Pairs es) h = line_is (codes "pairs") (flat_map pair_text es) refl
    (feedless_all pair_text (λ e. AllPass is_ascii_graphic e.0 × Fits e.1 × Fits e.2)
    (λ e k. feedless_both (key_text e.0) (number_text e.1 ++ number_text e.2)
    (feedless_key_text e.0 k.0)
    (feedless_both (number_text e.1) (number_text e.2) (feedless_number e.1 k.1)
    (feedless_number e.2 k.2))) es h)
texts_are_lines (ValuePairs ps) h = line_is (codes "value-pairs") (flat_map value_pair_text ps) refl
    (feedless_all value_pair_text (λ p. Fits p.0 × Fits p.1)
    (λ p k. feedless_both (number_text p.0) (number_text p.1) (feedless_number p.0 k.0)
    (feedless_number p.1 k.1)) ps h)
texts_are_lines (Count n) h = line_is (codes "count") (number_text n) refl (feedless_number n h)
texts_are_lines Failed h = line_is (codes "failed") [] refl tt
texts_are_lines NoVersion h = line_is (codes "no version") [] refl tt
texts_are_lines NoRoom h = line_is (codes "no room") [] refl tt
texts_are_lines NoMemory h = line_is (codes "no memory") [] refl tt

-- ---- no reply is written as a bad line

unlike_bad : (reply : Reply ℕ) → first_of_text (reply_line reply) ≢ 98 → reply_line reply ≢ bad_line
unlike_bad reply first e = first (ap first_of_text e)

pub bad_text_is_no_reply : BadTextIsNoReply
bad_text_is_no_reply (Place n) = unlike_bad (Place n) (λ e. omega (arith, e))
bad_text_is_no_reply Discarded = unlike_bad Discarded (λ e. omega (arith, e))
bad_text_is_no_reply (Number n) = unlike_bad (Number n) (λ e. omega (arith, e))
bad_text_is_no_reply (Flag true) = unlike_bad (Flag true) (λ e. omega (arith, e))
bad_text_is_no_reply (Flag false) = unlike_bad (Flag false) (λ e. omega (arith, e))
bad_text_is_no_reply (Value (Some n)) = unlike_bad (Value (Some n)) (λ e. omega (arith, e))
bad_text_is_no_reply (Value None) = unlike_bad (Value None) (λ e. omega (arith, e))
bad_text_is_no_reply (Entries es) = unlike_bad (Entries es) (λ e. omega (arith, e))
bad_text_is_no_reply (Values vs) = unlike_bad (Values vs) (λ e. omega (arith, e))
bad_text_is_no_reply (Stopped vs false) = unlike_bad (Stopped vs false) (λ e. omega (arith, e))
bad_text_is_no_reply (Stopped vs true) = unlike_bad (Stopped vs true) (λ e. omega (arith, e))
bad_text_is_no_reply (Pairs es) = unlike_bad (Pairs es) (λ e. omega (arith, e))
bad_text_is_no_reply (ValuePairs ps) = unlike_bad (ValuePairs ps) (λ e. omega (arith, e))
bad_text_is_no_reply (Count n) = unlike_bad (Count n) (λ e. omega (arith, e))
bad_text_is_no_reply Failed = unlike_bad Failed (λ e. omega (arith, e))
bad_text_is_no_reply NoVersion = unlike_bad NoVersion (λ e. omega (arith, e))
bad_text_is_no_reply NoRoom = unlike_bad NoRoom (λ e. omega (arith, e))
bad_text_is_no_reply NoMemory = unlike_bad NoMemory (λ e. omega (arith, e))

-- ---- what a text tells

-- what is told is replied alike
pub told_line : (reply : Reply ℕ) → reply_line (told reply) ≡ reply_line reply
told_line (Stopped vs false) = refl
told_line (Stopped vs true) = refl
told_line reply = refl

pub telling_fixes_text : TellingFixesText
telling_fixes_text one other e = sym (told_line one) ∙ ap reply_line e ∙ told_line other

-- a space and a word
abbrev pub spaced : List ℕ → List ℕ
spaced word = 32 ∷ word

abbrev pub entry_words : List ℕ × ℕ → List (List ℕ)
entry_words (key, value) = (39 ∷ key) ∷ decimal value ∷ []

abbrev pub pair_words : List ℕ × ℕ × ℕ → List (List ℕ)
pair_words (key, left, right) = (39 ∷ key) ∷ decimal left ∷ decimal right ∷ []

abbrev pub value_pair_words : ℕ × ℕ → List (List ℕ)
value_pair_words (left, right) = decimal left ∷ decimal right ∷ []

abbrev pub value_words : ℕ → List (List ℕ)
value_words value = decimal value ∷ []

abbrev pub many : {X : Type 0} → (X → List (List ℕ)) → List X → List (List ℕ)
many f [] = []
many f (x ∷ xs) = f x ++ many f xs

-- the first word of a reply's text, and those behind it
abbrev pub word_of : Reply ℕ → List ℕ
word_of (Place n) = codes "at"
word_of Discarded = codes "discarded"
word_of (Number n) = codes "version"
word_of (Flag true) = codes "true"
word_of (Flag false) = codes "false"
word_of (Value (Some n)) = codes "some"
word_of (Value None) = codes "none"
word_of (Entries es) = codes "entries"
word_of (Values vs) = codes "values"
word_of (Stopped vs false) = codes "values"
word_of (Stopped vs true) = codes "failed"
word_of (Pairs es) = codes "pairs"
word_of (ValuePairs ps) = codes "value-pairs"
word_of (Count n) = codes "count"
word_of Failed = codes "failed"
word_of reply = codes "no"

abbrev pub args_of : Reply ℕ → List (List ℕ)
args_of (Place n) = value_words n
args_of (Number n) = value_words n
args_of (Value (Some n)) = value_words n
args_of (Value None) = []
args_of (Entries es) = many entry_words es
args_of (Values vs) = many value_words vs
args_of (Stopped vs failed) = many value_words vs
args_of (Pairs es) = many pair_words es
args_of (ValuePairs ps) = many value_pair_words ps
args_of (Count n) = value_words n
args_of NoVersion = codes "version" ∷ []
args_of NoRoom = codes "room" ∷ []
args_of NoMemory = codes "memory" ∷ []
args_of reply = []

pub spaced_many : {X : Type 0} (f : X → List (List ℕ)) (g : X → List ℕ) →
    ((x : X) (more : List (List ℕ)) → g x ++ flat_map spaced more ≡ flat_map spaced (f x ++ more)) →
    (xs : List X) → flat_map g xs ≡ flat_map spaced (many f xs)
spaced_many f g same [] = refl
spaced_many f g same (x ∷ xs) = ap (λ s. g x ++ s) (spaced_many f g same xs) ∙ same x (many f xs)

pub spaced_one : (n : ℕ) (more : List (List ℕ)) →
    number_text n ++ flat_map spaced more ≡ flat_map spaced (value_words n ++ more)
spaced_one n more = refl

pub spaced_entry : (e : List ℕ × ℕ) (more : List (List ℕ)) →
    entry_text e ++ flat_map spaced more ≡ flat_map spaced (entry_words e ++ more)
spaced_entry e more = append_assoc (key_text e.0) (number_text e.1) (flat_map spaced more)

pub spaced_value_pair : (p : ℕ × ℕ) (more : List (List ℕ)) →
    value_pair_text p ++ flat_map spaced more ≡ flat_map spaced (value_pair_words p ++ more)
spaced_value_pair p more = append_assoc (number_text p.0) (number_text p.1) (flat_map spaced more)

pub spaced_pair : (e : List ℕ × ℕ × ℕ) (more : List (List ℕ)) →
    pair_text e ++ flat_map spaced more ≡ flat_map spaced (pair_words e ++ more)
spaced_pair e more =
    append_assoc (key_text e.0) (number_text e.1 ++ number_text e.2) (flat_map spaced more)
    ∙ ap (λ s. key_text e.0 ++ s)
    (append_assoc (number_text e.1) (number_text e.2) (flat_map spaced more))

pub spaced_value : (n : ℕ) → number_text n ≡ flat_map spaced (value_words n)
spaced_value n = sym (append-nil (number_text n))

-- a reply's text by its words
abbrev pub by_words : List ℕ → List (List ℕ) → List ℕ
by_words word args = word ++ flat_map spaced args

pub reply_by_words : (reply : Reply ℕ) →
    reply_line reply ≡ line (word_of reply) (flat_map spaced (args_of reply))
reply_by_words (Place n) = ap (line (codes "at")) (spaced_value n)
reply_by_words Discarded = refl
reply_by_words (Number n) = ap (line (codes "version")) (spaced_value n)
reply_by_words (Flag true) = refl
reply_by_words (Flag false) = refl
reply_by_words (Value (Some n)) = ap (line (codes "some")) (spaced_value n)
reply_by_words (Value None) = refl
reply_by_words (Entries es) = ap (line (codes "entries"))
    (spaced_many entry_words entry_text spaced_entry es)
reply_by_words (Values vs) = ap (line (codes "values"))
    (spaced_many value_words number_text spaced_one vs)
reply_by_words (Stopped vs false) =
    ap (line (codes "values")) (spaced_many value_words number_text spaced_one vs)
reply_by_words (Stopped vs true) =
    ap (line (codes "failed")) (spaced_many value_words number_text spaced_one vs)
reply_by_words (Pairs es) = ap (line (codes "pairs"))
    (spaced_many pair_words pair_text spaced_pair es)
reply_by_words (ValuePairs ps) =
    ap (line (codes "value-pairs"))
    (spaced_many value_pair_words value_pair_text spaced_value_pair ps)
reply_by_words (Count n) = ap (line (codes "count")) (spaced_value n)
reply_by_words Failed = refl
reply_by_words NoVersion = refl
reply_by_words NoRoom = refl
reply_by_words NoMemory = refl

pub text_by_words : (reply : Reply ℕ) →
    reply_line reply ≡ by_words (word_of reply) (args_of reply) ++ codes "\n"
text_by_words reply = reply_by_words reply
    ∙ sym (append_assoc (word_of reply) (flat_map spaced (args_of reply)) (codes "\n"))

pub words_spaced : (word : List ℕ) (args : List (List ℕ)) → NoSpace word → Each NoSpace args →
    words (by_words word args) ≡ word ∷ args
words_spaced word [] h k = ap words (append-nil word) ∙ split_last word h
words_spaced word (next ∷ args) h k = split_word word (by_words next args) h
    ∙ ap (λ s. word ∷ s) (words_spaced next args k.0 k.1)

pub each_both : {X : Type 0} (Is : X → Type 0) (xs ys : List X) → Each Is xs → Each Is ys →
    Each Is (xs ++ ys)
each_both Is [] ys h k = k
each_both Is (x ∷ xs) ys h k = (h.0, each_both Is xs ys h.1 k)

pub each_many : {X : Type 0} (f : X → List (List ℕ)) (Is : X → Type 0) →
    ((x : X) → Is x → Each NoSpace (f x)) → (xs : List X) → Each Is xs → Each NoSpace (many f xs)
each_many f Is each [] h = tt
each_many f Is each (x ∷ xs) h =
    each_both NoSpace (f x) (many f xs) (each x h.0) (each_many f Is each xs h.1)

pub spaceless_number : (n : ℕ) → Fits n → NoSpace (decimal n)
spaceless_number n h = digits_no_space (decimal n) (decimal_is_IsNumeral n h).0.1

pub spaceless_value : (n : ℕ) → Fits n → Each NoSpace (value_words n)
spaceless_value n h = (spaceless_number n h, tt)

pub spaceless_args : (reply : Reply ℕ) → Stands reply → Each NoSpace (args_of reply)
spaceless_args (Place n) h = spaceless_value n h
spaceless_args (Number n) h = spaceless_value n h
spaceless_args (Value (Some n)) h = spaceless_value n h
spaceless_args (Value None) h = tt
spaceless_args (Entries es) h =
    each_many entry_words (λ e. AllPass is_ascii_graphic e.0 × Fits e.1)
    (λ e k. ((refl, graphic_no_space e.0 k.0), (spaceless_number e.1 k.1, tt))) es h
spaceless_args (Values vs) h = each_many value_words Fits spaceless_value vs h
spaceless_args (Stopped vs failed) h = each_many value_words Fits spaceless_value vs h
spaceless_args (Pairs es) h = each_many pair_words
    (λ e. AllPass is_ascii_graphic e.0 × Fits e.1 × Fits e.2)
    (λ e k. (
      (refl, graphic_no_space e.0 k.0),
      (spaceless_number e.1 k.1, (spaceless_number e.2 k.2, tt)),
    )) es h
spaceless_args (ValuePairs ps) h =
    each_many value_pair_words (λ p. Fits p.0 × Fits p.1)
    (λ p k. (spaceless_number p.0 k.0, (spaceless_number p.1 k.1, tt))) ps h
spaceless_args (Count n) h = spaceless_value n h
spaceless_args NoVersion h = (no_space (codes "version") refl, tt)
spaceless_args NoRoom h = (no_space (codes "room") refl, tt)
spaceless_args NoMemory h = (no_space (codes "memory") refl, tt)
spaceless_args Discarded h = tt
spaceless_args (Flag b) h = tt
spaceless_args Failed h = tt

pub spaceless_word : (reply : Reply ℕ) → NoSpace (word_of reply)
spaceless_word (Flag true) = no_space (codes "true") refl
spaceless_word (Flag false) = no_space (codes "false") refl
spaceless_word (Value (Some n)) = no_space (codes "some") refl
spaceless_word (Value None) = no_space (codes "none") refl
spaceless_word (Stopped vs false) = no_space (codes "values") refl
spaceless_word (Stopped vs true) = no_space (codes "failed") refl
spaceless_word reply = no_space (word_of reply) refl

-- two replies of one text have the same words
pub same_words : (one other : Reply ℕ) → Stands one → Stands other →
    reply_line one ≡ reply_line other → word_of one ∷ args_of one ≡ word_of other ∷ args_of other
same_words one other h k e =
    let left = by_words (word_of one) (args_of one) in
    let right = by_words (word_of other) (args_of other) in
    let text : left ≡ right = append_cancel_right left right (codes "\n")
    (sym (text_by_words one) ∙ e ∙ text_by_words other) in
    sym (words_spaced (word_of one) (args_of one) (spaceless_word one) (spaceless_args one h))
    ∙ ap words text ∙ words_spaced (word_of other) (args_of other) (spaceless_word other)
    (spaceless_args other k)

-- ---- reading a reply back

abbrev pub is_text : List ℕ → List ℕ → Bool
is_text [] [] = true
is_text (a ∷ xs) (b ∷ ys) = cond (eqb a b) (is_text xs ys) false
is_text xs ys = false

abbrev pub first_value : List (List ℕ) → ℕ
first_value [] = 0
first_value (w ∷ ws) = value_from 0 w

abbrev pub read_values : List (List ℕ) → List ℕ
read_values [] = []
read_values (w ∷ ws) = value_from 0 w ∷ read_values ws

abbrev pub read_entries : List (List ℕ) → List (List ℕ × ℕ)
read_entries (k ∷ v ∷ more) = (behind_first k, value_from 0 v) ∷ read_entries more
read_entries ws = []

abbrev pub read_pairs : List (List ℕ) → List (List ℕ × ℕ × ℕ)
read_pairs (k ∷ l ∷ r ∷ more) = (behind_first k, value_from 0 l, value_from 0 r) ∷ read_pairs more
read_pairs ws = []

abbrev pub read_value_pairs : List (List ℕ) → List (ℕ × ℕ)
read_value_pairs (l ∷ r ∷ more) = (value_from 0 l, value_from 0 r) ∷ read_value_pairs more
read_value_pairs ws = []

abbrev pub read_refusal : List (List ℕ) → Reply ℕ
read_refusal [] = NoMemory
read_refusal (w ∷ ws) = cond (is_text w (codes "version")) NoVersion
    (cond (is_text w (codes "room")) NoRoom NoMemory)

abbrev pub read_reply : List (List ℕ) → Reply ℕ
read_reply [] = Discarded
read_reply (word ∷ args) =
    cond (is_text word (codes "at")) (Place (first_value args))
    (cond (is_text word (codes "version")) (Number (first_value args))
    (cond (is_text word (codes "true")) (Flag true)
    (cond (is_text word (codes "false")) (Flag false)
    (cond (is_text word (codes "some")) (Value (Some (first_value args)))
    (cond (is_text word (codes "none")) (Value None)
    (cond (is_text word (codes "entries")) (Entries (read_entries args))
    (cond (is_text word (codes "values")) (Values (read_values args))
    (cond (is_text word (codes "failed")) (Stopped (read_values args) true)
    (cond (is_text word (codes "pairs")) (Pairs (read_pairs args))
    (cond (is_text word (codes "value-pairs")) (ValuePairs (read_value_pairs args))
    (cond (is_text word (codes "count")) (Count (first_value args))
    (cond (is_text word (codes "no")) (read_refusal args) Discarded))))))))))))

own_numerals : IsNumeralModel (λ ds. all_ascii_digits ds ≡ true) (value_from 0)
own_numerals = numerals_by_fold _ (search rules) value_from (search rules)

pub value_is : (n : ℕ) → Fits n → value_from 0 (decimal n) ≡ n
value_is n h = digits_value-decimal own_numerals n h

pub values_read : (vs : List ℕ) → Each Fits vs → read_values (many value_words vs) ≡ vs
values_read [] h = refl
values_read (v ∷ vs) h = ap2 (λ a b. a ∷ b) (value_is v h.0) (values_read vs h.1)

pub entries_read : (es : List (List ℕ × ℕ)) →
    Each (λ e. AllPass is_ascii_graphic e.0 × Fits e.1) es → read_entries (many entry_words es) ≡ es
entries_read [] h = refl
entries_read (e ∷ es) h = ap2 (λ a b. (e.0, a) ∷ b) (value_is e.1 h.0.1) (entries_read es h.1)

pub pairs_read : (es : List (List ℕ × ℕ × ℕ)) →
    Each (λ e. AllPass is_ascii_graphic e.0 × Fits e.1 × Fits e.2) es →
    read_pairs (many pair_words es) ≡ es
pairs_read [] h = refl
pairs_read (e ∷ es) h = ap3 (λ a b c. (e.0, a, b) ∷ c) (value_is e.1 h.0.1) (value_is e.2 h.0.2)
    (pairs_read es h.1)

pub value_pairs_read : (ps : List (ℕ × ℕ)) → Each (λ p. Fits p.0 × Fits p.1) ps →
    read_value_pairs (many value_pair_words ps) ≡ ps
value_pairs_read [] h = refl
value_pairs_read (p ∷ ps) h = ap3 (λ a b c. (a, b) ∷ c) (value_is p.0 h.0.0) (value_is p.1 h.0.1)
    (value_pairs_read ps h.1)

pub reply_read : (reply : Reply ℕ) → Stands reply →
    read_reply (word_of reply ∷ args_of reply) ≡ told reply
reply_read (Place n) h = ap Place (value_is n h)
reply_read Discarded h = refl
reply_read (Number n) h = ap Number (value_is n h)
reply_read (Flag true) h = refl
reply_read (Flag false) h = refl
reply_read (Value (Some n)) h = ap (λ v. Value (Some v)) (value_is n h)
reply_read (Value None) h = refl
reply_read (Entries es) h = ap Entries (entries_read es h)
reply_read (Values vs) h = ap Values (values_read vs h)
reply_read (Stopped vs false) h = ap Values (values_read vs h)
reply_read (Stopped vs true) h = ap (λ v. Stopped v true) (values_read vs h)
reply_read (Pairs es) h = ap Pairs (pairs_read es h)
reply_read (ValuePairs ps) h = ap ValuePairs (value_pairs_read ps h)
reply_read (Count n) h = ap Count (value_is n h)
reply_read Failed h = refl
reply_read NoVersion h = refl
reply_read NoRoom h = refl
reply_read NoMemory h = refl

pub texts_tell : TextsTell
texts_tell one other h k e = sym (reply_read one h) ∙ ap read_reply (same_words one other h k e)
    ∙ reply_read other k

-- what a reply's text tells
pub ruleset texts = (texts_are_lines, bad_text_is_no_reply, texts_tell, telling_fixes_text)
