-- A command's own line is that command.
use Rattle.std.proofs.Common.{◌≡◌, ℕ, ◌≤◌, ◌<◌, ◌+◌, ◌*◌, zero, suc, List, [], ◌∷◌, ◌++◌, length, refl, sym, ◌∙◌, ap, subst, arith, rules, Bool, true, false, eqb}
use Rattle.std.proofs.lemmas.Bool.{ne_eqb, leb-true}
use Rattle.std.proofs.lemmas.List.{take_all, length-append, length-map}
use Rattle.std.proofs.lemmas.List.Elements.{All-head, All-tail}
use Rattle.std.proofs.lemmas.List.Sums.{AllPass-from_list_all}
use Rattle.std.proofs.lemmas.List.Splits.{slice_split-cons_no}
use Rattle.std.proofs.lemmas.Fmt.{decimal_is_IsNumeral, length-decimal-le, decimal_nonempty, digits_decimal, digits_value-decimal}
use Rattle.std.proofs.lemmas.Str.Parse.{IsNumeralModel, numerals_by_fold}
use Rattle.std.specs.Prelude.{codes, decimal, ◌&&◌, Some, ⊤, map}
use Rattle.std.specs.List.{AllPass, onto_first, join_with_byte}
use Rattle.std.specs.Char.{is_ascii_graphic, digit_value}
use Rattle.std.specs.Str.{all_ascii_digits}
use Rattle.std.specs.Str.Parse.{AllDigits}
use Rattle.vtree_lines.specs.Lines.{words, value_from, number_of}
use Rattle.vtree_lines.specs.Grammar.{Said, Word, Number, Key, Included, Excluded, Text, Bytes, word_of, form_of, IsLineOf}
use Rattle.vtree_lines.specs.OwnLines.{text_of, line_of, Fits, WordStands, CanStand, Each}
use Rattle.vtree_lines.specs.Laws.{WordsAreOneCommand, OwnLinesAreRead}
use Rattle.vtree_lines.proofs.NumberTextLemmas.{some_number}
use Rattle.vtree_lines.proofs.GrammarLemmas.{and_left, and_right, same_command, line_is_one_command}
use Rattle.vtree_lines.proofs.WordLemmas.{Shows, shown, number_word, words_are_read}
use Rattle.vtree_lines.proofs.FormLemmas.{IsOwn, forms_are_own, form_few, form_some}

-- no byte of a word is a space
abbrev pub NoSpace : List ℕ → Type 0
NoSpace [] = ⊤
NoSpace (byte ∷ word) = (eqb byte 32 ≡ false) × NoSpace word

-- a word of a line: no space, and not long
abbrev pub IsWord : List ℕ → Type 0
IsWord word = NoSpace word × (length word ≤ 20)

pub split_word : (word rest : List ℕ) → NoSpace word → words (word ++ 32 ∷ rest) ≡ word ∷ words rest
split_word [] rest h = refl
split_word (byte ∷ word) rest h = slice_split-cons_no (λ b. eqb b 32) byte (word ++ 32 ∷ rest) h.0
    ∙ ap (onto_first byte) (split_word word rest h.1)

pub split_last : (word : List ℕ) → NoSpace word → words word ≡ word ∷ []
split_last [] h = refl
split_last (byte ∷ word) h = slice_split-cons_no (λ b. eqb b 32) byte word h.0
    ∙ ap (onto_first byte) (split_last word h.1)

pub words_joined : (word : List ℕ) (more : List (List ℕ)) → Each IsWord (word ∷ more) →
    words (join_with_byte 32 (word ∷ more)) ≡ word ∷ more
words_joined word [] h = split_last word h.0.0
words_joined word (next ∷ more) h = split_word word (join_with_byte 32 (next ∷ more)) h.0.0
    ∙ ap (λ s. word ∷ s) (words_joined next more h.1)

pub joined_short : (word : List ℕ) (more : List (List ℕ)) (n : ℕ) → length more ≤ n →
    Each IsWord (word ∷ more) → length (join_with_byte 32 (word ∷ more)) ≤ 20 + n * 21
joined_short word [] n l h = omega (arith, h.0.1)
joined_short word (next ∷ more) zero l h = absurd (omega (arith, l))
joined_short word (next ∷ more) (suc n) l h =
    omega (
      arith,
      h.0.1,
      joined_short next more n (omega (arith, l)) h.1,
      length-append word (32 ∷ join_with_byte 32 (next ∷ more)),
    )

abbrev pub not_space : Bool → Bool
not_space true = false
not_space false = true

-- a text that has no space and is not long, by computation
abbrev pub has_no_space : List ℕ → Bool
has_no_space [] = true
has_no_space (byte ∷ word) = not_space (eqb byte 32) && has_no_space word

pub not_space_false : (b : Bool) → not_space b ≡ true → b ≡ false
not_space_false true e = absurd (cc)
not_space_false false e = refl

pub no_space : (word : List ℕ) → has_no_space word ≡ true → NoSpace word
no_space [] e = tt
no_space (byte ∷ word) e = (
  not_space_false (eqb byte 32) (and_left _ _ e),
  no_space word (and_right (not_space (eqb byte 32)) _ e),
)

pub digits_no_space : (word : List ℕ) → AllDigits 10 word → NoSpace word
digits_no_space [] h = tt
digits_no_space (byte ∷ word) h = (
  ne_eqb byte 32 (λ e. let d : digit_value 32 < 10 =
      subst (λ (b : ℕ). digit_value b < 10) e h.0 in omega (arith, d)),
  digits_no_space word h.1,
)

pub graphic_no_space : (key : List ℕ) → AllPass is_ascii_graphic key → NoSpace key
graphic_no_space [] h = tt
graphic_no_space (byte ∷ key) h = (
  ne_eqb byte 32 (λ e. let g : false ≡ true =
      subst (λ (b : ℕ). is_ascii_graphic b ≡ true) e
      (All-head (λ b. is_ascii_graphic b ≡ true) byte key h) in absurd (cc)),
  graphic_no_space key (All-tail (λ b. is_ascii_graphic b ≡ true) byte key h),
)

pub own_numerals : IsNumeralModel (λ ds. all_ascii_digits ds ≡ true) (value_from 0)
own_numerals = numerals_by_fold _ (search rules) value_from (search rules)

pub number_is : (n : ℕ) → Fits n → number_of (decimal n) ≡ Some n
number_is n h =
    let l = length (decimal n) in
    let whole = take_all l (decimal n) (omega arith) in
    some_number (decimal n) n l (omega arith) (decimal_nonempty n h)
    (length-decimal-le 20 n (omega arith) (omega (arith, h)) h)
    (ap all_ascii_digits whole ∙ digits_decimal own_numerals n h)
    (sym (ap (value_from 0) whole ∙ digits_value-decimal own_numerals n h)) h

pub number_short : (n : ℕ) → Fits n → IsWord (decimal n)
number_short n h = (
  digits_no_space (decimal n) (decimal_is_IsNumeral n h).0.1,
  length-decimal-le 20 n (omega arith) (omega (arith, h)) h,
)

-- ---- own words

-- The text that is read as a word is read as it.
pub word_is : (word : Word) → WordStands word → IsOwn word → word_of (text_of word) ≡ word
word_is (Number n) stands own = number_word (decimal n) n (number_is n stands)
word_is (Key key) stands own = ((words_are_read (codes "'" ++ key)).1 key).1 (refl, stands)
word_is (Included key) stands own = ((words_are_read (codes "i'" ++ key)).2 key).1 (refl, stands)
word_is (Excluded key) stands own = ((words_are_read (codes "x'" ++ key)).3 key).1 (refl, stands)
word_is (Text text) stands own = own.0
word_is Bytes stands own = absurd own

text_graphic : (text : List ℕ) → word_of text ≡ Text text → AllPass is_ascii_graphic text
text_graphic text own =
    AllPass-from_list_all is_ascii_graphic text (subst (Shows text) own (shown text)).1

own_word : (word : Word) → WordStands word → IsOwn word → IsWord (text_of word)
own_word (Number n) stands own = number_short n stands
own_word (Key key) stands own = ((refl, graphic_no_space key stands.1), omega (arith, stands.0))
own_word (Included key) stands own =
    ((refl, (refl, graphic_no_space key stands.1)), omega (arith, stands.0))
own_word (Excluded key) stands own =
    ((refl, (refl, graphic_no_space key stands.1)), omega (arith, stands.0))
own_word (Text text) stands own =
    (graphic_no_space text (text_graphic text own.0), leb-true _ _ own.1)
own_word Bytes stands own = absurd own

texts_are_words : (form : List Word) → Each WordStands form → Each IsOwn form →
    Each IsWord (map text_of form)
texts_are_words [] stands own = tt
texts_are_words (word ∷ form) stands own =
    (own_word word stands.0 own.0, texts_are_words form stands.1 own.1)

texts_are_read : (form : List Word) → Each WordStands form → Each IsOwn form →
    map word_of (map text_of form) ≡ form
texts_are_read [] stands own = refl
texts_are_read (word ∷ form) stands own =
    rw (word_is word stands.0 own.0, texts_are_read form stands.1 own.1) refl

line_read : (form : List Word) → 0 < length form → length form ≤ 6 → Each WordStands form →
    Each IsOwn form →
    (length (join_with_byte 32 (map text_of form)) ≤ 200)
    × (map word_of (words (join_with_byte 32 (map text_of form))) ≡ form)
line_read [] some few stands own = absurd (omega (arith, some))
line_read (word ∷ form) some few stands own =
    let each = texts_are_words (word ∷ form) stands own in
    let more = length-map form text_of in (
      omega (arith, joined_short (text_of word) (map text_of form) 5 (omega (arith, few, more)) each),
      ap (map word_of) (words_joined (text_of word) (map text_of form) each)
          ∙ texts_are_read (word ∷ form) stands own,
    )

pub own_line : (command : Said) → CanStand command → IsLineOf (line_of command) command
own_line command stands = line_read (form_of command) (form_some command) (form_few command) stands
    (forms_are_own command)

pub words_are_one_command : WordsAreOneCommand
words_are_one_command words one other h k = same_command one other (sym h ∙ k)

pub own_lines_are_read : OwnLinesAreRead
own_lines_are_read command h = (
  own_line command h,
  λ other k. line_is_one_command (line_of command) other command k (own_line command h),
)

-- a command's own line, and no words of two commands
pub ruleset lines = (words_are_one_command, own_lines_are_read)
