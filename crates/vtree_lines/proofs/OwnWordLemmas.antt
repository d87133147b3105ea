-- Words that are a command's own, but for zeros before numbers, are read as it.
use Rattle.std.proofs.Common.{inl, inr, ◌≡◌, ℕ, ◌≤◌, zero, suc, List, [], ◌∷◌, ◌++◌, length, map, refl, sym, ◌∙◌, ap, subst, arith, length-append}
use Rattle.std.proofs.lemmas.List.{take_all}
use Rattle.std.proofs.lemmas.Fmt.{decimal_nonempty, digits_decimal, digits_value-decimal}
use Rattle.std.specs.Prelude.{decimal, replicate, Some}
use Rattle.std.specs.Str.{all_ascii_digits}
use Rattle.vtree_lines.specs.Lines.{value_from, number_of}
use Rattle.vtree_lines.specs.Grammar.{Word, Number, word_of, form_of}
use Rattle.vtree_lines.specs.OwnLines.{text_of, Fits, WordStands, Each}
use Rattle.vtree_lines.specs.Laws.{IsOwnWord, AreOwnWords, OwnWordsAreGood}
use Rattle.vtree_lines.proofs.NumberTextLemmas.{some_number}
use Rattle.vtree_lines.proofs.WordLemmas.{number_word}
use Rattle.vtree_lines.proofs.FormLemmas.{IsOwn, forms_are_own}
use Rattle.vtree_lines.proofs.OwnLineLemmas.{own_numerals, number_is, word_is}

zeros_digits : (zeros : ℕ) (ds : List ℕ) →
    all_ascii_digits (replicate zeros 48 ++ ds) ≡ all_ascii_digits ds
zeros_digits zero ds = refl
zeros_digits (suc zeros) ds = zeros_digits zeros ds

zeros_value : (zeros : ℕ) (ds : List ℕ) →
    value_from 0 (replicate zeros 48 ++ ds) ≡ value_from 0 ds
zeros_value zero ds = refl
zeros_value (suc zeros) ds = zeros_value zeros ds

-- a number with zeros before it is that number
padded_is : (n zeros : ℕ) → Fits n → length (replicate zeros 48 ++ decimal n) ≤ 20 →
    number_of (replicate zeros 48 ++ decimal n) ≡ Some n
padded_is n zeros fits few =
    let word = replicate zeros 48 ++ decimal n in
    let whole = take_all (length word) word (omega arith) in
    some_number word n (length word) (omega arith)
    (omega (arith, length-append (replicate zeros 48) (decimal n), decimal_nonempty n fits)) few
    (ap all_ascii_digits whole ∙ zeros_digits zeros (decimal n)
    ∙ digits_decimal own_numerals n fits)
    (sym (ap (value_from 0) whole ∙ zeros_value zeros (decimal n)
    ∙ digits_value-decimal own_numerals n fits))
    fits

word_good : (word : Word) (bytes : List ℕ) → WordStands word → IsOwn word →
    IsOwnWord (text_of word) bytes → word_of bytes ≡ word
word_good word bytes stands own (inl same) = ap word_of same ∙ word_is word stands own
word_good word bytes stands own (inr (n, zeros, fits, is, same, few)) =
    let padded : bytes ≡ replicate zeros 48 ++ decimal n =
    same ∙ ap (λ text. replicate zeros 48 ++ text) is in
    let read : word_of bytes ≡ Number n =
    ap word_of padded ∙ number_word (replicate zeros 48 ++ decimal n) n (padded_is n zeros fits
    (subst (λ (text : List ℕ). length text ≤ 20) padded few)) in
    let own_number : word_of (text_of word) ≡ Number n =
    ap word_of is ∙ number_word (decimal n) n (number_is n fits) in
    read ∙ sym own_number ∙ word_is word stands own

words_good : (form : List Word) (words : List (List ℕ)) → Each WordStands form → Each IsOwn form →
    AreOwnWords (map text_of form) words → map word_of words ≡ form
words_good [] [] stands own are = refl
words_good (word ∷ form) (bytes ∷ words) stands own are =
    rw (word_good word bytes stands.0 own.0 are.0, words_good form words stands.1 own.1 are.1) refl
words_good [] (bytes ∷ words) stands own are = absurd are
words_good (word ∷ form) [] stands own are = absurd are

pub own_words_are_good : OwnWordsAreGood
own_words_are_good words command stands are =
    words_good (form_of command) words stands (forms_are_own command) are
