-- The words of a good line are its command's own.
use Rattle.std.proofs.Common.{inl, inr, ◌≡◌, ℕ, ◌≤◌, ◌<◌, suc, List, [], ◌∷◌, ◌++◌, length, map, refl, sym, ◌∙◌, ap, subst, arith, true, false, eqb}
use Rattle.std.proofs.lemmas.Bool.{eqb-true, eqb-false, ltb-true, leb-true}
use Rattle.std.proofs.lemmas.Fmt.{decimal-digits_value}
use Rattle.std.specs.Prelude.{decimal, replicate, ◌&&◌, ◌^◌, nat_lt, nat_le, Some, None, if◌then◌else◌}
use Rattle.std.specs.Str.{all_ascii_digits}
use Rattle.std.specs.Char.{is_ascii_digit}
use Rattle.vtree_lines.specs.Lines.{value_from, is_number, number_of}
use Rattle.vtree_lines.specs.Grammar.{Word, Number, Key, Included, Excluded, Text, Bytes, word_of}
use Rattle.vtree_lines.specs.OwnLines.{text_of, Fits, WordStands, Each}
use Rattle.vtree_lines.specs.Laws.{IsOwnWord, AreOwnWords, GoodWordsAreOwn}
use Rattle.vtree_lines.proofs.GrammarLemmas.{and_left, and_right}
use Rattle.vtree_lines.proofs.WordLemmas.{Shows, shown}
use Rattle.vtree_lines.proofs.FormLemmas.{IsOwn, forms_are_own}
use Rattle.vtree_lines.proofs.OwnLineLemmas.{own_numerals}

-- Digits are their number's own, behind zeros.
padded : (word : List ℕ) → all_ascii_digits word ≡ true → 0 < length word →
    value_from 0 word < 2 ^ 64 →
    (zeros : ℕ) × (word ≡ replicate zeros 48 ++ decimal (value_from 0 word))
padded [] digits some small = absurd (omega arith)
padded (c ∷ []) digits some small =
    (0, sym (decimal-digits_value own_numerals (c ∷ []) digits some (λ lead. refl) small))
padded (c ∷ d ∷ ds) digits some small = elim (eqb c 48) as (λ t. eqb c 48 ≡ t →
    (zeros : ℕ) × (c ∷ d ∷ ds ≡ replicate zeros 48 ++ decimal (value_from 0 (c ∷ d ∷ ds)))) [
      | true ↦ λ is.
          let lead : c ≡ 48 = eqb-true c 48 is in
          let same : value_from 0 (c ∷ d ∷ ds) ≡ value_from 0 (d ∷ ds) = rw lead refl in
          let rest = padded (d ∷ ds) (and_right (is_ascii_digit c) _ digits) (omega arith)
          (omega (arith, same)) in (
            suc rest.0,
            ap (λ b. b ∷ d ∷ ds) lead ∙ ap (λ word. 48 ∷ word) rest.1
                ∙ ap (λ n. 48 ∷ replicate rest.0 48 ++ decimal n) (sym same),
          )
      | false ↦ λ other. (
        0,
        sym (decimal-digits_value own_numerals (c ∷ d ∷ ds) digits some
            (λ lead. absurd (eqb-false c 48 other lead)) small),
      )
    ] refl

-- What a word is that is a number.
record IsOwnNumber (word : List ℕ) (n : ℕ) : Type 0 where
  fits : Fits n
  own : IsOwnWord (decimal n) word

number_own : (word : List ℕ) (n : ℕ) → number_of word ≡ Some n → IsOwnNumber word n
number_own word n is = elim (is_number word) as (λ t. is_number word ≡ t →
    (if t then Some (value_from 0 word) else None) ≡ Some n → IsOwnNumber word n) [
      | true ↦ λ holds told.
          let sizes : (nat_lt 0 (length word) && nat_le (length word) 20) ≡ true =
          and_left _ _ holds in
          let value : (all_ascii_digits word && nat_lt (value_from 0 word) (2 ^ 64)) ≡ true =
          and_right (nat_lt 0 (length word) && nat_le (length word) 20) _ holds in
          let digits : all_ascii_digits word ≡ true = and_left _ _ value in
          let small : value_from 0 word < 2 ^ 64 =
          ltb-true _ _ (and_right (all_ascii_digits word) _ value) in
          let some : 0 < length word = ltb-true _ _ (and_left _ _ sizes) in
          let few : length word ≤ 20 =
          leb-true _ _ (and_right (nat_lt 0 (length word)) _ sizes) in
          let same : value_from 0 word ≡ n = cc in
          let zeros = padded word digits some small in
          let fits : Fits n = subst Fits same small in
          record {
            fits = fits;
            own = inr (
              n,
              zeros.0,
              fits,
              refl,
              zeros.1 ∙ ap (λ m. replicate zeros.0 48 ++ decimal m) same,
              few,
            );
          }
      | false ↦ λ holds told. absurd (cc)
    ] refl is

word_own : (bytes : List ℕ) (word : Word) → Shows bytes word → IsOwn word →
    WordStands word × IsOwnWord (text_of word) bytes
word_own bytes (Number n) shows own = let is = number_own bytes n shows in (is.fits, is.own)
word_own bytes (Key key) shows own = (shows.1, inl shows.0)
word_own bytes (Included key) shows own = (shows.1, inl shows.0)
word_own bytes (Excluded key) shows own = (shows.1, inl shows.0)
word_own bytes (Text text) shows own = (tt, inl shows.0)
word_own bytes Bytes shows own = absurd own

words_own : (words : List (List ℕ)) → Each IsOwn (map word_of words) →
    Each WordStands (map word_of words) × AreOwnWords (map text_of (map word_of words)) words
words_own [] own = (tt, tt)
words_own (word ∷ words) own =
    let first = word_own word (word_of word) (shown word) own.0 in
    let rest = words_own words own.1 in
    ((first.0, rest.0), (first.1, rest.1))

pub good_words_are_own : GoodWordsAreOwn
good_words_are_own words command says =
    subst (λ (form : List Word). Each WordStands form × AreOwnWords (map text_of form) words) says
    (words_own words (subst (Each IsOwn) (sym says) (forms_are_own command)))
