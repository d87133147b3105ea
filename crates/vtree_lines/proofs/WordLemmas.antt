-- What a word shows of the bytes that it was read of.
use Rattle.std.proofs.Common.{◌≡◌, ℕ, zero, suc, ◌<◌, List, [], ◌∷◌, ◌++◌, refl, sym, ap, subst, ◌∙◌, arith, Bool, true, false}
use Rattle.std.proofs.lemmas.Bool.{leb-true, le-leb}
use Rattle.std.proofs.lemmas.Bool.Decides.{nat_tests}
use Rattle.std.proofs.lemmas.List.{take-append-drop}
use Rattle.std.proofs.lemmas.List.Sums.{AllPass-from_list_all, list_all-from_AllPass}
use Rattle.std.proofs.lemmas.Slice.Eq.{bytes_eq-Decides}
use Rattle.std.proofs.lemmas.Str.{IsUtf8-from_ascii}
use Rattle.std.specs.Prelude.{Option, Some, None, Result, Ok, Err, MatchResult, IfSome, ◌&&◌, map, take, drop, length, codes, nat_lt, nat_le, if◌then◌else◌, ◌^◌, ⊤}
use Rattle.std.specs.Option.{option_map, unwrap_or}
use Rattle.std.specs.Result.{result_ok}
use Rattle.std.specs.List.{list_all}
use Rattle.std.specs.Str.{IsUtf8, IsAscii, bytes_eq, all_ascii_digits}
use Rattle.std.specs.Char.{is_ascii_graphic, is_ascii_digit}
use Rattle.std.specs.Borrow.{Bor}
use Rattle.vtree_lines.specs.Lines.{number_of, value_from}
use Rattle.vtree_lines.specs.Grammar.{Word, Number, Key, Included, Excluded, Text, Bytes, IsKeyText, word_of, key_behind, is_key_text}
use Rattle.vtree_lines.specs.Words.{IsShort, AreShort}
use Rattle.vtree_lines.specs.Laws.{WordsAreRead}
use Rattle.vtree_lines.proofs.NumberTextLemmas.{none_from, and_none}
use Rattle.vtree_lines.proofs.GrammarLemmas.{and_left, and_right}

graphic_byte : (byte : ℕ) → is_ascii_graphic byte ≡ true → byte < 128
graphic_byte byte is = grind (arith, nat_tests)

graphic_is_ascii : (word : List ℕ) → list_all is_ascii_graphic word ≡ true → IsAscii word
graphic_is_ascii [] is i = omega arith
graphic_is_ascii (byte ∷ word) is zero = graphic_byte byte (and_left _ _ is)
graphic_is_ascii (byte ∷ word) is (suc i) =
    graphic_is_ascii word (and_right (is_ascii_graphic byte) _ is) i

-- Graphic bytes are read as a text.
pub text_read : {E : Type 0} (word : List ℕ) (read : Result (Bor (List ℕ)) E) (P : E → Type 0) →
    list_all is_ascii_graphic word ≡ true →
    MatchResult read (λ text. (text.now ≡ word) × IsUtf8 word) (λ e. ¬ (IsUtf8 word) × P e) →
    option_map (λ text. text.now) (result_ok read) ≡ Some word
text_read word (Ok text) P is read = ap Some read.0
text_read word (Err e) P is read =
    absurd (read.0 (IsUtf8-from_ascii word (graphic_is_ascii word is)))

-- ---- what a word shows

-- The word is what its bytes show.
abbrev pub Shows : List ℕ → Word → Type 0
Shows bytes (Number number) = number_of bytes ≡ Some number
Shows bytes (Key key) = (bytes ≡ codes "'" ++ key) × IsKeyText key
Shows bytes (Included key) = (bytes ≡ codes "i'" ++ key) × IsKeyText key
Shows bytes (Excluded key) = (bytes ≡ codes "x'" ++ key) × IsKeyText key
Shows bytes (Text text) = (bytes ≡ text) × (list_all is_ascii_graphic bytes ≡ true)
Shows bytes Bytes = ⊤

shows_or : (bytes : List ℕ) (answer : Option Word) (word : Word) → IfSome answer (Shows bytes) →
    Shows bytes word → Shows bytes (unwrap_or answer word)
shows_or bytes None word here later = later
shows_or bytes (Some found) word here later = here

number_shown : (bytes : List ℕ) (answer : Option ℕ) → number_of bytes ≡ answer →
    IfSome (option_map Number answer) (Shows bytes)
number_shown bytes None e = tt
number_shown bytes (Some n) e = e

key_shown : (mark bytes : List ℕ) →
    IfSome (key_behind mark bytes) (λ key. (bytes ≡ mark ++ key) × IsKeyText key)
key_shown mark bytes =
    let key = drop (length mark) bytes in
    elim (bytes_eq (take (length mark) bytes) mark && is_key_text key) as (λ t.
    (bytes_eq (take (length mark) bytes) mark && is_key_text key) ≡ t →
    IfSome (if t then Some key else None) (λ key. (bytes ≡ mark ++ key) × IsKeyText key)) [
      | true ↦ λ is.
          let begins : take (length mark) bytes ≡ mark =
          (bytes_eq-Decides (take (length mark) bytes) mark).0 (and_left _ _ is) in
          let text : is_key_text key ≡ true =
          and_right (bytes_eq (take (length mark) bytes) mark) _ is in (
            sym (take-append-drop (length mark) bytes) ∙ ap (λ front. front ++ key) begins,
            (
              leb-true _ _ (and_left _ _ text),
              AllPass-from_list_all is_ascii_graphic key
                  (and_right (nat_le (length key) 16) _ text),
            ),
          )
      | false ↦ λ is. tt
    ] refl

map_shown : (bytes mark : List ℕ) (make : List ℕ → Word) (answer : Option (List ℕ)) →
    ((key : List ℕ) → (bytes ≡ mark ++ key) × IsKeyText key → Shows bytes (make key)) →
    IfSome answer (λ key. (bytes ≡ mark ++ key) × IsKeyText key) →
    IfSome (option_map make answer) (Shows bytes)
map_shown bytes mark make None each shown = tt
map_shown bytes mark make (Some key) each shown = each key shown

text_shown : (bytes : List ℕ) (b : Bool) → list_all is_ascii_graphic bytes ≡ b →
    Shows bytes (if b then Text bytes else Bytes)
text_shown bytes true is = (refl, is)
text_shown bytes false is = tt

pub shown : (bytes : List ℕ) → Shows bytes (word_of bytes)
shown bytes =
    shows_or bytes _ _ (number_shown bytes (number_of bytes) refl)
    (shows_or bytes _ _ (map_shown bytes (codes "'") Key _ (λ key h. h) (key_shown (codes "'") bytes))
    (shows_or bytes _ _
    (map_shown bytes (codes "i'") Included _ (λ key h. h) (key_shown (codes "i'") bytes))
    (shows_or bytes _ _
    (map_shown bytes (codes "x'") Excluded _ (λ key h. h) (key_shown (codes "x'") bytes))
    (text_shown bytes (list_all is_ascii_graphic bytes) refl))))

is_short : (bytes : List ℕ) (word : Word) → Shows bytes word → IsShort word
is_short bytes (Number n) h = tt
is_short bytes (Key key) h = h.1.0
is_short bytes (Included key) h = h.1.0
is_short bytes (Excluded key) h = h.1.0
is_short bytes (Text text) h = tt
is_short bytes Bytes h = tt

pub words_short : (words : List (List ℕ)) → AreShort (map word_of words)
words_short [] = tt
words_short (word ∷ words) = (is_short word (word_of word) (shown word), words_short words)

-- ---- and what shows it

no_number : (byte : ℕ) (bytes : List ℕ) → is_ascii_digit byte ≡ false →
    number_of (byte ∷ bytes) ≡ None
no_number byte bytes other = none_from (byte ∷ bytes)
    (and_none _ _ (ap (λ b. (b && all_ascii_digits bytes)
    && nat_lt (value_from 0 (byte ∷ bytes)) (2 ^ 64)) other))

key_text : (key : List ℕ) → IsKeyText key → is_key_text key ≡ true
key_text key is =
    rw (le-leb (length key) 16 is.0, list_all-from_AllPass is_ascii_graphic key is.1) refl

-- a word by what each reader finds
abbrev reading : List ℕ → Option ℕ → Option (List ℕ) → Option (List ℕ) → Option (List ℕ) → Word
reading bytes number key included excluded =
    unwrap_or (option_map Number number)
    (unwrap_or (option_map Key key)
    (unwrap_or (option_map Included included)
    (unwrap_or (option_map Excluded excluded)
    (if list_all is_ascii_graphic bytes then Text bytes else Bytes))))

pub number_word : (bytes : List ℕ) (n : ℕ) → number_of bytes ≡ Some n → word_of bytes ≡ Number n
number_word bytes n is = ap (λ number. reading bytes number (key_behind (codes "'") bytes)
    (key_behind (codes "i'") bytes) (key_behind (codes "x'") bytes)) is

-- the text of a key behind a mark
abbrev marked : List ℕ → List ℕ → Bool → Option (List ℕ)
marked mark key b = if b then Some key else None

key_word : (key : List ℕ) → IsKeyText key → word_of (codes "'" ++ key) ≡ Key key
key_word key is =
    let bytes = codes "'" ++ key in
    ap (λ number. reading bytes number (key_behind (codes "'") bytes)
    (key_behind (codes "i'") bytes) (key_behind (codes "x'") bytes)) (no_number 39 key refl)
    ∙ ap (λ b. reading bytes None (marked (codes "'") key b)
    (key_behind (codes "i'") bytes) (key_behind (codes "x'") bytes)) (key_text key is)

included_word : (key : List ℕ) → IsKeyText key → word_of (codes "i'" ++ key) ≡ Included key
included_word key is =
    let bytes = codes "i'" ++ key in
    ap (λ number. reading bytes number None (key_behind (codes "i'") bytes)
    (key_behind (codes "x'") bytes)) (no_number 105 (39 ∷ key) refl)
    ∙ ap (λ b. reading bytes None None (marked (codes "i'") key b)
    (key_behind (codes "x'") bytes)) (key_text key is)

excluded_word : (key : List ℕ) → IsKeyText key → word_of (codes "x'" ++ key) ≡ Excluded key
excluded_word key is =
    let bytes = codes "x'" ++ key in
    ap (λ number. reading bytes number None None (key_behind (codes "x'") bytes))
    (no_number 120 (39 ∷ key) refl)
    ∙ ap (λ b. reading bytes None None None (marked (codes "x'") key b)) (key_text key is)

shown_as : (bytes : List ℕ) (word : Word) → word_of bytes ≡ word → Shows bytes word
shown_as bytes word is = subst (Shows bytes) is (shown bytes)

pub words_are_read : WordsAreRead
words_are_read bytes = (
  λ n. (shown_as bytes (Number n), number_word bytes n),
  λ key. (shown_as bytes (Key key), λ h. ap word_of h.0 ∙ key_word key h.1),
  λ key. (shown_as bytes (Included key), λ h. ap word_of h.0 ∙ included_word key h.1),
  λ key. (shown_as bytes (Excluded key), λ h. ap word_of h.0 ∙ excluded_word key h.1),
  λ text is. (shown_as bytes (Text text) is).0,
)
