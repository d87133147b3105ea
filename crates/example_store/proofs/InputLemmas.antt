-- A line is read byte by byte.
use Rattle.std.proofs.Common.{inl, inr, ◌≡◌, ◌≢◌, ℕ, zero, suc, List, [], ◌∷◌, ◌++◌, take, length, sym, ◌∙◌, ap, refl, arith, append_assoc, subst, true, false, eqb}
use Rattle.std.proofs.lemmas.Bool.{eqb-true}
use Rattle.std.proofs.lemmas.List.{append-nil}
use Rattle.std.specs.Prelude.{IfSome}
use Rattle.std.specs.declared.option.Option.{Option}
use Rattle.std.specs.declared.option.Option.TheVariants.{Some, None}
use Rattle.std.specs.Io.KnownBytes.{Consumes, IsAtEnd, Keeps}
use Rattle.vtree_lines.specs.Laws.{HasNoFeed}
use Rattle.example_store.specs.Input.{IsReading, TakesByte, TakesLine}
use Rattle.vtree_lines.proofs.ServeLemmas.{consumed}

pub no_feed_first : (line : List ℕ) (n : ℕ) → HasNoFeed line → HasNoFeed (take n line)
no_feed_first line zero h = tt
no_feed_first [] (suc n) h = tt
no_feed_first (b ∷ line) (suc n) h = (h.0, no_feed_first line n h.1)

no_feed_push : (line : List ℕ) (byte : ℕ) → HasNoFeed line → byte ≢ 10 → HasNoFeed (line ++ byte ∷ [])
no_feed_push [] byte h other = (other, tt)
no_feed_push (b ∷ line) byte h other = (h.0, no_feed_push line byte h.1 other)

-- nothing is read yet
pub reading_none : (known : Option (List ℕ)) (kept : List ℕ) → kept ≡ [] → IsReading known known kept
reading_none None kept e = record { line = []; feedless = tt; kept_are = e; input = tt }
reading_none (Some xs) kept e = record { line = []; feedless = tt; kept_are = e; input = (xs, refl, refl) }

input_more : (known now new : Option (List ℕ)) (line : List ℕ) (byte : ℕ) → Consumes now new (byte ∷ []) →
    IfSome known (λ input. (rest : List ℕ) × (now ≡ Some rest) × (input ≡ line ++ rest)) →
    IfSome known (λ input. (rest : List ℕ) × (new ≡ Some rest) × (input ≡ (line ++ byte ∷ []) ++ rest))
input_more None now new line byte eats h = tt
input_more (Some xs) now new line byte eats h =
    let (after, is, left) = consumed now new byte h.0 h.1 eats in
    (after, left, h.2 ∙ ap (λ s. line ++ s) is ∙ sym (append_assoc line (byte ∷ []) after))

-- one more byte of the line is read
pub reading_more : (known now new : Option (List ℕ)) (kept more : List ℕ) (byte : ℕ) (h : IsReading known now kept) →
    byte ≢ 10 → Consumes now new (byte ∷ []) → more ≡ take 201 (h.line ++ byte ∷ []) → IsReading known new more
reading_more known now new kept more byte h other eats grown = record {
  line = h.line ++ byte ∷ [];
  feedless = no_feed_push h.line byte h.feedless other;
  kept_are = grown;
  input = input_more known now new h.line byte eats h.input;
}

-- the line is ended by its line feed
pub line_read : (known now new : Option (List ℕ)) (kept : List ℕ) (byte : ℕ) → IsReading known now kept → byte ≡ 10 →
    Consumes now new (byte ∷ []) → IfSome known (λ input. TakesLine input (Some kept) new)
line_read None now new kept byte h feed eats = tt
line_read (Some xs) now new kept byte h feed eats =
    let (after, is, left) = consumed now new byte h.input.0 h.input.1 eats in (
      h.line,
      after,
      left,
      h.kept_are,
      record {
        feedless = h.feedless;
        split = inl (h.input.2 ∙ ap (λ s. h.line ++ s) is ∙ ap (λ b. h.line ++ b ∷ after) feed);
      },
    )

-- nothing is left of known bytes
none_left : (now new : Option (List ℕ)) (rest : List ℕ) → now ≡ Some rest → IsAtEnd new → Keeps now new → (rest ≡ []) × (new ≡ Some [])
none_left None new rest e ended keeps = absurd (cc)
none_left (Some xs) None rest e ended keeps = absurd keeps
none_left (Some xs) (Some ys) rest e ended keeps = (cc, ap Some ended)

-- the input ends, and the line with it
pub line_last : (known now new : Option (List ℕ)) (kept : List ℕ) → IsReading known now kept → kept ≢ [] →
    IsAtEnd new → Keeps now new → IfSome known (λ input. TakesLine input (Some kept) new)
line_last None now new kept h some ended keeps = tt
line_last (Some xs) now new kept h some ended keeps =
    let (none, left) = none_left now new h.input.0 h.input.1 ended keeps in (
      h.line,
      [],
      left,
      h.kept_are,
      record {
        feedless = h.feedless;
        split = inr (
          h.input.2 ∙ ap (λ s. h.line ++ s) none ∙ append-nil h.line,
          (λ e. some (h.kept_are ∙ ap (take 201) e)),
          refl,
        );
      },
    )

taken_none : (line : List ℕ) → take 201 line ≡ [] → line ≡ []
taken_none [] e = refl
taken_none (b ∷ line) e = absurd (cc)

-- the input ends, and no line is begun
pub line_none : (known now new : Option (List ℕ)) (kept : List ℕ) → IsReading known now kept → kept ≡ [] →
    IsAtEnd new → Keeps now new → IfSome known (λ input. TakesLine input None new)
line_none None now new kept h empty ended keeps = tt
line_none (Some xs) now new kept h empty ended keeps =
    let (none, left) = none_left now new h.input.0 h.input.1 ended keeps in
    let bare : h.line ≡ [] = taken_none h.line (sym h.kept_are ∙ empty) in
    (h.input.2 ∙ ap (λ s. h.line ++ s) none ∙ append-nil h.line ∙ bare, left)

-- what was taken, where it is a byte, and where it is none
pub byte_taken : (byte : Option ℕ) (old new : Option (List ℕ)) (b : ℕ) → byte ≡ Some b →
    TakesByte byte old new → Consumes old new (b ∷ [])
byte_taken (Some a) old new b e h = subst (λ (n : ℕ). Consumes old new (n ∷ [])) (cc) h
byte_taken None old new b e h = absurd (cc)

pub none_taken : (byte : Option ℕ) (old new : Option (List ℕ)) → ((b : ℕ) → byte ≡ Some b → ⊥) →
    TakesByte byte old new → IsAtEnd new × Keeps old new
none_taken (Some a) old new other h = absurd (other a refl)
none_taken None old new other h = h

-- of a line that was read the bytes that are kept have no feed
pub kept_feedless : (known now : Option (List ℕ)) (kept : List ℕ) → IsReading known now kept → HasNoFeed kept
kept_feedless known now kept h = subst HasNoFeed (sym h.kept_are) (no_feed_first h.line 201 h.feedless)

pub kept_none : (kept : List ℕ) → true ≡ eqb (length kept) 0 → kept ≡ []
kept_none [] is = refl
kept_none (b ∷ kept) is = absurd (omega (arith, eqb-true (length (b ∷ kept)) 0 (sym is)))

pub kept_some : (kept : List ℕ) → false ≡ eqb (length kept) 0 → kept ≢ []
kept_some [] is = λ e. absurd (cc)
kept_some (b ∷ kept) is = λ e. absurd (cc)
