-- A reader in the midst of its bytes, and the session that takes them.
use Rattle.std.proofs.Common.{◌≡◌, ℕ, ◌+◌, ◌≤◌, ◌<◌, suc, zero, List, [], ◌∷◌, ◌++◌, take, drop, drop-cons, length, get_or, sym, ◌∙◌, ap, refl, arith, length-append, append_assoc, subst}
use Rattle.std.proofs.lemmas.List.{append-nil, take_more, take_all, take-append-drop}
use Rattle.std.proofs.lemmas.Result.{IfOk-at_ok}
use Rattle.std.proofs.Math.Seq.{take-append-add}
use Rattle.std.specs.Prelude.{IfSome, IfOk, IfErr, IsErrAnd, is_err, true, false, ◌^◌, ◌-◌}
use Rattle.std.specs.List.{concat}
use Rattle.std.specs.declared.result.Result.{Result}
use Rattle.std.specs.declared.result.Result.TheVariants.{Ok, Err}
use Rattle.std.specs.declared.option.Option.{Option}
use Rattle.std.specs.declared.option.Option.TheVariants.{Some, None}
use Rattle.std.specs.Io.KnownBytes.{Consumes, IsAtEnd}
use Rattle.vtree_lines.specs.declared.session.Session.{Session}
use Rattle.vtree_lines.specs.declared.served.Served.{Served}
use Rattle.vtree_lines.specs.declared.served.ServeError.{ServeError}
use Rattle.vtree_lines.specs.declared.served.ServeError.TheVariants.{Write}
use Rattle.vtree_lines.specs.Lines.{lines_of, input_lines}
use Rattle.vtree_lines.specs.Transcript.{Serves, Begins, Stops, EndsBy, Gains}
use Rattle.vtree_lines.specs.Sessions.{onto, Serving, Takes}

-- a byte was taken
abbrev pub HasTaken : ℕ → Session → Session → Option (List ℕ) → Option (List ℕ) → Type 0
HasTaken byte old new before behind =
    (taken : List ℕ) (origin : Option (List ℕ)) → Serving taken old origin before →
    Serving (taken ++ byte ∷ []) new origin behind

-- writing the text of the line in hand failed when a byte was taken
abbrev pub HasStopped : ℕ → Session → Option (List ℕ) → Option (List ℕ) → Type 0
HasStopped byte old before behind =
    (taken : List ℕ) (origin : Option (List ℕ)) → Serving taken old origin before →
    (rest : List ℕ) → Gains origin behind (Stops (lines_of (taken ++ byte ∷ rest)))

-- all bytes were taken, and the last line was served
abbrev pub HasFinished : Served → Session → Option (List ℕ) → Option (List ℕ) → Type 0
HasFinished served old before behind =
    (taken : List ℕ) (origin : Option (List ℕ)) → Serving taken old origin before →
    Gains origin behind (Serves (lines_of taken) served)

-- all bytes were taken, and writing the text of the last line failed
abbrev pub HasFailed : Session → Option (List ℕ) → Option (List ℕ) → Type 0
HasFailed old before behind =
    (taken : List ℕ) (origin : Option (List ℕ)) → Serving taken old origin before →
    Gains origin behind (Stops (lines_of taken))

-- these bytes of the input are taken, and `more` others may be
pub record Midst (input : List ℕ) (left : Option (List ℕ)) (count : ℕ) (session : Session)
    (origin now : Option (List ℕ)) : Type 0 where
  pub taken : List ℕ
  pub rest : List ℕ
  pub whole : input ≡ taken ++ rest
  pub left_is : left ≡ Some rest
  pub counted : 2 ^ 64 - 1 ≡ length taken + count
  pub serving : Serving taken session origin now

-- the same where the reader's bytes are known
abbrev pub InMidst : Option (List ℕ) → Option (List ℕ) → ℕ → Session → Option (List ℕ) →
    Option (List ℕ) → Type 0
InMidst known left count session origin now =
    IfSome known (λ input. Midst input left count session origin now)

-- the known bytes lose their first
pub consumed : (left new : Option (List ℕ)) (b : ℕ) (rest : List ℕ) → left ≡ Some rest →
    Consumes left new (b ∷ []) → (after : List ℕ) × (rest ≡ b ∷ after) × (new ≡ Some after)
consumed None new b rest e h = absurd (cc)
consumed (Some xs) None b rest e h = absurd h
consumed (Some xs) (Some after) b rest e h = (after, cc, refl)

-- a byte is taken
pub midst_byte : (known left left' : Option (List ℕ)) (count count' byte : ℕ) (old new : Session)
    (origin before behind : Option (List ℕ)) →
    Consumes left left' (byte ∷ []) → count' + 1 ≡ count → HasTaken byte old new before behind →
    InMidst known left count old origin before → InMidst known left' count' new origin behind
midst_byte None left left' count count' byte old new origin before behind eats n takes h = tt
midst_byte (Some input) left left' count count' byte old new origin before behind eats n takes h =
    let ate = consumed left left' byte h.rest h.left_is eats in
    record {
      taken = h.taken ++ byte ∷ [];
      rest = ate.0;
      whole = h.whole ∙ ap (λ s. h.taken ++ s) ate.1 ∙ sym (append_assoc h.taken (byte ∷ []) ate.0);
      left_is = ate.2;
      counted = omega (arith, h.counted, n, length-append h.taken (byte ∷ []));
      serving = takes h.taken origin h.serving;
    }

-- what is read of an input, where a prefix of it is taken
pub input_taken : (taken rest : List ℕ) (count : ℕ) → 2 ^ 64 - 1 ≡ length taken + count →
    input_lines (taken ++ rest) ≡ lines_of (taken ++ take count rest)
input_taken taken rest count n = ap (λ k. lines_of (take k (taken ++ rest))) n
    ∙ ap lines_of (take-append-add taken rest count)

pub take_one : (b : ℕ) (after : List ℕ) (count count' : ℕ) → count' + 1 ≡ count →
    take count (b ∷ after) ≡ b ∷ take count' after
take_one b after zero count' n = absurd (omega (arith, n))
take_one b after (suc count) count' n = let same : count ≡ count' = omega (arith, n) in
    ap (λ k. b ∷ take k after) same

-- writing the text of the line in hand failed
pub midst_stops : (known left left' : Option (List ℕ)) (count count' byte : ℕ) (old : Session)
    (origin before behind : Option (List ℕ)) →
    Consumes left left' (byte ∷ []) → count' + 1 ≡ count → HasStopped byte old before behind →
    InMidst known left count old origin before →
    IfSome known (λ input. Gains origin behind (Stops (input_lines input)))
midst_stops None left left' count count' byte old origin before behind eats n takes h = tt
midst_stops (Some input) left left' count count' byte old origin before behind eats n takes h =
    let ate = consumed left left' byte h.rest h.left_is eats in
    let all : input_lines input ≡ lines_of (h.taken ++ byte ∷ take count' ate.0) =
    ap input_lines h.whole ∙ input_taken h.taken h.rest count h.counted
    ∙ ap (λ s. lines_of (h.taken ++ s))
    (ap (take count) ate.1 ∙ take_one byte ate.0 count count' n) in
    subst (λ (s : List (List ℕ)). Gains origin behind (Stops s)) (sym all)
    (takes h.taken origin h.serving (take count' ate.0))

-- reading failed
pub midst_begun : (known left : Option (List ℕ)) (count : ℕ) (session : Session)
    (origin now : Option (List ℕ)) → InMidst known left count session origin now →
    IfSome known (λ input. Gains origin now (Begins (input_lines input)))
midst_begun None left count session origin now h = tt
midst_begun (Some input) left count session origin now h =
    let s = h.serving in (
      concat s.texts,
      s.written,
      record {
        done = s.done;
        rest = onto s.front (lines_of (take count h.rest));
        texts = s.texts;
        family = session.family;
        first = ap input_lines h.whole ∙ input_taken h.taken h.rest count h.counted
            ∙ s.split (take count h.rest);
        run = s.run;
        all = refl;
      },
    )

-- at the end of input nothing is left
pub none_left : (left : Option (List ℕ)) (count : ℕ) (rest : List ℕ) → left ≡ Some rest →
    (0 < count → IsAtEnd left) → take count rest ≡ []
none_left left zero rest e h = refl
none_left None (suc k) rest e h = absurd (cc)
none_left (Some xs) (suc k) rest e h = let none : xs ≡ [] = h (omega arith) in let r : rest ≡ [] =
    cc in rw r refl

pub input_all : (input left_taken rest : List ℕ) (left : Option (List ℕ)) (count : ℕ) →
    input ≡ left_taken ++ rest → left ≡ Some rest → 2 ^ 64 - 1 ≡ length left_taken + count →
    (0 < count → IsAtEnd left) → input_lines input ≡ lines_of left_taken
input_all input taken rest left count whole e n ended =
    ap input_lines whole ∙ input_taken taken rest count n
    ∙ ap (λ s. lines_of (taken ++ s)) (none_left left count rest e ended)
    ∙ ap lines_of (append-nil taken)

-- all is taken
pub midst_serves : (served : Served) (known left : Option (List ℕ)) (count : ℕ) (old : Session)
    (origin before behind : Option (List ℕ)) →
    (0 < count → IsAtEnd left) → HasFinished served old before behind →
    InMidst known left count old origin before →
    IfSome known (λ input. Gains origin behind (Serves (input_lines input) served))
midst_serves served None left count old origin before behind ended finishes h = tt
midst_serves served (Some input) left count old origin before behind ended finishes h =
    let all = input_all input h.taken h.rest left count h.whole h.left_is h.counted ended in
    subst (λ (s : List (List ℕ)). Gains origin behind (Serves s served)) (sym all)
    (finishes h.taken origin h.serving)

pub midst_last : (known left : Option (List ℕ)) (count : ℕ) (old : Session)
    (origin before behind : Option (List ℕ)) →
    (0 < count → IsAtEnd left) → HasFailed old before behind →
    InMidst known left count old origin before →
    IfSome known (λ input. Gains origin behind (Stops (input_lines input)))
midst_last None left count old origin before behind ended finishes h = tt
midst_last (Some input) left count old origin before behind ended finishes h =
    let all = input_all input h.taken h.rest left count h.whole h.left_is h.counted ended in
    subst (λ (s : List (List ℕ)). Gains origin behind (Stops s)) (sym all)
    (finishes h.taken origin h.serving)

-- what a byte that was read says of the known bytes
pub eaten : {E : Type 0} (item : Result ℕ E) (left left' : Option (List ℕ)) (b : ℕ) → item ≡ Ok b →
    IfOk item (λ x. Consumes left left' (x ∷ [])) → Consumes left left' (b ∷ [])
eaten {E = E} item left left' b e h = IfOk-at_ok {E = E} (λ x. Consumes left left' (x ∷ [])) e h

-- writing that failed is told as that
pub told_as_write : (r : Result Served ServeError) (known origin now : Option (List ℕ)) →
    IsErrAnd r (λ error. error ≡ Write) →
    IfSome known (λ input. Gains origin now (Stops (input_lines input))) →
    IfErr r (λ error. IfSome known (λ input. Gains origin now (EndsBy error (input_lines input))))
told_as_write (Ok served) known origin now told h = absurd told
told_as_write (Err error) None origin now told h = tt
told_as_write (Err error) (Some input) origin now told h =
    subst (λ (e : ServeError). Gains origin now (EndsBy e (input_lines input))) (sym told) h

-- ---- a slice

-- what grew of known bytes
pub known_grew : (xs ys : List ℕ) (Is : List ℕ → Type 0) → Gains (Some xs) (Some ys) Is →
    (written : List ℕ) × (ys ≡ xs ++ written) × Is written
known_grew xs ys Is h = (h.0, h.1, h.2)

-- what a call that took a byte says where it did not fail, and where it failed
pub taken_ok : {T E : Type 0} (r : Result T E) (byte : ℕ) (old new : Session)
    (before behind : Option (List ℕ)) → is_err r ≡ false → Takes byte old new r before behind →
    HasTaken byte old new before behind
taken_ok (Ok u) byte old new before behind ok takes = takes
taken_ok (Err e) byte old new before behind ok takes = absurd (cc)

pub taken_err : {T E : Type 0} (r : Result T E) (byte : ℕ) (old new : Session)
    (before behind : Option (List ℕ)) → is_err r ≡ true → Takes byte old new r before behind →
    HasStopped byte old before behind
taken_err (Ok u) byte old new before behind failed takes = absurd (cc)
taken_err (Err e) byte old new before behind failed takes = takes

-- the next byte of a slice is taken
pub slice_byte : (input : List ℕ) (i : ℕ) (old new : Session)
    (origin before behind : Option (List ℕ)) → i < length input →
    HasTaken (get_or input i 0) old new before behind → Serving (take i input) old origin before →
    Serving (take (i + 1) input) new origin behind
slice_byte input i old new origin before behind l takes h =
    subst (λ (s : List ℕ). Serving s new origin behind) (sym (take_more input i 0 l))
    (takes (take i input) origin h)

-- writing failed at a byte of a slice
pub slice_stops : (input : List ℕ) (i : ℕ) (old : Session) (xs ys : List ℕ)
    (before : Option (List ℕ)) → i < length input →
    HasStopped (get_or input i 0) old before (Some ys) →
    Serving (take i input) old (Some xs) before →
    (written : List ℕ) × (ys ≡ xs ++ written) × Stops (lines_of input) written
slice_stops input i old xs ys before l stops h =
    let whole : take i input ++ get_or input i 0 ∷ drop (suc i) input ≡ input =
    ap (λ s. take i input ++ s) (sym (drop-cons input i 0 l)) ∙ take-append-drop i input in
    known_grew xs ys (Stops (lines_of input))
    (subst (λ (s : List ℕ). Gains (Some xs) (Some ys) (Stops (lines_of s))) whole
    (stops (take i input) (Some xs) h (drop (suc i) input)))

-- each byte of a slice is taken
pub slice_serves : (served : Served) (input : List ℕ) (i : ℕ) (old : Session) (xs ys : List ℕ)
    (before : Option (List ℕ)) → length input ≤ i →
    HasFinished served old before (Some ys) → Serving (take i input) old (Some xs) before →
    (written : List ℕ) × (ys ≡ xs ++ written) × Serves (lines_of input) served written
slice_serves served input i old xs ys before l finishes h =
    known_grew xs ys (Serves (lines_of input) served)
    (subst (λ (s : List ℕ). Gains (Some xs) (Some ys) (Serves (lines_of s) served))
    (take_all i input l) (finishes (take i input) (Some xs) h))

pub slice_last : (input : List ℕ) (i : ℕ) (old : Session) (xs ys : List ℕ)
    (before : Option (List ℕ)) → length input ≤ i →
    HasFailed old before (Some ys) → Serving (take i input) old (Some xs) before →
    (written : List ℕ) × (ys ≡ xs ++ written) × Stops (lines_of input) written
slice_last input i old xs ys before l fails h =
    known_grew xs ys (Stops (lines_of input))
    (subst (λ (s : List ℕ). Gains (Some xs) (Some ys) (Stops (lines_of s))) (take_all i input l)
    (fails (take i input) (Some xs) h))
