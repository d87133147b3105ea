-- A session in the midst of an input, and what comes after.
use Rattle.std.proofs.Common.{inl, inr, ◌≡◌, ◌≢◌, ℕ, ◌≤◌, ◌<◌, List, [], ◌∷◌, ◌++◌, take, length, sym, ◌∙◌, ap, refl, arith, min, length-append, append_assoc, subst}
use Rattle.std.proofs.lemmas.List.{append-nil, take_all, take-append-le, length-take}
use Rattle.std.proofs.lemmas.Bool.{ne_eqb}
use Rattle.std.specs.Prelude.{OnOk, OnErr, IsOk, IsErr, ◌^◌, ◌-◌}
use Rattle.std.specs.List.{concat}
use Rattle.std.specs.declared.result.Result.{Result}
use Rattle.std.specs.declared.result.Result.TheVariants.{Ok, Err}
use Rattle.std.specs.declared.option.Option.{Option}
use Rattle.std.specs.declared.option.Option.TheVariants.{Some, None}
use Rattle.std.specs.Io.KnownBytes.{Appends}
use Rattle.rart_family.specs.Families.{Family}
use Rattle.rart_family.specs.Replies.{Reply}
use Rattle.vtree_lines.specs.declared.session.Session.{Session}
use Rattle.vtree_lines.specs.declared.served.Served.{Served}
use Rattle.vtree_lines.specs.declared.served.Served.TheVariants.{Clean, BadLine}
use Rattle.vtree_lines.specs.Lines.{lines_of, onto_line, words}
use Rattle.vtree_lines.specs.Grammar.{Said, Says, IsLineOf, IsBad}
use Rattle.vtree_lines.specs.ReplyTexts.{reply_line}
use Rattle.vtree_lines.specs.Reading.{Reads}
use Rattle.vtree_lines.specs.Writing.{AppendsPart}
use Rattle.vtree_lines.specs.Transcript.{Replies, LineGives, Transcript, HasBad, Tells, Serves, Stops, Gains}
use Rattle.vtree_lines.specs.Sessions.{IsReading, Ends, EndsLine, Commands, onto, Serving, Takes, Finishes}
use Rattle.vtree_lines.proofs.KnownLemmas.{appends_nil, appends_twice}

-- one more byte goes onto the first line
pub onto_more : (front : List ℕ) (byte : ℕ) (lines : List (List ℕ)) →
    onto (front ++ byte ∷ []) lines ≡ onto front (onto_line byte lines)
onto_more [] byte lines = refl
onto_more (a ∷ front) byte lines = ap (onto_line a) (onto_more front byte lines)

-- the line ends
pub onto_end : (front : List ℕ) (lines : List (List ℕ)) → onto front ([] ∷ lines) ≡ front ∷ lines
onto_end [] lines = refl
onto_end (a ∷ front) lines = ap (onto_line a) (onto_end front lines)

-- the last line, with no line feed
pub onto_last : (a : ℕ) (front : List ℕ) → onto (a ∷ front) [] ≡ (a ∷ front) ∷ []
onto_last a [] = refl
onto_last a (b ∷ front) = ap (onto_line a) (onto_last b front)

-- the first n of a list that grows, kept in a vector of n at most
pub take_grown : {E V : Type 0} (r : Result (Unit {0}) E) (n : ℕ) (front : List ℕ) (b : ℕ)
    (old new : V) (items : V → List ℕ) → items old ≡ take n front →
    (IsOk r → length (items old) < n) → OnOk r (items new ≡ items old ++ b ∷ []) →
    OnErr r (new ≡ old) → OnErr r (length (items old) ≡ n) → items new ≡ take n (front ++ b ∷ [])
take_grown (Ok u) n front b old new items e room ok err full =
    let l : length (items old) < n = room refl in
    let k : length front < n = omega (arith, ap length e, length-take n front) in
    ok ∙ ap (λ s. s ++ b ∷ []) (e ∙ take_all n front (omega arith))
    ∙ sym (take_all n (front ++ b ∷ []) (omega (arith, length-append front (b ∷ []))))
take_grown (Err x) n front b old new items e room ok err full =
    let k : n ≤ length front = omega (arith, ap length e, length-take n front, full) in
    ap items err ∙ e ∙ sym (take-append-le n front (b ∷ []) k)

-- a transcript goes on by one line
pub transcript_more : (old : Family ℕ) (lines texts : List (List ℕ)) (mid new : Family ℕ)
    (line text : List ℕ) → Transcript old lines texts mid → LineGives mid line text new →
    Transcript old (lines ++ line ∷ []) (texts ++ text ∷ []) new
transcript_more old [] [] mid new line text h k =
    (new, subst (λ (f : Family ℕ). LineGives f line text new) h k, refl)
transcript_more old [] (t ∷ texts) mid new line text h k = absurd h
transcript_more old (l ∷ lines) [] mid new line text h k = absurd h
transcript_more old (l ∷ lines) (t ∷ texts) mid new line text h k =
    (h.0, h.1, transcript_more h.0 lines texts mid new line text h.2 k)

pub concat_more : (texts : List (List ℕ)) (text : List ℕ) →
    concat (texts ++ text ∷ []) ≡ concat texts ++ text
concat_more [] text = append-nil text
concat_more (t ∷ texts) text = ap (λ s. t ++ s) (concat_more texts text)
    ∙ sym (append_assoc t (concat texts) text)

-- a line that ended gave its text
pub gives : (line : List ℕ) (old new : Session) (text : List ℕ) → Ends line old new text →
    LineGives old.family line text new.family
gives line old new text (inl bad) = inl bad.0
gives line old new text (inr good) = inr good.0

-- one more line, a bad one
pub bad_more : (lines : List (List ℕ)) (line : List ℕ) → IsBad line → HasBad (lines ++ line ∷ [])
bad_more [] line bad = inl bad
bad_more (l ∷ lines) line bad = inr (bad_more lines line bad)

-- a bad one among them stays
pub bad_stays : (lines : List (List ℕ)) (line : List ℕ) → HasBad lines → HasBad (lines ++ line ∷ [])
bad_stays [] line h = absurd h
bad_stays (l ∷ lines) line (inl bad) = inl bad
bad_stays (l ∷ lines) line (inr more) = inr (bad_stays lines line more)

-- a good one behind them is none
pub bad_before : (lines : List (List ℕ)) (line : List ℕ) → (IsBad line → ⊥) →
    HasBad (lines ++ line ∷ []) → HasBad lines
bad_before [] line good (inl bad) = good bad
bad_before [] line good (inr more) = more
bad_before (l ∷ lines) line good (inl bad) = inl bad
bad_before (l ∷ lines) line good (inr more) = inr (bad_before lines line good more)

tells_more : (served : Served) (lines : List (List ℕ)) (line : List ℕ) → (IsBad line → ⊥) →
    Tells served lines → Tells served (lines ++ line ∷ [])
tells_more Clean lines line good h = λ bad. h (bad_before lines line good bad)
tells_more BadLine lines line good h = bad_stays lines line h

pub tells_next : (lines : List (List ℕ)) (line : List ℕ) (old new : Session) (text : List ℕ) →
    Ends line old new text → Tells old.served lines → Tells new.served (lines ++ line ∷ [])
tells_next lines line old new text (inl bad) h =
    subst (λ (s : Served). Tells s (lines ++ line ∷ [])) (sym bad.1) (bad_more lines line bad.0.0)
tells_next lines line old new text (inr good) h =
    subst (λ (s : Served). Tells s (lines ++ line ∷ [])) (sym good.1)
    (tells_more old.served lines line (λ bad. bad good.0.0 good.0.2) h)

-- the bytes in hand, with one more
pub taken_byte : (taken rest : List ℕ) (byte : ℕ) →
    (taken ++ byte ∷ []) ++ rest ≡ taken ++ byte ∷ rest
taken_byte taken rest byte = append_assoc taken (byte ∷ []) rest

pub lines_byte : (byte : ℕ) (rest : List ℕ) → byte ≢ 10 →
    lines_of (byte ∷ rest) ≡ onto_line byte (lines_of rest)
lines_byte byte rest other = rw (ne_eqb byte 10 other) refl

-- nothing is taken yet
pub serving_begins : (session : Session) (known : Option (List ℕ)) → session.family ≡ [] →
    session.served ≡ Clean → session.line.items ≡ [] → session.length ≡ 0 →
    Serving [] session known known
serving_begins session known none clean line empty = record {
  done = [];
  front = [];
  texts = [];
  split = λ rest. refl;
  run = none;
  status = subst (λ (s : Served). Tells s []) (sym clean) (λ bad. bad);
  written = appends_nil known;
  reading = record { kept = line; counted = empty };
}

-- a byte of the line is taken
pub serving_byte : (taken : List ℕ) (byte : ℕ) (old new : Session)
    (origin before behind : Option (List ℕ)) → before ≡ behind → byte ≢ 10 →
    new.family ≡ old.family → new.served ≡ old.served →
    ((front : List ℕ) → IsReading old front → IsReading new (front ++ byte ∷ [])) →
    Serving taken old origin before → Serving (taken ++ byte ∷ []) new origin behind
serving_byte taken byte old new origin before behind same other family served reads h = record {
  done = h.done;
  front = h.front ++ byte ∷ [];
  texts = h.texts;
  split = λ rest. ap lines_of (taken_byte taken rest byte) ∙ h.split (byte ∷ rest)
      ∙ ap (λ s. h.done ++ onto h.front s) (lines_byte byte rest other)
      ∙ ap (λ s. h.done ++ s) (sym (onto_more h.front byte (lines_of rest)));
  run = subst (λ (f : Family ℕ). Transcript [] h.done h.texts f) (sym family) h.run;
  status = subst (λ (s : Served). Tells s h.done) (sym served) h.status;
  written = subst (λ (s : Option (List ℕ)). Appends origin s (concat h.texts)) same h.written;
  reading = reads h.front h.reading;
}

-- the lines, where a line feed ends the one in hand
pub split_feed : (taken rest : List ℕ) (session : Session) (origin now : Option (List ℕ))
    (h : Serving taken session origin now) →
    lines_of (taken ++ 10 ∷ rest) ≡ h.done ++ h.front ∷ lines_of rest
split_feed taken rest session origin now h = h.split (10 ∷ rest)
    ∙ ap (λ s. h.done ++ s) (onto_end h.front (lines_of rest))

-- the line in hand was ended, and of its text this is written
abbrev pub EndsWith : Session → Session → (List ℕ → Type 0) → Type 0
EndsWith old new Wrote = (line : List ℕ) → IsReading old line →
    (text : List ℕ) × Ends line old new text × Wrote text

-- the line in hand was ended, and its text written
pub serving_line : (taken : List ℕ) (old new : Session) (origin before behind : Option (List ℕ)) →
    EndsWith old new (Appends before behind) → IsReading new [] →
    Serving taken old origin before → Serving (taken ++ 10 ∷ []) new origin behind
serving_line taken old new origin before behind ends reading h =
    let (text, ended, wrote) = ends h.front h.reading in
    record {
      done = h.done ++ h.front ∷ [];
      front = [];
      texts = h.texts ++ text ∷ [];
      split = λ rest. ap lines_of (taken_byte taken rest 10)
          ∙ split_feed taken rest old origin before h
          ∙ sym (append_assoc h.done (h.front ∷ []) (lines_of rest));
      run = transcript_more [] h.done h.texts old.family new.family h.front text h.run
          (gives h.front old new text ended);
      status = tells_next h.done h.front old new text ended h.status;
      written = subst (λ (s : List ℕ). Appends origin behind s) (sym (concat_more h.texts text))
          (appends_twice origin before behind (concat h.texts) text h.written wrote);
      reading = reading;
    }

-- the text of the line in hand was not written whole
pub stops_line : (taken : List ℕ) (old new : Session) (origin before behind : Option (List ℕ)) →
    EndsWith old new (AppendsPart before behind) →
    Serving taken old origin before → (lines rest : List (List ℕ)) →
    ((h : Serving taken old origin before) → lines ≡ h.done ++ h.front ∷ rest) →
    Gains origin behind (Stops lines)
stops_line taken old new origin before behind ends h lines rest are =
    let (text, ended, wrote) = ends h.front h.reading in (
      concat h.texts ++ wrote.part,
      appends_twice origin before behind (concat h.texts) wrote.part h.written wrote.appended,
      record {
        done = h.done;
        line = h.front;
        rest = rest;
        texts = h.texts;
        mid = old.family;
        text = text;
        new = new.family;
        prefix = wrote.part;
        lost = wrote.rest;
        first = are h;
        run = h.run;
        last = gives h.front old new text ended;
        part = wrote.whole;
        all = refl;
      },
    )

-- what a call that ends a line makes of a session, where the byte is a line feed
pub takes_feed : {T E : Type 0} (result : Result T E) (byte : ℕ) (old new : Session)
    (before behind : Option (List ℕ)) → byte ≡ 10 → EndsLine old new result before behind →
    IsReading new [] → Takes byte old new result before behind
takes_feed (Ok u) byte old new before behind feed ends reading =
    λ taken origin h. subst (λ (b : ℕ). Serving (taken ++ b ∷ []) new origin behind) (sym feed)
    (serving_line taken old new origin before behind ends reading h)
takes_feed (Err e) byte old new before behind feed ends reading = λ taken origin h rest.
    subst (λ (b : ℕ). Gains origin behind (Stops (lines_of (taken ++ b ∷ rest)))) (sym feed)
    (stops_line taken old new origin before behind ends h (lines_of (taken ++ 10 ∷ rest))
    (lines_of rest) (λ k. split_feed taken rest old origin before k))

-- the bytes that were taken are all
pub split_all : (taken : List ℕ) (session : Session) (origin now : Option (List ℕ))
    (h : Serving taken session origin now) → lines_of taken ≡ h.done ++ onto h.front []
split_all taken session origin now h = ap lines_of (sym (append-nil taken)) ∙ h.split []

pub front_none : (front : List ℕ) → min (length front) (2 ^ 64 - 1) ≡ 0 → front ≡ []
front_none [] e = refl
front_none (a ∷ front) e = absurd (omega (arith, e))

pub front_some : (front : List ℕ) → 0 < min (length front) (2 ^ 64 - 1) → onto front [] ≡ front ∷ []
front_some [] h = absurd (omega (arith, h))
front_some (a ∷ front) h = onto_last a front

-- each line that was taken is served
pub serves_all : (taken : List ℕ) (session : Session) (origin now : Option (List ℕ)) →
    session.length ≤ 0 → Serving taken session origin now →
    Gains origin now (Serves (lines_of taken) session.served)
serves_all taken session origin now none h =
    let bare : h.front ≡ [] = front_none h.front (sym h.reading.counted ∙ omega (arith, none)) in
    let all : lines_of taken ≡ h.done = split_all taken session origin now h
    ∙ ap (λ s. h.done ++ onto s []) bare ∙ append-nil h.done in (
      concat h.texts,
      h.written,
      record {
        texts = h.texts;
        family = session.family;
        run = subst (λ (s : List (List ℕ)). Transcript [] s h.texts session.family) (sym all) h.run;
        all = refl;
        status = subst (λ (s : List (List ℕ)). Tells session.served s) (sym all) h.status;
      },
    )

-- the last line, which has no line feed
pub split_last : (taken : List ℕ) (session : Session) (origin now : Option (List ℕ)) →
    0 < session.length → (h : Serving taken session origin now) →
    lines_of taken ≡ h.done ++ h.front ∷ []
split_last taken session origin now some h = split_all taken session origin now h
    ∙ ap (λ s. h.done ++ s) (front_some h.front (subst (λ (n : ℕ). 0 < n) h.reading.counted some))

pub serves_last : (taken : List ℕ) (old new : Session) (origin before behind : Option (List ℕ)) →
    0 < old.length → EndsWith old new (Appends before behind) →
    Serving taken old origin before → Gains origin behind (Serves (lines_of taken) new.served)
serves_last taken old new origin before behind some ends h =
    let (text, ended, wrote) = ends h.front h.reading in
    let all : lines_of taken ≡ h.done ++ h.front
    ∷ [] = split_last taken old origin before some h in (
      concat h.texts ++ text,
      appends_twice origin before behind (concat h.texts) text h.written wrote,
      record {
        texts = h.texts ++ text ∷ [];
        family = new.family;
        run = subst (λ (s : List (List ℕ)). Transcript [] s (h.texts ++ text ∷ []) new.family)
            (sym all)
            (transcript_more [] h.done h.texts old.family new.family h.front text h.run
            (gives h.front old new text ended));
        all = sym (concat_more h.texts text);
        status = subst (λ (s : List (List ℕ)). Tells new.served s) (sym all)
            (tells_next h.done h.front old new text ended h.status);
      },
    )

pub stops_last : (taken : List ℕ) (old new : Session) (origin before behind : Option (List ℕ)) →
    0 < old.length → EndsWith old new (AppendsPart before behind) →
    Serving taken old origin before → Gains origin behind (Stops (lines_of taken))
stops_last taken old new origin before behind some ends h =
    stops_line taken old new origin before behind ends h (lines_of taken) []
    (λ k. split_last taken old origin before some k)

-- a call that returns early, as writing the last line's text failed
pub finishes_early : {E : Type 0} (result : Result Served E) (old new : Session)
    (before behind : Option (List ℕ)) → IsErr result → old.length ≢ 0 →
    EndsWith old new (AppendsPart before behind) → Finishes old result before behind
finishes_early (Ok u) old new before behind failed some ends = absurd (cc)
finishes_early (Err x) old new before behind failed some ends =
    λ taken origin h. stops_last taken old new origin before behind (omega (arith, some)) ends h

-- ---- the command of a line, and its reply

-- a line of at most 200 bytes is kept whole
pub kept_line : (session : Session) (line : List ℕ) → IsReading session line →
    session.length ≤ 200 → (session.line.items ≡ line) × (length line ≤ 200)
kept_line session line reading short =
    let l : length line ≤ 200 = omega (arith, reading.counted, short) in
    (reading.kept ∙ take_all 200 line l, l)

-- what is read of the bytes of a line
pub read_line : {C : Type 0} (view : C → Said) (session : Session) (line text : List ℕ)
    (answer : Option C) → text ≡ session.line.items → IsReading session line →
    session.length ≤ 200 → Reads view answer (λ said. Says said (words text)) →
    Commands view line answer
read_line view session line text None e reading short none = λ said is.
    none said (subst (λ (s : List ℕ). Says said (words s))
    (sym (e ∙ (kept_line session line reading short).0)) is.1)
read_line view session line text (Some made) e reading short says =
    let kept = kept_line session line reading short in
    (kept.1, subst (λ (s : List ℕ). Says (view made) (words s)) (e ∙ kept.0) says)

-- a good line's reply is its text
pub ends_good : (line : List ℕ) (old new : Session) (said : Said) (reply : Reply ℕ) →
    IsLineOf line said → Replies old.family said reply new.family → new.served ≡ old.served →
    Ends line old new (reply_line reply)
ends_good line old new said reply is replies same = inr ((said, reply, is, replies, refl), same)
