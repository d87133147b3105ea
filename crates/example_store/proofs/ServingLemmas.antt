-- A store serves lines, one after another.
use Rattle.std.proofs.Common.{inl, inr, ◌≡◌, ◌≢◌, ℕ, ◌≤◌, Bool, List, [], ◌∷◌, ◌++◌, take, length, refl, sym, ◌∙◌, ap, subst, arith, append_assoc, length-append}
use Rattle.std.proofs.lemmas.List.{append-nil, length-take, take_all}
use Rattle.std.proofs.lemmas.List.Elements.{All-append, All-cons, All-nil}
use Rattle.std.specs.Prelude.{◌⊎◌, ◌↔◌, All, IfSome, IsErrAnd, codes}
use Rattle.std.specs.declared.result.Result.{Result}
use Rattle.std.specs.declared.result.Result.TheVariants.{Ok, Err}
use Rattle.std.specs.List.{concat}
use Rattle.std.specs.Option.{option_map}
use Rattle.std.specs.declared.option.Option.{Option}
use Rattle.std.specs.declared.option.Option.TheVariants.{Some, None}
use Rattle.std.specs.Io.KnownBytes.{Appends, Keeps}
use Rattle.vtree_lines.specs.Grammar.{IsBad, IsLineOf}
use Rattle.vtree_lines.specs.Laws.{HasNoFeed}
use Rattle.vtree_lines.specs.Lines.{lines_of, onto_line}
use Rattle.vtree_lines.specs.Transcript.{HasBad}
use Rattle.vtree_lines.specs.Writing.{AppendsPart}
use Rattle.vtree_lines.proofs.KnownLemmas.{appends_nil, appends_twice}
use Rattle.vtree_lines.proofs.SessionLemmas.{lines_byte, transcript_more, concat_more}
use Rattle.example_store.specs.Input.{IsTaken, TakesLine}
use Rattle.example_store.specs.Kept.{Answered, Leads, answer_text}
use Rattle.example_store.specs.Log.{next_sum, entry, entries, sum_behind}
use Rattle.example_store.specs.Serving.{BreaksOff, DoesNotAsk, ServesLine, ServesLines, ServesUpTo}
use Rattle.example_store.specs.Stores.{AlsoTells, Answers, KeepsLine, State}
use Rattle.example_store.specs.declared.store.Pause.TheVariants.{End, Asked, Due}
use Rattle.example_store.specs.declared.store.ServeError.{ServeError}
use Rattle.example_store.specs.declared.store.ServeError.TheVariants.{Log}
use Rattle.example_store.proofs.AnswerLemmas.{answer_done}
use Rattle.example_store.proofs.KeptLemmas.{leads_more}
use Rattle.example_store.proofs.LogLemmas.{entries_more, sum_more}

-- ---- the next line of an input

line_first : (line rest : List ℕ) → HasNoFeed line →
    lines_of (line ++ 10 ∷ rest) ≡ line ∷ lines_of rest
line_first [] rest h = refl
line_first (b ∷ line) rest h = lines_byte b (line ++ 10 ∷ rest) h.0
    ∙ ap (onto_line b) (line_first line rest h.1)

line_alone : (b : ℕ) (line : List ℕ) → HasNoFeed (b ∷ line) →
    lines_of (b ∷ line) ≡ (b ∷ line) ∷ []
line_alone b [] h = lines_byte b [] h.0
line_alone b (c ∷ line) h = lines_byte b (c ∷ line) h.0 ∙ ap (onto_line b) (line_alone c line h.1)

last_alone : (line : List ℕ) → HasNoFeed line → line ≢ [] → lines_of line ≡ line ∷ []
last_alone [] h some = absurd (some refl)
last_alone (b ∷ line) h some = line_alone b line h

taken_first : (input line rest : List ℕ) → IsTaken input line rest →
    lines_of input ≡ line ∷ lines_of rest
taken_first input line rest h = elim h.split [
  | inl ended ↦ ap lines_of ended ∙ line_first line rest h.feedless
  | inr last ↦ ap lines_of last.0 ∙ last_alone line h.feedless last.1
      ∙ ap (λ s. line ∷ lines_of s) (sym last.2)
]

-- ---- a line of which 201 bytes are looked at

whole : (line : List ℕ) → length (take 201 line) ≤ 200 → take 201 line ≡ line
whole line short = take_all 201 line (omega (arith, short, length-take 201 line))

-- bad lines tell the same
bad_cut : (line : List ℕ) (before behind : Bool) → IsBad (take 201 line) → IsBad line →
    AlsoTells (take 201 line ∷ []) before behind → AlsoTells (line ∷ []) before behind
bad_cut line before behind cut bad told = (
  (λ e. inr (inl bad)),
  (λ h. told.1 (inr (inl cut))),
)

cut_bad : (line : List ℕ) → IsBad (take 201 line) → IsBad line
cut_bad line bad = λ c is. bad c (subst (λ (s : List ℕ). IsLineOf s c)
    (sym (take_all 201 line (omega (arith, is.0)))) is)

answers_cut : (line : List ℕ) (old new : State) (answer : Answered) →
    Answers (take 201 line) old new answer → Answers line old new answer
answers_cut line old new answer h =
    elim h.gives [
      | inr good ↦ subst (λ (s : List ℕ). Answers s old new answer) (whole line good.2.0) h
      | inl bad ↦ record {
        gives = inl (cut_bad line bad.0, bad.1, bad.2);
        kept = λ keep. subst (λ (s : List ℕ). KeepsLine s old new)
            (whole line (h.kept keep).kept.says.0) (h.kept keep);
        left = h.left;
        told = bad_cut line old.has_bad new.has_bad bad.0 (cut_bad line bad.0) h.told;
      }
    ]

line_cut : (line : List ℕ) (old new : State) (out written : Option (List ℕ)) →
    ServesLine (take 201 line) old new out written → ServesLine line old new out written
line_cut line old new out written h = (h.0, answers_cut line old new h.0 h.1, h.2)

-- ---- one more line

-- no lines tell nothing
tells_none : (has_bad : Bool) → AlsoTells [] has_bad has_bad
tells_none has_bad = (
  (λ e. inl e),
  (λ h. elim h [
    | inl e ↦ e
    | inr none ↦ absurd none
  ]),
)

bad_more : (lines : List (List ℕ)) (line : List ℕ) →
    HasBad (lines ++ line ∷ []) ↔ (HasBad lines ⊎ HasBad (line ∷ []))
bad_more [] line = (
  (λ h. inr h),
  (λ h. elim h [
    | inl none ↦ absurd none
    | inr has ↦ has
  ]),
)
bad_more (l ∷ lines) line = (
  (λ h. elim h [
    | inl is ↦ inl (inl is)
    | inr has ↦ elim ((bad_more lines line).0 has) [
      | inl first ↦ inl (inr first)
      | inr last ↦ inr last
    ]
  ]),
  (λ h. elim h [
    | inl first ↦ elim first [
      | inl is ↦ inl is
      | inr has ↦ inr ((bad_more lines line).1 (inl has))
    ]
    | inr last ↦ inr ((bad_more lines line).1 (inr last))
  ]),
)

tells_more : (lines : List (List ℕ)) (line : List ℕ) (before mid behind : Bool) →
    AlsoTells lines before mid → AlsoTells (line ∷ []) mid behind →
    AlsoTells (lines ++ line ∷ []) before behind
tells_more lines line before mid behind h k = (
  (λ e. elim (k.0 e) [
    | inr last ↦ inr ((bad_more lines line).1 (inr last))
    | inl was ↦ elim (h.0 was) [
      | inl first ↦ inl first
      | inr has ↦ inr ((bad_more lines line).1 (inl has))
    ]
  ]),
  (λ x. elim x [
    | inl first ↦ k.1 (inl (h.1 (inl first)))
    | inr has ↦ elim ((bad_more lines line).0 has) [
      | inl one ↦ k.1 (inl (h.1 (inr one)))
      | inr last ↦ k.1 (inr last)
    ]
  ]),
)

serves_none : (store : State) (out : Option (List ℕ)) → ServesLines [] store store out out
serves_none store out = record {
  texts = [];
  run = refl;
  wrote = appends_nil out;
  told = tells_none store.has_bad;
  kept = [];
  leads = refl;
  sum = refl;
  counted = omega arith;
  gained = appends_nil store.log;
}

appends_kept : (a b c : Option (List ℕ)) (x : List ℕ) → Appends a b x → Keeps b c → Appends a c x
appends_kept None b c x h k = tt
appends_kept (Some xs) None c x h k = absurd h
appends_kept (Some xs) (Some ys) None x h k = absurd k
appends_kept (Some xs) (Some ys) (Some zs) x h k = k ∙ h

serves_more : (lines : List (List ℕ)) (line : List ℕ) (old mid new : State)
    (first out written : Option (List ℕ)) → ServesLines lines old mid first out →
    ServesLine line mid new out written → ServesLines (lines ++ line ∷ []) old new first written
serves_more lines line old mid new first out written h (answer, k, wrote) =
    let text = answer_text answer.reply in
    let run = transcript_more old.family lines h.texts mid.family new.family line text h.run
    k.gives in
    let all = subst (Appends first written) (sym (concat_more h.texts text))
    (appends_twice first out written (concat h.texts) text h.wrote wrote) in
    let told = tells_more lines line old.has_bad mid.has_bad new.has_bad h.told k.told in
    elim (answer_done line mid new answer k) [
      | inl keeps ↦ record {
        texts = h.texts ++ text ∷ [];
        run = run;
        wrote = all;
        told = told;
        kept = h.kept ++ line ∷ [];
        leads = leads_more old.family h.kept mid.family new.family line h.leads keeps.kept;
        sum = keeps.sum ∙ ap (λ s. next_sum s line) h.sum ∙ sym (sum_more old.sum h.kept line);
        counted = omega (arith, keeps.counted, h.counted, length-append h.kept (line ∷ []));
        gained = subst (Appends old.log new.log) (sym (entries_more old.sum h.kept line))
            (appends_twice old.log mid.log new.log (entries old.sum h.kept)
            (entry (sum_behind old.sum h.kept) line) h.gained
            (subst (λ (s : List ℕ). Appends mid.log new.log (entry s line)) h.sum keeps.gained));
      }
      | inr leaves ↦ record {
        texts = h.texts ++ text ∷ [];
        run = run;
        wrote = all;
        told = told;
        kept = h.kept;
        leads = subst (Leads old.family h.kept) (sym leaves.family) h.leads;
        sum = leaves.sum ∙ h.sum;
        counted = leaves.counted ∙ h.counted;
        gained = appends_kept old.log mid.log new.log (entries old.sum h.kept) h.gained leaves.same;
      }
    ]

-- ---- in the midst of an input

-- Some first lines of an input are served, none of which asks for a checkpoint, and the rest is
-- left.
pub record Midst (input : List ℕ) (left : Option (List ℕ)) (old new : State)
    (out written : Option (List ℕ)) : Type 0 where
  pub lines : List (List ℕ)
  pub rest : List ℕ
  pub split : lines_of input ≡ lines ++ lines_of rest
  pub left_is : left ≡ Some rest
  pub unasked : All DoesNotAsk lines
  pub served : ServesLines lines old new out written

pub midst_none : (known : Option (List ℕ)) (store : State) (out : Option (List ℕ)) →
    IfSome known (λ input. Midst input known store store out out)
midst_none None store out = tt
midst_none (Some input) store out = record {
  lines = [];
  rest = input;
  split = refl;
  left_is = refl;
  unasked = All-nil DoesNotAsk;
  served = serves_none store out;
}

-- what was taken of the bytes that were left
taken_of : (rest : List ℕ) (left : Option (List ℕ)) (looked : Option (List ℕ))
    (now : Option (List ℕ)) → left ≡ Some rest → IfSome left (λ input. TakesLine input looked now) →
    TakesLine rest looked now
taken_of rest (Some xs) looked now e h = subst (λ (s : List ℕ). TakesLine s looked now) (cc) h
taken_of rest None looked now e h = absurd (cc)

midst_line : (known left now : Option (List ℕ)) (front : List ℕ) (old mid new : State)
    (first out written : Option (List ℕ)) →
    IfSome known (λ input. Midst input left old mid first out) →
    IfSome left (λ input. TakesLine input (Some front) now) → front ≢ codes "checkpoint" →
    ServesLine front mid new out written →
    IfSome known (λ input. Midst input now old new first written)
midst_line None left now front old mid new first out written h t other k = tt
midst_line (Some input) left now front old mid new first out written h t other k =
    let (line, rest, left_is, cut, taken) = taken_of h.rest left (Some front) now h.left_is t in
    record {
      lines = h.lines ++ line ∷ [];
      rest = rest;
      split = h.split ∙ ap (λ s. h.lines ++ s) (taken_first h.rest line rest taken)
          ∙ sym (append_assoc h.lines (line ∷ []) (lines_of rest));
      left_is = left_is;
      unasked = All-append DoesNotAsk h.lines (line ∷ []) h.unasked
          (All-cons DoesNotAsk line [] (λ e. other (cut ∙ ap (take 201) e)) (All-nil DoesNotAsk));
      served = serves_more h.lines line old mid new first out written h.served
          (line_cut line mid new out written
          (subst (λ (s : List ℕ). ServesLine s mid new out written) cut k));
    }

-- the line that was looked at, which is some one
pub looked_at : {V : Type 0} (items : V → List ℕ) (line : Option V) (some : V)
    (left now : Option (List ℕ)) → line ≡ Some some →
    IfSome left (λ input. TakesLine input (option_map items line) now) →
    IfSome left (λ input. TakesLine input (Some (items some)) now)
looked_at {V} items line some left now e h =
    subst (λ (s : Option V). IfSome left (λ input. TakesLine input (option_map items s) now)) e h

pub midst_next : (known left now : Option (List ℕ)) (text front : List ℕ) (old mid new : State)
    (first out written : Option (List ℕ)) →
    IfSome known (λ input. Midst input left old mid first out) →
    IfSome left (λ input. TakesLine input (Some front) now) → text ≡ front →
    text ≢ codes "checkpoint" → ServesLine text mid new out written →
    IfSome known (λ input. Midst input now old new first written)
midst_next known left now text front old mid new first out written h t e other k =
    midst_line known left now front old mid new first out written h t (λ f. other (e ∙ f))
    (subst (λ (s : List ℕ). ServesLine s mid new out written) e k)

-- ---- a pause

pub midst_end : (known left now : Option (List ℕ)) (old new : State)
    (first written : Option (List ℕ)) →
    IfSome known (λ input. Midst input left old new first written) →
    IfSome left (λ input. TakesLine input None now) →
    IfSome known (λ input. ServesUpTo End input now old new first written)
midst_end None left now old new first written h t = tt
midst_end (Some input) left now old new first written h t =
    let (none, ends) = taken_of h.rest left None now h.left_is t in
    record {
      lines = h.lines;
      rest = [];
      left_is = ends;
      up_to = (h.split ∙ ap (λ s. h.lines ++ lines_of s) none ∙ append-nil h.lines, refl);
      unasked = h.unasked;
      served = h.served;
    }

pub midst_due : (known left : Option (List ℕ)) (old new : State)
    (first written : Option (List ℕ)) →
    IfSome known (λ input. Midst input left old new first written) →
    IfSome known (λ input. ServesUpTo Due input left old new first written)
midst_due None left old new first written h = tt
midst_due (Some input) left old new first written h = record {
  lines = h.lines;
  rest = h.rest;
  left_is = h.left_is;
  up_to = h.split;
  unasked = h.unasked;
  served = h.served;
}

-- a line of which so few bytes are looked at is looked at whole
asks : (front line : List ℕ) → front ≡ codes "checkpoint" → front ≡ take 201 line →
    line ≡ codes "checkpoint"
asks front line is cut = sym (whole line (omega (arith, ap length (sym cut ∙ is)))) ∙ sym cut ∙ is

pub midst_asked : (known left now : Option (List ℕ)) (front : List ℕ) (old new : State)
    (first written : Option (List ℕ)) →
    IfSome known (λ input. Midst input left old new first written) →
    IfSome left (λ input. TakesLine input (Some front) now) → front ≡ codes "checkpoint" →
    IfSome known (λ input. ServesUpTo Asked input now old new first written)
midst_asked None left now front old new first written h t is = tt
midst_asked (Some input) left now front old new first written h t is =
    let (line, rest, left_is, cut, taken) = taken_of h.rest left (Some front) now h.left_is t in
    record {
      lines = h.lines;
      rest = rest;
      left_is = left_is;
      up_to = h.split ∙ ap (λ s. h.lines ++ s) (taken_first h.rest line rest taken
          ∙ ap (λ s. s ∷ lines_of rest) (asks front line is cut));
      unasked = h.unasked;
      served = h.served;
    }

-- ---- a log that could not be written

pub midst_broken : (known left now : Option (List ℕ)) (text front : List ℕ) (old mid new : State)
    (first out written : Option (List ℕ)) →
    IfSome known (λ input. Midst input left old mid first out) →
    IfSome left (λ input. TakesLine input (Some front) now) → text ≡ front →
    AppendsPart mid.log new.log (entry mid.sum text) → written ≡ out →
    IfSome known (λ input. BreaksOff input old new first written)
midst_broken None left now text front old mid new first out written h t e k same = tt
midst_broken (Some input) left now text front old mid new first out written h t e k same =
    let (line, rest, left_is, cut, taken) = taken_of h.rest left (Some front) now h.left_is t in
    record {
      lines = h.lines;
      line = line;
      rest = rest;
      mid = mid;
      split = h.split ∙ ap (λ s. h.lines ++ s) (taken_first h.rest line rest taken);
      unasked = h.unasked;
      served = subst (ServesLines h.lines old mid first) (sym same) h.served;
      part = subst (λ (s : List ℕ). AppendsPart mid.log new.log (entry mid.sum s)) (e ∙ cut) k;
    }

-- an error that is handed on
pub error_same : {S : Type 0} (r : Result S ServeError) (e : ServeError) →
    IsErrAnd r (λ x. x ≡ e) → r ≡ Err Log → e ≡ Log
error_same (Ok it) e is told = absurd is
error_same (Err x) e is told = cc
