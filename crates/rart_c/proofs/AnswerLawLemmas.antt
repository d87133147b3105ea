-- What the answers tell.
use Rattle.std.proofs.Common.{◌≡◌, ◌+◌, ◌<◌, ◌==◌, ◌++◌, ◌⊎◌, ◌∙◌, ℕ, zero, suc, List, [], ◌∷◌, Some, None, cond, inl, inr, length, take, drop, refl, sym, ap, subst, arith, ⊎_elim}
use Rattle.std.proofs.Math.Seq.{take-append_seam, drop-append_seam}
use Rattle.std.proofs.lemmas.Bool.{cases_lt}
use Rattle.std.proofs.lemmas.Option.{none-some, same_Some}
use Rattle.std.proofs.lemmas.List.{append_assoc, length-append, take-append-drop}
use Rattle.rart_c.specs.AnswerLaws.{AnswersTell, ReadsTell, FirstsTell, FirstStringsTell, RefusalsTell, EqualityTells, PagesTell, PageAnswersTell, first_of, pairs_shown}
use Rattle.rart_c.specs.Pages.{IsFull, entries_from, keys_of}
use Rattle.rart_c.specs.declared.answer.TheConstants.{DONE}
use Rattle.rart_c.specs.declared.paging.RartEntry.{RartEntry}

pub answers_tell : (X : Type 0) → AnswersTell X
answers_tell X None answer before after told = (
  sym (ap (λ number. cond (number == DONE) (Some after) None) told.0),
  λ _. told.1,
  inr told.0,
)
answers_tell X (Some x) answer before after told = (
  ap (λ y. Some y) (sym told.1)
      ∙ sym (ap (λ number. cond (number == DONE) (Some after) None) told.0),
  λ absent. absurd (omega (arith, told.0, absent)),
  inl told.0,
)

pub reads_tell : ReadsTell
reads_tell None answer before after told = (
  λ done. absurd (omega (arith, told.0, done)),
  λ absent. (refl, told.1),
  λ small. absurd (omega (arith, told.0, small)),
  ap (λ p. drop after.1 p.0) told.1,
  inr (inl told.0),
)
reads_tell (Some bytes) answer before after told = (
  λ done. ⊎_elim
      (λ whole. ap (λ all. Some all) (sym (take-append_seam bytes (drop (length bytes) before.0))
      ∙ (λ i. take (sym told.0 i) (sym whole.2 i))))
      (λ none. absurd (omega (arith, none.0, done))) told.1,
  λ absent. absurd (⊎_elim (λ whole. omega (arith, whole.0, absent))
      (λ none. omega (arith, none.0, absent)) told.1),
  λ small. ⊎_elim
      (λ whole. absurd (omega (arith, whole.0, small)))
      (λ none. (omega (arith, none.1, told.0), none.2)) told.1,
  ⊎_elim
      (λ whole. (λ i. drop (told.0 i) (whole.2 i))
      ∙ drop-append_seam bytes (drop (length bytes) before.0)
      ∙ (λ i. drop (sym told.0 i) before.0))
      (λ none. ap (drop after.1) none.2) told.1,
  ⊎_elim (λ whole. inl whole.0) (λ none. inr (inr none.0)) told.1,
)

pub firsts_tell : FirstsTell
firsts_tell [] answer before after was is told = (
  λ done. absurd (omega (arith, told.0, done)),
  λ absent. (refl, told.1, told.2),
  λ small. absurd (omega (arith, told.0, small)),
  λ first same. absurd (none-some first same),
  ap (λ p. drop after.1 p.0) told.1,
  inr (inl told.0),
)
firsts_tell (pair ∷ pairs) answer before after was is told =
    let behind : drop after.1 after.0 ≡ drop after.1 before.0 =
    (λ i. drop (told.long i) after.0) ∙ told.behind ∙ (λ i. drop (sym told.long i) before.0) in
    let long = λ (first : List ℕ × ℕ) (same : Some pair ≡ Some first).
    told.long ∙ ap (λ (p : List ℕ × ℕ). length p.0) (same_Some pair first same) in
    ⊎_elim
    (λ longer. let none = told.too_small longer in (
      λ done. absurd (omega (arith, none.0, done)),
      λ absent. absurd (omega (arith, none.0, absent)),
      λ small. (omega (arith, longer, told.long), none.1),
      long,
      behind,
      inr (inr none.0),
    ))
    (λ fits. let whole = told.fits fits in (
      λ done. ap (λ p. Some p)
          (λ i. ((sym whole.0 ∙ (λ j. take (sym told.long j) after.0)) i, sym whole.1.1 i)),
      λ absent. absurd (omega (arith, whole.1.0, absent)),
      λ small. absurd (omega (arith, whole.1.0, small)),
      long,
      behind,
      inl whole.1.0,
    ))
    (cases_lt (length before.0) (length pair.0))

pub first_strings_tell : FirstStringsTell
first_strings_tell [] answer before after was is told = (
  λ done. absurd (omega (arith, told.0, done)),
  λ absent. (refl, told.1, told.2),
  λ small. absurd (omega (arith, told.0, small)),
  λ first same. absurd (none-some first same),
  ap (λ p. drop after.1 p.0) told.1,
  ap (λ p. drop is.1 p.0) told.2,
  inr (inl told.0),
)
first_strings_tell (pair ∷ pairs) answer before after was is told =
    let behind : drop after.1 after.0 ≡ drop after.1 before.0 =
    (λ i. drop (told.long i) after.0) ∙ told.behind ∙ (λ i. drop (sym told.long i) before.0) in
    let long = λ (first : List ℕ × List ℕ) (same : Some pair ≡ Some first).
    told.long ∙ ap (λ (p : List ℕ × List ℕ). length p.0) (same_Some pair first same) in
    let value = λ (first : List ℕ × List ℕ) (same : Some pair ≡ Some first).
    ap (λ (p : List ℕ × List ℕ). length p.1) (same_Some pair first same) in
    ⊎_elim
    (λ longer. let none = told.too_small longer in (
      λ done. absurd (omega (arith, none.0, done)),
      λ absent. absurd (omega (arith, none.0, absent)),
      λ small. (inl (omega (arith, longer, told.long)), ap (λ p. p.0) none.1),
      λ first same. (long first same, ap (λ p. p.1) none.1 ∙ value first same),
      behind,
      ap (λ p. drop is.1 p.0) none.1,
      inr (inr none.0),
    ))
    (λ fits.
    let whole = told.fits fits in
    let read = reads_tell (Some pair.1) answer was is whole.1 in (
      λ done. ap (λ p. Some p)
          (λ i. (
            (sym whole.0 ∙ (λ j. take (sym told.long j) after.0)) i,
            same_Some pair.1 (take is.1 is.0) (read.0 done) i,
          )),
      λ absent. absurd (none-some pair.1 (sym (read.1 absent).0)),
      λ small. (inr (read.2 small).0, (read.2 small).1),
      λ first same. (long first same, whole.1.0 ∙ value first same),
      behind,
      read.3,
      read.4,
    ))
    (cases_lt (length before.0) (length pair.0))

pub refusals_tell : RefusalsTell
refusals_tell answer = (
  (λ refused. refused, λ refused. refused),
  (λ refused. refused, λ refused. refused),
)

pub equality_tells : (V : Type 0) → EqualityTells V
equality_tells V one other answer told = (
  λ done. ⊎_elim (λ same. same.1)
      (λ rest. absurd (⊎_elim (λ differs. omega (arith, differs.0, done))
      (λ none. omega (arith, none, done)) rest)) told,
  λ different. ⊎_elim (λ same. absurd (omega (arith, same.0, different)))
      (λ rest. ⊎_elim (λ differs. differs.1)
      (λ none. absurd (omega (arith, none, different))) rest) told,
  ⊎_elim (λ same. inl same.0)
      (λ rest. ⊎_elim (λ differs. inr (inl differs.0)) (λ none. inr (inr none)) rest) told,
)

-- Entries of pairs whose keys stand in some bytes, from where the first begins, show these pairs.
shown-from : (front : List ℕ) (page : List (List ℕ × ℕ)) (behind : List ℕ)
    → pairs_shown (length front) (front ++ (keys_of page ++ behind))
    (entries_from (length front) page) ≡ page
shown-from front [] behind = refl
shown-from front (pair ∷ page) behind =
    let through = front ++ pair.0 in
    let bytes = ap (λ rest. front ++ rest) (append_assoc pair.0 (keys_of page) behind)
    ∙ sym (append_assoc front pair.0 (keys_of page ++ behind)) in
    let end = sym (length-append front pair.0) in
    (λ i. (drop (length front) (take (end i) (bytes i)), pair.1)
    ∷ pairs_shown (end i) (bytes i) (entries_from (end i) page))
    ∙ (λ i. (drop (length front) (take-append_seam through (keys_of page ++ behind) i), pair.1)
    ∷ shown-from through page behind i)
    ∙ (λ i. (drop-append_seam front pair.0 i, pair.1) ∷ page)

entries-length : (start : ℕ) (page : List (List ℕ × ℕ))
    → length (entries_from start page) ≡ length page
entries-length start [] = refl
entries-length start (pair ∷ page) =
    ap (λ n. suc n) (entries-length (start + length pair.0) page)

-- Where the first of the pairs that are left has no room, one that is it has none.
full-at : (left : List (List ℕ × ℕ)) (next : List ℕ × ℕ) (count end : ℕ) (bytes : List ℕ)
    (after : List RartEntry) → first_of left ≡ Some next → IsFull left count end bytes after
    → (count ≡ length after) ⊎ (length bytes < end + length next.0)
full-at [] next count end bytes after is full = absurd (none-some next is)
full-at (pair ∷ left) next count end bytes after is full =
    subst (λ (p : List ℕ × ℕ). (count ≡ length after) ⊎ (length bytes < end + length p.0))
    (same_Some pair next is) full

pub pages_tell : PagesTell
pages_tell range left count bytes before after written =
    let page = written.page in
    let entries = entries_from 0 page in
    let many = written.many ∙ sym (entries-length 0 page) in
    let keys = sym (take-append-drop (length (keys_of page)) bytes)
    ∙ ap (λ keys. keys ++ drop (length (keys_of page)) bytes) written.keys in
    let front : page ≡ take count range = sym (take-append_seam page left)
    ∙ (λ i. take (sym written.many i) (sym written.range_is i)) in (
      (λ i. pairs_shown 0 (keys i) (take (many i) (written.entries i)))
          ∙ ap (pairs_shown 0 (keys_of page ++ drop (length (keys_of page)) bytes))
          (take-append_seam entries (drop count before))
          ∙ shown-from [] page (drop (length (keys_of page)) bytes)
          ∙ front,
      (λ i. drop (many i) (written.entries i)) ∙ drop-append_seam entries (drop count before),
      sym (drop-append_seam page left)
          ∙ (λ i. drop (sym written.many i) (sym written.range_is i)),
      λ next is. subst
          (λ pairs. (count ≡ length after)
          ⊎ (length bytes < length (keys_of pairs) + length next.0)) front
          (full-at left next count (length (keys_of page)) bytes after is written.full),
    )

pub page_answers_tell : PageAnswersTell
page_answers_tell (suc count) room left answer before after told = (
  λ done. (omega arith, told.1),
  λ absent. absurd (omega (arith, told.0, absent)),
  λ none. absurd (omega (arith, told.0, none)),
  λ small. absurd (omega (arith, told.0, small)),
  inr (inl told.0),
)
page_answers_tell zero room [] answer before after told = (
  λ done. absurd (omega (arith, told.0, done)),
  λ absent. (refl, refl, told.1),
  λ none. absurd (omega (arith, told.0, none)),
  λ small. absurd (omega (arith, told.0, small)),
  inr (inr (inl told.0)),
)
page_answers_tell zero zero (pair ∷ pairs) answer before after told = (
  λ done. absurd (omega (arith, told.0, done)),
  λ absent. absurd (omega (arith, told.0, absent)),
  λ none. (refl, refl, (λ is. cc), told.1),
  λ small. absurd (omega (arith, told.0, small)),
  inl told.0,
)
page_answers_tell zero (suc room) (pair ∷ pairs) answer before after told = (
  λ done. absurd (omega (arith, told.0, done)),
  λ absent. absurd (omega (arith, told.0, absent)),
  λ none. absurd (omega (arith, told.0, none)),
  λ small. (refl, omega arith, ap (λ n. Some n) (sym told.1)),
  inr (inr (inr told.0)),
)
