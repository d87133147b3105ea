-- Key paths: a segment more, a segment less.
use Rattle.std.proofs.Common.{◌≡◌, ◌+◌, ◌-◌, ◌≤◌, ℕ, Bool, true, false, cond, List, [], ◌∷◌, ◌++◌, map, length, take, refl, arith, sym, ap, ◌∙◌}
use Rattle.std.specs.List.{concat}
use Rattle.std.specs.Borrow.{Bor}
use Rattle.std.proofs.Math.Seq.{take-append_seam}
use Rattle.std.proofs.lemmas.List.Folds.{concat-append}
use Rattle.std.proofs.lemmas.List.{append_assoc, append-nil, length-append, take-map}

pub concat-push : (segments : List (List ℕ)) (segment : List ℕ)
    → concat (segments ++ segment ∷ []) ≡ concat segments ++ segment
concat-push [] segment = append-nil segment
concat-push (s ∷ segments) segment = ap (λ rest. s ++ rest) (concat-push segments segment)
    ∙ sym (append_assoc s (concat segments) segment)

pub length-push : (segments : List (List ℕ)) (segment : List ℕ)
    → length (concat (segments ++ segment ∷ [])) ≡ length (concat segments) + length segment
length-push segments segment = ap length (concat-push segments segment)
    ∙ length-append (concat segments) segment

pub bytes-push : (pushed : Bool) (old new segment : List ℕ) (segments : List (List ℕ))
    → new ≡ cond pushed (old ++ segment) old → old ≡ concat segments
    → new ≡ concat (cond pushed (segments ++ segment ∷ []) segments)
bytes-push true old new segment segments is same =
    is ∙ ap (λ z. z ++ segment) same ∙ sym (concat-push segments segment)
bytes-push false old new segment segments is same = is ∙ same

pub bytes-pop : (old segment : List ℕ) (segments : List (List ℕ)) (kept : ℕ)
    → kept ≡ length old - length segment → old ≡ concat (segments ++ segment ∷ [])
    → take kept old ≡ concat segments
bytes-pop old segment segments kept is same =
    let whole : old ≡ concat segments ++ segment = same ∙ concat-push segments segment in
    let long : kept ≡ length (concat segments) =
    let l = ap length whole ∙ length-append (concat segments) segment in omega (arith, l, is) in
    ap (λ z. take kept z) whole ∙ ap (λ n. take n (concat segments ++ segment)) long
    ∙ take-append_seam (concat segments) segment

pub bytes-cut : (old : List ℕ) (kept gone : List (List ℕ)) (mark : ℕ)
    → old ≡ concat (kept ++ gone) → mark ≡ length (concat kept) → take mark old ≡ concat kept
bytes-cut old kept gone mark same is =
    ap (take mark) (same ∙ concat-append kept gone)
    ∙ ap (λ n. take n (concat kept ++ concat gone)) is
    ∙ take-append_seam (concat kept) (concat gone)

pub bytes-fit : (old segment : List ℕ) (segments : List (List ℕ))
    → old ≡ concat (segments ++ segment ∷ []) → length segment ≤ length old
bytes-fit old segment segments same = let l = ap length same ∙ length-push segments segment in
    omega (arith, l)

pub shown-push : (items : List (Bor (List ℕ))) (segment : Bor (List ℕ))
    → map (λ segment. segment.now) (items ++ segment ∷ []) ≡ map (λ segment. segment.now) items
    ++ segment.now ∷ []
shown-push [] segment = refl
shown-push (item ∷ items) segment = ap (λ rest. item.now ∷ rest) (shown-push items segment)

pub shown-length : (items : List (Bor (List ℕ)))
    → length (map (λ segment. segment.now) items) ≡ length items
shown-length [] = refl
shown-length (item ∷ items) = let rest = shown-length items in omega (arith, rest)

-- the items without the last one
pub shown-pop : (old new : List (Bor (List ℕ))) (count : ℕ) (segments : List (List ℕ))
    (segment : List ℕ) → new ≡ take (count - 1) old → count ≡ length old
    → map (λ segment. segment.now) old ≡ segments ++ segment ∷ []
    → map (λ segment. segment.now) new ≡ segments
shown-pop old new count segments segment is long same =
    let few : count - 1 ≡ length segments =
    let l = sym (shown-length old) ∙ ap length same ∙ length-append segments (segment ∷ []) in
    omega (arith, l, long) in
    ap (map (λ (segment : Bor (List ℕ)). segment.now)) is
    ∙ sym (take-map (λ (segment : Bor (List ℕ)). segment.now) (count - 1) old)
    ∙ ap (take (count - 1)) same
    ∙ ap (λ n. take n (segments ++ segment ∷ [])) few ∙ take-append_seam segments (segment ∷ [])

-- the segments that stay, where so many do
pub cut-segments : (old kept gone now more : List (List ℕ)) → old ≡ kept ++ gone
    → old ≡ now ++ more → length now ≡ length kept → now ≡ kept
cut-segments old kept gone now more one other same =
    sym (take-append_seam now more) ∙ ap (take (length now)) (sym other ∙ one)
    ∙ ap (λ n. take n (kept ++ gone)) same ∙ take-append_seam kept gone
