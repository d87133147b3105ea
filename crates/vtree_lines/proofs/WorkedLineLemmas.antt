-- The worked lines, by computation.
use Rattle.std.proofs.Common.{[], ◌∷◌, ◌++◌, refl, arith}
use Rattle.std.proofs.lemmas.Bool.Decides.{nat_tests}
use Rattle.std.specs.Prelude.{codes}
use Rattle.std.specs.Fmt.{digits}
use Rattle.vtree_lines.specs.WorkedLines.{WorkedNumbers, WorkedSplits, WorkedBadLines, WorkedTexts, WorkedReplies}
use Rattle.vtree_lines.proofs.GrammarLemmas.{bad_by}

pub worked_numbers : WorkedNumbers
worked_numbers = (refl, refl, refl, refl, refl, refl, refl, refl, refl)

pub worked_splits : WorkedSplits
worked_splits = (refl, refl, refl, refl, refl, refl, refl, refl)

pub worked_texts : WorkedTexts
unfolding digits
worked_texts = (
  refl,
  refl,
  refl,
  refl,
  refl,
  refl,
  refl,
  refl,
  refl,
  refl,
  refl,
  refl,
  refl,
  refl,
  refl,
  refl,
  refl,
  refl,
  refl,
  refl,
)

pub worked_bad_bys : WorkedBadLines
worked_bad_bys = (
  bad_by [] refl,
  bad_by (codes "new 0") refl,
  bad_by (codes "new-at") refl,
  bad_by (codes "old") refl,
  bad_by (codes "new" ++ 13 ∷ []) refl,
  bad_by (codes "version  0") refl,
  bad_by (codes "version 0 ") refl,
  bad_by (codes "new-at 18446744073709551616") refl,
  bad_by (codes "new-at 000000000000000000007") refl,
  bad_by (codes "range 0 'a 'b") refl,
  bad_by (codes "get 0 a") refl,
  bad_by (codes "until 0 'a 1 failed") refl,
  bad_by (codes "update 0 'a - fail") refl,
  bad_by (codes "try-update 0 'a - insert 1 1") refl,
  bad_by (codes "get 0 '" ++ 127 ∷ []) refl,
  bad_by (codes "get 0 '" ++ 233 ∷ []) refl,
  bad_by (codes "get 0 'abcdefghijklmnopq") refl,
  bad_by (codes "range 0 - i'abcdefghijklmnopq") refl,
  bad_by (codes "range-views 0 x'abcdefghijklmnopq -") refl,
  bad_by (codes "update 0 'a  keep") refl,
  bad_by (codes "range 0  -") refl,
  bad_by (codes "until 0 'a 1 keep") refl,
  bad_by (codes "update 0 'a - kept") refl,
  bad_by (codes "get 0 '" ++ 9 ∷ []) refl,
  bad_by (codes "get 0 '" ++ 13 ∷ []) refl,
  bad_by (codes "range 0 i- -") refl,
  bad_by (codes "range 0 - x-") refl,
  bad_by (codes "update 0 'a") refl,
  bad_by (codes "try-update 0 'a") refl,
  bad_by (codes "// new") refl,
  bad_by (codes "try-update 00000000000000000000 'abcdefghijklmnop 18446744073709551615 insert 18446744073709551614 1") refl,
)

pub worked_replies : WorkedReplies
worked_replies = grind (arith, nat_tests)

-- worked numbers, splits, bad lines, texts and replies
pub ruleset worked_lines =
    (worked_numbers, worked_splits, worked_bad_bys, worked_texts, worked_replies)
