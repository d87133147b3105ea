-- The worked runs, by computation.
use Rattle.std.proofs.Common.{inl, inr, ◌≡◌, ◌≢◌, ℕ, List, [], ◌∷◌, ◌++◌, length, refl, sym, ◌∙◌, ap, subst, arith, true, false, ◌≤◌}
use Rattle.std.proofs.lemmas.List.{length-replicate}
use Rattle.std.proofs.lemmas.List.Sums.{AllPass-from_list_all}
use Rattle.std.proofs.lemmas.Slice.Eq.{bytes_eq-Decides}
use Rattle.std.specs.Prelude.{codes, map, Some}
use Rattle.std.specs.List.{concat, list_all}
use Rattle.std.specs.Char.{is_ascii_graphic}
use Rattle.std.specs.Str.{bytes_eq}
use Rattle.std.specs.FinMap as finite
use Rattle.std.specs.FinMap.{gets}
use Rattle.std.specs.Fmt.{digits}
use Rattle.rart_versioned.specs.SlotUpdate.TheVariants as slot
use Rattle.rart_maps.proofs.MapLemmas.{maps}
use Rattle.rart_family.specs.declared.family.command.Command.TheVariants.{New, NewAt, Snapshot, Duplicate, Version, Get, Insert, Delete, Update, TryUpdate, Iter}
use Rattle.rart_family.specs.Replies.{Entries, NoMemory}
use Rattle.rart_family.specs.Families.{Family, reply_to, after}
use Rattle.vtree_lines.specs.declared.served.Served.{Served}
use Rattle.vtree_lines.specs.declared.served.Served.TheVariants.{Clean, BadLine}
use Rattle.vtree_lines.specs.Lines.{lines_of}
use Rattle.vtree_lines.specs.Grammar.{Said, IsKeyText, IsLineOf, IsBad}
use Rattle.vtree_lines.specs.ReplyTexts.{reply_line, bad_line}
use Rattle.vtree_lines.specs.OwnLines.{line_of, CanStand, Each}
use Rattle.vtree_lines.specs.Laws.{own_texts, own_family, NoneRefused}
use Rattle.vtree_lines.specs.Transcript.{LineGives, Transcript, HasBad, Tells}
use Rattle.vtree_lines.specs.WorkedRuns.{RunsTo, first_lines, first_replies, FirstRun, long_line, bad_lines, bad_replies, long_key_lines, long_key_replies, great_number_lines, great_number_replies, WorkedRuns}
use Rattle.vtree_lines.proofs.GrammarLemmas.{bad_by}
use Rattle.vtree_lines.proofs.OwnLineLemmas.{own_line}
use Rattle.vtree_lines.proofs.TranscriptLemmas.{transcripts_agree, own_replies_are_transcripts}

-- a key text, by computation
key_text_is : (key : List ℕ) → length key ≤ 16 → list_all is_ascii_graphic key ≡ true →
    IsKeyText key
key_text_is key l e = (l, AllPass-from_list_all is_ascii_graphic key e)

-- lines tell one thing alone
tell_once : (lines : List (List ℕ)) (one other : Served) → Tells one lines → Tells other lines →
    one ≡ other
tell_once lines Clean Clean h k = refl
tell_once lines Clean BadLine h k = absurd (h k)
tell_once lines BadLine Clean h k = absurd (k h)
tell_once lines BadLine BadLine h k = refl

-- a transcript in which no memory was refused is what the input runs to
runs_to : (input : List ℕ) (served : Served) (written : List ℕ) (texts : List (List ℕ))
    (family : Family ℕ) → Transcript [] (lines_of input) texts family → NoneRefused texts →
    written ≡ concat texts → Tells served (lines_of input) → RunsTo input served written
runs_to input served written texts family run clear all tells = (
  record { texts = texts; family = family; run = run; all = all; status = tells },
  λ other bytes h none. (
    h.all ∙ ap concat (transcripts_agree [] h.family family
        (lines_of input) h.texts texts h.run run none clear).0 ∙ sym all,
    tell_once (lines_of input) other served h.status tells,
  ),
)

-- commands' own lines are no bad ones
own_lines_good : (commands : List Said) → Each CanStand commands → HasBad (map line_of commands) → ⊥
own_lines_good [] h bad = bad
own_lines_good (c ∷ cs) h (inl bad) = bad c (own_line c h.0)
own_lines_good (c ∷ cs) h (inr bad) = own_lines_good cs h.1 bad

other : (text : List ℕ) → bytes_eq text (reply_line NoMemory) ≡ false → text ≢ reply_line NoMemory
other text apart e =
    let clash : false ≡ true = sym apart ∙ (bytes_eq-Decides text (reply_line NoMemory)).1 e in
    absurd (cc)

-- ---- the first run

-- its commands
abbrev pub first_commands : List Said
first_commands = New ∷ Insert 0 (codes "key1") 1 ∷ Snapshot 0 ∷ Get 1
    (codes "key1") ∷ Version 0 ∷ Version 1 ∷ []

abbrev pub first_texts : List (List ℕ)
first_texts = codes "at 0\n" ∷ codes "false\n" ∷ codes "at 1\n" ∷ codes "some 1\n" ∷ codes
    "version 1\n" ∷ codes "version 2\n" ∷ []

first_stands : Each CanStand first_commands
first_stands = (
  (tt, tt),
  (
    (tt, (omega arith, (key_text_is (codes "key1") (omega arith) refl, (omega arith, tt)))),
    (
      (tt, (omega arith, tt)),
      (
        (tt, (omega arith, (key_text_is (codes "key1") (omega arith) refl, tt))),
        ((tt, (omega arith, tt)), ((tt, (omega arith, tt)), tt)),
      ),
    ),
  ),
)

first_own_lines : lines_of first_lines ≡ map line_of first_commands
unfolding digits
first_own_lines = refl

first_own_texts : own_texts [] first_commands ≡ first_texts
unfolding digits
first_own_texts = simp gets refl

-- none of these texts says that memory was refused
first_not_refused : NoneRefused first_texts
first_not_refused = (
  other (codes "at 0\n") refl,
  (
    other (codes "false\n") refl,
    (
      other (codes "at 1\n") refl,
      (
        other (codes "some 1\n") refl,
        (
          other (codes "version 1\n") refl,
          (other (codes "version 2\n") refl, tt),
        ),
      ),
    ),
  ),
)

first_transcript : Transcript [] (lines_of first_lines) first_texts (own_family [] first_commands)
first_transcript =
    subst (λ (s : List (List ℕ)). Transcript [] s first_texts (own_family [] first_commands))
    (sym first_own_lines)
    (subst (λ (s : List (List ℕ)).
    Transcript [] (map line_of first_commands) s (own_family [] first_commands)) first_own_texts
    (own_replies_are_transcripts [] first_commands first_stands))

pub first_run : FirstRun
first_run = runs_to first_lines Clean first_replies first_texts
    (own_family [] first_commands) first_transcript first_not_refused refl
    (λ bad. own_lines_good first_commands first_stands (subst HasBad first_own_lines bad))

-- ---- other runs

-- what a good line gives where memory isn't refused
good_gives : (old : Family ℕ) (line : List ℕ) (command : Said) (text : List ℕ) →
    IsLineOf line command → reply_line (reply_to (λ key. key) old command) ≡ text →
    LineGives old line text (after (λ key. key) old command)
good_gives old line command text is e =
    inr (command, reply_to (λ key. key) old command, is, inl (refl, refl), sym e)

bad_gives : (old : Family ℕ) (line : List ℕ) → IsBad line → LineGives old line bad_line old
bad_gives old line is = inl (is, refl, refl)

-- the family of one version
abbrev pub made : Family ℕ
made = after (λ key. key) [] New

new_gives : LineGives [] (codes "new") (codes "at 0\n") made
unfolding digits
new_gives = good_gives [] (codes "new") New (codes "at 0\n") (omega arith, refl) refl

version_gives : LineGives made (codes "version 0") (codes "version 0\n") made
unfolding digits
version_gives = good_gives made (codes "version 0") (Version 0) (codes "version 0\n")
    (omega arith, refl) refl

new_is_good : IsBad (codes "new") → ⊥
new_is_good bad = bad New (omega arith, refl)

new_alone_good : HasBad (codes "new" ∷ []) → ⊥
new_alone_good (inl bad) = new_is_good bad
new_alone_good (inr bad) = bad

at_clear : codes "at 0\n" ≢ reply_line NoMemory
at_clear = other (codes "at 0\n") refl

bad_clear : bad_line ≢ reply_line NoMemory
bad_clear = other bad_line refl

version_clear : codes "version 0\n" ≢ reply_line NoMemory
version_clear = other (codes "version 0\n") refl

no_run : RunsTo [] Clean []
no_run = runs_to [] Clean [] [] [] refl tt refl (λ bad. bad)

open_run : RunsTo (codes "new") Clean (codes "at 0\n")
open_run = runs_to (codes "new") Clean (codes "at 0\n") (codes "at 0\n" ∷ []) made
    (made, new_gives, refl) (at_clear, tt) refl new_alone_good

mixed_run : RunsTo (codes "new\nold\nversion 0\n") BadLine (codes "at 0\nbad line\nversion 0\n")
mixed_run = runs_to (codes "new\nold\nversion 0\n") BadLine (codes "at 0\nbad line\nversion 0\n")
    (codes "at 0\n" ∷ bad_line ∷ codes "version 0\n" ∷ []) made
    (made, new_gives, (made, bad_gives made (codes "old") (bad_by (codes "old") refl), (made, version_gives, refl)))
    (at_clear, (bad_clear, (version_clear, tt))) refl (inr (inl (bad_by (codes "old") refl)))

empty_run : RunsTo (codes "new\n\n") BadLine (codes "at 0\nbad line\n")
empty_run = runs_to (codes "new\n\n") BadLine (codes "at 0\nbad line\n")
    (codes "at 0\n" ∷ bad_line ∷ []) made
    (made, new_gives, (made, bad_gives made [] (bad_by [] refl), refl))
    (at_clear, (bad_clear, tt)) refl (inr (inl (bad_by [] refl)))

return_run : RunsTo (codes "new" ++ 13 ∷ 10 ∷ []) BadLine (codes "bad line\n")
return_run = runs_to (codes "new" ++ 13 ∷ 10 ∷ []) BadLine (codes "bad line\n") (bad_line ∷ []) []
    ([], bad_gives [] (codes "new" ++ 13 ∷ []) (bad_by (codes "new" ++ 13 ∷ []) refl), refl)
    (bad_clear, tt) refl (inl (bad_by (codes "new" ++ 13 ∷ []) refl))

spaces_run : RunsTo (codes "new\nversion  0\n") BadLine (codes "at 0\nbad line\n")
spaces_run = runs_to (codes "new\nversion  0\n") BadLine (codes "at 0\nbad line\n")
    (codes "at 0\n" ∷ bad_line ∷ []) made
    (made, new_gives, (made, bad_gives made (codes "version  0") (bad_by (codes "version  0") refl), refl))
    (at_clear, (bad_clear, tt)) refl (inr (inl (bad_by (codes "version  0") refl)))

bad_long : IsBad long_line
bad_long command h = let long : length long_line ≡ 201 = length-replicate {A = ℕ} 201 97 in
    omega (arith, h.0, long)

long_run : RunsTo (long_line ++ codes "\nnew\n") BadLine (codes "bad line\nat 0\n")
long_run = runs_to (long_line ++ codes "\nnew\n") BadLine (codes "bad line\nat 0\n")
    (bad_line ∷ codes "at 0\n" ∷ []) made
    ([], bad_gives [] long_line bad_long, (made, new_gives, refl))
    (bad_clear, (at_clear, tt)) refl (inl bad_long)

-- ---- a bad key, no word, and a place that isn't there

lost_gives : LineGives made (codes "get 7 'a") (codes "no version\n") made
lost_gives = good_gives made (codes "get 7 'a") (Get 7 (codes "a")) (codes "no version\n")
    (omega arith, refl) refl

bad_run : RunsTo bad_lines BadLine bad_replies
bad_run = runs_to bad_lines BadLine bad_replies
    (codes "at 0\n" ∷ bad_line ∷ bad_line ∷ codes "no version\n" ∷ []) made (
      made,
      new_gives,
      (
        made,
        bad_gives made (codes "insert 0 a 1") (bad_by (codes "insert 0 a 1") refl),
        (made, bad_gives made [] (bad_by [] refl), (made, lost_gives, refl)),
      ),
    ) (
      at_clear,
      (bad_clear, (bad_clear, (other (codes "no version\n") refl, tt))),
    )
    refl (inr (inl (bad_by (codes "insert 0 a 1") refl)))

-- ---- keys of 16, 17 and no bytes

abbrev pub longest_key : List ℕ
longest_key = codes "abcdefghijklmnop"

abbrev pub with_longest : Family ℕ
with_longest = after (λ key. key) made (Insert 0 longest_key 1)

abbrev pub with_both : Family ℕ
with_both = after (λ key. key) with_longest (Insert 0 [] 3)

longest_gives : LineGives made (codes "insert 0 'abcdefghijklmnop 1") (codes "false\n") with_longest
longest_gives = good_gives made (codes "insert 0 'abcdefghijklmnop 1") (Insert 0 longest_key 1)
    (codes "false\n")
    (omega arith, refl)
    (simp gets refl)

found_gives : LineGives with_longest (codes "get 0 'abcdefghijklmnop") (codes "some 1\n")
    with_longest
unfolding digits
found_gives = good_gives with_longest (codes "get 0 'abcdefghijklmnop") (Get 0 longest_key)
    (codes "some 1\n")
    (omega arith, refl) (simp gets refl)

shortest_gives : LineGives with_longest (codes "insert 0 ' 3") (codes "false\n") with_both
shortest_gives = good_gives with_longest (codes "insert 0 ' 3") (Insert 0 [] 3) (codes "false\n")
    (omega arith, refl) (simp gets refl)

abbrev pub both : List (List ℕ × ℕ)
both = ([], 3) ∷ (longest_key, 1) ∷ []

both_entries : reply_to (λ key. key) with_both (Iter 0) ≡ Entries both
both_entries = simp maps refl

both_text : reply_line (Entries both) ≡ codes "entries ' 3 'abcdefghijklmnop 1\n"
unfolding digits
both_text = refl

both_give : LineGives with_both (codes "iter 0") (codes "entries ' 3 'abcdefghijklmnop 1\n")
    with_both
both_give = good_gives with_both (codes "iter 0") (Iter 0)
    (codes "entries ' 3 'abcdefghijklmnop 1\n") (omega arith, refl)
    (ap reply_line both_entries ∙ both_text)

long_key_run : RunsTo long_key_lines BadLine long_key_replies
long_key_run = runs_to long_key_lines BadLine long_key_replies
    (codes "at 0\n" ∷ codes "false\n" ∷ bad_line ∷ codes "some 1\n" ∷ codes "false\n"
    ∷ codes "entries ' 3 'abcdefghijklmnop 1\n" ∷ []) with_both (
      made,
      new_gives,
      (
        with_longest,
        longest_gives,
        (
          with_longest,
          bad_gives with_longest (codes "insert 0 'abcdefghijklmnopq 2") (bad_by (codes "insert 0 'abcdefghijklmnopq 2") refl),
          (with_longest, found_gives, (with_both, shortest_gives, (with_both, both_give, refl))),
        ),
      ),
    ) (
      at_clear,
      (
        other (codes "false\n") refl,
        (
          bad_clear,
          (
            other (codes "some 1\n") refl,
            (
              other (codes "false\n") refl,
              (other (codes "entries ' 3 'abcdefghijklmnop 1\n") refl, tt),
            ),
          ),
        ),
      ),
    )
    refl (inr (inr (inl (bad_by (codes "insert 0 'abcdefghijklmnopq 2") refl))))

-- ---- the greatest numbers

abbrev pub great : Family ℕ
great = after (λ key. key) [] (NewAt 18446744073709551613)

abbrev pub great_with_1 : Family ℕ
great_with_1 = after (λ key. key) great (Insert 0 (codes "a") 1)

abbrev pub great_with_2 : Family ℕ
great_with_2 = Some (record {
  content = finite.insert (finite.insert finite.empty (codes "a") 1) (codes "a") 2;
  number = 18446744073709551615;
}) ∷ []

is_updated : after (λ key. key) great_with_1 (Update 0 (codes "a") (Some 2) slot.Keep)
    ≡ great_with_2
is_updated = simp gets refl

abbrev pub great_twice : Family ℕ
great_twice = after (λ key. key) great_with_2 (Duplicate 0)

great_gives : LineGives [] (codes "new-at 18446744073709551613") (codes "at 0\n") great
unfolding digits
great_gives = good_gives [] (codes "new-at 18446744073709551613") (NewAt 18446744073709551613)
    (codes "at 0\n") (omega arith, refl) refl

first_value_gives : LineGives great (codes "insert 0 'a 1") (codes "false\n") great_with_1
first_value_gives = good_gives great (codes "insert 0 'a 1") (Insert 0 (codes "a") 1)
    (codes "false\n") (omega arith, refl) (simp gets refl)

no_room_for_two : LineGives great_with_1 (codes "try-update 0 'a 2 keep") (codes "no room\n")
    great_with_1
no_room_for_two = good_gives great_with_1 (codes "try-update 0 'a 2 keep")
    (TryUpdate 0 (codes "a") (Some 2) (Some slot.Keep)) (codes "no room\n")
    (omega arith, refl) refl

great_version_gives : LineGives great_with_1 (codes "version 0")
    (codes "version 18446744073709551614\n") great_with_1
unfolding digits
great_version_gives = good_gives great_with_1 (codes "version 0") (Version 0)
    (codes "version 18446744073709551614\n") (omega arith, refl) refl

second_value_gives : LineGives great_with_1 (codes "update 0 'a 2 keep") (codes "true\n")
    great_with_2
second_value_gives =
    subst (λ (f : Family ℕ). LineGives great_with_1 (codes "update 0 'a 2 keep") (codes "true\n") f)
    is_updated (good_gives great_with_1 (codes "update 0 'a 2 keep")
    (Update 0 (codes "a") (Some 2) slot.Keep) (codes "true\n")
    (omega arith, refl) (simp gets refl))

no_room_for_update : LineGives great_with_2 (codes "update 0 'a 3 keep") (codes "no room\n")
    great_with_2
no_room_for_update = good_gives great_with_2 (codes "update 0 'a 3 keep")
    (Update 0 (codes "a") (Some 3) slot.Keep) (codes "no room\n")
    (omega arith, refl) refl

no_room_for_deletion : LineGives great_with_2 (codes "delete 0 'x") (codes "no room\n")
    great_with_2
no_room_for_deletion = good_gives great_with_2 (codes "delete 0 'x") (Delete 0 (codes "x"))
    (codes "no room\n")
    (omega arith, refl) refl

clone_gives : LineGives great_with_2 (codes "clone 0") (codes "at 1\n") great_twice
unfolding digits
clone_gives = good_gives great_with_2 (codes "clone 0") (Duplicate 0) (codes "at 1\n")
    (omega arith, refl) refl

clone_value_gives : LineGives great_twice (codes "get 1 'a") (codes "some 2\n") great_twice
unfolding digits
clone_value_gives = good_gives great_twice (codes "get 1 'a") (Get 1 (codes "a"))
    (codes "some 2\n") (omega arith, refl) (simp gets refl)

great_number_run : RunsTo great_number_lines BadLine great_number_replies
great_number_run = runs_to great_number_lines BadLine great_number_replies
    (codes "at 0\n" ∷ codes "false\n" ∷ codes "no room\n"
    ∷ codes "version 18446744073709551614\n" ∷ codes "true\n" ∷ codes "no room\n"
    ∷ codes "no room\n" ∷ codes "at 1\n" ∷ codes "some 2\n" ∷ bad_line ∷ []) great_twice (
      great,
      great_gives,
      (
        great_with_1,
        first_value_gives,
        (
          great_with_1,
          no_room_for_two,
          (
            great_with_1,
            great_version_gives,
            (
              great_with_2,
              second_value_gives,
              (
                great_with_2,
                no_room_for_update,
                (
                  great_with_2,
                  no_room_for_deletion,
                  (
                    great_twice,
                    clone_gives,
                    (
                      great_twice,
                      clone_value_gives,
                      (
                        great_twice,
                        bad_gives great_twice (codes "new-at 18446744073709551616") (bad_by (codes "new-at 18446744073709551616") refl),
                        refl,
                      ),
                    ),
                  ),
                ),
              ),
            ),
          ),
        ),
      ),
    ) (
      at_clear,
      (
        other (codes "false\n") refl,
        (
          other (codes "no room\n") refl,
          (
            other (codes "version 18446744073709551614\n") refl,
            (
              other (codes "true\n") refl,
              (
                other (codes "no room\n") refl,
                (
                  other (codes "no room\n") refl,
                  (
                    other (codes "at 1\n") refl,
                    (other (codes "some 2\n") refl, (bad_clear, tt)),
                  ),
                ),
              ),
            ),
          ),
        ),
      ),
    )
    refl (inr (inr (inr (inr (inr (inr (inr (inr (inr (inl (bad_by (codes "new-at 18446744073709551616") refl)))))))))))

pub worked_runs : WorkedRuns
worked_runs = (
  no_run,
  open_run,
  mixed_run,
  empty_run,
  return_run,
  spaces_run,
  long_run,
  bad_run,
  long_key_run,
  great_number_run,
)

-- worked inputs
pub ruleset runs = (first_run, worked_runs)
