use Rattle.std.proofs.Common.{◌≡◌, map}
use Rattle.vtree_lines.specs.Grammar.{word_of}
use Rattle.vtree_lines.specs.Words.{word_value}
use Rattle.vtree_lines.proofs.words.words_of.Given as goal

abbrev pub invariant-loop-word : goal.invariant-loop-word
invariant-loop-word l = record {
  can_next : (goal.iterator-loop-word).can_next l.word-iterator;
  is_finite : (goal.iterator-loop-word).is_finite l.word-iterator;
  kept : map word_value l.words.items ≡ map word_of (map (λ word. word.now) l.yielded);
}
