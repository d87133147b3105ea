use Rattle.vtree_lines.specs.Lines.{words}
use Rattle.vtree_lines.proofs.WordLemmas.{words_short}
use Rattle.vtree_lines.proofs.line.parse.Goals as goal

pub parse_words-requires : goal.parse_words-requires
parse_words-requires c = record {
  short = rw (c.as_slice.ensures.value, c.in_ok-words.ensures.some)
      (words_short (words c.args.line.now));
}
