use Rattle.std.proofs.Common.{sym, ◌∙◌}
use Rattle.vtree_lines.proofs.WordLemmas.{text_read}
use Rattle.vtree_lines.proofs.words.text_of.Goals as goal

pub returns-then-is_graphic : goal.returns-then-is_graphic
returns-then-is_graphic c =
    let is = sym c.is_graphic.ensures ∙ c.if-is_graphic.true in
    rw (c.ok.ensures.value, is) (text_read c.args.word.now c.from_utf8.result _ is c.from_utf8.ensures.cases)
