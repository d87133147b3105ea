use Rattle.std.proofs.Common.{◌∙◌, [], Some, None, sym}
use Rattle.std.proofs.lemmas.Bool.Decides.{Decides-eqb}
use Rattle.std.proofs.lemmas.List.{append-nil}
use Rattle.std.proofs.lemmas.Slice.Eq.{strip_prefix_is}
use Rattle.rart_ways.proofs.BesideLemmas.{order-goes, order-same}
use Rattle.rart_ways.proofs.seeking.within.along.Goals as goal

pub returns-in-Some : goal.returns-in-Some
returns-in-Some c =
    strip_prefix_is Decides-eqb c.args.string.now c.args.front.now (Some c.in-Some.rest)
    c.in-Some.ensures.cases

pub returns-in-Less : goal.returns-in-Less
returns-in-Less c more =
    order-goes c.args.front.now c.args.string.now more
    (strip_prefix_is Decides-eqb c.args.string.now c.args.front.now None
    c.in_default.ensures.cases)
    ∙ sym c.in-Less.ensures

pub returns-in-Greater : goal.returns-in-Greater
returns-in-Greater c more =
    order-goes c.args.front.now c.args.string.now more
    (strip_prefix_is Decides-eqb c.args.string.now c.args.front.now None
    c.in_default.ensures.cases)
    ∙ sym c.in-Greater.ensures

pub unreachable-requires : goal.unreachable-requires
unreachable-requires c =
    let front = c.args.front.now in
    strip_prefix_is Decides-eqb c.args.string.now front None c.in_default.ensures.cases []
    (sym (append-nil front ∙ order-same front c.args.string.now (sym c.in-Equal.ensures)))
