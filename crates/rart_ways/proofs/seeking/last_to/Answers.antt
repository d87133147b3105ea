use Rattle.std.proofs.Common.{true, refl, reverse, sym, subst, ◌∙◌}
use Rattle.std.specs.Prelude.{◌-◌, ◌^◌, Some}
use Rattle.rart_node.specs.Trees.{pairs_of}
use Rattle.rart_node.specs.PairsBehind.{AreShort}
use Rattle.rart_node.proofs.GatherLemmas.{keeping-either}
use Rattle.rart_node.proofs.BehindLemmas.{behind-none}
use Rattle.rart_ways.specs.Firsts.{IsFirst}
use Rattle.rart_ways.proofs.seeking.last_to.Goals as goal

pub greatest-requires-clause-short : goal.greatest-requires-clause-short
greatest-requires-clause-short g c =
    rw c.open.ensures.shown
    (subst (AreShort (Some (2 ^ 64 - 1))) (sym (behind-none (pairs_of c.args.root.now.shape)))
    c.requires.short)

pub returns-in-Unbounded-clause-last : goal.returns-in-Unbounded-clause-last
returns-in-Unbounded-clause-last g c =
    let pairs = pairs_of c.args.root.now.shape in
    rw c.in-Unbounded.is
    (subst (λ list. IsFirst (reverse list) c.greatest.result.0 c.greatest.result.1.now c.args.room.now
    c.greatest.new.room)
    (behind-none pairs ∙ sym (keeping-either (λ key. true) true pairs (λ key. refl)))
    (rw c.open.ensures.shown at c.greatest.ensures.last))
