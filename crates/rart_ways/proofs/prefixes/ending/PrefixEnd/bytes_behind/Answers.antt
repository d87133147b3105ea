use Rattle.std.proofs.Common.{length, arith, sym, ap, drop, ◌-◌, ◌∙◌}
use Rattle.std.proofs.lemmas.Result.{IfOk-weaker}
use Rattle.rart_ways.proofs.PutPartLemmas.{drop-above, own-long}
use Rattle.rart_ways.proofs.prefixes.ending.PrefixEnd.bytes_behind.Goals as goal

pub partial_after-requires : goal.partial_after-requires
partial_after-requires g c =
    let end = c.args.self.now in
    let long = own-long end.node.now.shape end.prefix.now end.above c.requires.part.within
    c.requires.part.begun in
    let own = ap length c.prefix-own.ensures in
    let within = c.requires.within in
    omega (arith, long, own, within)

pub returns : goal.returns
returns g c =
    let end = c.args.self.now in
    let count = c.args.count in
    let own = c.prefix-own.ensures in
    let ge = c.if-count-self.false in
    let behind = drop-above end.prefix.now _ end.above count c.requires.part.within
    (omega (arith, ge)) in
    IfOk-weaker c.partial_after.result _ _
    (λ it is. is ∙ ap (drop (count - end.above)) own ∙ sym behind) c.partial_after.ensures
