use Rattle.std.proofs.Common.{◌++◌, [], ap, subst, ◌∙◌}
use Rattle.rart_maps.specs.Pairs.{pairs}
use Rattle.rart_saved.specs.Forms.{entries, head}
use Rattle.rart_saved.specs.Numbers.{leb}
use Rattle.rart_saved.proofs.SavedLemmas.{saved-made}
use Rattle.rart_saved.proofs.saving.put_version.Goals as goal

pub returns : goal.returns
returns g c start none =
    let written = g.V.SavedValue.written in
    let front = c.as_slice.result.now in
    let fronts = c.in_ok-put.ensures start [] none in
    let lists = c.in_ok-_count.ensures.listed start front fronts in
    let sums =
    c.in_ok-put_sum.ensures start (front ++ entries written [] (pairs c.args.tree.now.content))
    lists in
    subst (λ bytes. g.S.Sink.holds start bytes c.put_sum.new.self)
    (saved-made written g.V.SavedValue.KIND c.args.count c.version.result c.args.tree.now front
    (c.as_slice.ensures.value ∙ c.in_ok-front.ensures
    ∙ (λ i. head (c.KIND.ensures i) ++ leb c.version.result ++ leb c.args.count))
    c.version.ensures.number c.requires)
    sums
