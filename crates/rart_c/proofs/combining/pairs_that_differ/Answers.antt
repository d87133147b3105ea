use Rattle.std.proofs.Common.{◌≡◌, sym, refl, rules, of_calls}
use Rattle.rart_maps.proofs.VisitLemmas.{answers-keep}
use Rattle.rart_saved.proofs.WholeVisitLemmas.{visit-whole}
use Rattle.rart_c.proofs.DifferenceLemmas.{changed-pairs, visit-collects}
use Rattle.rart_c.proofs.combining.pairs_that_differ.Goals as goal
use Rattle.rart_c.specs.Differences.{by_key, pair_at}

pub returns : goal.returns
returns g c =
    let visit = visit-whole _ _ (λ f change f' called. search (rules, of_calls)) _ _ _ _
    (sym c.in_ok-map_err.ensures.variant) c.try_diff_lending_with.ensures.visits in
    let all = visit-collects _ _ _ (λ f. Unit {0}) (λ f. by_key f.1.now.items)
    (λ change. pair_at change.0 change.1)
    (λ f change f' called goes. let shows = called.2 in search (rules, of_calls)) _ _ _ visit tt in
    let name = answers-keep _ _ _ (λ f f'. f'.1.ghost_name ≡ f.1.ghost_name) (λ f. refl)
    (λ f change f' last called later. search (rules, of_calls)) _ _ _ visit in
    let is = changed-pairs g.V.PartialEq.eq c.args.tree.now.content c.args.other.now.content in
    search rules
