use Rattle.std.proofs.Common.{◌≡◌, refl, rules, of_calls}
use Rattle.std.specs.Result.{IsOk}
use Rattle.rart_maps.proofs.CallerLemmas.{answers-collect, answers-keep}
use Rattle.example_tree.proofs.visiting.prices_under.Goals as goal

pub returns : goal.returns
returns c =
    let visit = c.in_ok-prefix_values_for_each_k.ensures.visits in
    let kept = answers-keep _ _ _ (λ f f'. f'.0.ghost_name ≡ f.0.ghost_name) (λ f. refl)
    (λ f value f' last called later. search (rules, of_calls)) _ _ _ visit in
    let prices = answers-keep _ _ _ (λ f f'. f'.1.ghost_name ≡ f.1.ghost_name) (λ f. refl)
    (λ f value f' last called later. search (rules, of_calls)) _ _ _ visit in
    let all = answers-collect _ _ _ (λ f. IsOk f.0.now) (λ f. f.1.now.items)
    (λ f value f' called goes. let shows = called.2 in search (rules, of_calls)) _ _ _ visit in
    search rules
