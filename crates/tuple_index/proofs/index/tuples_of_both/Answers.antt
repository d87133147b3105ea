use Rattle.std.proofs.Common.{◌≡◌, ℕ, List, refl, rules, of_calls}
use Rattle.std.specs.Result.{IsOk}
use Rattle.rart_maps.proofs.CallerLemmas.{answers-keep}
use Rattle.tuple_index.specs.Decoding.{tuple_at}
use Rattle.tuple_index.proofs.JoinLemmas.{answers-mapped}
use Rattle.tuple_index.proofs.index.tuples_of_both.Goals as goal

pub returns : goal.returns
returns c =
    let visit = c.in_ok-intersect_with.ensures.visits in
    let kept = answers-keep _ _ _ (λ f f'. f'.0.ghost_name ≡ f.0.ghost_name) (λ f. refl)
    (λ f entry f' last called later. search (rules, of_calls)) _ _ _ visit in
    let found = answers-keep _ _ _ (λ f f'. f'.1.ghost_name ≡ f.1.ghost_name) (λ f. refl)
    (λ f entry f' last called later. search (rules, of_calls)) _ _ _ visit in
    let all = answers-mapped _ _ _ (λ (entry : List ℕ × Unit {0} × Unit {0}). tuple_at entry.0)
    (λ f. IsOk f.0.now) (λ f. f.1.now.items)
    (λ f entry f' called goes. let shows = called.2 in search (rules, of_calls)) _ _ _ visit in
    search rules
