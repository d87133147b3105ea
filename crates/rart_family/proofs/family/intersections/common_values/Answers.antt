use Rattle.std.proofs.Common.{◌≡◌, refl, rules, of_calls}
use Rattle.rart_maps.specs.Pairs.{common}
use Rattle.rart_maps.proofs.VisitLemmas.{answers-keep}
use Rattle.rart_family.specs.Families.{value_pairs_of}
use Rattle.rart_family.proofs.CollectionLemmas.{visit_keeps, kept_all}
use Rattle.rart_family.proofs.family.intersections.common_values.Goals as goal

pub returns-clause-values : goal.returns-clause-values
returns-clause-values g c =
    let found = value_pairs_of (common c.args.one.now.content c.args.other.now.content) in
    let visit = c.intersect_values_with_counted.ensures.visits in
    let keeps = visit_keeps _ _ (λ values. values) (λ f. f.0.now.kept)
    (λ f values f' called. let shows = called.2 in search (rules, of_calls)) found _ _ visit in
    let all = kept_all (λ values. values) _ _ _ refl c.new-collection.ensures keeps in
    let name = answers-keep _ _ _ (λ f f'. f'.0.ghost_name ≡ f.0.ghost_name) (λ f. refl)
    (λ f values f' last called later. search (rules, of_calls)) _ _ _ visit in
    search rules
