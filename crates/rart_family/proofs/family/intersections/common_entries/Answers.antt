use Rattle.std.proofs.Common.{◌≡◌, refl, rules, of_calls}
use Rattle.rart_maps.specs.Pairs.{common}
use Rattle.rart_maps.proofs.VisitLemmas.{answers-keep}
use Rattle.rart_family.specs.Collections.{triples_of}
use Rattle.rart_family.proofs.CollectionLemmas.{visit_keeps, kept_all}
use Rattle.rart_family.proofs.family.intersections.common_entries.Goals as goal

pub returns-clause-entries : goal.returns-clause-entries
returns-clause-entries g c =
    let seen = triples_of {V = g.row.V.Denot} g.K.KeyTrait.bytes in
    let found = common c.args.one.now.content c.args.other.now.content in
    let visit = c.in_ok-intersect_with_counted.ensures.visits in
    let keeps = visit_keeps _ _ seen (λ f. f.0.now.kept)
    (λ f entry f' called. let shows = called.2 in search (rules, of_calls)) found _ _ visit in
    let all = kept_all seen _ _ _ refl c.new-collection.ensures keeps in
    let name = answers-keep _ _ _ (λ f f'. f'.0.ghost_name ≡ f.0.ghost_name) (λ f. refl)
    (λ f entry f' last called later. search (rules, of_calls)) _ _ _ visit in
    search rules
