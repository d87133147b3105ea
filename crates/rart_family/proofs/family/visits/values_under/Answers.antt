use Rattle.std.proofs.Common.{◌≡◌, refl, rules, of_calls}
use Rattle.rart_maps.specs.Pairs.{under}
use Rattle.rart_maps.proofs.VisitLemmas.{answers-keep}
use Rattle.rart_family.specs.Families.{values_of}
use Rattle.rart_family.proofs.CollectionLemmas.{callable_each, visit_keeps, kept_all}
use Rattle.rart_family.proofs.family.visits.values_under.Goals as goal

pub prefix_values_for_each_k-requires : goal.prefix_values_for_each_k-requires
prefix_values_for_each_k-requires g c =
    record {
      visitable = callable_each _ _ _ _ _ (λ value there f shown shows.
          let clones = c.requires.clones in search rules);
    }

pub returns : goal.returns
returns g c =
    let found = values_of (under c.args.version.now.content (g.K.KeyTrait.bytes c.args.prefix.now))
    in
    let visit = c.in_ok-prefix_values_for_each_k.ensures.visits in
    let keeps = visit_keeps _ _ (λ values. values) (λ f. f.0.now.kept)
    (λ f value f' called. let shows = called.2 in search (rules, of_calls)) found _ _ visit in
    let all = kept_all (λ values. values) _ _ _ refl c.new-collection.ensures keeps in
    let name = answers-keep _ _ _ (λ f f'. f'.0.ghost_name ≡ f.0.ghost_name) (λ f. refl)
    (λ f value f' last called later. search (rules, of_calls)) _ _ _ visit in
    search rules
