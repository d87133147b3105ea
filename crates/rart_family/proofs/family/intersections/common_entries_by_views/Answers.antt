use Rattle.std.proofs.Common.{◌≡◌, refl, sym, subst, length, rules, of_calls}
use Rattle.rart_versioned.specs.Bytes.{IsAdmitted}
use Rattle.rart_maps.specs.Pairs.{common}
use Rattle.rart_maps.proofs.VisitLemmas.{answers-keep}
use Rattle.rart_family.specs.Collections.{triples_of}
use Rattle.rart_family.proofs.CollectionLemmas.{common-admitted, callable_each, visit_keeps, kept_all}
use Rattle.rart_family.proofs.family.intersections.common_entries_by_views.Goals as goal

pub intersect_lending_with_counted-requires : goal.intersect_lending_with_counted-requires
intersect_lending_with_counted-requires g c =
    let most = g.K.KeyTrait.MAXIMUM_SIZE in
    let one = c.args.one.now in
    let other = c.args.other.now in
    -- (for whatever lifetimes the closure is handed on with)
    λ k. (
      (refl, tt),
      callable_each _ _ _ _ _ (λ entry there f shown shows.
          let clones = c.requires.clones in
          let admitted : IsAdmitted most (length shown.0) =
          subst (λ key. IsAdmitted most (length key)) (sym shows.0)
          (common-admitted one other most c.know_keys_for_proof.ensures.lengths entry there) in
          search rules),
    )

pub returns-clause-entries : goal.returns-clause-entries
returns-clause-entries g c =
    let seen = triples_of {V = g.row.V.Denot} g.K.KeyTrait.bytes in
    let found = common c.args.one.now.content c.args.other.now.content in
    let visit = c.in_ok-intersect_lending_with_counted.ensures.visits in
    let keeps = visit_keeps _ _ seen (λ f. f.0.now.kept)
    (λ f entry f' called. let shows = called.2 in search (rules, of_calls)) found _ _ visit in
    let all = kept_all seen _ _ _ refl c.new-collection.ensures keeps in
    let name = answers-keep _ _ _ (λ f f'. f'.0.ghost_name ≡ f.0.ghost_name) (λ f. refl)
    (λ f entry f' last called later. search (rules, of_calls)) _ _ _ visit in
    search rules
