use Rattle.std.proofs.Common.{◌≡◌, refl, sym, subst, length, rules, of_calls}
use Rattle.rart_versioned.specs.Bytes.{IsAdmitted}
use Rattle.rart_maps.specs.Pairs.{prefix_matches}
use Rattle.rart_maps.proofs.VisitLemmas.{answers-keep}
use Rattle.rart_family.specs.Collections.{pairs_of}
use Rattle.rart_family.proofs.CollectionLemmas.{filtered-admitted, callable_each, visit_keeps, kept_all}
use Rattle.rart_family.proofs.family.visits.entries_by_slices.Goals as goal

pub prefix_match_for_each_k-requires : goal.prefix_match_for_each_k-requires
prefix_match_for_each_k-requires g c =
    let most = g.K.KeyTrait.MAXIMUM_SIZE in
    let version = c.args.version.now in
    record {
      visitable = callable_each _ _ _ _ _ (λ pair there f shown shows.
          let clones = c.requires.clones in
          let admitted : IsAdmitted most (length shown.0.now) =
          subst (λ key. IsAdmitted most (length key)) (sym shows.0)
          (filtered-admitted version most c.know_keys_for_proof.ensures.lengths _ pair there) in
          search rules);
    }

pub returns : goal.returns
returns g c =
    let seen = pairs_of {V = g.row.V.Denot} g.K.KeyTrait.bytes in
    let found = prefix_matches c.args.version.now.content (g.K.KeyTrait.bytes c.args.probe.now) in
    let visit = c.prefix_match_for_each_k.ensures.visits in
    let keeps = visit_keeps _ _ seen (λ f. f.0.now.kept)
    (λ f pair f' called. let shows = called.2 in search (rules, of_calls)) found _ _ visit in
    let all = kept_all seen _ _ _ refl c.new-collection.ensures keeps in
    let name = answers-keep _ _ _ (λ f f'. f'.0.ghost_name ≡ f.0.ghost_name) (λ f. refl)
    (λ f pair f' last called later. search (rules, of_calls)) _ _ _ visit in
    search rules
