use Rattle.std.proofs.Common.{◌≡◌, refl, sym, subst, length, rules, of_calls}
use Rattle.rart_below.specs.Bytes.{IsAdmitted}
use Rattle.rart_maps.specs.Pairs.{pairs}
use Rattle.rart_maps.proofs.VisitLemmas.{answers-keep}
use Rattle.rart_changes.proofs.TouchedKeyLemmas.{key-admitted, callable-each, visit-keeps, kept-all, counted-keys, all-entered}
use Rattle.rart_changes.proofs.tracked.keys.keys_of.Goals as goal

pub for_each_view_counted-requires : goal.for_each_view_counted-requires
for_each_view_counted-requires g c =
    let most = g.K.KeyTrait.MAXIMUM_SIZE in
    record {
      visitable = callable-each _ _ _ _ _ (λ pair there f shown shows.
          let admitted : IsAdmitted most (length shown.0) =
          subst (λ key. IsAdmitted most (length key)) (sym shows.0)
          (key-admitted c.args.set.now most c.know_keys_for_proof.ensures.lengths pair there) in
          search rules);
    }

pub returns-in_err-for_each_view_counted-clause-counted :
    goal.returns-in_err-for_each_view_counted-clause-counted
returns-in_err-for_each_view_counted-clause-counted g c =
    counted-keys c.args.set.now.content c.for_each_view_counted.ensures.counted

pub returns-clause-keys : goal.returns-clause-keys
returns-clause-keys g c =
    let bytes = g.K.KeyTrait.bytes in
    let visit = c.in_ok-for_each_view_counted.ensures.visits in
    let keeps = visit-keeps bytes _ _ (λ pair. pair.0) (λ f. f.0.now.keys)
    (λ f pair f' called. let shows = called.2 in search (rules, of_calls))
    (pairs c.args.set.now.content) _ _ visit in
    let all = kept-all bytes _ _ _ c.new-kept.ensures keeps in
    let name = answers-keep _ _ _ (λ f f'. f'.0.ghost_name ≡ f.0.ghost_name) (λ f. refl)
    (λ f pair f' last called later. search (rules, of_calls)) _ _ _ visit in
    search rules

pub returns-clause-counted : goal.returns-clause-counted
returns-clause-counted g c =
    counted-keys c.args.set.now.content c.for_each_view_counted.ensures.counted

pub returns-clause-each : goal.returns-clause-each
returns-clause-each g c =
    let all = all-entered c.args.set.now.content c.args.work.now c.for_each_view_counted.new.work
    c.in_ok-for_each_view_counted.ensures.exact in
    search (rules, all)
