use Rattle.std.proofs.Common.{◌≡◌, ◌++◌, ◌∷◌, [], Some, Ok, ap, subst, ◌∙◌, rules}
use Rattle.rart_maps.specs.Iterations.{ByReference}
use Rattle.rart_family.proofs.CollectionLemmas.{collected-more, collected-all}
use Rattle.rart_family.proofs.family.walks.values_of.Goals as goal

pub loop-item-preserved : goal.loop-item-preserved
loop-item-preserved g c =
    let gives = g.I.Iterator.next_gives in
    let before = c.loop-item.invariant in
    let goes = c.in-Some.ensures.goes.on before.ends in
    let value = c.in_ok-item.field-0 in
    let pushed : c.push.new.self.items ≡ c.loop-item.values.items ++ value.now ∷ [] =
    search rules in
    let item : c.in-Some.item ≡ Ok value = search rules in
    let next : gives c.loop-item.item-iterator (Some (Ok value)) c.next.new.self =
    subst (λ i. gives c.loop-item.item-iterator (Some i) c.next.new.self)
    item c.in-Some.ensures.steps in
    record {
      starts = goes.0;
      ends = goes.1;
      collected = λ found. collected-more gives ByReference _ _ found c.args.walk
          (λ x shows. pushed ∙ ap (λ v. c.loop-item.values.items ++ v ∷ []) shows) next
          (before.collected found);
    }

pub returns : goal.returns
returns g c = λ found. collected-all g.I.Iterator.next_gives ByReference _ found c.args.walk
    c.in-None.ensures.steps (c.loop-item.invariant.collected found)
