use Rattle.std.proofs.Common.{◌≡◌, ◌++◌, ◌∷◌, [], Some, Ok, ap, subst, ◌∙◌, rules}
use Rattle.rart_maps.specs.Iterations.{ByKey}
use Rattle.rart_family.specs.Collections.{pairs_of}
use Rattle.rart_family.proofs.CollectionLemmas.{pairs_of-push, shown-pair, collected-more, collected-all}
use Rattle.rart_family.proofs.family.walks.entries_of.Goals as goal

pub loop-item-preserved : goal.loop-item-preserved
loop-item-preserved g c =
    let bytes = g.K.KeyTrait.bytes in
    let gives = g.I.Iterator.next_gives in
    let before = c.loop-item.invariant in
    let goes = c.in-Some.ensures.goes.on before.ends in
    let key = c.in_ok-key.key in
    let value = c.in_ok-key.value in
    let copy : c.in_ok-clone.field-0 ≡ value.now = search rules in
    let pushed : c.push.new.self.items ≡ c.loop-item.entries.items ++ (key, c.in_ok-clone.field-0)
    ∷ [] = search rules in
    let item : c.in-Some.item ≡ Ok (key, value) = search rules in
    let next : gives c.loop-item.item-iterator (Some (Ok (key, value))) c.next.new.self =
    subst (λ i. gives c.loop-item.item-iterator (Some i) c.next.new.self)
    item c.in-Some.ensures.steps in
    let adds : pairs_of bytes c.push.new.self.items
    ≡ pairs_of bytes c.loop-item.entries.items ++ (bytes key, value.now) ∷ [] =
    ap (pairs_of bytes) pushed ∙ pairs_of-push bytes c.loop-item.entries.items key _
    ∙ ap (λ v. pairs_of bytes c.loop-item.entries.items ++ (bytes key, v) ∷ []) copy in
    record {
      starts = goes.0;
      ends = goes.1;
      collected = λ found. collected-more gives (ByKey bytes) _ _ found c.args.walk
          (λ x shows. adds ∙ ap (λ pair. pairs_of bytes c.loop-item.entries.items ++ pair ∷ [])
          (shown-pair bytes (key, value) x shows)) next (before.collected found);
    }

pub returns : goal.returns
returns g c = λ found. collected-all g.I.Iterator.next_gives (ByKey g.K.KeyTrait.bytes)
    _ found c.args.walk c.in-None.ensures.steps (c.loop-item.invariant.collected found)
