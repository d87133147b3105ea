use Rattle.std.proofs.Common.{Ok, true, sym, subst, ◌∙◌}
use Rattle.rart_node.specs.Counts.{CountsUpTo}
use Rattle.rart_versioned.specs.SlotChanges.{attempt_of, change_enters, change_makes, version_after, IsTried}
use Rattle.rart_versioned.proofs.SlotChangeLemmas.{there-tried}
use Rattle.rart_versioned.proofs.counted.tree.VersionedAdaptiveRadixTree.settle_tried.Goals as goal

pub returns-in-Ok-settle-clause-tries : goal.returns-in-Ok-settle-clause-tries
returns-in-Ok-settle-clause-tries g c =
    let v = c.args.self.now in
    let w = g.K.KeyTrait.bytes c.args.key.now in
    let left = c.args.left in
    let settles =
    c.in-Ok-settle.ensures.done ∙ (λ i.
    version_after v w (c.of.ensures i) (c.rise_of-more.ensures i)) in
    subst (λ told. IsTried v w left told (Ok true) c.settle.new.self) (sym c.in-Ok.is)
    (there-tried v w left c.in-Ok.told c.settle.new.self c.requires.present settles)

pub returns-in-Ok-settle-clause-counted_by_answer : goal.returns-in-Ok-settle-clause-counted_by_answer
returns-in-Ok-settle-clause-counted_by_answer g c =
    let w = g.K.KeyTrait.bytes c.args.key.now in
    let left = c.args.left in
    let start = c.args.work.now in
    let now = c.settle.new.work in
    subst (λ told. CountsUpTo (change_enters w (attempt_of left told))
    (change_makes w (attempt_of left told)) start now) (sym c.in-Ok.is)
    (subst (λ change. CountsUpTo (change_enters w change) (change_makes w change) start now)
    c.of.ensures c.settle.ensures.counted_by_change)
