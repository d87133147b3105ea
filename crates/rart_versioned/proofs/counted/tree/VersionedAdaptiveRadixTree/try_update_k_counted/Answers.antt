use Rattle.std.proofs.Common.{inl, sym, ◌∙◌, arith, refl}
use Rattle.std.proofs.lemmas.Bool.{false≢true}
use Rattle.rart_node.proofs.CountingLemmas.{counts-most, entered-then}
use Rattle.rart_versioned.proofs.SlotChangeLemmas.{there-by-slot, absent-by-slot, tells-or-fails, tries-there, tries-absent}
use Rattle.rart_versioned.proofs.UpdateCountLemmas.{attempt-there, attempt-absent, looked-then, makes-then-tried, try-there, try-absent}
use Rattle.rart_versioned.proofs.counted.tree.VersionedAdaptiveRadixTree.try_update_k_counted.Goals as goal

pub returns-in-Err : goal.returns-in-Err
returns-in-Err g c =
    let looked = c.slot_at.ensures.counted in
    record {
      updates = (refl, inl c.in-Err.ensures.present);
      counted = counts-most looked (omega arith) (omega arith);
      entered = c.slot_at.ensures.entered;
      absent_makes_none = λ absent. tt;
      counted_by_answer = inl looked;
    }

pub settle_tried-requires-clause-present : goal.settle_tried-requires-clause-present
settle_tried-requires-clause-present g c =
    there-by-slot c.args.self.now (g.K.KeyTrait.bytes c.args.key.now) _
    c.in-Ok.ensures.slot (sym c.is_occupied-was_there.ensures ∙ c.if-was_there.true)

pub returns-then-was_there : goal.returns-then-was_there
returns-then-was_there g c =
    let v = c.args.self.now in
    let w = g.K.KeyTrait.bytes c.args.key.now in
    let slot = c.in-Ok.ensures.slot in
    let there =
    there-by-slot v w _ slot (sym c.is_occupied-was_there.ensures ∙ c.if-was_there.true) in
    let tell = tells-or-fails g.F.FnOnce c.args.f v w _ _ _ slot c.f-told.ensures in
    let looked = c.slot_at.ensures.counted in
    let done = c.settle_tried.ensures in
    let counts = attempt-there v w _ _ _ looked there c.f-told.new.arg2 _ done.counted_by_answer in
    record {
      updates = tries-there g.F.FnOnce c.args.f v w _ _ c.settle_tried.result _ tell there
          done.tries;
      counted = looked-then w looked done.counted (omega arith) (omega arith);
      entered = λ keyed.
          entered-then c.args.work.now (c.slot_at.ensures.entered keyed) done.counted;
      absent_makes_none = λ absent. absurd (false≢true (sym absent ∙ there));
      counted_by_answer = try-there g.F.FnOnce c.args.f v w _ _ _ _ c.settle_tried.result _ tell
          done.tries counts;
    }

pub settle_tried_absent-requires-clause-room : goal.settle_tried_absent-requires-clause-room
settle_tried_absent-requires-clause-room g c =
    let room = c.requires.room in
    omega (arith, room)

pub settle_tried_absent-requires-clause-absent : goal.settle_tried_absent-requires-clause-absent
settle_tried_absent-requires-clause-absent g c =
    absent-by-slot c.args.self.now (g.K.KeyTrait.bytes c.args.key.now) _
    c.in-Ok.ensures.slot (sym c.is_occupied-was_there.ensures ∙ c.if-was_there.false)

pub returns : goal.returns
returns g c =
    let v = c.args.self.now in
    let w = g.K.KeyTrait.bytes c.args.key.now in
    let slot = c.in-Ok.ensures.slot in
    let absent =
    absent-by-slot v w _ slot (sym c.is_occupied-was_there.ensures ∙ c.if-was_there.false) in
    let tell = tells-or-fails g.F.FnOnce c.args.f v w _ _ _ slot c.f-told.ensures in
    let looked = c.slot_at.ensures.counted in
    let done = c.settle_tried_absent.ensures in
    let counts =
    attempt-absent v w _ _ _ looked absent c.f-told.new.arg2 _ done.counted_by_answer in
    record {
      updates = tries-absent g.F.FnOnce c.args.f v w _ _ c.settle_tried_absent.result _ tell
          done.tries;
      counted = looked-then w looked done.counted (omega arith) (omega arith);
      entered = λ keyed.
          entered-then c.args.work.now (c.slot_at.ensures.entered keyed) done.counted;
      absent_makes_none = λ absent. makes-then-tried _ c.settle_tried_absent.result looked
          done.absent_makes_none;
      counted_by_answer = try-absent g.F.FnOnce c.args.f v w _ _ _ _ c.settle_tried_absent.result _
          tell done.tries counts;
    }
