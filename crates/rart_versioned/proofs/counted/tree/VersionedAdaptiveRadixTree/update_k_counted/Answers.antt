use Rattle.std.proofs.Common.{rules, inl, sym, ap, ◌∙◌, arith, refl}
use Rattle.std.proofs.lemmas.Bool.{false≢true}
use Rattle.std.specs.declared.alloc.AllocError.{AllocError}
use Rattle.rart_ways.proofs.EditLemmas.{on-any}
use Rattle.rart_node.proofs.CountingLemmas.{counts-most, entered-then}
use Rattle.rart_versioned.specs.SlotChanges.{version_after}
use Rattle.rart_versioned.proofs.SlotChangeLemmas.{there-by-slot, absent-by-slot, asked-memory, tells, updates-there, updates-absent}
use Rattle.rart_versioned.proofs.UpdateCountLemmas.{counts-changed, counts-absent, looked-then, lookup-stopped, makes-then, update-there, update-refused, update-absent}
use Rattle.rart_versioned.proofs.counted.tree.VersionedAdaptiveRadixTree.update_k_counted.Goals as goal

pub returns-in_err-slot : goal.returns-in_err-slot
returns-in_err-slot g c =
    let v = c.args.self.now in
    let w = g.K.KeyTrait.bytes c.args.key.now in
    let refused = c.from_residual.ensures.0 in
    let there = c.in_err-slot.ensures.present in
    let looked = c.slot_at.ensures.counted in
    record {
      updates = search (rules, refused);
      refused = on-any c.from_residual.result refl;
      memory = on-any c.from_residual.result (inl there);
      counted = counts-most looked (omega arith) (omega arith);
      entered = c.slot_at.ensures.entered;
      absent_makes_none = λ absent. absurd (false≢true (sym absent ∙ there));
      counted_by_answer = lookup-stopped g.F.FnOnce c.args.f v w _ _ c.from_residual.result _
          refused looked;
    }

pub settle-requires-clause-present : goal.settle-requires-clause-present
settle-requires-clause-present g c =
    there-by-slot c.args.self.now (g.K.KeyTrait.bytes c.args.key.now) _
    c.in_ok-slot.ensures.slot (sym c.is_occupied-was_there.ensures ∙ c.if-was_there.true)

pub returns-in_err-settle : goal.returns-in_err-settle
returns-in_err-settle g c =
    let v = c.args.self.now in
    let w = g.K.KeyTrait.bytes c.args.key.now in
    let refused = c.from_residual-in_err-settle.ensures.0 in
    let slot = c.in_ok-slot.ensures.slot in
    let there =
    there-by-slot v w _ slot (sym c.is_occupied-was_there.ensures ∙ c.if-was_there.true) in
    let tell = tells g.F.FnOnce c.args.f v w _ _ _ slot c.f-told.ensures in
    let looked = c.slot_at.ensures.counted in
    let done = c.settle.ensures in
    let counts = counts-changed v w _ _ _ looked there _ _ _ c.of.ensures done.counted_by_change in
    record {
      updates = search (rules, refused);
      refused = on-any c.from_residual-in_err-settle.result c.in_err-settle.ensures.refused;
      memory = on-any c.from_residual-in_err-settle.result (inl there);
      counted = looked-then w looked done.counted (omega arith) (omega arith);
      entered = λ keyed.
          entered-then c.args.work.now (c.slot_at.ensures.entered keyed) done.counted;
      absent_makes_none = λ absent. absurd (false≢true (sym absent ∙ there));
      counted_by_answer = update-refused g.F.FnOnce c.args.f v w _ _ _ _
          c.from_residual-in_err-settle.result _ refused tell counts;
    }

pub returns-then-was_there : goal.returns-then-was_there
returns-then-was_there g c =
    let v = c.args.self.now in
    let w = g.K.KeyTrait.bytes c.args.key.now in
    let slot = c.in_ok-slot.ensures.slot in
    let there =
    there-by-slot v w _ slot (sym c.is_occupied-was_there.ensures ∙ c.if-was_there.true) in
    let tell = tells g.F.FnOnce c.args.f v w _ _ _ slot c.f-told.ensures in
    let looked = c.slot_at.ensures.counted in
    let done = c.settle.ensures in
    let counts = counts-changed v w _ _ _ looked there _ _ _ c.of.ensures done.counted_by_change in
    let settles =
    c.in_ok-settle.ensures.done ∙ ap (λ change. version_after v w change 1) c.of.ensures in
    record {
      updates = updates-there g.F.FnOnce c.args.f v w _ _ _ tell there settles;
      refused = tt;
      memory = tt;
      counted = looked-then w looked done.counted (omega arith) (omega arith);
      entered = λ keyed.
          entered-then c.args.work.now (c.slot_at.ensures.entered keyed) done.counted;
      absent_makes_none = λ absent. absurd (false≢true (sym absent ∙ there));
      counted_by_answer =
          update-there g.F.FnOnce c.args.f v w _ _ AllocError _ _ _ tell there settles counts;
    }

pub settle_absent-requires-clause-absent : goal.settle_absent-requires-clause-absent
settle_absent-requires-clause-absent g c =
    absent-by-slot c.args.self.now (g.K.KeyTrait.bytes c.args.key.now) _
    c.in_ok-slot.ensures.slot (sym c.is_occupied-was_there.ensures ∙ c.if-was_there.false)

pub returns : goal.returns
returns g c =
    let v = c.args.self.now in
    let w = g.K.KeyTrait.bytes c.args.key.now in
    let slot = c.in_ok-slot.ensures.slot in
    let absent =
    absent-by-slot v w _ slot (sym c.is_occupied-was_there.ensures ∙ c.if-was_there.false) in
    let tell = tells g.F.FnOnce c.args.f v w _ _ _ slot c.f-told.ensures in
    let looked = c.slot_at.ensures.counted in
    let done = c.settle_absent.ensures in
    let counts = counts-absent v w _ _ _ looked absent c.f-told.new.arg2 _ done.counted_by_answer in
    record {
      updates = updates-absent g.F.FnOnce c.args.f v w _ _ c.settle_absent.result tell _ absent
          done.done;
      refused = done.refused;
      memory = asked-memory g.F.FnOnce c.args.f v w _ _ c.settle_absent.result tell done.memory;
      counted = looked-then w looked done.counted (omega arith) (omega arith);
      entered = λ keyed.
          entered-then c.args.work.now (c.slot_at.ensures.entered keyed) done.counted;
      absent_makes_none = λ absent. makes-then c.settle_absent.new.work c.settle_absent.result looked
          done.absent_makes_none;
      counted_by_answer = update-absent g.F.FnOnce c.args.f v w _ _ _ _ c.settle_absent.result _
          tell absent done.done counts;
    }
