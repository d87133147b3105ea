use Rattle.std.proofs.Common.{map, sym, ap, ◌∙◌, arith, length, rules}
use Rattle.std.specs.Vec.Iter.{into_iter_items}
use Rattle.std.proofs.lemmas.List.{length-map}
use Rattle.rart_maps.proofs.VisitLemmas.{callable-part, up_to-part, up_to-over}
use Rattle.rart_changes.specs.ChangeVisits.{changes_at}
use Rattle.rart_maps.specs.ChangeVisits.{ByKeyChange}
use Rattle.rart_changes.proofs.ShowLemmas.{changes_at-cons, counted-start, counted-next, counted-end, counted-least, up_to-all, nothing-left}
use Rattle.rart_changes.proofs.tracked.showing.show_changes.Goals as goal

pub loop-key-init : goal.loop-key-init
loop-key-init g c =
    let bytes = g.K.KeyTrait.bytes in
    let at = changes_at g.V.PartialEq.eq c.args.old.now.content c.args.new.now.content in
    let gives = c.into_iter-key-iterator.ensures.into_iter_gives in
    let same = ap (map bytes) gives.0 in
    record {
      length = search rules;
      calls = up_to-all g.F.FnMut (ByKeyChange {V = g.row.V.Denot} bytes) _ _ _ (ap at same);
      counted = counted-start 2 _ same;
    }

pub show_change-requires : goal.show_change-requires
show_change-requires g c =
    let bytes = g.K.KeyTrait.bytes in
    let same = g.V.PartialEq.eq in
    let at = changes_at same c.args.old.now.content c.args.new.now.content in
    let rest = map bytes (into_iter_items c.next.new.self) in
    let w = bytes c.in-Some.key in
    let comes = ap at (ap (map bytes) c.in-Some.ensures.steps.0)
    ∙ changes_at-cons same c.args.old.now.content c.args.new.now.content w rest in
    callable-part g.F.FnMut (ByKeyChange {V = g.row.V.Denot} bytes) tt _ (at rest) comes c.requires
    c.loop-key.invariant.calls

pub loop-key-preserved : goal.loop-key-preserved
loop-key-preserved g c =
    let bytes = g.K.KeyTrait.bytes in
    let same = g.V.PartialEq.eq in
    let at = changes_at same c.args.old.now.content c.args.new.now.content in
    let rest = map bytes (into_iter_items c.next.new.self) in
    let w = bytes c.in-Some.key in
    let before = c.loop-key.invariant in
    let steps = c.in-Some.ensures.steps in
    let keys = ap (map bytes) steps.0 in
    let comes = ap at keys
    ∙ changes_at-cons same c.args.old.now.content c.args.new.now.content w rest in
    let more = ap length steps.0 in
    let count = steps.1 in
    let counts = before.length in
    record {
      length = omega (arith, more, count, counts);
      calls = up_to-part g.F.FnMut (ByKeyChange {V = g.row.V.Denot} bytes) tt _ (at rest) comes
          before.calls c.show_change.ensures.visits;
      counted = counted-next w rest keys before.counted c.show_change.ensures.counted
          c.show_change.ensures.entered;
    }

pub returns-clause-visits : goal.returns-clause-visits
returns-clause-visits g c =
    let bytes = g.K.KeyTrait.bytes in
    let at = changes_at g.V.PartialEq.eq c.args.old.now.content c.args.new.now.content in
    let before = c.loop-key.invariant in
    let none = nothing-left _ (sym before.length ∙ c.in-None.ensures.steps.0) in
    up_to-over g.F.FnMut (ByKeyChange {V = g.row.V.Denot} bytes) tt (ap at (ap (map bytes) none))
    before.calls

pub returns-clause-counted : goal.returns-clause-counted
returns-clause-counted g c = counted-end c.loop-key.invariant.counted

pub returns-clause-each : goal.returns-clause-each
returns-clause-each g c =
    let before = c.loop-key.invariant in
    let none = nothing-left _ (sym before.length ∙ c.in-None.ensures.steps.0) in
    let many = length-map c.args.keys.items g.K.KeyTrait.bytes in
    rw (← many) (counted-least (ap (map g.K.KeyTrait.bytes) none) before.counted)
