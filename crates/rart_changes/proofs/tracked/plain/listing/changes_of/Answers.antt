use Rattle.std.proofs.Common.{◌++◌, map, [], ◌∷◌, sym, ap, ◌∙◌, arith, length, rules, append_assoc, append-nil}
use Rattle.std.specs.Vec.Iter.{into_iter_items}
use Rattle.rart_changes.specs.ChangeVisits.{changes_at}
use Rattle.rart_changes.specs.Shown.{shown_change}
use Rattle.rart_changes.proofs.ShowLemmas.{changes_at-cons, nothing-left}
use Rattle.rart_changes.proofs.tracked.plain.listing.changes_of.Goals as goal

pub loop-key-init : goal.loop-key-init
loop-key-init g c =
    let bytes = g.K.KeyTrait.bytes in
    let at = changes_at g.V.PartialEq.eq c.args.old.now.content c.args.new.now.content in
    let gives = c.into_iter-key-iterator.ensures.into_iter_gives in
    let left = map bytes (into_iter_items c.into_iter-key-iterator.result) in
    record {
      length = search rules;
      listed = ap (λ items. map (shown_change {V = g.row.V.Denot} bytes) items ++ at left)
          c.new-list.ensures.items ∙ ap at (ap (map bytes) gives.0);
    }

pub loop-key-preserved : goal.loop-key-preserved
loop-key-preserved g c =
    let bytes = g.K.KeyTrait.bytes in
    let same = g.V.PartialEq.eq in
    let old = c.args.old.now.content in
    let new = c.args.new.now.content in
    let at = changes_at same old new in
    let rest = map bytes (into_iter_items c.next.new.self) in
    let w = bytes c.in-Some.key in
    let before = c.loop-key.invariant in
    let steps = c.in-Some.ensures.steps in
    let more = ap length steps.0 in
    let count = steps.1 in
    let counts = before.length in
    let shown = map (shown_change {V = g.row.V.Denot} bytes) c.loop-key.list.items in
    record {
      length = omega (arith, more, count, counts);
      listed = ap (λ xs. xs ++ at rest) c.in_ok-push_change.ensures
          ∙ ap (λ xs. (shown ++ xs) ++ at rest) c.in_ok-change.ensures
          ∙ append_assoc shown (at (w ∷ [])) (at rest)
          ∙ ap (λ xs. shown ++ xs)
          (sym (ap at (ap (map bytes) steps.0) ∙ changes_at-cons same old new w rest))
          ∙ before.listed;
    }

pub returns : goal.returns
returns g c =
    let bytes = g.K.KeyTrait.bytes in
    let at = changes_at g.V.PartialEq.eq c.args.old.now.content c.args.new.now.content in
    let before = c.loop-key.invariant in
    let none = nothing-left _ (sym before.length ∙ c.in-None.ensures.steps.0) in
    let shown = map (shown_change {V = g.row.V.Denot} bytes) c.loop-key.list.items in
    sym (append-nil shown) ∙ ap (λ xs. shown ++ xs) (sym (ap at (ap (map bytes) none)))
    ∙ before.listed
