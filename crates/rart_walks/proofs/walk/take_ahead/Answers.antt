use Rattle.std.proofs.Common.{Some, [], refl, sym, ◌∙◌}
use Rattle.rart_walks.proofs.FrameLemmas.{marked-front, marked-last, marked-same, spent-less, none-of}
use Rattle.rart_walks.proofs.walk.take_ahead.Goals as goal

pub returns-in-Some-next_child-clause-marked : goal.returns-in-Some-next_child-clause-marked
returns-in-Some-next_child-clause-marked g c =
    λ extent marked. marked-same extent [] c.leaving.outer.items c.in-Some.frame _ refl refl
    (rw c.in-Some.is at (c.leaving.invariant.marked extent marked))

pub returns-in-Some-next_child-clause-mark : goal.returns-in-Some-next_child-clause-mark
returns-in-Some-next_child-clause-mark g c =
    λ extent marked. marked-last extent [] c.leaving.outer.items _
    (marked-same extent [] c.leaving.outer.items c.in-Some.frame _ refl refl
    (rw c.in-Some.is at (c.leaving.invariant.marked extent marked)))

pub leaving-preserved : goal.leaving-preserved
leaving-preserved g c =
    let before = c.leaving.invariant in
    record {
      spent = spent-less _ c.leaving.outer.items _ (Some c.in-Some.frame) before.spent.0
          before.spent.1 (c.in_default-next_child.ensures.0, tt)
          (rw c.in-Some.is at before.spent.2) c.pop.ensures.items;
      marked = λ extent marked. rw c.pop.ensures.items at
          (marked-front extent [] c.leaving.outer.items _ (before.marked extent marked));
      innermost = λ none.
          none-of c.pop.new.self.items (sym c.pop.new.self.ok.0 ∙ (rw none at c.pop.ensures.cases).1);
    }
