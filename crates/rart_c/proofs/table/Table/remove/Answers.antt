use Rattle.std.proofs.Common.{◌∙◌, ◌-◌, ◌≤◌, ap, subst, sym}
use Rattle.rart_c.proofs.KeyCountLemmas.{a-key, one-less}
use Rattle.rart_c.proofs.KeyLimitLemmas.{KeepsLimit-after_removal}
use Rattle.rart_c.proofs.table.Table.remove.Goals as goal

pub overflow_sub-self : goal.overflow_sub-self
overflow_sub-self g c =
    subst (λ n. 1 ≤ n) (sym c.self.invariant.count)
    (a-key c.self.inside.tree c.args.key.now c.in-Ok.removed c.in-Ok.ensures.answer
    (sym c.if-is_some.ensures))

pub invariant_of-self-then-is_some : goal.invariant_of-self-then-is_some
invariant_of-self-then-is_some g c =
    record {
      count = ap (λ n. n - 1) c.self.invariant.count
          ∙ one-less c.self.inside.tree c.remove_bytes.new.self c.args.key.now c.in-Ok.removed
          (c.in-Ok.ensures.answer, c.in-Ok.ensures.removed) (sym c.if-is_some.ensures);
      limit = KeepsLimit-after_removal c.self.inside.longest c.self.inside.tree c.args.key.now
          c.self.invariant.limit c.remove_bytes.new.self c.in-Ok.ensures.removed;
    }
