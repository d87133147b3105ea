use Rattle.std.proofs.Common.{◌∙◌, ◌+◌, ◌≤◌, ap, length, subst, sym}
use Rattle.rart_c.proofs.KeyCountLemmas.{as-many, one-more}
use Rattle.rart_c.proofs.KeyLimitLemmas.{KeepsLimit-with_key}
use Rattle.rart_c.proofs.table.Table.insert.Goals as goal

pub invariant_of-self-then-is_none : goal.invariant_of-self-then-is_none
invariant_of-self-then-is_none g c =
    record {
      count = ap (λ n. n + 1) c.self.invariant.count
          ∙ one-more c.self.inside.tree c.insert_and_replace_bytes.new.self c.args.key.now
          c.in-Ok.replaced c.args.value
          (c.in-Ok.ensures.answer, c.in-Ok.ensures.set) c.if-is_none.ensures;
      limit = KeepsLimit-with_key c.self.inside.longest c.self.inside.tree c.args.key.now
          c.self.invariant.limit c.args.value
          (subst (λ tree. length c.args.key.now ≤ tree.longest) (sym c.self.view_is)
          c.requires.short)
          c.insert_and_replace_bytes.new.self c.in-Ok.ensures.set;
    }

pub invariant_of-self-else-is_none : goal.invariant_of-self-else-is_none
invariant_of-self-else-is_none g c =
    record {
      count = c.self.invariant.count
          ∙ as-many c.self.inside.tree c.insert_and_replace_bytes.new.self c.args.key.now
          c.in-Ok.replaced c.args.value
          (c.in-Ok.ensures.answer, c.in-Ok.ensures.set) c.if-is_none.ensures;
      limit = KeepsLimit-with_key c.self.inside.longest c.self.inside.tree c.args.key.now
          c.self.invariant.limit c.args.value
          (subst (λ tree. length c.args.key.now ≤ tree.longest) (sym c.self.view_is)
          c.requires.short)
          c.insert_and_replace_bytes.new.self c.in-Ok.ensures.set;
    }
