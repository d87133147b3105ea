use Rattle.std.proofs.Common.{◌≤◌, ap, arith, subst, sym}
use Rattle.std.specs.FinMap as finite
use Rattle.rart_c.proofs.CountUnderLemmas.{KeepsLimit-restored, few-under, len-restored}
use Rattle.rart_c.proofs.table.Table.restore_prefix.Goals as goal

pub overflow_sub-self : goal.overflow_sub-self
overflow_sub-self g c =
    let few = few-under c.self.inside.tree c.args.prefix.now in
    let many = c.in-Ok.ensures in
    let all = c.self.invariant.count in
    omega (arith, few, many, all)

pub overflow_add-self : goal.overflow_add-self
overflow_add-self g c =
    let p = c.args.prefix.now in
    let few = few-under c.self.inside.tree p in
    let also = few-under c.from.inside.tree p in
    let removed = c.in-Ok.ensures in
    let restored = c.in-Ok-count_under.ensures in
    let all = c.self.invariant.count in
    let most = c.version.ensures.few in
    let more = c.version-2.ensures.few in
    let room = c.if-version.false in
    omega (arith, few, also, removed, restored, all, most, more, room)

pub invariant_of-self-2 : goal.invariant_of-self-2
invariant_of-self-2 g c =
    let p = c.args.prefix.now in
    let tree = c.self.inside.tree in
    let from = c.from.inside.tree in
    let after = c.in-Ok-restore_prefix.ensures.restored in
    let left = len-restored from.content tree.content p in
    let is = ap (λ v. finite.len v.content) after in
    let removed = c.in-Ok.ensures in
    let restored = c.in-Ok-count_under.ensures in
    let all = c.self.invariant.count in
    record {
      count = omega (arith, left, is, removed, restored, all);
      limit = KeepsLimit-restored c.self.inside.longest tree p c.self.invariant.limit from
          c.from.inside.longest c.from.invariant.limit
          (subst (λ it. it.longest ≤ c.self.inside.longest) (sym c.from.view_is)
          (subst (λ it. c.args.from.now.longest ≤ it.longest) (sym c.self.view_is)
          c.requires.short))
          c.restore_prefix.new.self after;
    }
