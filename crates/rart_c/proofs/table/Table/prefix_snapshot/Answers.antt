use Rattle.std.proofs.Common.{◌∙◌, ap, sym}
use Rattle.std.specs.FinMap as finite
use Rattle.rart_c.proofs.CountUnderLemmas.{KeepsLimit-under, len-under}
use Rattle.rart_c.proofs.table.Table.prefix_snapshot.Goals as goal

pub invariant_of-result : goal.invariant_of-result
invariant_of-result g c =
    let p = c.args.prefix.now in
    let tree = c.self.inside.tree in
    let kept = c.in-Ok-prefix_snapshot.ensures.kept in
    record {
      count = c.in-Ok.ensures ∙ len-under tree.content p
          ∙ sym (ap (λ v. finite.len v.content) kept);
      limit = KeepsLimit-under c.self.inside.longest tree p c.self.invariant.limit
          c.in-Ok-prefix_snapshot.tree kept;
    }
