use Rattle.std.proofs.Common.{◌∙◌, ap, sym}
use Rattle.std.specs.FinMap as finite
use Rattle.rart_c.proofs.EmptyLemmas.{no-length}
use Rattle.rart_c.proofs.KeyLimitLemmas.{KeepsLimit-empty}
use Rattle.rart_c.proofs.table.Table.new_at.Goals as goal

pub invariant_of-result : goal.invariant_of-result
invariant_of-result g c =
    record {
      count = no-length g.row.V.Denot c.args.number
          ∙ sym (ap (λ v. finite.len v.content) c.new_at.ensures.empty);
      limit = KeepsLimit-empty _ c.args.number _ c.new_at.ensures.empty;
    }
