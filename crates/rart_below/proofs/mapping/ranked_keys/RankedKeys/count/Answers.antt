use Rattle.std.proofs.Common.{◌≤◌, ap, subst, sym, ◌∙◌}
use Rattle.rart_below.specs.Layouts.{rank}
use Rattle.rart_below.proofs.mapping.ranked_keys.RankedKeys.count.Goals as goal

pub returns-clause-few : goal.returns-clause-few
returns-clause-few g c =
    subst (λ k. k ≤ 256)
    (sym (c.rank_past.ensures.value ∙ ap (rank 256) c.as_slice.ensures.value)) (c.requires 256)
