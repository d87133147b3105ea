use Rattle.std.proofs.Common.{◌∙◌, ap, sym, map}
use Rattle.rart_maps.proofs.CallerLemmas.{common_swaps}
use Rattle.example_tree.proofs.in_common.prices_both_ways.Goals as goal

pub returns : goal.returns
returns c =
    c.in_ok-other_way.ensures ∙ common_swaps _ _ _
    ∙ sym (ap (map (λ entry. (entry.0, entry.2, entry.1))) c.in_ok-one_way.ensures)
