use Rattle.std.proofs.Common.{ap, ◌∙◌}
use Rattle.std.specs.Ordering.{is_le, is_lt}
use Rattle.rart_below.proofs.bounds.is_from.Goals as goal

pub returns-in-Included : goal.returns-in-Included
returns-in-Included c =
    rw c.in-Included.is (c.is_le.ensures ∙ ap is_le c.compare_bytes.ensures)

pub returns-in-Excluded : goal.returns-in-Excluded
returns-in-Excluded c =
    rw c.in-Excluded.is (c.is_lt.ensures ∙ ap is_lt c.compare_bytes-in-Excluded.ensures)
