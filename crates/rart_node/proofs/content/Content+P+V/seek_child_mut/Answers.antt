use Rattle.std.proofs.Common.{rules, refl}
use Rattle.rart_node.proofs.ContentLemmas.{of_lent}
use Rattle.rart_node.proofs.content.Content+P+V.seek_child_mut.Goals as goal

pub returns-in-Node4 : goal.returns-in-Node4
returns-in-Node4 g c =
    let lent = c.seek_child_mut in (
      (
        refl,
        (λ left. of_lent lent.result (lent.follows.holds left) (λ given. search rules)),
        search rules,
      ),
      record { writes_back = tt; value = search rules },
    )

pub returns-in-Node16 : goal.returns-in-Node16
returns-in-Node16 g c =
    let lent = c.seek_child_mut-in-Node16 in (
      (
        refl,
        (λ left. of_lent lent.result (lent.follows.holds left) (λ given. search rules)),
        search rules,
      ),
      record { writes_back = tt; value = search rules },
    )

pub returns-in-Node48 : goal.returns-in-Node48
returns-in-Node48 g c =
    let lent = c.seek_child_mut-in-Node48 in (
      (
        refl,
        (λ left. of_lent lent.result (lent.follows.holds left) (λ given. search rules)),
        search rules,
      ),
      record { writes_back = tt; value = search rules },
    )

pub returns-in-Node256 : goal.returns-in-Node256
returns-in-Node256 g c =
    let lent = c.seek_child_mut-in-Node256 in (
      (
        refl,
        (λ left. of_lent lent.result (lent.follows.holds left) (λ given. search rules)),
        search rules,
      ),
      record { writes_back = tt; value = search rules },
    )
