use Rattle.std.proofs.Common.{◌+◌, ◌∷◌, ℕ, ap, sym, ◌∙◌}
use Rattle.rart_below.specs.Children.{children_from}
use Rattle.rart_below.specs.DirectMapping.{direct_children}
use Rattle.rart_below.specs.Laws.{slots-ascending}
use Rattle.rart_below.proofs.ChildrenFromLemmas.{from-next}
use Rattle.rart_below.proofs.mapping.direct.DirectMappingNodeMapping.next_entry.Goals as goal

pub returns : goal.returns
returns g c =
    let mapping = c.args.self.now in
    let children = direct_children mapping in
    let entry : ℕ × g.row.C.Denot = (c.in_ok-byte.byte, c.in_ok-byte.child.now) in
    from-next c.args.from.now children entry (slots-ascending 0 mapping.children.slots)
    (sym (c.in_ok-byte.ensures {u = tt}))
    ∙ ap (λ (n : ℕ). entry ∷ children_from (n + 1) children) (sym c.from.ensures)
