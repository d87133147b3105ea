use Rattle.std.proofs.Common.{rules, ◌≤◌, ap, arith, length, subst, sym, ◌∙◌}
use Rattle.rart_below.specs.SortedKeyedMapping.{sorted_children}
use Rattle.rart_below.specs.IndexedMapping.{indexed_children}
use Rattle.rart_below.specs.Laws.{sorted-fits, indexed-fits}
use Rattle.rart_node.specs.Contents.{content_shape}
use Rattle.rart_node.proofs.content.Content+P+V.widen.Goals as goal

pub move_into-requires : goal.move_into-requires
move_into-requires g c =
    let fits =
    sorted-fits c.in-Node4.mapping.value
    (sym (ap (λ k. (content_shape k).in_order) c.in-Node4.is) ∙ c.requires.order) in
    let room =
    subst (λ m. length (sorted_children m) ≤ 16) (sym c.deref_mut.ensures.value)
    (omega (arith, fits)) in
    (omega arith, (search rules, (search rules, (search rules, room))))

pub move_into-requires-in-Node16 : goal.move_into-requires-in-Node16
move_into-requires-in-Node16 g c =
    let fits =
    sorted-fits c.in-Node16.mapping.boxed.value
    (sym (ap (λ k. (content_shape k).in_order) c.in-Node16.is) ∙ c.requires.order) in
    let room =
    subst (λ m. length (sorted_children m) ≤ 48) (sym c.deref_mut-in-Node16.ensures.value)
    (omega (arith, fits)) in
    (omega arith, (search rules, (search rules, (search rules, room))))

pub move_into-requires-in-Node48 : goal.move_into-requires-in-Node48
move_into-requires-in-Node48 g c =
    let fits =
    indexed-fits c.in-Node48.mapping.boxed.value
    (sym (ap (λ k. (content_shape k).in_order) c.in-Node48.is) ∙ c.requires.order) in
    let room =
    subst (λ m. length (indexed_children m) ≤ 256) (sym c.deref_mut-in-Node48.ensures.value)
    (omega (arith, fits)) in
    (omega arith, (search rules, (search rules, (search rules, room))))
