use Rattle.std.proofs.Common.{◌≡◌, ◌+◌, ◌++◌, length, ap, subst, sym, ◌∙◌}
use Rattle.rart_below.specs.Bytes.{IsAdmitted}
use Rattle.rart_node.specs.Shape.{merged, prefix_of, with_prefix}
use Rattle.rart_node.proofs.NodeMergeLemmas.{if-ok, one-ascending, one-first, one-only, only-child}
use Rattle.rart_node.proofs.node.VersionedNode.merge_child.Goals as goal

pub next_from-requires : goal.next_from-requires
next_from-requires g c = one-ascending _ c.requires.child

pub unreachable-requires : goal.unreachable-requires
unreachable-requires g c = absurd (one-first _ c.requires.child c.in_default.ensures)

pub partial_extended_with-requires : goal.partial_extended_with-requires
partial_extended_with-requires g c =
    let shown = c.prefix-2.ensures ∙ ap prefix_of c.open-child.ensures.shown in
    subst (IsAdmitted g.P.Partial.MAXIMUM_SIZE)
    (λ i. length (sym c.prefix.ensures i) + length (sym shown i))
    (c.requires.admitted _ _ (one-only _ _ c.requires.child c.in-Some.ensures))

pub returns-clause-merged : goal.returns-clause-merged
returns-clause-merged g c =
    let s = c.args.self.now.shape in
    let shown = c.open-child.ensures.shown in
    let joined : g.P.Partial.bytes c.in_ok-prefix.prefix
    ≡ prefix_of s ++ prefix_of c.in-Some.child.now.shape =
    c.in_ok-prefix.ensures
    ∙ (λ i. c.prefix.ensures i ++ (c.prefix-2.ensures ∙ ap prefix_of shown) i) in
    if-ok c.copy_under.result (λ copy same clones byte child only. same clones
    ∙ (λ i. with_prefix (joined i) (shown i)) ∙ ap (merged (prefix_of s))
    (only-child s _ child _ byte (one-only _ _ c.requires.child c.in-Some.ensures) only))
    c.copy_under.ensures
