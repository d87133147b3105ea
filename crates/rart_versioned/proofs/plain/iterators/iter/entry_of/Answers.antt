use Rattle.std.proofs.Common.{◌≤◌, ◌∷◌, ℕ, List, [], length, arith, sym, ap, subst, ◌∙◌}
use Rattle.std.proofs.lemmas.Bool.{eqb-true}
use Rattle.std.specs.Option.{option_copied}
use Rattle.rart_node.specs.Shape.{Shape, prefix_of, value_of, children_of, width_of}
use Rattle.rart_versioned.proofs.VersionIterationLemmas.{lone-pair}
use Rattle.rart_versioned.proofs.plain.iterators.iter.entry_of.Goals as goal

pub returns : goal.returns
returns g c =
    let s = c.args.root.now.shape in
    let opened = c.open-node.result.now.shape in
    let same = c.open-node.ensures.shown in
    let value = c.in_ok-value.value.now in
    let is = sym (ap value_of same) ∙ sym c.value.ensures ∙ ap option_copied c.in_ok-value.was in
    let leaf = eqb-true (width_of opened) 0 (sym c.is_leaf.ensures.leaf ∙ c.if-not-is_leaf.false) in
    let room = c.is_leaf.ensures.width.has_room in
    let few : length (children_of opened) ≤ 0 = omega (arith, leaf, room) in
    let fewer = subst (λ (z : Shape g.row.V.Denot). length (children_of z) ≤ 0) same few in
    let key = c.as_ref.ensures ∙ c.prefix.ensures ∙ ap prefix_of same in
    lone-pair s value is fewer ∙ ap (λ (w : List ℕ). (w, value) ∷ []) (sym key)
