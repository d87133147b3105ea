use Rattle.std.proofs.Common.{Some, length, refl, arith, sym, ap, ◌∙◌}
use Rattle.rart_below.specs.Bytes.{common_length}
use Rattle.rart_node.specs.Shape.{prefix_of}
use Rattle.rart_node.proofs.PrefixRestLemmas.{common-within}
use Rattle.rart_ways.proofs.UnderPrefixLemmas.{common-begins, turn-apart, turn-missing, turn-down}
use Rattle.rart_ways.proofs.prefixes.ending.turn_at.Goals as goal

pub returns-then-common-rest : goal.returns-then-common-rest
returns-then-common-rest g c =
    let is = c.prefix_length_slice-common.ensures
    ∙ ap (λ p. common_length p c.args.rest.now) c.prefix-prefix.ensures in
    common-begins (prefix_of c.args.node.now.shape) c.args.rest.now
    (sym is ∙ c.if-common-rest.true)

pub returns-then-common-len : goal.returns-then-common-len
returns-then-common-len g c =
    let is = c.prefix_length_slice-common.ensures
    ∙ ap (λ p. common_length p c.args.rest.now) c.prefix-prefix.ensures in
    let of_prefix = c.len.ensures ∙ ap length c.prefix-prefix.ensures in
    let below = c.if-common-len.true in
    turn-apart c.args.node.now.shape c.args.rest.now _ is c.if-common-rest.false
    (omega (arith, below, of_prefix))

pub bounds-rest-common : goal.bounds-rest-common
bounds-rest-common g c =
    let is = c.prefix_length_slice-common.ensures
    ∙ ap (λ p. common_length p c.args.rest.now) c.prefix-prefix.ensures in
    let within = (common-within (prefix_of c.args.node.now.shape) c.args.rest.now).1 in
    let other = c.if-common-rest.false in
    omega (arith, is, within, other)

pub rest_of-requires : goal.rest_of-requires
rest_of-requires g c =
    let is = c.prefix_length_slice-common.ensures
    ∙ ap (λ p. common_length p c.args.rest.now) c.prefix-prefix.ensures in
    let within = (common-within (prefix_of c.args.node.now.shape) c.args.rest.now).1 in
    omega (arith, is, within)

pub returns-in-None : goal.returns-in-None
returns-in-None g c =
    let is = c.prefix_length_slice-common.ensures
    ∙ ap (λ p. common_length p c.args.rest.now) c.prefix-prefix.ensures in
    let of_prefix = c.len.ensures ∙ ap length c.prefix-prefix.ensures in
    let whole = c.if-common-len.false in
    turn-missing c.args.node.now.shape c.args.rest.now _ _ is c.if-common-rest.false
    (omega (arith, whole, of_prefix)) refl (sym c.in-None.ensures)

pub returns-in-Some : goal.returns-in-Some
returns-in-Some g c =
    let is = c.prefix_length_slice-common.ensures
    ∙ ap (λ p. common_length p c.args.rest.now) c.prefix-prefix.ensures in
    let of_prefix = c.len.ensures ∙ ap length c.prefix-prefix.ensures in
    let whole = c.if-common-len.false in
    turn-down c.args.node.now.shape c.args.rest.now _ _ is c.if-common-rest.false
    (omega (arith, whole, of_prefix)) refl _ (sym c.in-Some.ensures)
    ∙ ap (λ z. Some (c.in-Some.child.now.shape, z)) (sym c.rest_of.ensures)
