use Rattle.std.proofs.Common.{◌≡◌, Some, drop, length, true, ap, sym, ◌∙◌}
use Rattle.rart_below.specs.Bytes.{begins}
use Rattle.rart_node.proofs.PrefixRestLemmas.{begins-within, strip_prefix-begun, strip_prefix-other}
use Rattle.rart_node.proofs.matching.strip_prefix.Goals as goal

pub returns-then-not-does_begin : goal.returns-then-not-does_begin
returns-then-not-does_begin g c =
    let prefix = g.P.Partial.bytes c.args.prefix.now in
    let key = c.args.key.now in
    sym (strip_prefix-other prefix key (sym (ap (λ p. begins p key) c.as_ref-bytes.ensures)
    ∙ sym c.does_begin.ensures ∙ c.if-not-does_begin.true))

pub rest_of-requires : goal.rest_of-requires
rest_of-requires g c =
    begins-within c.as_ref-bytes.result.now c.args.key.now
    (sym c.does_begin.ensures ∙ c.if-not-does_begin.false)

pub returns : goal.returns
returns g c =
    let prefix = g.P.Partial.bytes c.args.prefix.now in
    let key = c.args.key.now in
    let begun : begins prefix key ≡ true =
    sym (ap (λ p. begins p key) c.as_ref-bytes.ensures)
    ∙ sym c.does_begin.ensures ∙ c.if-not-does_begin.false in
    ap Some (c.rest_of.ensures ∙ ap (λ p. drop (length p) key) c.as_ref-bytes.ensures)
    ∙ sym (strip_prefix-begun prefix key begun)
