use Rattle.std.proofs.Common.{◌+◌, ◌-◌, ◌≤◌, length, drop, arith, sym, ap, subst, ◌∙◌}
use Rattle.std.proofs.lemmas.List.{length-drop, length-take-le}
use Rattle.rart_ways.proofs.RunPlaceLemmas.{common-right, common-short, long-at, prefix-is, take-whole}
use Rattle.rart_ways.proofs.sorted.prefix_for.Goals as goal

pub rest_of-last-requires : goal.rest_of-last-requires
rest_of-last-requires g c =
    let some = c.requires.some in
    let items = c.args.pairs.now in
    let long =
    long-at g.K.KeyTrait.bytes c.args.depth c.args.from (length items - 1) items
    c.index-pairs-pairs.result c.requires.long (omega (arith, some)) (omega (arith, some))
    c.index-pairs-pairs.is in
    subst (λ key. c.args.depth ≤ length key) (sym c.as_ref.ensures)
    (subst (λ pair. c.args.depth ≤ length (g.K.KeyTrait.bytes pair.0)) c.index-pairs-pairs.is long)

pub overflow_add-at : goal.overflow_add-at
overflow_add-at g c =
    let some = c.requires.some in
    let items = c.args.pairs.now in
    let long =
    long-at g.K.KeyTrait.bytes c.args.depth c.args.from (length items - 1) items
    c.index-pairs-pairs.result c.requires.long (omega (arith, some)) (omega (arith, some))
    c.index-pairs-pairs.is in
    let enough = subst (λ key. c.args.depth ≤ length key) (sym c.as_ref.ensures)
    (subst (λ pair. c.args.depth ≤ length (g.K.KeyTrait.bytes pair.0)) c.index-pairs-pairs.is
    long) in
    let most = common-right (g.K.PartialType.Partial.bytes c.in_ok-first.first)
    c.rest_of-last.result.now in
    let is = c.prefix_length_slice-common.ensures in
    let rest = ap length c.rest_of-last.ensures in
    let left = length-drop c.args.depth c.as_ref.result.now in
    let fits = c.as_ref.type_inv.0 in
    omega (arith, most, is, rest, left, fits, enough)

pub returns-then-common-len : goal.returns-then-common-len
returns-then-common-len g c =
    let some = c.requires.some in
    let items = c.args.pairs.now in
    let first = g.K.PartialType.Partial.bytes c.in_ok-first.first in
    let whole = c.if-common-len.true ∙ c.len.ensures in
    let is =
    sym (take-whole c.prefix_length_slice-common.result first (omega (arith, whole)))
    ∙ prefix-is g.K.KeyTrait.bytes c.args.from c.args.depth (length items - 1) items
    c.index-pairs-from.result c.index-pairs-pairs.result first c.rest_of-last.result.now
    c.prefix_length_slice-common.result c.index-pairs-from.is c.index-pairs-pairs.is
    (omega (arith, some)) some c.in_ok-first.ensures
    (c.rest_of-last.ensures ∙ ap (drop c.args.depth) c.as_ref.ensures)
    c.prefix_length_slice-common.ensures in
    record {
      prefix = is;
      at = ap (λ n. c.args.depth + n) (whole ∙ ap length is);
    }

pub partial_before-requires : goal.partial_before-requires
partial_before-requires g c =
    let first = g.K.PartialType.Partial.bytes c.in_ok-first.first in
    subst (λ n. n ≤ length first) (sym c.prefix_length_slice-common.ensures)
    (common-short first c.rest_of-last.result.now)

pub returns : goal.returns
returns g c =
    let some = c.requires.some in
    let items = c.args.pairs.now in
    let first = g.K.PartialType.Partial.bytes c.in_ok-first.first in
    let common = c.prefix_length_slice-common.result in
    let short = subst (λ n. n ≤ length first) (sym c.prefix_length_slice-common.ensures)
    (common-short first c.rest_of-last.result.now) in
    let is =
    prefix-is g.K.KeyTrait.bytes c.args.from c.args.depth (length items - 1) items
    c.index-pairs-from.result c.index-pairs-pairs.result first c.rest_of-last.result.now common
    c.index-pairs-from.is c.index-pairs-pairs.is (omega (arith, some)) some c.in_ok-first.ensures
    (c.rest_of-last.ensures ∙ ap (drop c.args.depth) c.as_ref.ensures)
    c.prefix_length_slice-common.ensures in
    record {
      prefix = c.in_ok-before.ensures ∙ is;
      at = ap (λ n. c.args.depth + n) (sym (length-take-le common first short) ∙ ap length is);
    }
