use Rattle.std.proofs.Common.{◌<◌, ◌≤◌, length, arith, ap, subst, ◌∙◌}
use Rattle.std.specs.Prelude.{slice_index_or}
use Rattle.rart_node.specs.Shape.{prefix_of}
use Rattle.rart_node.proofs.PrefixRestLemmas.{common-within}
use Rattle.rart_node.proofs.PartingLemmas.{common-front, parts-at}
use Rattle.rart_ways.proofs.FromLemmas.{end-whole}
use Rattle.rart_ways.proofs.ToLemmas.{ends-before, ends-behind, ends-inside-prefix, ends-own, ends-strict}
use Rattle.rart_ways.proofs.seeking.end.reached_of.Goals as goal

-- ---- the two part at a byte

pub returns-then-rest-common-clause-reached : goal.returns-then-rest-common-clause-reached
returns-then-rest-common-clause-reached g c =
    let s = c.args.node.now.shape in
    let short = c.if-common-rest.true in
    let parts =
    parts-at (prefix_of s) c.args.rest.now c.args.common c.requires.common c.requires.ends
    (λ all. omega (arith, all, short)) in
    ends-before c.args.edge s c.args.rest.now _ _ parts
    (subst (λ p. slice_index_or c.args.rest.now c.args.common 0
    < slice_index_or p c.args.common 0) c.prefix.ensures
    (subst (λ n. slice_index_or c.args.rest.now c.args.common 0 < n) c.at.ensures
    c.if-rest-common.true))

pub returns-then-common-rest-clause-reached : goal.returns-then-common-rest-clause-reached
returns-then-common-rest-clause-reached g c =
    let s = c.args.node.now.shape in
    let short = c.if-common-rest.true in
    let parts =
    parts-at (prefix_of s) c.args.rest.now c.args.common c.requires.common c.requires.ends
    (λ all. omega (arith, all, short)) in
    ends-behind c.args.edge s c.args.rest.now _ _ parts
    (subst (λ p. slice_index_or p c.args.common 0
    ≤ slice_index_or c.args.rest.now c.args.common 0) c.prefix.ensures
    (subst (λ n. n ≤ slice_index_or c.args.rest.now c.args.common 0) c.at.ensures
    c.if-rest-common.false))

-- ---- the rest begins the prefix

pub returns-then-common-len-clause-reached : goal.returns-then-common-len-clause-reached
returns-then-common-len-clause-reached g c =
    let s = c.args.node.now.shape in
    let within = (common-within (prefix_of s) c.args.rest.now).1 in
    let is = c.requires.common in
    let most = c.if-common-rest.false in
    let less = c.if-common-len.true in
    let long = c.len.ensures ∙ ap length c.prefix-2.ensures in
    ends-inside-prefix c.args.edge s c.args.rest.now
    (common-front (prefix_of s) c.args.rest.now (omega (arith, within, is, most)))
    (omega (arith, within, is, most, less, long))

pub returns-in-Included-clause-reached : goal.returns-in-Included-clause-reached
returns-in-Included-clause-reached g c =
    let s = c.args.node.now.shape in
    let within = common-within (prefix_of s) c.args.rest.now in
    let shorter = within.0 in
    let fits = within.1 in
    let is = c.requires.common in
    let most = c.if-common-rest.false in
    let least = c.if-common-len.false in
    let long = c.len.ensures ∙ ap length c.prefix-2.ensures in
    ends-own c.args.edge s c.args.rest.now
    (common-front (prefix_of s) c.args.rest.now (omega (arith, fits, is, most)))
    c.requires.tree c.in-Included.is (omega (arith, shorter, fits, is, most, least, long))

pub returns-in-Included-clause-ended : goal.returns-in-Included-clause-ended
returns-in-Included-clause-ended g c =
    let s = c.args.node.now.shape in
    let within = common-within (prefix_of s) c.args.rest.now in
    let shorter = within.0 in
    let fits = within.1 in
    let is = c.requires.common in
    let most = c.if-common-rest.false in
    let least = c.if-common-len.false in
    let long = c.len.ensures ∙ ap length c.prefix-2.ensures in
    λ _. end-whole c.args.edge s c.args.rest.now
    (common-front (prefix_of s) c.args.rest.now (omega (arith, fits, is, most)))
    (omega (arith, shorter, fits, is, most, least, long))

pub returns-in-Excluded-clause-reached : goal.returns-in-Excluded-clause-reached
returns-in-Excluded-clause-reached g c =
    let s = c.args.node.now.shape in
    let within = (common-within (prefix_of s) c.args.rest.now).1 in
    let is = c.requires.common in
    let most = c.if-common-rest.false in
    ends-strict c.args.edge s c.args.rest.now
    (common-front (prefix_of s) c.args.rest.now (omega (arith, within, is, most)))
    c.in-Excluded.is
