use Rattle.std.proofs.Common.{◌<◌, ◌≤◌, length, arith, ap, subst, ◌∙◌}
use Rattle.std.specs.Prelude.{slice_index_or}
use Rattle.rart_node.specs.Shape.{prefix_of}
use Rattle.rart_node.proofs.PrefixRestLemmas.{common-within}
use Rattle.rart_node.proofs.PartingLemmas.{common-front, parts-at}
use Rattle.rart_ways.proofs.FromLemmas.{end-whole, end-inside, end-weak, end-short, end-above, end-below}
use Rattle.rart_ways.proofs.seeking.start.kept_of.Goals as goal

-- ---- the two part at a byte

pub returns-then-rest-common : goal.returns-then-rest-common
returns-then-rest-common g c =
    let s = c.args.node.now.shape in
    let short = c.if-common-rest.true in
    let parts =
    parts-at (prefix_of s) c.args.rest.now c.args.common c.requires.common c.requires.ends
    (λ all. omega (arith, all, short)) in
    record {
      kept =
          end-above c.args.edge s c.args.rest.now _ _ parts
          (subst (λ p. slice_index_or c.args.rest.now c.args.common 0
          < slice_index_or p c.args.common 0) c.prefix.ensures
          (subst (λ n. slice_index_or c.args.rest.now c.args.common 0 < n) c.at.ensures
          c.if-rest-common.true));
      ended = λ is. cc;
    }

pub returns-then-common-rest : goal.returns-then-common-rest
returns-then-common-rest g c =
    let s = c.args.node.now.shape in
    let short = c.if-common-rest.true in
    let parts =
    parts-at (prefix_of s) c.args.rest.now c.args.common c.requires.common c.requires.ends
    (λ all. omega (arith, all, short)) in
    record {
      kept =
          end-below c.args.edge s c.args.rest.now _ _ parts
          (subst (λ p. slice_index_or p c.args.common 0
          ≤ slice_index_or c.args.rest.now c.args.common 0) c.prefix.ensures
          (subst (λ n. n ≤ slice_index_or c.args.rest.now c.args.common 0) c.at.ensures
          c.if-rest-common.false));
      ended = λ is. cc;
    }

-- ---- the rest begins the prefix

pub returns-then-common-len : goal.returns-then-common-len
returns-then-common-len g c =
    let s = c.args.node.now.shape in
    let within = (common-within (prefix_of s) c.args.rest.now).1 in
    let is = c.requires.common in
    let most = c.if-common-rest.false in
    let less = c.if-common-len.true in
    let long = c.len.ensures ∙ ap length c.prefix-2.ensures in
    record {
      kept =
          end-short c.args.edge s c.args.rest.now
          (common-front (prefix_of s) c.args.rest.now (omega (arith, within, is, most)))
          (omega (arith, within, is, most, less, long));
      ended = λ is. cc;
    }

pub returns-in-Included : goal.returns-in-Included
returns-in-Included g c =
    let s = c.args.node.now.shape in
    let within = (common-within (prefix_of s) c.args.rest.now).1 in
    let is = c.requires.common in
    let most = c.if-common-rest.false in
    record {
      kept =
          end-weak c.args.edge s c.args.rest.now
          (common-front (prefix_of s) c.args.rest.now (omega (arith, within, is, most)))
          c.in-Included.is;
      ended = λ is. cc;
    }

pub returns-in-Excluded : goal.returns-in-Excluded
returns-in-Excluded g c =
    let s = c.args.node.now.shape in
    let within = common-within (prefix_of s) c.args.rest.now in
    let shorter = within.0 in
    let fits = within.1 in
    let is = c.requires.common in
    let most = c.if-common-rest.false in
    let least = c.if-common-len.false in
    let long = c.len.ensures ∙ ap length c.prefix-2.ensures in
    let front =
    common-front (prefix_of s) c.args.rest.now (omega (arith, fits, is, most)) in
    record {
      kept =
          end-inside c.args.edge s c.args.rest.now front c.requires.tree
          c.in-Excluded.is (omega (arith, shorter, fits, is, most, least, long));
      ended = λ _. end-whole c.args.edge s c.args.rest.now front
          (omega (arith, shorter, fits, is, most, least, long));
    }
