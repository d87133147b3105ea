use Rattle.std.proofs.Common.{◌≡◌, ◌<◌, ◌≤◌, true, false, length, arith, sym, ap, subst, ◌∙◌}
use Rattle.std.specs.Prelude.{◌==◌, slice_index_or}
use Rattle.rart_node.specs.Shape.{prefix_of}
use Rattle.rart_node.proofs.PrefixRestLemmas.{common_fits}
use Rattle.rart_walks.specs.Fronts.{at_end_of, has_lower, reached_pairs, reached_paths}
use Rattle.rart_walks.proofs.BackPartLemmas.{end-pairs, end-paths, parts-all, parts-lacks, parts-none}
use Rattle.rart_node.proofs.PartingLemmas.{common-front, parts-at}
use Rattle.rart_walks.proofs.walk_back.path.reached_of.Goals as goal

pub returns-then-common-rest : goal.returns-then-common-rest
returns-then-common-rest g c =
    let s = c.args.node.now.shape in
    let rest = c.args.rest.now in
    let front =
    common-front (prefix_of s) rest (sym c.requires.here.common ∙ c.if-common-rest.true) in
    let whole : c.len.result ≡ length (prefix_of s) = c.len.ensures ∙ ap length c.prefix.ensures in
    let same : (length rest == length (prefix_of s)) ≡ (c.args.common == c.len.result) =
    λ i. sym c.if-common-rest.true i == sym whole i in
    let told = ap (at_end_of c.args.part) same ∙ sym c.reached_at_end.ensures in
    record {
      pairs =
          end-pairs s rest front c.requires.tree c.args.part ∙ ap (λ r. reached_pairs r s) told;
      paths =
          end-paths s rest front c.requires.tree c.args.part ∙ ap (λ r. reached_paths r s) told;
    }

pub bounds-rest-common : goal.bounds-rest-common
bounds-rest-common g c =
    let s = c.args.node.now.shape in
    let fits = common_fits (prefix_of s) c.args.rest.now in
    let is = c.requires.here.common in
    omega (arith, fits, is, c.if-common-rest.false)

pub returns-then-not-has_lower : goal.returns-then-not-has_lower
returns-then-not-has_lower g c =
    let s = c.args.node.now.shape in
    let parts =
    parts-at (prefix_of s) c.args.rest.now c.args.common c.requires.here.common
    c.requires.here.ends c.if-common-rest.false in
    let off : has_lower c.args.part ≡ false = sym c.has_lower.ensures ∙ c.if-not-has_lower.true in
    let none = parts-lacks s c.args.rest.now c.args.part _ _ parts off in
    record { pairs = none.0; paths = none.1 }

pub returns-then-at-rest : goal.returns-then-at-rest
returns-then-at-rest g c =
    let s = c.args.node.now.shape in
    let rest = c.args.rest.now in
    let parts =
    parts-at (prefix_of s) rest c.args.common c.requires.here.common
    c.requires.here.ends c.if-common-rest.false in
    let on : has_lower c.args.part ≡ true = sym c.has_lower.ensures ∙ c.if-not-has_lower.false in
    let less : slice_index_or (prefix_of s) c.args.common 0 < slice_index_or rest c.args.common 0 =
    subst (λ p. slice_index_or p c.args.common 0 < slice_index_or rest c.args.common 0)
    c.prefix-2.ensures
    (subst (λ n. n < slice_index_or rest c.args.common 0) c.at.ensures c.if-at-rest.true) in
    let all = parts-all s rest c.args.part _ _ parts on less in
    record { pairs = all.0; paths = all.1 }

pub returns : goal.returns
returns g c =
    let s = c.args.node.now.shape in
    let rest = c.args.rest.now in
    let parts =
    parts-at (prefix_of s) rest c.args.common c.requires.here.common
    c.requires.here.ends c.if-common-rest.false in
    let most : slice_index_or rest c.args.common 0 ≤ slice_index_or (prefix_of s) c.args.common 0 =
    subst (λ p. slice_index_or rest c.args.common 0 ≤ slice_index_or p c.args.common 0)
    c.prefix-2.ensures
    (subst (λ n. slice_index_or rest c.args.common 0 ≤ n) c.at.ensures c.if-at-rest.false) in
    let none = parts-none s rest c.args.part _ _ parts most in
    record { pairs = none.0; paths = none.1 }
