use Rattle.std.proofs.Common.{◌+◌, ◌++◌, length, drop, arith, rules, sym, ap, subst, ◌∙◌}
use Rattle.std.specs.Prelude.{slice_index_or}
use Rattle.rart_below.specs.Bytes.{common_length}
use Rattle.rart_below.specs.Children.{child_at}
use Rattle.rart_node.specs.Shape.{children_of, prefix_of, with_added, with_replaced}
use Rattle.rart_node.specs.Trees.{cut_at, found}
use Rattle.rart_node.proofs.FindLemmas.{branch, ordered}
use Rattle.rart_node.proofs.InsertionLemmas.{replaced-same}
use Rattle.rart_ways.specs.Prefixes.{IsGrafted, part_of, tail_of}
use Rattle.rart_ways.proofs.EditLemmas.{on-ok, on-err}
use Rattle.rart_ways.proofs.InsertionStepLemmas.{matched, child-here, child-replaced, is-whole}
use Rattle.rart_ways.proofs.PutPartLemmas.{level-within, level-over, level-inside, level-absent, level-beside, level-added, level-down, level-path, widenings-most, counts-end, counts-down}
use Rattle.rart_ways.proofs.prefixes.grafting.+put_below.Goals as goal

-- ---- the prefix ends at the node

pub returns-then-common-rest-clause-grafted : goal.returns-then-common-rest-clause-grafted
returns-then-common-rest-clause-grafted g t c =
    let s = c.args.at.now.shape in
    let p = c.args.part.now.prefix.now in
    let part = part_of c.args.part.now in
    let common = c.prefix_length_slice-common.result in
    let bytes = g.P.Partial.bytes c.prefix.result.now in
    let is = matched (drop c.args.above p) c.in_ok-node.ensures.shown c.prefix.ensures
    (c.prefix_length_slice-common.ensures ∙ ap (common_length bytes) c.rest_of-rest.ensures) in
    subst (IsGrafted (drop c.args.above p) (λ rest. found part (p ++ rest)) s)
    (sym (c.open_mut.follows.holds c.in_ok-node-2.field-0 (search rules)
    ∙ c.in_ok-node-2.ensures))
    (level-over s part p c.args.above common is c.requires.tree c.requires.within c.requires.part.tree
    c.requires.part.begun (c.if-common-rest.true ∙ ap length c.rest_of-rest.ensures))

-- ---- the prefix goes on

pub overflow_add-below : goal.overflow_add-below
overflow_add-below g t c =
    let s = c.args.at.now.shape in
    let p = c.args.part.now.prefix.now in
    let common = c.prefix_length_slice-common.result in
    let bytes = g.P.Partial.bytes c.prefix.result.now in
    let is = matched (drop c.args.above p) c.in_ok-node.ensures.shown c.prefix.ensures
    (c.prefix_length_slice-common.ensures ∙ ap (common_length bytes) c.rest_of-rest.ensures) in
    let within = level-within s (part_of c.args.part.now) p c.args.above common is
    c.requires.tree c.requires.within in
    omega (arith, within)

pub put_beside-requires-clause-within : goal.put_beside-requires-clause-within
put_beside-requires-clause-within g t c =
    let s = c.args.at.now.shape in
    let p = c.args.part.now.prefix.now in
    let common = c.prefix_length_slice-common.result in
    let bytes = g.P.Partial.bytes c.prefix.result.now in
    let is = matched (drop c.args.above p) c.in_ok-node.ensures.shown c.prefix.ensures
    (c.prefix_length_slice-common.ensures ∙ ap (common_length bytes) c.rest_of-rest.ensures) in
    level-inside s (part_of c.args.part.now) p c.args.above common is c.requires.tree
    c.requires.within (λ all. c.if-common-rest.false (all ∙ sym (ap length c.rest_of-rest.ensures)))

pub bounds-part-below : goal.bounds-part-below
bounds-part-below g t c =
    let s = c.args.at.now.shape in
    let p = c.args.part.now.prefix.now in
    let common = c.prefix_length_slice-common.result in
    let bytes = g.P.Partial.bytes c.prefix.result.now in
    let is = matched (drop c.args.above p) c.in_ok-node.ensures.shown c.prefix.ensures
    (c.prefix_length_slice-common.ensures ∙ ap (common_length bytes) c.rest_of-rest.ensures) in
    level-inside s (part_of c.args.part.now) p c.args.above common is c.requires.tree
    c.requires.within (λ all. c.if-common-rest.false (all ∙ sym (ap length c.rest_of-rest.ensures)))

pub add_part-requires-clause-within : goal.add_part-requires-clause-within
add_part-requires-clause-within g t c =
    let s = c.args.at.now.shape in
    let p = c.args.part.now.prefix.now in
    let common = c.prefix_length_slice-common.result in
    let bytes = g.P.Partial.bytes c.prefix.result.now in
    let is = matched (drop c.args.above p) c.in_ok-node.ensures.shown c.prefix.ensures
    (c.prefix_length_slice-common.ensures ∙ ap (common_length bytes) c.rest_of-rest.ensures) in
    level-inside s (part_of c.args.part.now) p c.args.above common is c.requires.tree
    c.requires.within (λ all. c.if-common-rest.false (all ∙ sym (ap length c.rest_of-rest.ensures)))

-- ---- the prefix leaves the node's

pub put_beside-requires-clause-absent : goal.put_beside-requires-clause-absent
put_beside-requires-clause-absent g t c =
    let s = c.args.at.now.shape in
    let p = c.args.part.now.prefix.now in
    let same = c.in_ok-node.ensures.shown in
    let common = c.prefix_length_slice-common.result in
    let byte = slice_index_or p (c.args.above + common) 0 in
    let bytes = g.P.Partial.bytes c.prefix.result.now in
    let is = matched (drop c.args.above p) same c.prefix.ensures
    (c.prefix_length_slice-common.ensures ∙ ap (common_length bytes) c.rest_of-rest.ensures) in
    let lt = c.if-common-len.true in
    let long = c.len.ensures ∙ ap length (c.prefix-2.ensures ∙ ap prefix_of same) in
    ap (λ z. child_at byte (children_of (cut_at common z))) same
    ∙ level-absent s (part_of c.args.part.now) p c.args.above common is c.requires.tree
    c.requires.within
    (λ all. c.if-common-rest.false (all ∙ sym (ap length c.rest_of-rest.ensures)))
    (omega (arith, lt, long))

pub returns-then-common-len-clause-grafted : goal.returns-then-common-len-clause-grafted
returns-then-common-len-clause-grafted g t c =
    let s = c.args.at.now.shape in
    let p = c.args.part.now.prefix.now in
    let part = part_of c.args.part.now in
    let same = c.in_ok-node.ensures.shown in
    let common = c.prefix_length_slice-common.result in
    let byte = slice_index_or p (c.args.above + common) 0 in
    let bytes = g.P.Partial.bytes c.prefix.result.now in
    let is = matched (drop c.args.above p) same c.prefix.ensures
    (c.prefix_length_slice-common.ensures ∙ ap (common_length bytes) c.rest_of-rest.ensures) in
    let lt = c.if-common-len.true in
    let long = c.len.ensures ∙ ap length (c.prefix-2.ensures ∙ ap prefix_of same) in
    on-ok c.put_beside.result (λ put.
    subst (IsGrafted (drop c.args.above p) (λ rest. found part (p ++ rest)) s)
    (sym (c.open_mut.follows.holds c.put_beside.new.node (search rules) ∙ put
    ∙ ap (λ z. with_added byte (tail_of (c.args.above + common) part) (cut_at common z)) same))
    (level-beside s part p c.args.above common is c.requires.tree c.requires.within
    (λ all. c.if-common-rest.false (all ∙ sym (ap length c.rest_of-rest.ensures)))
    c.requires.part.tree c.requires.part.begun (omega (arith, lt, long))))
    c.put_beside.ensures.put

pub returns-then-common-len-clause-counted : goal.returns-then-common-len-clause-counted
returns-then-common-len-clause-counted g t c =
    counts-end c.args.at.now.shape (drop c.args.above c.args.part.now.prefix.now)
    c.in_ok-node.ensures.work c.put_beside.ensures.counted (omega arith)

-- ---- no child is there

pub returns-in-None-clause-grafted : goal.returns-in-None-clause-grafted
returns-in-None-clause-grafted g t c =
    let s = c.args.at.now.shape in
    let p = c.args.part.now.prefix.now in
    let part = part_of c.args.part.now in
    let same = c.seek_child_mut.follows.holds-at-none ∙ c.in_ok-node.ensures.shown in
    let common = c.prefix_length_slice-common.result in
    let byte = slice_index_or p (c.args.above + common) 0 in
    let bytes = g.P.Partial.bytes c.prefix.result.now in
    let is = matched (drop c.args.above p) c.in_ok-node.ensures.shown c.prefix.ensures
    (c.prefix_length_slice-common.ensures ∙ ap (common_length bytes) c.rest_of-rest.ensures) in
    let le = is-whole s (drop c.args.above p) common is c.in_ok-node.ensures.shown
    c.prefix-2.ensures c.len.ensures c.if-common-len.false in
    on-ok c.add_part.result (λ added.
    subst (IsGrafted (drop c.args.above p) (λ rest. found part (p ++ rest)) s)
    (sym (c.open_mut.follows.holds c.add_part.new.node (search rules) ∙ added
    ∙ ap (with_added byte (tail_of (c.args.above + common) part)) same))
    (level-added s part p c.args.above common is c.requires.tree c.requires.within
    (λ all. c.if-common-rest.false (all ∙ sym (ap length c.rest_of-rest.ensures))) le
    c.requires.part.tree c.requires.part.begun
    (ap (λ z. child_at byte (children_of z)) (sym c.in_ok-node.ensures.shown)
    ∙ sym c.in-None.ensures.value)))
    c.add_part.ensures.added

pub returns-in-None-clause-counted : goal.returns-in-None-clause-counted
returns-in-None-clause-counted g t c =
    let most = widenings-most (c.seek_child_mut.follows.lender-at-none).shape in
    counts-end c.args.at.now.shape (drop c.args.above c.args.part.now.prefix.now)
    c.in_ok-node.ensures.work c.add_part.ensures.counted (omega (arith, most))

-- ---- the way goes on at a child

pub put_below-requires : goal.put_below-requires
put_below-requires g t c κs within =
    let s = c.args.at.now.shape in
    let p = c.args.part.now.prefix.now in
    let same = c.in_ok-node.ensures.shown in
    let common = c.prefix_length_slice-common.result in
    let byte = slice_index_or p (c.args.above + common) 0 in
    let bytes = g.P.Partial.bytes c.prefix.result.now in
    let is = matched (drop c.args.above p) same c.prefix.ensures
    (c.prefix_length_slice-common.ensures ∙ ap (common_length bytes) c.rest_of-rest.ensures) in
    let known = branch s byte _ (ordered s c.requires.tree)
    (child-here byte same c.in-Some.ensures.value) in
    let lower = known.lower in
    let fits = level-within s (part_of c.args.part.now) p c.args.above common is
    c.requires.tree c.requires.within in (
      omega (arith, lower, c.decreases),
      (
        within.0,
        (
          within.1,
          (
            c.requires.clones,
            (known.tree, (c.requires.part, fits)),
          ),
        ),
      ),
    )

pub returns-in-Some-clause-grafted : goal.returns-in-Some-clause-grafted
returns-in-Some-clause-grafted g t c =
    let s = c.args.at.now.shape in
    let p = c.args.part.now.prefix.now in
    let part = part_of c.args.part.now in
    let same = c.in_ok-node.ensures.shown in
    let common = c.prefix_length_slice-common.result in
    let byte = slice_index_or p (c.args.above + common) 0 in
    let bytes = g.P.Partial.bytes c.prefix.result.now in
    let is = matched (drop c.args.above p) same c.prefix.ensures
    (c.prefix_length_slice-common.ensures ∙ ap (common_length bytes) c.rest_of-rest.ensures) in
    let le = is-whole s (drop c.args.above p) common is same c.prefix-2.ensures c.len.ensures
    c.if-common-len.false in
    let inner = c.seek_child_mut.follows.lender c.put_below.new.at in
    let shows = c.open_mut.follows.holds inner (search rules)
    ∙ child-replaced byte c.put_below.new.at.shape same c.in-Some.is
    (c.seek_child_mut.follows.holds c.put_below.new.at) in
    on-ok c.put_below.result (λ grafted.
    subst (IsGrafted (drop c.args.above p) (λ rest. found part (p ++ rest)) s) (sym shows)
    (level-down s part p c.args.above common is c.requires.tree c.requires.within
    (λ all. c.if-common-rest.false (all ∙ sym (ap length c.rest_of-rest.ensures))) le
    c.in-Some.child.now.shape c.put_below.new.at.shape
    (child-here byte same c.in-Some.ensures.value) grafted))
    c.put_below.ensures.grafted

pub returns-in-Some-clause-refused : goal.returns-in-Some-clause-refused
returns-in-Some-clause-refused g t c =
    let s = c.args.at.now.shape in
    let same = c.in_ok-node.ensures.shown in
    let byte = slice_index_or c.args.part.now.prefix.now
    (c.args.above + c.prefix_length_slice-common.result) 0 in
    let here = child-here byte same c.in-Some.ensures.value in
    let inner = c.seek_child_mut.follows.lender c.put_below.new.at in
    let shows = c.open_mut.follows.holds inner (search rules)
    ∙ child-replaced byte c.put_below.new.at.shape same c.in-Some.is
    (c.seek_child_mut.follows.holds c.put_below.new.at) in
    on-err c.put_below.result (λ kept. shows ∙ ap (λ z. with_replaced byte z s) kept
    ∙ replaced-same s byte c.in-Some.child.now.shape (ordered s c.requires.tree) here)
    c.put_below.ensures.refused

pub returns-in-Some-clause-counted : goal.returns-in-Some-clause-counted
returns-in-Some-clause-counted g t c =
    let s = c.args.at.now.shape in
    let p = c.args.part.now.prefix.now in
    let same = c.in_ok-node.ensures.shown in
    let common = c.prefix_length_slice-common.result in
    let byte = slice_index_or p (c.args.above + common) 0 in
    let bytes = g.P.Partial.bytes c.prefix.result.now in
    let is = matched (drop c.args.above p) same c.prefix.ensures
    (c.prefix_length_slice-common.ensures ∙ ap (common_length bytes) c.rest_of-rest.ensures) in
    let le = is-whole s (drop c.args.above p) common is same c.prefix-2.ensures c.len.ensures
    c.if-common-len.false in
    counts-down s c.in-Some.child.now.shape (drop c.args.above p) _ c.in_ok-node.ensures.work
    c.put_below.ensures.counted
    (level-path s (part_of c.args.part.now) p c.args.above common is c.requires.tree
    c.requires.within
    (λ all. c.if-common-rest.false (all ∙ sym (ap length c.rest_of-rest.ensures))) le
    c.in-Some.child.now.shape (child-here byte same c.in-Some.ensures.value))
