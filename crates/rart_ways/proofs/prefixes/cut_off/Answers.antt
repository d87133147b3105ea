use Rattle.std.proofs.Common.{◌≡◌, Some, drop, is_some, sym, ap, subst, ◌∙◌}
use Rattle.std.specs.Result.{is_ok}
use Rattle.rart_ways.specs.Grafts.{graft}
use Rattle.rart_ways.specs.Paths.{first_byte, path_end}
use Rattle.rart_ways.specs.Prefixes.{IsCleared}
use Rattle.rart_ways.proofs.EditLemmas.{on-ok, on-err}
use Rattle.rart_ways.proofs.GraftLemmas.{grafted-along, admitted-along, lost-cleared, above-step, above-there, map-some, map-second}
use Rattle.rart_ways.proofs.LentPathLemmas.{tree-along, graft-same}
use Rattle.rart_ways.proofs.prefixes.cut_off.Goals as goal

pub down-requires-clause-there : goal.down-requires-clause-there
down-requires-clause-there g c =
    above-there c.args.steps c.args.prefix.now c.args.root.now.shape c.requires.stands.0
    c.requires.stands.1 c.requires.stands.2

pub next_byte-byte-requires-clause-there : goal.next_byte-byte-requires-clause-there
next_byte-byte-requires-clause-there g c =
    ap is_some (above-step c.args.steps c.args.prefix.now c.args.root.now.shape
    c.requires.stands.0 c.requires.stands.1 _ _ c.requires.stands.2 c.in_ok-node.ensures.reached)

pub lose_child-requires-clause-tree : goal.lose_child-requires-clause-tree
lose_child-requires-clause-tree g c =
    tree-along c.args.steps c.args.prefix.now c.args.root.now.shape _ c.requires.tree
    c.in_ok-node.ensures.reached

pub lose_child-requires-clause-lengths : goal.lose_child-requires-clause-lengths
lose_child-requires-clause-lengths g c =
    admitted-along g.P.Partial.MAXIMUM_SIZE c.args.steps c.args.prefix.now c.args.root.now.shape _
    c.requires.tree c.in_ok-node.ensures.reached c.requires.lengths

pub lose_child-requires-clause-there : goal.lose_child-requires-clause-there
lose_child-requires-clause-there g c =
    let goes =
    above-step c.args.steps c.args.prefix.now c.args.root.now.shape
    c.requires.stands.0 c.requires.stands.1 _ _ c.requires.stands.2
    c.in_ok-node.ensures.reached in
    map-some _ _ (ap is_some (sym c.next_byte-byte.ensures.next ∙ goes))

pub returns-clause-cleared : goal.returns-clause-cleared
returns-clause-cleared g c =
    let p = c.args.prefix.now in
    let root = c.args.root.now.shape in
    let steps = c.args.steps in
    let node = c.in_ok-node.node.now.shape in
    let left = drop c.down.new.passed p in
    let reached : path_end steps p root ≡ Some (node, left) = c.in_ok-node.ensures.reached in
    let goes =
    above-step steps p root c.requires.stands.0 c.requires.stands.1 node left c.requires.stands.2
    reached in
    let first = ap first_byte (sym (map-second _ _ _ (sym c.next_byte-byte.ensures.next ∙ goes)))
    ∙ c.next_byte-byte.ensures.first in
    let shows = c.down.follows.holds c.lose_child.new.node (ap is_ok c.in_ok-node.was) in
    on-ok c.lose_child.result (λ lost. subst (IsCleared p root) (sym shows)
    (grafted-along steps p root (node, left) c.lose_child.new.node.shape _ c.requires.tree reached
    (lost-cleared node c.lose_child.new.node.shape left _ c.next_byte-byte.result goes
    c.requires.stands.2.begun first lost))) c.lose_child.ensures.lost

pub returns-clause-refused : goal.returns-clause-refused
returns-clause-refused g c =
    let p = c.args.prefix.now in
    let root = c.args.root.now.shape in
    let steps = c.args.steps in
    let shows = c.down.follows.holds c.lose_child.new.node (ap is_ok c.in_ok-node.was) in
    on-err c.lose_child.result (λ kept. shows ∙ ap (λ z. graft steps z p root) kept
    ∙ graft-same steps p root _ c.requires.tree c.in_ok-node.ensures.reached)
    c.lose_child.ensures.refused
