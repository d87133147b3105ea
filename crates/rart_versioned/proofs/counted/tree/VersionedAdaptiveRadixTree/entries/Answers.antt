use Rattle.std.proofs.Common.{sym, ◌∙◌}
use Rattle.rart_node.specs.Seen.{shape_of}
use Rattle.rart_versioned.proofs.VersionIterationLemmas.{content-admitted, first-admitted, no-pairs, root-pairs}
use Rattle.rart_versioned.proofs.counted.tree.VersionedAdaptiveRadixTree.entries.Goals as goal

pub returns-in_default-clause-pairs : goal.returns-in_default-clause-pairs
returns-in_default-clause-pairs g c =
    let most = g.K.KeyTrait.MAXIMUM_SIZE in
    sym (no-pairs shape_of most c.self.inside.version c.self.inside.root c.args.self.now
    c.self.invariant c.self.view_is c.in_default.is)

pub returns-in-Some-entry_of-clause-pairs : goal.returns-in-Some-entry_of-clause-pairs
returns-in-Some-entry_of-clause-pairs g c =
    let most = g.K.KeyTrait.MAXIMUM_SIZE in
    let all = root-pairs shape_of most c.self.inside.version c.self.inside.root c.args.self.now
    c.self.invariant c.self.view_is c.in-Some.root c.in-Some.is in
    sym (all ∙ c.in-Some-entry_of.ensures)

pub returns-in-Some-entry_of-clause-keys : goal.returns-in-Some-entry_of-clause-keys
returns-in-Some-entry_of-clause-keys g c =
    let most = g.K.KeyTrait.MAXIMUM_SIZE in
    let all = root-pairs shape_of most c.self.inside.version c.self.inside.root c.args.self.now
    c.self.invariant c.self.view_is c.in-Some.root c.in-Some.is in
    let admitted = content-admitted shape_of most c.self.inside.version c.self.inside.root
    c.args.self.now c.self.invariant c.self.view_is in
    first-admitted most _ _ _ (all ∙ c.in-Some-entry_of.ensures) admitted
