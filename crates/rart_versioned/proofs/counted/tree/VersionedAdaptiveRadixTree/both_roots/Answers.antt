use Rattle.rart_node.specs.Seen.{shape_of}
use Rattle.rart_versioned.proofs.MeetLemmas.{left-lacks, right-lacks, both-roots}
use Rattle.rart_versioned.proofs.counted.tree.VersionedAdaptiveRadixTree.both_roots.Goals as goal
use Rattle.rart_versioned.proofs.counted.tree.VersionedAdaptiveRadixTree.both_roots.Goals.{in_default-via-in-Some+in_default, in_default-via-in_default}

pub returns-in-Some-Some-clause-both : goal.returns-in-Some-Some-clause-both
returns-in-Some-Some-clause-both g c =
    both-roots shape_of c.self.inside.version
    c.other.inside.version c.self.inside.root c.other.inside.root c.args.self.now c.args.other.now
    c.self.view_is c.other.view_is g.K.KeyTrait.MAXIMUM_SIZE c.in-Some-Some.left
    c.in-Some-Some.right c.in-Some-Some.is-0 c.in-Some-Some.is-1 c.self.invariant c.other.invariant

pub returns-in_default-clause-lacking : goal.returns-in_default-clause-lacking
returns-in_default-clause-lacking g c =
    elim c.in_default.branch [
      | in_default-via-in-Some+in_default w ↦
          right-lacks shape_of c.self.inside.version c.other.inside.version c.self.inside.root
          c.other.inside.root c.args.self.now c.args.other.now c.self.view_is c.other.view_is
          w.in_default.is-1
      | in_default-via-in_default w ↦
          left-lacks shape_of c.self.inside.version c.other.inside.version c.self.inside.root
          c.other.inside.root c.args.self.now c.args.other.now c.self.view_is c.other.view_is
          w.in_default.is-0
    ]
