use Rattle.std.proofs.Common.{rules}
use Rattle.rart_node.specs.VersionedNodeIter.{children_left}
use Rattle.rart_ways.proofs.TurnLemmas.{turn-first}
use Rattle.rart_ways.proofs.seeking.start.turn_of.Goals as goal

pub returns-in-Some : goal.returns-in-Some
returns-in-Some g c =
    record {
      start = λ ahead at turns short.
          turn-first ahead c.args.path.now (children_left c.args.children)
          c.in-Some.ensures.0 c.in-Some.child.now.shape
          (children_left c.next_child.new.self) c.in-Some.ensures.1 turns short;
      deep = search rules;
    }
