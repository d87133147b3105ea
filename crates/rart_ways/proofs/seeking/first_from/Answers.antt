use Rattle.std.proofs.Common.{true, [], subst}
use Rattle.rart_ways.specs.Firsts.{Finds}
use Rattle.rart_ways.specs.Starts.{is_from}
use Rattle.rart_ways.specs.declared.seeking.Edge.TheVariants.{Included}
use Rattle.rart_ways.proofs.FromLemmas.{from-itself}
use Rattle.rart_node.specs.Trees.{pairs_of}
use Rattle.rart_node.proofs.GatherLemmas.{keeping-same}
use Rattle.rart_ways.proofs.seeking.first_from.Goals as goal

pub returns-in-Unbounded : goal.returns-in-Unbounded
returns-in-Unbounded g c =
    let found = c.first_behind-in-Unbounded.ensures in
    rw c.in-Unbounded.is (record {
      first = subst (λ list. Finds list c.first_behind-in-Unbounded.result c.args.room.now
          c.first_behind-in-Unbounded.new.room)
          (keeping-same (is_from Included []) (λ key. true)
          (pairs_of c.args.root.now.shape) from-itself) found.first;
      counted = found.counted;
      entered = found.entered;
    })
