use Rattle.std.proofs.Common.{IsTrue, subst, sym}
use Rattle.rart_c.proofs.KeyLimitLemmas.{KeepsLimit-no_key}
use Rattle.rart_c.proofs.table.Table.set_longest.Goals as goal
use Rattle.rart_maps.specs.Versions.{has_no_key}

pub invariant_of-self : goal.invariant_of-self
invariant_of-self g c =
    record {
      count = c.self.invariant.count;
      limit = KeepsLimit-no_key c.args.longest c.self.inside.tree
          (subst (λ tree. IsTrue (has_no_key tree.version)) (sym c.self.view_is) c.requires);
    }
