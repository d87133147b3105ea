use Rattle.std.proofs.Math.Nat.{le_refl}
use Rattle.rart_node.proofs.CountingLemmas.{counts-most, path-most}
use Rattle.rart_walks.proofs.walk_back.WalkBack.under.Goals as goal

pub returns : goal.returns
returns g c =
    let starts = c.along_path.ensures in
    let most = path-most c.args.root.now.shape c.args.prefix.now in
    record {
      walk = starts.walk;
      pairs = starts.pairs;
      few = starts.few;
      counted = counts-most starts.counted most (le_refl 0);
      entered = starts.entered;
      at_hand = starts.at_hand;
    }
