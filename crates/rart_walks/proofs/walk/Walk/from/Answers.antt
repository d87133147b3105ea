use Rattle.std.proofs.Common.{true, [], refl, ◌∙◌}
use Rattle.std.proofs.Math.Nat.{le_refl}
use Rattle.std.proofs.lemmas.Result.{IfOk-weaker}
use Rattle.std.specs.Ordering.{is_le}
use Rattle.rart_below.specs.Bytes.{byte_order}
use Rattle.rart_node.specs.Trees.{pairs_of}
use Rattle.rart_node.proofs.CountingLemmas.{counts-most, path-most}
use Rattle.rart_walks.specs.declared.walk.path.Part.TheVariants.{From}
use Rattle.rart_node.proofs.GatherLemmas.{keeping-same}
use Rattle.rart_walks.proofs.PartTestLemmas.{keeps-itself}
use Rattle.rart_walks.proofs.walk.Walk.from.Goals as goal

pub returns-in-Included : goal.returns-in-Included
returns-in-Included g c =
    let starts = c.along_path.ensures in
    let most = path-most c.args.root.now.shape c.in-Included.low.now in
    rw c.in-Included.is (record {
      walk = starts.walk;
      pairs = starts.pairs;
      nodes = starts.nodes;
      paths = starts.paths;
      counted = counts-most starts.counted most (le_refl 0);
      entered = starts.entered;
      at_hand = starts.at_hand;
    })

pub returns-in-Excluded : goal.returns-in-Excluded
returns-in-Excluded g c =
    let starts = c.along_path-in-Excluded.ensures in
    let most = path-most c.args.root.now.shape c.in-Excluded.low.now in
    rw c.in-Excluded.is (record {
      walk = starts.walk;
      pairs = starts.pairs;
      nodes = starts.nodes;
      paths = starts.paths;
      counted = counts-most starts.counted most (le_refl 0);
      entered = starts.entered;
      at_hand = starts.at_hand;
    })

pub returns-in-Unbounded : goal.returns-in-Unbounded
returns-in-Unbounded g c =
    let starts = c.along_path-in-Unbounded.ensures in
    let most = path-most c.args.root.now.shape [] in
    rw c.in-Unbounded.is (record {
      walk = starts.walk;
      pairs = IfOk-weaker c.along_path-in-Unbounded.result _ _
          (λ walk is. is ∙ keeping-same (λ key. is_le (byte_order [] key)) (λ key. true)
          (pairs_of c.args.root.now.shape) (keeps-itself From refl))
          starts.pairs;
      nodes = starts.nodes;
      paths = starts.paths;
      counted = counts-most starts.counted most (le_refl 0);
      entered = starts.entered;
      at_hand = starts.at_hand;
    })
