use Rattle.std.proofs.Common.{true, [], ap, ◌∙◌}
use Rattle.std.specs.Ordering.{as_partial_cmp}
use Rattle.std.specs.Range.Bound.{is_up_to_end, bound_map}
use Rattle.rart_below.specs.Bytes.{byte_order}
use Rattle.rart_ways.specs.Firsts.{first_passes}
use Rattle.rart_ways.specs.Starts.{is_from}
use Rattle.rart_ways.specs.declared.seeking.Edge.TheVariants.{Included}
use Rattle.rart_ways.proofs.FromLemmas.{from-itself}
use Rattle.rart_node.specs.Trees.{pairs_of}
use Rattle.rart_node.proofs.GatherLemmas.{keeping-same}
use Rattle.rart_ways.proofs.seeking.has_within.Goals as goal

pub returns-in-Unbounded : goal.returns-in-Unbounded
returns-in-Unbounded g c =
    let told = c.has_behind-in-Unbounded.ensures in
    rw c.in-Unbounded.is (record {
      passes =
          told.passes ∙ ap (first_passes (is_up_to_end (as_partial_cmp byte_order)
          (bound_map (λ high. high.now) c.args.high)))
          (keeping-same (is_from Included []) (λ key. true)
          (pairs_of c.args.root.now.shape) from-itself);
      counted = told.counted;
      entered = told.entered;
    })
