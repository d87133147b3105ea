use Rattle.std.proofs.Common.{◌≡◌, ◌+◌, length, Some}
use Rattle.rart_node.specs.Shape.{height, prefix_of}
use Rattle.rart_lockstep.specs.Children.{common_children}
use Rattle.rart_lockstep.specs.PairCursors.{CommonBytes}
use Rattle.rart_lockstep.specs.TreeCursors.{behind_bytes, next_children, children_next}
use Rattle.rart_lockstep.proofs.EnterLemmas.{EntersUpTo}
use Rattle.rart_lockstep.proofs.LeastCountLemmas.{EntersLeast}
use Rattle.rart_lockstep.proofs.LockstepLemmas.{IsIntersection}
use Rattle.rart_lockstep.proofs.+intersect_below.Given as goal

abbrev pub decreases-intersect_below : goal.decreases-intersect_below
decreases-intersect_below g l = height (g.J.PairCursor.left l.at) + height
    (g.J.PairCursor.right l.at)

abbrev pub invariant-branches : goal.invariant-branches
invariant-branches g l =
    let s = g.J.PairCursor.left l.at in
    let t = g.J.PairCursor.right l.at in
    let left = g.J.PairCursor.branches_left l.branches in
    record {
      on_common_key :
          IsIntersection g.J.OnCommonKey.calls g.J.OnCommonKey.Shows g.J.OnCommonKey.goes
          g.J.PairCursor.holds s t
          l.common l.fn.key_path
          l.fn.f left l.key_path l.f;
      entered : EntersUpTo (behind_bytes l.common s) (behind_bytes l.common t)
          (common_children (next_children (behind_bytes l.common s))
          (next_children (behind_bytes l.common t))) left
          l.fn.work l.work;
      common : CommonBytes s t (Some l.common);
      nodes : g.J.PairCursor.nodes_a_step l.branches
          ≡ children_next (prefix_of (behind_bytes l.common s)) (prefix_of (behind_bytes l.common t));
      least : EntersLeast s t l.common left l.fn.work l.work;
    }

abbrev pub decreases-branches : goal.decreases-branches
decreases-branches g l = length (g.J.PairCursor.branches_left l.branches)
