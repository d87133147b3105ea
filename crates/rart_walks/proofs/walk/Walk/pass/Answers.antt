use Rattle.std.proofs.Common.{refl, sym, subst}
use Rattle.rart_walks.specs.Frames.{segments_of}
use Rattle.rart_walks.specs.WalkFields.{frames_of, nodes_open, open_nodes}
use Rattle.rart_walks.proofs.WalkLemmas.{passed-segments}
use Rattle.rart_walks.proofs.walk.Walk.pass.Goals as goal

pub returns : goal.returns
returns g c =
    let walk = c.args.self.now in
    record {
      holds =
          rw c.push-2.ensures (subst (g.T.KeyPath.holds c.push.new.self)
          (sym (passed-segments (open_nodes (frames_of walk)) walk.below.segments
          c.args.segment.now))
          (c.in_ok-push.ensures.keeps (segments_of (nodes_open walk)) c.requires.holds));
      outer = refl;
      inner = refl;
      below = c.push-2.ensures;
      pending = refl;
    }
