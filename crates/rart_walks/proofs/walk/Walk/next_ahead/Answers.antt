use Rattle.std.proofs.Common.{Some, None, refl, subst}
use Rattle.rart_walks.specs.Frames.{segments_of}
use Rattle.rart_walks.specs.WalkFields.{and_inner, frames_of, nodes_open, open_nodes}
use Rattle.rart_walks.proofs.LeafLemmas.{takes-above-rest}
use Rattle.rart_walks.proofs.WalkLemmas.{taken-way}
use Rattle.rart_walks.proofs.walk.Walk.next_ahead.Goals as goal

pub returns-in_default-clause-spent : goal.returns-in_default-clause-spent
returns-in_default-clause-spent g c =
    let walk = c.args.self.now in
    let takes =
    takes-above-rest (open_nodes (frames_of walk)) walk.below.segments None _
    c.in_default.ensures.takes in
    (takes.0, refl)

pub cut-requires : goal.cut-requires
cut-requires g c =
    let walk = c.args.self.now in
    let s = c.in-Some.child.now.shape in
    let after = open_nodes (and_inner c.take_ahead.new.outer.items c.take_ahead.new.inner) in
    let takes =
    takes-above-rest (open_nodes (frames_of walk)) walk.below.segments (Some s) after
    c.in-Some.ensures.takes in
    λ _. (
      (refl, tt),
      (
        segments_of after,
        segments_of takes.1,
        subst (g.T.KeyPath.holds walk.key_path)
            (taken-way g.T.KeyPath.greatest (nodes_open walk) s after takes)
            c.requires.walk.holds_way,
        c.in-Some.ensures.mark g.T.KeyPath.extent c.requires.walk.framed.marked,
      ),
    )

pub returns-clause-some : goal.returns-clause-some
returns-clause-some g c =
    let walk = c.args.self.now in
    let s = c.in-Some.child.now.shape in
    let after = open_nodes (and_inner c.take_ahead.new.outer.items c.take_ahead.new.inner) in
    let takes =
    takes-above-rest (open_nodes (frames_of walk)) walk.below.segments (Some s) after
    c.in-Some.ensures.takes in
    record {
      holds =
          rw c.new-self.ensures (c.cut.ensures (segments_of after) (segments_of takes.1)
          (subst (g.T.KeyPath.holds walk.key_path)
          (taken-way g.T.KeyPath.greatest (nodes_open walk) s after takes)
          c.requires.walk.holds_way)
          (c.in-Some.ensures.mark g.T.KeyPath.extent c.requires.walk.framed.marked));
      takes = rw c.new-self.ensures takes;
      below = c.new-self.ensures;
      framed = record {
        marked = c.in-Some.ensures.marked g.T.KeyPath.extent c.requires.walk.framed.marked;
        innermost = c.in-Some.ensures.innermost;
      };
      pending = refl;
    }
