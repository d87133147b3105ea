use Rattle.std.proofs.Common.{rules, refl, sym}
use Rattle.rart_node.specs.Shape.{prefix_of, children_of}
use Rattle.rart_walks.specs.Frames.{Pushes, segments_of}
use Rattle.rart_walks.specs.WalkFields.{nodes_open}
use Rattle.rart_walks.proofs.WalkLemmas.{path-fits, whole-pairs, whole-inside, whole-paths, whole-trees, whole-short}
use Rattle.rart_walks.proofs.walk.Walk.enter_whole.Goals as goal

pub enter_part-requires : goal.enter_part-requires
enter_part-requires g c =
    let s = c.args.node.now.shape in
    let segments = segments_of (nodes_open c.args.self.now) in
    λ _. (
      (refl, tt),
      (
        record {
          holds = c.requires.walk.holds_way;
          short =
              rw (c.as_ref.ensures, c.prefix.ensures) (path-fits segments s g.T.KeyPath.greatest
              c.requires.tree c.requires.short);
        },
        c.requires.walk.framed,
      ),
    )

pub returns : goal.returns
returns g c =
    let walk = c.args.self.now in
    let nodes = nodes_open walk in
    let after = nodes_open c.enter_part.new.self in
    let s = c.args.node.now.shape in
    let enters = c.in_ok-enter_part.ensures in
    let pushes : Pushes nodes (prefix_of s) (children_of s) after =
    rw (c.as_ref.ensures, c.prefix.ensures, c.iter.ensures.children) at enters.opened in
    record {
      walk = record {
        holds_way = enters.holds;
        framed = record { marked = enters.framed.marked; innermost = enters.framed.innermost };
        trees = whole-trees nodes s after pushes c.requires.tree c.requires.walk.trees;
        short =
            whole-short nodes s after pushes g.T.KeyPath.greatest c.requires.short
            c.requires.walk.short;
      };
      pairs =
          rw (c.value-self.ensures, c.requires.pending) (sym (whole-pairs nodes s after pushes));
      paths = sym (whole-paths nodes s after pushes);
      inside = rw c.requires.pending (whole-inside nodes s after pushes);
      pending = search rules;
    }
