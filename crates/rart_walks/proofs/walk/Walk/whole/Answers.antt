use Rattle.std.proofs.Common.{◌++◌, [], inr, length, arith, refl, sym, ap, subst, ◌∙◌}
use Rattle.std.proofs.lemmas.List.{append-nil, length-map}
use Rattle.std.specs.List.{concat}
use Rattle.rart_node.specs.Trees.{pairs_of}
use Rattle.rart_walks.specs.Frames.{behind_path, under_path}
use Rattle.rart_walks.specs.Walks.{AreShort, Cursor, paths_of}
use Rattle.rart_walks.proofs.CursorLemmas.{nodes-paths}
use Rattle.rart_node.proofs.BehindLemmas.{behind-none}
use Rattle.rart_walks.proofs.WalkLemmas.{under-none}
use Rattle.rart_walks.proofs.walk.Walk.whole.Goals as goal

pub enter_whole-requires : goal.enter_whole-requires
enter_whole-requires g c =
    let s = c.args.root.now.shape in
    λ _. (
      (refl, tt),
      record {
        walk = c.new-walk.ensures.walk;
        pending = c.new-walk.ensures.pending;
        tree = rw c.open.ensures.shown c.requires.tree;
        short =
            subst (λ (at : Cursor g.row.V.Denot). AreShort g.T.KeyPath.greatest
            (behind_path (concat at.segments) (pairs_of c.open.result.now.shape)))
            (sym c.new-walk.ensures.ended)
            (rw (c.open.ensures.shown, behind-none (pairs_of s)) c.requires.short);
      },
    )

pub returns : goal.returns
returns g c =
    let s = c.args.root.now.shape in
    let start = c.new-walk.ensures.ended in
    record {
      walk = c.in_ok-enter_whole.ensures.walk;
      pairs = c.in_ok-enter_whole.ensures.pairs
          ∙ ap (λ (at : Cursor g.row.V.Denot). behind_path (concat at.segments)
          (pairs_of c.open.result.now.shape) ++ at.pairs) start
          ∙ append-nil _ ∙ ap (λ z. behind_path [] (pairs_of z)) c.open.ensures.shown
          ∙ behind-none (pairs_of s);
      nodes =
          let paths = c.in_ok-enter_whole.ensures.paths
          ∙ ap (λ (at : Cursor g.row.V.Denot). under_path (concat at.segments)
          (paths_of c.open.result.now.shape) ++ at.paths) start
          ∙ append-nil _ ∙ ap (λ z. under_path [] (paths_of z)) c.open.ensures.shown in
          let long = ap length paths in
          let paths = length-map (paths_of s) (λ path. [] ++ path) in
          let nodes = nodes-paths s in
          omega (arith, long, paths, nodes);
      paths =
          let paths = c.in_ok-enter_whole.ensures.paths
          ∙ ap (λ (at : Cursor g.row.V.Denot). under_path (concat at.segments)
          (paths_of c.open.result.now.shape) ++ at.paths) start
          ∙ append-nil _ ∙ ap (λ z. under_path [] (paths_of z)) c.open.ensures.shown in
          inr (_, sym (under-none (paths_of s)) ∙ sym paths);
      work = c.open.ensures.work;
    }
