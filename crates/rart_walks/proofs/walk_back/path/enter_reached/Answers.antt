use Rattle.std.proofs.Common.{◌++◌, ◌∷◌, [], refl, ◌∙◌}
use Rattle.std.proofs.lemmas.Result.{on_ok_weaker}
use Rattle.rart_node.specs.Shape.{children_of}
use Rattle.rart_walks.specs.BackFields.{open_back}
use Rattle.rart_walks.specs.BackFrames.{back_segments}
use Rattle.rart_walks.proofs.BackPartLemmas.{below-zero}
use Rattle.rart_walks.proofs.WalkLemmas.{path-fits}
use Rattle.rart_walks.proofs.walk_back.path.enter_reached.Goals as goal

pub enter_part-requires : goal.enter_part-requires
enter_part-requires g c =
    let s = c.args.node.now.shape in
    let above = c.requires in
    let segments = back_segments (open_back c.args.walk.now.frames.items) in
    λ _. (
      (refl, tt),
      (
        above.holds,
        rw (c.as_ref-segment.ensures, c.prefix.ensures)
            (path-fits segments s g.T.KeyPath.greatest above.tree above.short),
      ),
    )

pub returns-in-All : goal.returns-in-All
returns-in-All g c =
    let frames = open_back c.args.walk.now.frames.items in
    let segment = c.as_ref-segment.ensures ∙ c.prefix.ensures in
    rw c.in-All.is (record {
      holds = c.enter_part.ensures.holds;
      frames = on_ok_weaker c.enter_part.result
          (λ is. is ∙ (λ i. frames
          ++ (segment i, c.value.ensures i, c.iter_rev.ensures.children i) ∷ []))
          c.enter_part.ensures.frames;
      leaf = c.enter_part.ensures.leaf;
    })

pub enter_part-requires-in-Own : goal.enter_part-requires-in-Own
enter_part-requires-in-Own g c =
    let s = c.args.node.now.shape in
    let above = c.requires in
    let segments = back_segments (open_back c.args.walk.now.frames.items) in
    λ _. (
      (refl, tt),
      (
        above.holds,
        rw (c.as_ref-segment.ensures, c.prefix.ensures)
            (path-fits segments s g.T.KeyPath.greatest above.tree above.short),
      ),
    )

pub returns-in-Own : goal.returns-in-Own
returns-in-Own g c =
    let frames = open_back c.args.walk.now.frames.items in
    let segment = c.as_ref-segment.ensures ∙ c.prefix.ensures in
    let none = c.iter_rev_below.ensures.children ∙ below-zero (children_of c.args.node.now.shape) in
    rw c.in-Own.is (record {
      holds = c.enter_part-in-Own.ensures.holds;
      frames = on_ok_weaker c.enter_part-in-Own.result
          (λ is. is ∙ (λ i. frames ++ (segment i, c.value-in-Own.ensures i, none i) ∷ []))
          c.enter_part-in-Own.ensures.frames;
      leaf = c.enter_part-in-Own.ensures.leaf;
    })
