use Rattle.std.proofs.Common.{◌≡◌, ◌++◌, ◌∷◌, [], List, refl, sym, ap, subst, ◌∙◌}
use Rattle.std.proofs.lemmas.Option.{none-some}
use Rattle.std.proofs.lemmas.Result.{on_ok_weaker}
use Rattle.rart_node.specs.VersionedNodeIter.{children_left}
use Rattle.rart_walks.specs.declared.walk.Frame.{Frame}
use Rattle.rart_walks.specs.Frames.{Pushes, segments_of, with_rest}
use Rattle.rart_walks.specs.WalkFields.{AreMarked, and_inner, frames_of, nodes_open, open_nodes}
use Rattle.rart_walks.proofs.FrameLemmas.{marked-push, opened-below}
use Rattle.rart_walks.proofs.WalkLemmas.{passed-segments, pushed-segments}
use Rattle.rart_walks.proofs.walk.Walk.enter_part.Goals as goal

pub returns : goal.returns
returns g c =
    let walk = c.args.self.now in
    let passed = c.pass.new.self in
    let pass = c.in_ok-pass.ensures in
    let segment = c.args.segment.now in
    let frame : Frame g.row.P.Denot g.row.V.Denot g.P.Partial =
    record { mark = c.mark.result; children = c.args.children; way = c.replace.result } in
    let way : c.replace.result.segments ≡ walk.below.segments ++ segment ∷ [] =
    ap (λ z. z.segments) c.replace.ensures.value ∙ pass.below in
    let none : c.replace.new.dest.segments ≡ [] =
    ap (λ z. z.segments) c.replace.ensures.after ∙ c.new.ensures in
    let same : and_inner passed.outer.items passed.inner ≡ frames_of walk =
    λ i. and_inner (pass.outer i).items (pass.inner i) in
    let opens : (now : List (Frame g.row.P.Denot g.row.V.Denot g.P.Partial))
    → now ≡ and_inner passed.outer.items passed.inner ++ frame ∷ []
    → Pushes (nodes_open walk) segment (children_left c.args.children)
    (with_rest (open_nodes now) c.replace.new.dest.segments) =
    λ now is. opened-below (frames_of walk) walk.below.segments segment frame way now
    (is ∙ ap (λ z. z ++ frame ∷ []) same) _ none in
    let held : g.T.KeyPath.holds passed.key_path (segments_of (nodes_open walk) ++ segment ∷ []) =
    subst (g.T.KeyPath.holds passed.key_path)
    (passed-segments (open_nodes (frames_of walk)) walk.below.segments segment)
    (rw (pass.below, same) at pass.holds) in
    let holds : (now : List (Frame g.row.P.Denot g.row.V.Denot g.P.Partial))
    → now ≡ and_inner passed.outer.items passed.inner ++ frame ∷ []
    → g.T.KeyPath.holds passed.key_path
    (segments_of (with_rest (open_nodes now) c.replace.new.dest.segments)) =
    λ now is. subst (g.T.KeyPath.holds passed.key_path)
    (sym (pushed-segments _ _ _ _ (opens now is))) held in
    record {
      holds = on_ok_weaker c.push_innermost.result (λ is. holds _ is) c.push_innermost.ensures.frames;
      opened = on_ok_weaker c.push_innermost.result (λ is. opens _ is) c.push_innermost.ensures.frames;
      framed =
          on_ok_weaker c.push_innermost.result
          (λ is. record {
            marked =
                subst (AreMarked g.T.KeyPath.extent []) (sym (is ∙ ap (λ z. z ++ frame ∷ []) same))
                (marked-push g.T.KeyPath.extent [] (frames_of walk) frame c.requires.framed.marked
                (c.mark.ensures _ (subst (g.T.KeyPath.holds passed.key_path)
                (sym (pushed-segments _ _ _ _ (opened-below (frames_of walk) walk.below.segments
                segment frame way _ refl [] refl))) held)));
            innermost = λ none. absurd (none-some _ (sym none ∙ c.push_innermost.ensures.inner));
          })
          c.push_innermost.ensures.frames;
      pending = pass.pending;
    }
