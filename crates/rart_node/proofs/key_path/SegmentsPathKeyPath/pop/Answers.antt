use Rattle.std.proofs.Common.{◌≡◌, ◌++◌, ◌∷◌, [], ℕ, List, length, map, arith, ap, ◌∙◌}
use Rattle.std.specs.Borrow.{Bor}
use Rattle.std.specs.List.{concat}
use Rattle.rart_node.proofs.KeyPathLemmas.{length-push, shown-pop}
use Rattle.rart_node.proofs.key_path.SegmentsPathKeyPath.pop.Goals as goal

pub overflow_sub-self : goal.overflow_sub-self
overflow_sub-self c =
    let long : c.self.inside.len ≡ length (concat (c.requires.0 ++ c.args.segment.now ∷ [])) =
    c.self.invariant ∙ ap (λ segments. length (concat segments))
    (c.self.view_is ∙ c.requires.1) in
    let more = length-push c.requires.0 c.args.segment.now in
    omega (arith, long, more)

pub invariant_of-self : goal.invariant_of-self
invariant_of-self c =
    let long : c.self.inside.len ≡ length (concat (c.requires.0 ++ c.args.segment.now ∷ [])) =
    c.self.invariant ∙ ap (λ segments. length (concat segments))
    (c.self.view_is ∙ c.requires.1) in
    let more = length-push c.requires.0 c.args.segment.now in
    let rest =
    shown-pop c.self.inside.segments.items c.pop.new.self.items _ c.requires.0
    c.args.segment.now c.pop.ensures.rest c.self.inside.segments.ok.0
    (c.self.view_is ∙ c.requires.1) in
    let same : length (concat (map (λ (segment : Bor (List ℕ)). segment.now) c.pop.new.self.items))
    ≡ length (concat c.requires.0) = ap (λ z. length (concat z)) rest in
    omega (arith, long, more, same)
