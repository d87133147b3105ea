use Rattle.std.proofs.Common.{◌≡◌, ◌+◌, length, map, arith, sym, ap, ◌∙◌}
use Rattle.std.specs.List.{concat}
use Rattle.rart_node.proofs.KeyPathLemmas.{length-push, shown-push}
use Rattle.rart_node.proofs.key_path.SegmentsPathKeyPath.push.Goals as goal

pub overflow_add-self : goal.overflow_add-self
overflow_add-self c =
    let long : c.self.inside.len ≡ length (concat c.requires.0) =
    c.self.invariant ∙ ap (λ segments. length (concat segments))
    (c.self.view_is ∙ c.requires.1) in
    let more = length-push c.requires.0 c.args.segment.now in
    let most = c.requires.2 in
    omega (arith, long, more, most)

pub invariant_of-self-2 : goal.invariant_of-self-2
invariant_of-self-2 c =
    let segments = map (λ segment. segment.now) c.self.inside.segments.items in
    let long : c.self.inside.len ≡ length (concat segments) = c.self.invariant in
    ap (λ n. n + length c.args.segment.now) long ∙ sym (length-push segments c.args.segment.now)
    ∙ ap (λ z. length (concat z)) (sym (shown-push c.self.inside.segments.items c.args.segment)
    ∙ ap (map (λ segment. segment.now)) (sym c.in_ok-push.ensures.items))
