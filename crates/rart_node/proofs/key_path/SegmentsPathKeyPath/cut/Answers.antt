use Rattle.std.proofs.Common.{◌++◌, ◌∷◌, [], ℕ, List, length, map, arith, ap, ◌∙◌}
use Rattle.std.specs.Borrow.{Bor}
use Rattle.std.specs.List.{concat}
use Rattle.std.proofs.lemmas.List.{append_assoc, length-append, map-append}
use Rattle.rart_node.proofs.KeyPathLemmas.{length-push, cut-segments, shown-length}
use Rattle.rart_node.proofs.key_path.SegmentsPathKeyPath.cut.Goals as goal

pub overflow_sub-self : goal.overflow_sub-self
overflow_sub-self c =
    let shown = map (λ (segment : Bor (List ℕ)). segment.now) in
    let is = ap shown (rw c.in-Some.is at c.pop.ensures.items)
    ∙ map-append (λ (segment : Bor (List ℕ)). segment.now) c.pop.new.self.items
    (c.in-Some.gone ∷ []) in
    let long = c.cutting.invariant.len ∙ ap (λ z. length (concat z)) is in
    let more = length-push (shown c.pop.new.self.items) c.in-Some.gone.now in
    omega (arith, long, more)

pub cutting-preserved-in-Some : goal.cutting-preserved-in-Some
cutting-preserved-in-Some c =
    let shown = map (λ (segment : Bor (List ℕ)). segment.now) in
    let before = c.cutting.invariant in
    let items = rw c.in-Some.is at c.pop.ensures.items in
    let is = ap shown items
    ∙ map-append (λ (segment : Bor (List ℕ)). segment.now) c.pop.new.self.items
    (c.in-Some.gone ∷ []) in
    record {
      len =
          let long = before.len ∙ ap (λ z. length (concat z)) is in
          let more = length-push (shown c.pop.new.self.items) c.in-Some.gone.now in
          omega (arith, long, more);
      gone = (
        c.in-Some.gone.now ∷ before.gone.0,
        before.gone.1 ∙ ap (λ z. z ++ before.gone.0) is
            ∙ append_assoc (shown c.pop.new.self.items) (c.in-Some.gone.now ∷ []) before.gone.0,
      );
      enough =
          let less = ap length items ∙ length-append c.pop.new.self.items (c.in-Some.gone ∷ []) in
          let test = c.cutting-test.true in
          let len = c.len.ensures in
          let all = c.cutting.self-inside.segments.ok.0 in
          omega (arith, less, test, len, all);
    }

pub returns : goal.returns
returns c =
    let shown = map (λ (segment : Bor (List ℕ)). segment.now) in
    let before = c.cutting.invariant in
    let items = c.cutting.self-inside.segments.items in
    let many = before.enough in
    let few = c.cutting-test.false in
    let len = c.len.ensures in
    let all = c.cutting.self-inside.segments.ok.0 in
    let long = shown-length items in
    λ kept gone same mark.
    cut-segments _ kept gone (shown items) before.gone.0 (c.self.view_is ∙ same) before.gone.1
    (omega (arith, many, few, len, all, long, mark))
