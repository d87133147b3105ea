use Rattle.std.proofs.Common.{◌≡◌, ◌≤◌, ◌++◌, ℕ, List, length, map}
use Rattle.std.specs.Borrow.{Bor}
use Rattle.std.specs.List.{concat}
use Rattle.rart_node.proofs.key_path.SegmentsPathKeyPath.cut.Given as goal

abbrev pub invariant-cutting : goal.invariant-cutting
invariant-cutting l =
    record {
      len : l.self-inside.len ≡ length (concat (map (λ (segment : Bor (List ℕ)). segment.now)
          l.self-inside.segments.items));
      gone : (gone : List (List ℕ))
          × (map (λ (segment : Bor (List ℕ)). segment.now) l.initial.self-inside.segments.items
          ≡ map (λ (segment : Bor (List ℕ)). segment.now) l.self-inside.segments.items ++ gone);
      enough : l.mark ≤ length l.self-inside.segments.items;
    }

abbrev pub decreases-cutting : goal.decreases-cutting
decreases-cutting l = length l.self-inside.segments.items
