-- Counts along a walk, or along two that go on together: what was entered is what the nodes to
-- enter have fallen by.
use Rattle.std.proofs.Common.{◌≡◌, ◌+◌, ◌≤◌, ℕ, arith, ◌∙◌}
use Rattle.rart_node.specs.Counts.{Counts, CountsUpTo}
use Rattle.rart_node.proofs.CountingLemmas.{counts-none_made, made-none}

-- The nodes that were to enter at the start, those that are now, and the counts.
pub record IsCounted (nodes : ℕ) (start : Counts) (left : ℕ) (now : Counts) : Type 0 where
  pub same : now.entered + left ≡ start.entered + nodes
  pub grows : start.entered ≤ now.entered
  pub made : now.made ≡ start.made

pub counted-start : {nodes left : ℕ} (start : Counts) → left ≡ nodes
    → IsCounted nodes start left start
counted-start start is =
    record { same = omega (arith, is); grows = omega arith; made = omega arith }

-- A step,
pub counted-next : {nodes left : ℕ} {start now after : Counts} (less : ℕ) →
    IsCounted nodes start left now → after.entered + less ≡ now.entered + left →
    CountsUpTo left 0 now after → IsCounted nodes start less after
counted-next less before entered counted =
    let same = before.same in
    let grows = before.grows in
    let more = counted.entered_grows in
    record {
      same = omega (arith, same, entered);
      grows = omega (arith, grows, more);
      made = made-none counted ∙ before.made;
    }

-- the last one, which may have been refused,
pub counted-end : {nodes left : ℕ} {start now after : Counts} → IsCounted nodes start left now →
    CountsUpTo left 0 now after → CountsUpTo nodes 0 start after
counted-end before counted =
    let same = before.same in
    let grows = before.grows in
    let more = counted.entered_grows in
    let most = counted.entered_at_most in
    counts-none_made (omega (arith, grows, more)) (omega (arith, same, most))
    (made-none counted ∙ before.made)

-- or no step at all.
pub counted-now : {nodes left : ℕ} {start now : Counts} → IsCounted nodes start left now →
    CountsUpTo nodes 0 start now
counted-now before =
    let same = before.same in counts-none_made before.grows (omega (arith, same)) before.made
