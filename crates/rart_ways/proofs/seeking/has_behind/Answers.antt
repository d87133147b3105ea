use Rattle.std.proofs.Common.{true, arith, refl}
use Rattle.std.specs.Ordering.{as_partial_cmp}
use Rattle.std.specs.Range.Bound.{is_up_to_end}
use Rattle.std.specs.declared.ops.Bound.TheVariants.{Included, Excluded}
use Rattle.rart_below.specs.Bytes.{byte_order}
use Rattle.rart_node.proofs.CountingLemmas.{counts-most, counts-then}
use Rattle.rart_ways.proofs.LeastLemmas.{passes-none, passes-start}
use Rattle.rart_ways.proofs.seeking.has_behind.Goals as goal

pub returns-in_default : goal.returns-in_default
returns-in_default g c = record {
  passes = passes-none _ _ c.in_default.ensures.start;
  counted = counts-most c.in_default.ensures.soon (omega arith) (omega arith);
  entered = c.in_default.ensures.entered;
}

pub returns-in-Included : goal.returns-in-Included
returns-in-Included g c =
    let started = c.in-Some.ensures in
    let before = started.entered in
    let grows = c.least_meets.ensures.counted.entered_grows in
    rw c.in-Included.is (record {
      passes = passes-start (is_up_to_end (as_partial_cmp byte_order)
          (Included c.in-Included.high.now)) _ _ _ started.start c.least_meets.result
          c.least_meets.ensures.meets;
      counted = counts-then started.soon c.least_meets.ensures.counted (omega arith) (omega arith);
      entered = omega (arith, before, grows);
    })

pub returns-in-Excluded : goal.returns-in-Excluded
returns-in-Excluded g c =
    let started = c.in-Some.ensures in
    let before = started.entered in
    let grows = c.least_meets-in-Excluded.ensures.counted.entered_grows in
    rw c.in-Excluded.is (record {
      passes = passes-start (is_up_to_end (as_partial_cmp byte_order)
          (Excluded c.in-Excluded.high.now)) _ _ _ started.start
          c.least_meets-in-Excluded.result c.least_meets-in-Excluded.ensures.meets;
      counted = counts-then started.soon c.least_meets-in-Excluded.ensures.counted (omega arith)
          (omega arith);
      entered = omega (arith, before, grows);
    })

pub returns-in-Unbounded : goal.returns-in-Unbounded
returns-in-Unbounded g c =
    let started = c.in-Some.ensures in
    rw c.in-Unbounded.is (record {
      passes = passes-start (λ key. true) _ _ _ started.start true (λ pair others is. refl);
      counted = counts-most started.soon (omega arith) (omega arith);
      entered = started.entered;
    })
