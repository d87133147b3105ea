use Rattle.std.proofs.Common.{arith, rules}
use Rattle.rart_node.proofs.CountingLemmas.{counts-then}
use Rattle.rart_ways.proofs.seeking.first_behind.Goals as goal

pub returns : goal.returns
returns g c =
    let longer = c.least.ensures.longer in
    let before = c.in_ok-path.ensures.entered in
    let grows = c.least.ensures.counted.entered_grows in
    record {
      first = search rules;
      counted = counts-then c.in_ok-path.ensures.counted c.least.ensures.counted
          (omega (arith, longer)) (omega arith);
      entered = omega (arith, before, grows);
    }
