use Rattle.std.proofs.Common.{arith}
use Rattle.rart_node.proofs.CountingLemmas.{counts-most, counts-then, entered-then}
use Rattle.rart_versioned.proofs.VersionDiffLemmas.{walks-are}
use Rattle.rart_versioned.proofs.counted.tree.VersionedAdaptiveRadixTree.both_walks.Goals as goal

pub returns-in_err-old-clause-counted : goal.returns-in_err-old-clause-counted
returns-in_err-old-clause-counted g c =
    counts-most c.whole_walk.ensures.counted (omega arith) (omega arith)

pub returns-in_err-new-clause-counted : goal.returns-in_err-new-clause-counted
returns-in_err-new-clause-counted g c =
    let one = c.whole_walk.ensures in
    let other = c.whole_walk-2.ensures in
    counts-then one.counted other.counted (omega arith) (omega arith)

pub returns-in_err-new-clause-entered : goal.returns-in_err-new-clause-entered
returns-in_err-new-clause-entered g c =
    let one = c.whole_walk.ensures in
    let other = c.whole_walk-2.ensures in
    λ keyed. entered-then c.args.work.now (one.entered keyed) other.counted

pub returns-in_err-old-clause-entered_other : goal.returns-in_err-old-clause-entered_other
returns-in_err-old-clause-entered_other g c = λ keyed. c.in_err-old.ensures.refused

pub returns-in_err-new-clause-entered_other : goal.returns-in_err-new-clause-entered_other
returns-in_err-new-clause-entered_other g c =
    let grows = c.whole_walk.ensures.counted.entered_grows in
    let other = c.whole_walk-2.ensures in
    λ keyed.
    let more = other.entered keyed in
    omega (arith, grows, more)

pub returns : goal.returns
returns g c =
    let one = c.in_ok-old.ensures in
    let other = c.in_ok-new.ensures in
    let first = one.nodes in
    let second = other.nodes in
    record {
      walks = walks-are g.V.PartialEq.eq g.K.KeyTrait.MAXIMUM_SIZE
          c.args.self.now c.args.other.now c.in_ok-old.old c.in_ok-new.new
          one.walk other.walk one.pairs other.pairs one.admitted other.admitted;
      nodes = omega (arith, first, second);
      to = λ key.
          let left = one.to key in
          let right = other.to key in
          omega (arith, left, right);
      held = let left = one.at_hand in
          let right = other.at_hand in
          omega (arith, left, right);
      counted = counts-then one.counted other.counted (omega arith) (omega arith);
      entered = λ keyed. entered-then c.args.work.now (one.entered keyed) other.counted;
      entered_other = λ keyed.
          let grows = one.counted.entered_grows in
          let more = other.entered keyed in
          omega (arith, grows, more);
    }
