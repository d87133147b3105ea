use Rattle.std.proofs.Common.{arith}
use Rattle.std.proofs.Math.Nat.{le_refl}
use Rattle.rart_ways.proofs.LastLemmas.{end-short, last-of-all, last-passed}
use Rattle.rart_ways.proofs.seeking.last_before.Goals as goal

pub greatest-requires-clause-short : goal.greatest-requires-clause-short
greatest-requires-clause-short g c =
    let end = rw c.in-Below.is at c.in_ok-path.ensures.end in
    end-short c.args.edge c.args.high.now c.args.root.now.shape c.in_ok-path.path.now
    c.in-Below.node.now.shape end c.requires.short

pub returns-in-Below-clause-last : goal.returns-in-Below-clause-last
returns-in-Below-clause-last g c =
    let end = rw c.in-Below.is at c.in_ok-path.ensures.end in
    last-of-all _ c.in_ok-path.path.now c.in-Below.node.now.shape end c.greatest.result.0
    c.greatest.result.1.now c.args.room.now c.greatest.new.room c.greatest.ensures.last

pub returns-in-Value-clause-last : goal.returns-in-Value-clause-last
returns-in-Value-clause-last g c =
    let passed = rw c.in-Value.is at c.in_ok-path.ensures.end in
    let end = c.write_at.ensures.end in
    last-passed _ passed.0 c.in_ok-path.path.now c.in-Value.value.now passed.1 c.write_at.result
    c.args.room.now c.write_at.new.room (omega (arith, end)) c.write_at.ensures.written
    (c.write_at.ensures.behind c.write_at.result (le_refl c.write_at.result))
