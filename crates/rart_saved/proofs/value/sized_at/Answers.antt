use Rattle.std.proofs.Common.{◌-◌, ◌<◌, ◌≤◌, ◌^◌, ◌+◌, drop, length, take, rules, arith}
use Rattle.rart_saved.specs.Values.{sized, LacksValue}
use Rattle.rart_saved.proofs.BytePartLemmas.{each_error, part-counted, long-counted}
use Rattle.rart_saved.proofs.ValueLemmas.{lacks-length, lacks-rest, sized-read}
use Rattle.rart_saved.proofs.value.sized_at.Goals as goal

pub returns-in_err-count-clause-refused : goal.returns-in_err-count-clause-refused
returns-in_err-count-clause-refused c =
    let fits : length c.args.bytes.now < 2 ^ 64 = search rules in
    each_error _ (LacksValue sized (drop c.args.at c.args.bytes.now))
    (lacks-length c.args.bytes.now c.args.at fits c.in_err-count.ensures.refused)

pub returns-then-count-bytes-clause-refused : goal.returns-then-count-bytes-clause-refused
returns-then-count-bytes-clause-refused c =
    lacks-rest c.args.bytes.now c.args.at _ _ c.in_ok-count.ensures.read c.if-count-bytes.true

pub returns-clause-read : goal.returns-clause-read
returns-clause-read c =
    let inside : c.in_ok-count.from + c.in_ok-count.count ≤ length c.args.bytes.now =
    omega (arith, c.if-count-bytes.false, c.in_ok-count.ensures.read.within) in
    sized-read c.args.bytes.now
    (take (c.in_ok-count.from + c.in_ok-count.count - c.in_ok-count.from)
    (drop c.in_ok-count.from c.args.bytes.now)) c.args.at c.in_ok-count.from c.in_ok-count.count
    c.in_ok-count.ensures.read
    (part-counted c.args.bytes.now c.in_ok-count.from c.in_ok-count.count inside)
    (long-counted c.args.bytes.now c.in_ok-count.from c.in_ok-count.count inside)
