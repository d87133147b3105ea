use Rattle.std.proofs.Common.{rules, ◌+◌, ◌<◌, ◌≤◌, length, take, arith, ap, ◌∙◌}
use Rattle.std.proofs.lemmas.List.{length-take-le, take-take}
use Rattle.rart_ways.specs.Runs.{run_from, runs}
use Rattle.rart_ways.proofs.RunPlaceLemmas.{long-before, run-counted, run-places}
use Rattle.rart_ways.proofs.sorted.count_runs.Goals as goal

pub last_run-start-requires-clause-long : goal.last_run-start-requires-clause-long
last_run-start-requires-clause-long g c =
    long-before g.K.KeyTrait.bytes (c.args.at + 1) c.args.first c.counting.end c.args.pairs.now
    c.requires.long

pub overflow_add-count : goal.overflow_add-count
overflow_add-count g c =
    let bytes = g.K.KeyTrait.bytes in
    let items = c.args.pairs.now in
    let end = c.counting.end in
    let start = c.last_run-start.result.0 in
    let within = c.counting.invariant.within in
    let counted = c.counting.invariant.counted in
    let inside = c.last_run-start.ensures.within in
    let one =
    run-counted bytes c.args.first start c.args.at c.last_run-start.result.1 (take end items)
    (long-before bytes (c.args.at + 1) c.args.first end items c.requires.long)
    c.last_run-start.ensures.from inside c.last_run-start.ensures.alike
    c.last_run-start.ensures.apart in
    let most = run-places bytes c.args.first c.args.at items in
    let fits : c.counting.count + 1 ≤ length items = omega (arith, one, counted, most) in
    first_of (search (rules, fits), grind (arith, fits))

pub counting-preserved : goal.counting-preserved
counting-preserved g c =
    let bytes = g.K.KeyTrait.bytes in
    let items = c.args.pairs.now in
    let end = c.counting.end in
    let start = c.last_run-start.result.0 in
    let within = c.counting.invariant.within in
    let counted = c.counting.invariant.counted in
    let front = take end items in
    let long = length-take-le end items within in
    let inside = c.last_run-start.ensures.within in
    let less : start < length front = inside in
    let same = take-take start end items (omega (arith, less, long)) in
    let one =
    run-counted bytes c.args.first start c.args.at c.last_run-start.result.1 front
    (long-before bytes (c.args.at + 1) c.args.first end items c.requires.long)
    c.last_run-start.ensures.from less c.last_run-start.ensures.alike
    c.last_run-start.ensures.apart
    ∙ ap (λ l. runs (run_from bytes c.args.first c.args.at l) + 1) same in
    record {
      from = c.last_run-start.ensures.from;
      within = omega (arith, less, long, within);
      counted = omega (arith, one, counted);
    }
