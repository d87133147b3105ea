use Rattle.std.proofs.Common.{None, refl, arith}
use Rattle.rart_below.proofs.IndexedMappingLemmas.{starts}
use Rattle.rart_below.proofs.mapping.indexed.IndexedMapping.new.Goals as goal

pub returns-clause-empty : goal.returns-clause-empty
returns-clause-empty g c =
    let slots = c.from_fn.result in
    let made = c.from_fn.ensures.items in
    (starts 256 slots c.new.result refl made.long
    (λ place lt. (made.at place None (omega (arith, lt, made.long))).2.met) c.new.ensures).1

pub returns-clause-order : goal.returns-clause-order
returns-clause-order g c =
    let slots = c.from_fn.result in
    let made = c.from_fn.ensures.items in
    (starts 256 slots c.new.result refl made.long
    (λ place lt. (made.at place None (omega (arith, lt, made.long))).2.met) c.new.ensures).0
