use Rattle.std.proofs.Common.{◌≡◌, length, [], None, sym, ap, arith}
use Rattle.rart_below.specs.Layouts.{slot_children}
use Rattle.rart_below.proofs.DirectMappingLemmas.{order_from}
use Rattle.rart_below.proofs.SlotByteLemmas.{marked-none}
use Rattle.rart_below.proofs.SlotLemmas.{no_slots}
use Rattle.rart_below.proofs.mapping.direct.DirectMapping.new.Goals as goal

pub returns-clause-empty : goal.returns-clause-empty
returns-clause-empty g c =
    no_slots 0 c.from_fn.result (λ place lt.
    (c.from_fn.ensures.items.at place None
    (omega (arith, lt, c.from_fn.ensures.items.long))).2.met)

pub returns-clause-order : goal.returns-clause-order
returns-clause-order g c =
    let empty : slot_children 0 c.from_fn.result ≡ [] =
    no_slots 0 c.from_fn.result (λ place lt.
    (c.from_fn.ensures.items.at place None
    (omega (arith, lt, c.from_fn.ensures.items.long))).2.met)
    in order_from c.from_fn.result 0 c.new.result
    c.from_fn.ensures.items.long (sym (ap length empty))
    (marked-none c.from_fn.result c.new.result c.new.ensures (λ place lt.
    (c.from_fn.ensures.items.at place None
    (omega (arith, lt, c.from_fn.ensures.items.long))).2.met))
