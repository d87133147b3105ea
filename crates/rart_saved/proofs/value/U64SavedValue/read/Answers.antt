use Rattle.std.proofs.Common.{◌<◌, ◌≤◌, ◌+◌, ◌-◌, ℕ, get_or, length, subst, sym, arith, rules}
use Rattle.rart_saved.specs.Parts.{HasPart}
use Rattle.rart_saved.proofs.BytePartLemmas.{part-slice, small-part}
use Rattle.rart_saved.proofs.ValueLemmas.{eight-read, lacks-eight}
use Rattle.rart_saved.proofs.value.U64SavedValue.read.Goals as goal

pub returns-then-bytes-at-lt8-clause-refused : goal.returns-then-bytes-at-lt8-clause-refused
returns-then-bytes-at-lt8-clause-refused c _ =
    lacks-eight c.args.bytes.now c.args.at c.if-bytes-at-lt8.true

pub returns-clause-read : goal.returns-clause-read
returns-clause-read c =
    let inside : c.args.at + 8 ≤ length c.args.bytes.now =
    omega (arith, c.if-bytes-at-lt8.false) in
    eight-read c.args.bytes.now c.copy_from_slice.new.self c.args.at c.from_le_bytes.result
    (subst (λ g. HasPart c.args.bytes.now c.args.at g (c.args.at + 8)) (sym
    c.copy_from_slice.ensures.after)
    (part-slice c.args.bytes.now c.args.at (c.args.at + 8) (omega arith) inside))
    c.copy_from_slice.ensures.len
    (subst (λ part. (i : ℕ) → get_or part i 0 < 256) (sym c.copy_from_slice.ensures.after)
    (small-part c.args.bytes.now c.args.at (c.args.at + 8 - c.args.at)
    (λ i. omega (arith, c.type_inv.bytes i)))) (search rules) c.from_le_bytes.ensures
