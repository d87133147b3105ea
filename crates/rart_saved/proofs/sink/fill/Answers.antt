use Rattle.std.proofs.Common.{arith}
use Rattle.rart_saved.proofs.FillLemmas.{fills-more, fills-past}
use Rattle.rart_saved.proofs.sink.fill.Goals as goal

pub returns-then-end-room : goal.returns-then-end-room
returns-then-end-room c before done is =
    fills-more before done c.args.part.now c.args.room.now c.args.at c.in-Some.end is
    (omega arith) c.put_over.new.room (omega arith) c.put_over.ensures

pub returns-else-end-room : goal.returns-else-end-room
returns-else-end-room c before done is =
    fills-past before done c.args.part.now c.args.room.now c.args.at c.in-Some.end is
    (omega arith) (omega arith)
