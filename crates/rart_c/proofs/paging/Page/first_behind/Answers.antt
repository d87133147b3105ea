use Rattle.std.proofs.Common.{take}
use Rattle.std.proofs.lemmas.List.{take_rest}
use Rattle.rart_c.proofs.paging.Page.first_behind.Goals as goal

pub returns-in-None : goal.returns-in-None
returns-in-None g c = rw c.in-None.is c.first.ensures

pub returns-in-Some : goal.returns-in-Some
returns-in-Some g c =
    rw c.in-Some.is (rw (take_rest (take c.in-Some.stop c.args.written.now) c.in-Some.start)
    at c.first-in-Some.ensures)
