use Rattle.std.proofs.Common.{sym}
use Rattle.rart_below.proofs.CommonLengthLemmas.{begins-is, begins-short}
use Rattle.rart_below.proofs.beginnings.does_begin.Goals as goal

pub returns-then-bytes-count : goal.returns-then-bytes-count
returns-then-bytes-count c = sym (begins-short _ _ c.if-bytes-count.true)

pub returns-then-count-ge8 : goal.returns-then-count-ge8
returns-then-count-ge8 c = begins-is _ _ _ c.begins_by_eight.ensures

pub returns-then-count-ge4 : goal.returns-then-count-ge4
returns-then-count-ge4 c = begins-is _ _ _ c.begins_by_four.ensures

pub returns : goal.returns
returns c = begins-is _ _ _ c.begins_by_bytes.ensures
