use Rattle.std.proofs.Common.{◌/◌, arith}
use Rattle.std.proofs.lemmas.List.{get_or_past}
use Rattle.rart_below.proofs.ByteSetLemmas.{no-word}
use Rattle.rart_below.proofs.byte_set.ByteSet.copy.Goals as goal

pub returns-clause-bytes : goal.returns-clause-bytes
returns-clause-bytes c =
    let words = c.args.self.now.words in
    λ number past. no-word words number (get_or_past words (number / 64) 0 (omega (arith, past)))
