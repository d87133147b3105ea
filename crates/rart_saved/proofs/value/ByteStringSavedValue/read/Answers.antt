use Rattle.std.proofs.Common.{subst, sym}
use Rattle.rart_saved.specs.Parts.{HasPart}
use Rattle.rart_saved.specs.Values.{sized}
use Rattle.rart_saved.proofs.value.ByteStringSavedValue.read.Goals as goal

pub returns-clause-read : goal.returns-clause-read
returns-clause-read c =
    subst (λ w. HasPart c.args.bytes.now c.args.at (sized w) c.in_ok-string.end)
    (sym c.in_ok-new.ensures) c.in_ok-string.ensures.read
