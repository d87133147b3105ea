use Rattle.std.proofs.Common.{◌++◌, ◌∙◌, ap}
use Rattle.sha2.specs.Sha256.{sha256}
use Rattle.rart_saved.proofs.sink.VecU8Sink.put_sum.Goals as goal

pub returns : goal.returns
returns c start done is =
    c.in_ok-extend_from_slice.ensures.items
    ∙ (λ i. is i ++ (c.digest-sum.ensures ∙ ap sha256 (c.as_slice.ensures.value ∙ is)) i)
