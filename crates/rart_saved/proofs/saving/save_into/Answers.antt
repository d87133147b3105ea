use Rattle.std.proofs.Common.{refl, rules}
use Rattle.rart_saved.proofs.saving.save_into.Goals as goal

pub returns : goal.returns
returns g c =
    let filled =
    c.in_ok-put_version.ensures c.new-sink.result
    (refl, record { ends = c.new-sink.ensures.end; long = refl; front = λ fits. refl }) in
    let is = filled.1 in
    search rules
