use Rattle.std.proofs.Common.{sym, ap, ◌∙◌}
use Rattle.std.specs.FinMap as finite
use Rattle.rart_below.specs.Bytes.{byte_order}
use Rattle.rart_maps.specs.Versions.{Version}
use Rattle.rart_changes.proofs.tracked.no_keys.Goals as goal

pub returns-clause-counted : goal.returns-clause-counted
returns-clause-counted g c =
    ap (λ (v : Version (Unit {0})). v.number) c.new.ensures.empty
    ∙ sym (ap (λ (v : Version (Unit {0})). finite.len v.content) c.new.ensures.empty
    ∙ finite.len-empty byte_order (Unit {0}))
