use Rattle.std.proofs.Common.{sym}
use Rattle.rart_changes.proofs.TrackingLemmas.{keeps-begin}
use Rattle.rart_changes.proofs.tracked.TrackedTree.undo.Goals as goal

pub invariant_of-self : goal.invariant_of-self
invariant_of-self g c =
    keeps-begin (sym c.in_ok-base.ensures) c.no_keys.ensures.empty
    (rw (sym c.in_ok-base.ensures) c.know_keys_for_proof.ensures.few)
