use Rattle.std.proofs.Common.{◌∙◌, sym}
use Rattle.rart_changes.proofs.TrackingLemmas.{keeps-begin}
use Rattle.rart_changes.proofs.tracked.TrackedTree.begin.Goals as goal

pub invariant_of-result : goal.invariant_of-result
invariant_of-result g c =
    keeps-begin (c.in_ok-clone.ensures ∙ sym c.in_ok-clone-2.ensures) c.no_keys.ensures.empty
    (rw c.in_ok-clone.ensures c.know_keys_for_proof.ensures.few)
