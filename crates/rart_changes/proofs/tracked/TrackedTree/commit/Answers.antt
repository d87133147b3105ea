use Rattle.rart_changes.proofs.TrackingLemmas.{keeps-begin}
use Rattle.rart_changes.proofs.tracked.TrackedTree.commit.Goals as goal

pub invariant_of-self : goal.invariant_of-self
invariant_of-self g c =
    keeps-begin c.in_ok-current.ensures c.no_keys.ensures.empty
    c.know_keys_for_proof.ensures.few
