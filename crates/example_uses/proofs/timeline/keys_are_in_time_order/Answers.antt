use Rattle.example_uses.proofs.TimeOrderLemmas.{keys_are_in_time_order}
use Rattle.example_uses.proofs.timeline.keys_are_in_time_order.Goals as goal

pub returns : goal.returns
returns c = keys_are_in_time_order
