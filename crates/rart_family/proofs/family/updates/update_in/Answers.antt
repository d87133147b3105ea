use Rattle.std.proofs.Common.{rules}
use Rattle.rart_versioned.proofs.OutcomeLemmas.{one-update}
use Rattle.rart_family.proofs.family.updates.update_in.Goals as goal

pub returns-clause-changes : goal.returns-clause-changes
returns-clause-changes g c =
    one-update _ _ c.args.version.now c.update_k_counted.new.self _ _ c.args.answer
    c.update_k_counted.result (λ left t tell. search rules) c.update_k_counted.ensures.updates
    c.update_k_counted.ensures.refused
