use Rattle.rart_changes.proofs.laws.merging.arguments_show_their_conflicts.Goals as goal

pub returns : goal.returns
returns g c k lent base ours theirs w x y z = ((λ v. v, λ v. v), (λ v. v, λ v. v))
