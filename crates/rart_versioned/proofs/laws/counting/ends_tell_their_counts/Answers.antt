use Rattle.std.proofs.Common.{arith, subst, ◌≤◌}
use Rattle.std.specs.Prelude.{IfSome}
use Rattle.rart_versioned.specs.Iterators.{members_left}
use Rattle.rart_versioned.proofs.laws.counting.ends_tell_their_counts.Goals as goal

pub returns-clause-visits : goal.returns-clause-visits
returns-clause-visits c p before after front last ends =
    let least = ends.at_least in
    let most = ends.at_most.entered_at_most in
    let kept = ends.at_most.made_grows in
    let none = ends.at_most.made_at_most in
    (omega (arith, least), omega (arith, most), omega (arith, kept, none))

pub returns-clause-diffs : goal.returns-clause-diffs
returns-clause-diffs c old new before after front last ends =
    let least = ends.at_least in
    let most = ends.at_most.entered_at_most in
    let kept = ends.at_most.made_grows in
    let none = ends.at_most.made_at_most in
    (omega (arith, least), omega (arith, most), omega (arith, kept, none))

pub returns-clause-equal : goal.returns-clause-equal
returns-clause-equal c old new before after is = is

pub returns-clause-unequal : goal.returns-clause-unequal
returns-clause-unequal c old new before after first changes ends =
    let least = ends.at_least in
    let most = ends.at_most.entered_at_most in
    (omega (arith, least), omega (arith, most))

pub returns-clause-hints : goal.returns-clause-hints
returns-clause-hints c left hint is = (
  is.lower,
  λ most same. subst (λ it. IfSome it (λ most. members_left left ≤ most)) same is.upper,
  is.over,
)
