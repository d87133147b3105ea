use Rattle.std.proofs.Common.{◌≡◌, Option, None, Some, is_some, true, sym, ◌∙◌}
use Rattle.std.specs.Prelude.{IfSome}
use Rattle.std.proofs.lemmas.Bool.{false≢true}
use Rattle.rart_ways.proofs.UnderPrefixLemmas.{stands-some}
use Rattle.rart_ways.proofs.prefixes.has_under.Goals as goal

-- what holds of an option's value, where it has one
of-some : {A : Type 0} {P : A → Type 0} (found : Option A) → IfSome found P
    → is_some found ≡ true → (x : A) × P x
of-some None holds there = absurd (false≢true there)
of-some (Some x) holds there = (x, holds)

pub returns-clause-there : goal.returns-clause-there
returns-clause-there g c there =
    let end = of-some c.prefix_end.result c.prefix_end.ensures.stands
    (sym c.is_some.ensures ∙ there) in
    stands-some _ _ _ _ _ c.requires.tree end.1
