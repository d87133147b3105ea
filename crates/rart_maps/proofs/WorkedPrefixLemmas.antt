-- The worked values of maps cut at a prefix, by computation.
use Rattle.std.proofs.Common.{refl, ◌∙◌}
use Rattle.std.specs.Prelude.{ℕ, codes}
use Rattle.rart_maps.proofs.MapLemmas.{maps}
use Rattle.rart_maps.specs.WorkedPrefixes.{today, UnderKeepsTheKeyItself, WithoutKeepsNeighbours, RestoredTakesTheOthers, UnderNothing}
use Rattle.rart_maps.proofs.PrefixLawLemmas.{pairs_under_are_under, pairs_without_are_the_others}

pub under_keeps_the_key_itself : UnderKeepsTheKeyItself
under_keeps_the_key_itself = pairs_under_are_under ℕ today (codes "ab") ∙ simp maps refl

pub without_keeps_neighbours : WithoutKeepsNeighbours
without_keeps_neighbours = pairs_without_are_the_others ℕ today (codes "ab") ∙ simp maps refl

pub restored_takes_the_others : RestoredTakesTheOthers
restored_takes_the_others =
    simp (pairs_under_are_under, pairs_without_are_the_others, maps) refl

pub under_nothing : UnderNothing
under_nothing = pairs_under_are_under ℕ today (codes "abcd") ∙ simp maps refl
