-- How the tests of the part that a string picks go along two strings, and what they say of the
-- string itself.
use Rattle.std.proofs.Common.{◌≡◌, ◌⊎◌, inl, inr, ℕ, true, false, List, [], ◌∷◌, refl}
use Rattle.std.specs.Ordering.{is_le, is_lt}
use Rattle.rart_node.proofs.AlongLemmas.{GoesAlong, begins-goes, order-goes}
use Rattle.rart_walks.specs.declared.walk.path.Part.{Part}
use Rattle.rart_walks.specs.declared.walk.path.Part.TheVariants.{Under, From, Behind}
use Rattle.rart_walks.specs.Parts.{keeps, reaches, goes_on, is_strict}

pub keeps-goes : (part : Part) → GoesAlong (keeps part) (goes_on part)
keeps-goes Under = begins-goes
keeps-goes From = order-goes is_le refl refl
keeps-goes Behind = order-goes is_lt refl refl

pub reaches-goes : (part : Part) → GoesAlong (reaches part) (goes_on part)
reaches-goes Under = begins-goes
reaches-goes From = order-goes is_lt refl refl
reaches-goes Behind = order-goes is_lt refl refl

-- the string itself
pub keeps-itself : (part : Part) → is_strict part ≡ false → (w : List ℕ) → keeps part [] w ≡ true
keeps-itself Under weak w = refl
keeps-itself From weak [] = refl
keeps-itself From weak (b ∷ w) = refl
keeps-itself Behind weak w = cc

pub strict-itself : (part : Part) → is_strict part ≡ true → keeps part [] [] ≡ false
strict-itself Under strict = cc
strict-itself From strict = cc
strict-itself Behind strict = refl

pub reaches-itself : (part : Part) →
    ((w : List ℕ) → reaches part [] w ≡ true) ⊎ (reaches part [] [] ≡ false)
reaches-itself Under = inl (λ w. refl)
reaches-itself From = inr refl
reaches-itself Behind = inr refl
