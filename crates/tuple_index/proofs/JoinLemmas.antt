-- A closure that collects what it is called on, each member by a function.
use Rattle.std.proofs.Common.{◌≡◌, List, [], ◌∷◌, ◌++◌, map, sym, ap, subst, ◌∙◌, append_assoc, append-nil}
use Rattle.std.specs.Fn.{Mut}
use Rattle.rart_maps.specs.Visits.{Answers, CalledOn}

module _ {F A R X Y : Type 0} (g : Mut F A R) (Shows : A → X → Type 0) (answer : R)
    (shown : X → Y) (Goes : F → Type 0) (seen : F → List Y) where
  -- Where it has not given up at the end, it has collected all.
  pub answers-mapped : ((f : F) (x : X) (j : F) → CalledOn g Shows f x answer j → Goes j →
      Goes f × (seen j ≡ seen f ++ shown x ∷ [])) →
      (members : List X) (f last : F) → Answers g Shows answer f members last → Goes last →
      Goes f × (seen last ≡ seen f ++ map shown members)
  answers-mapped each [] f last calls goes =
      (subst Goes (sym calls) goes, ap seen (sym calls) ∙ sym (append-nil (seen f)))
  answers-mapped each (x ∷ xs) f last calls goes =
      let later = answers-mapped each xs calls.0 last calls.2 goes in
      let here = each f x calls.0 calls.1 later.0 in (
        here.0,
        later.1 ∙ ap (λ ys. ys ++ map shown xs) here.1
            ∙ append_assoc (seen f) (shown x ∷ []) (map shown xs),
      )
