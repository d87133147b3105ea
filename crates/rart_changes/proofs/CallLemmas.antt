-- What is kept from call to call, by the members that a closure was called on so far.
use Rattle.std.proofs.Common.{◌≡◌, List, [], ◌∷◌, ◌++◌, sym, subst, ◌∙◌, append_assoc, append-nil}
use Rattle.std.specs.Fn.{Mut}
use Rattle.rart_maps.specs.Visits.{CalledOn, Answers, AnswersUpTo}

module _ {F A R X : Type 0} (g : Mut F A R) (Shows : A → X → Type 0) (answer : R) (members : List X)
    (Holds : List X → F → Type 0)
    (step : (front : List X) (x : X) (rest : List X) (f f' : F) → members ≡ front ++ x ∷ rest
    → Holds front f → CalledOn g Shows f x answer f' → Holds (front ++ x ∷ []) f') where
  holds-behind : (next front rest : List X) (f f' : F) → members ≡ front ++ (next ++ rest)
      → Holds front f → Answers g Shows answer f next f' → Holds (front ++ next) f'
  holds-behind [] front rest f f' all holds calls =
      subst (λ xs. Holds xs f') (sym (append-nil front)) (subst (Holds front) calls holds)
  holds-behind (x ∷ xs) front rest f f' all holds calls =
      subst (λ ys. Holds ys f') (append_assoc front (x ∷ []) xs)
      (holds-behind xs (front ++ x ∷ []) rest calls.0 f'
      (all ∙ sym (append_assoc front (x ∷ []) (xs ++ rest)))
      (step front x (xs ++ rest) f calls.0 all holds calls.1) calls.2)

  -- It holds of a prefix once there was a call on each member of it,
  pub holds-up_to : (rest : List X) (f f' : F) → Holds [] f
      → (calls : AnswersUpTo g Shows answer f members rest f') → Holds calls.0 f'
  holds-up_to rest f f' holds calls =
      holds-behind calls.0 [] rest f f' calls.1 holds calls.2

  -- and of all at the end.
  pub holds-of_all : (f f' : F) → Holds [] f → Answers g Shows answer f members f'
      → Holds members f'
  holds-of_all f f' holds calls =
      holds-behind members [] [] f f' (sym (append-nil members)) holds calls
