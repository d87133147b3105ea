-- The node that a walk stands at below its frames, and what is taken of the frames above it.
use Rattle.std.proofs.Common.{ℕ, List, [], ◌∷◌, ◌++◌, Option, Some, None, refl, ap, ◌∙◌}
use Rattle.std.proofs.lemmas.List.{append_assoc}
use Rattle.rart_node.specs.Shape.{Shape}
use Rattle.rart_walks.specs.Frames.{OpenNode, AreSpent, TakesAhead, with_rest}

module _ {V : Type 0} where
  pub spent-append : (frames more : List (OpenNode V)) → AreSpent frames → AreSpent more
      → AreSpent (frames ++ more)
  spent-append [] more spent also = also
  spent-append (frame ∷ frames) more spent also =
      (spent.0, spent-append frames more spent.1 also)

  -- nodes with nothing left may stand below
  pub takes-above : (frames below : List (OpenNode V)) (o : Option (Shape V))
      (after : List (OpenNode V)) → AreSpent below → TakesAhead frames o after
      → TakesAhead (frames ++ below) o after
  takes-above frames below None after spent takes =
      (spent-append frames below takes.0 spent, takes.1)
  takes-above frames below (Some child) after spent takes = (
    takes.0,
    takes.1 ++ below,
    takes.2,
    takes.3,
    takes.4,
    spent-append takes.1 below takes.5 spent,
    ap (λ nodes. nodes ++ below) takes.6
        ∙ append_assoc takes.0 ((takes.2, (takes.3, child) ∷ takes.4) ∷ takes.1) below,
    takes.7,
  )

  pub takes-above-rest : (frames : List (OpenNode V)) (rest : List (List ℕ))
      (o : Option (Shape V)) (after : List (OpenNode V)) → TakesAhead frames o after
      → TakesAhead (with_rest frames rest) o after
  takes-above-rest frames [] o after takes = takes
  takes-above-rest frames (segment ∷ rest) o after takes =
      takes-above frames ((segment ∷ rest, []) ∷ []) o after (refl, tt) takes
