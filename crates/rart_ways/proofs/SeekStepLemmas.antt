-- A step of the way down to a start, as its calls know it.
use Rattle.std.proofs.Common.{◌≡◌, ◌+◌, ◌<◌, ℕ, List, ◌∷◌, ◌++◌, Option, Some, None, suc, length, take, add-one, refl, arith, sym, ap, subst, ◌∙◌}
use Rattle.std.specs.Prelude.{◌-◌, ◌^◌}
use Rattle.rart_below.specs.Children.{child_at, children_from}
use Rattle.rart_node.specs.Counts.{Counts, CountsUpTo}
use Rattle.rart_node.specs.Shape.{Shape, height, prefix_of, children_of}
use Rattle.rart_ways.specs.Starts.{StartAt, AreTurns}
use Rattle.rart_ways.specs.declared.seeking.Edge.{Edge}
use Rattle.rart_ways.proofs.SeekStartLemmas.{IsSeekAt, from_low, passed, later-fits, later-brief, turn-passed, ends-missing, seek-child}
use Rattle.rart_node.specs.Trees.{path_bound}
use Rattle.rart_node.proofs.SearchLemmas.{IsSearchAt, search-counted, search-lower, search-child}
use Rattle.rart_node.specs.PairsBehind.{behind_path, pairs_of_all, AreShort}
use Rattle.rart_node.proofs.PartingLemmas.{GoesOn}

module _ {V : Type 0} (edge : Edge) (low : List ℕ) (root : Shape V) (start : Counts)
    (s : Shape V) (rest : List ℕ) (now : Counts) (path : List ℕ) (ahead : List (List ℕ × V))
    (seek : IsSeekAt edge low root start s rest now path ahead) (o : Shape V) (after : Counts)
    (opens : after ≡ record now { entered = now.entered + 1 }) (same : o ≡ s) where
  pub step-counted : CountsUpTo (path_bound root low) 0 start after
  step-counted = search-counted root low start s o rest now after seek.at opens same

  pub step-entered : start.entered < after.entered
  step-entered = let grows = seek.at.entered_grows in let work = ap (λ z. z.entered) opens in
      omega (arith, grows, work)

  module _ (byte : ℕ) (left : List ℕ) (goes : GoesOn (prefix_of o) rest byte left) where
    pub whole : rest ≡ prefix_of s ++ (byte ∷ goes.more)
    whole = goes.whole ∙ ap (λ z. prefix_of z ++ (byte ∷ goes.more)) same

    abbrev pub step_passed : List (List ℕ × V)
    step_passed = passed edge low root start s rest now path ahead seek byte goes.more whole

    pub step-lower : (child : Shape V) → Some child ≡ child_at byte (children_of o)
        → height child < height s
    step-lower child here =
        search-lower root low start s o rest now after seek.at opens same (prefix_of o) refl left
        goes.strips byte goes.next child here

    below : (found : Option (Shape V)) → found ≡ child_at byte (children_of o)
        → child_at byte (children_of s) ≡ found
    below found here = sym (here ∙ ap (λ z. child_at byte (children_of z)) same)

    pub step-missing : None ≡ child_at byte (children_of o)
        → (turn : Option (List ℕ × Shape V)) → StartAt step_passed turn
        → StartAt (from_low edge low root) turn
    step-missing missing turn at =
        ends-missing edge low root start s rest now path ahead seek byte goes.more whole turn at
        (below None missing)

    pub step-child : (child : Shape V) → Some child ≡ child_at byte (children_of o)
        → IsSeekAt edge low root start child left after (path ++ prefix_of s) step_passed
    step-child child here =
        subst (λ z. IsSeekAt edge low root start child z after (path ++ prefix_of s) step_passed)
        (sym goes.is)
        (seek-child edge low root start s rest now path ahead seek byte goes.more whole child
        after
        (subst (λ z. IsSearchAt root low start child z after) goes.is
        (search-child root low start s o rest now after seek.at opens same (prefix_of o) refl left
        goes.strips byte goes.next child here)) (below (Some child) here))

    module _ (later : List (ℕ × Shape V)) (is : later ≡ children_from (byte + 1) (children_of o))
      where
        later-is : later ≡ children_from (suc byte) (children_of s)
        later-is = is ∙ ap (λ z. children_from (byte + 1) (children_of z)) same
            ∙ ap (λ n. children_from n (children_of s)) (add-one byte)

        front-is : take (length low - length left) low
            ≡ take (length low - length (byte ∷ goes.more)) low
        front-is = ap (λ z. take (length low - length z) low) goes.is

        pub step-turns : AreTurns later
        step-turns =
            subst AreTurns (sym later-is)
            (later-fits edge low root start s rest now path ahead seek byte goes.more whole)

        pub step-brief : AreShort (Some (2 ^ 64 - 1))
            (behind_path (take (length low - length left) low) (pairs_of_all later))
        step-brief =
            subst (λ z. AreShort (Some (2 ^ 64 - 1))
            (behind_path (take (length low - length left) low) (pairs_of_all z))) (sym later-is)
            (subst (λ p. AreShort (Some (2 ^ 64 - 1)) (behind_path p (pairs_of_all
            (children_from (suc byte) (children_of s))))) (sym front-is)
            (later-brief edge low root start s rest now path ahead seek byte goes.more whole))

        pub step-turn : (turn : Option (List ℕ × Shape V))
            → StartAt (behind_path (take (length low - length left) low) (pairs_of_all later)
            ++ ahead) turn → StartAt step_passed turn
        step-turn turn at =
            turn-passed edge low root start s rest now path ahead seek byte goes.more whole turn
            (subst (λ p. StartAt (behind_path p (pairs_of_all
            (children_from (suc byte) (children_of s))) ++ ahead) turn) front-is
            (subst (λ z. StartAt (behind_path (take (length low - length left) low) (pairs_of_all z)
            ++ ahead) turn) later-is at))
