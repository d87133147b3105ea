-- What a closure's answers make of a version, and what it is asked.
use Rattle.std.proofs.Common.{◌≡◌, ◌+◌, ℕ, Bool, true, false, cond, not, List, [], ◌∷◌, ◌++◌, map, refl, sym, ap, ◌∙◌}
use Rattle.std.specs.Fn.{Mut}
use Rattle.std.specs.List.{count_by}
use Rattle.std.specs.Prelude.{filter}
use Rattle.std.proofs.lemmas.List.Sums.{sum_by-cons}
use Rattle.rart_maps.specs.Pairs.{pairs}
use Rattle.rart_versioned.specs.Replies.{Replies}
use Rattle.rart_versioned.specs.RetainLaws.{AnswersBy, AsksInOrder, PairsAreFiltered, WorkedReplies}
use Rattle.rart_versioned.specs.Retained.{count_dropped, kept_pairs}
use Rattle.rart_versioned.proofs.ReplyLemmas.{replies-asked}

module _ {V : Type 0} (keeps : List ℕ × V → Bool) where
  abbrev answered : List (List ℕ × V) → List ((List ℕ × V) × Bool)
  answered all = map (λ pair. (pair, keeps pair)) all

  kept-answered : (all : List (List ℕ × V)) → kept_pairs (answered all) ≡ filter keeps all
  kept-answered [] = refl
  kept-answered (pair ∷ all) =
      elim (keeps pair) as (λ t. map (λ reply. reply.0) (cond t
      ((pair, keeps pair) ∷ filter (λ reply. reply.1) (answered all))
      (filter (λ reply. reply.1) (answered all)))
      ≡ cond t (pair ∷ filter keeps all) (filter keeps all)) [
        | true ↦ ap (λ list. pair ∷ list) (kept-answered all)
        | false ↦ kept-answered all
      ]

  dropped-answered : (all : List (List ℕ × V))
      → count_dropped (answered all) ≡ count_by (λ pair. not (keeps pair)) all
  dropped-answered [] = refl
  dropped-answered (pair ∷ all) =
      sum_by-cons (λ reply. cond (not reply.1) 1 0) (pair, keeps pair) (answered all)
      ∙ ap (λ n. cond (not (keeps pair)) 1 0 + n) (dropped-answered all)
      ∙ sym (sum_by-cons (λ p. cond (not (keeps p)) 1 0) pair all)

module _ {F A V : Type 0} (g : Mut F A Bool) (Shows : A → List ℕ × V → Type 0) where
  replies-by : (keeps : List ℕ × V → Bool) → AnswersBy g Shows keeps
      → (replies : List ((List ℕ × V) × Bool)) (f f' : F) → Replies g Shows f replies f'
      → replies ≡ answered keeps (map (λ reply. reply.0) replies)
  replies-by keeps by [] f f' calls = refl
  replies-by keeps by (reply ∷ replies) f f' calls =
      λ i. (reply.0, by f reply.0 reply.1 calls.0 calls.1 i)
      ∷ replies-by keeps by replies calls.0 f' calls.2 i

  pub pairs_are_filtered : PairsAreFiltered g Shows
  pairs_are_filtered keeps by before after f f' retains =
      let is = replies-by keeps by retains.replies f f' retains.calls
      ∙ ap (answered keeps) retains.asked in (
        retains.kept ∙ ap kept_pairs is ∙ kept-answered keeps (pairs before.content),
        retains.number ∙ ap (λ n. before.number + n)
            (ap count_dropped is ∙ dropped-answered keeps (pairs before.content)),
      )

  pub asks_in_order : AsksInOrder g Shows
  asks_in_order asked keeps f f' before after retains =
      replies-asked g Shows asked keeps retains.replies f f' retains.calls
      ∙ ap (λ list. asked f ++ list) retains.asked

pub worked_replies : WorkedReplies
worked_replies = (refl, refl)
