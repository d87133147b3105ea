-- The nodes that a walk enters on the way to its next value are on the way to the key.
use Rattle.std.proofs.Common.{◌≡◌, ⊎_elim, ℕ, true, List, [], ◌∷◌, ◌++◌, Option, refl, ap, sym, subst, ◌∙◌, append_assoc, append-nil}
use Rattle.std.specs.Prelude.{All}
use Rattle.std.specs.List.{concat}
use Rattle.std.specs.Borrow.{Bor}
use Rattle.std.proofs.lemmas.List.Elements.{All-nil, All-push, All-weaker}
use Rattle.rart_below.specs.Bytes.{begins}
use Rattle.rart_walks.specs.Walks.{Cursor, ComesTo, GoesOnFirst, PassesTo}
use Rattle.rart_node.proofs.AlongLemmas.{begins-along}

pub begins-longer : (u more : List ℕ) → begins u (u ++ more) ≡ true
begins-longer u more =
    subst (λ v. begins v (u ++ more) ≡ true) (append-nil u) (begins-along u [] more)

module _ {V : Type 0} where
  -- Of the paths before, those after are left: each of the others begins the first key.
  pub record PassesFirst (pairs : List (List ℕ × V)) (before after : List (List ℕ)) : Type 0 where
    pub passed : List (List ℕ)
    pub is : before ≡ passed ++ after
    pub first : All (λ path. GoesOnFirst path pairs) passed

  pub passes-start : (pairs : List (List ℕ × V)) (paths : List (List ℕ))
      → PassesFirst pairs paths paths
  passes-start pairs paths =
      record { passed = []; is = refl; first = All-nil (λ path. GoesOnFirst path pairs) }

  -- a node more
  pub passes-next : (pairs : List (List ℕ × V)) (paths : List (List ℕ)) {before after : Cursor V}
      {value : Option (Bor V)} → PassesFirst pairs paths before.paths → before.pairs ≡ pairs
      → ComesTo before value after → PassesFirst pairs paths after.paths
  passes-next pairs paths {before} {after} so_far same comes =
      ⊎_elim
      (λ next. record {
        passed = so_far.passed ++ concat after.segments ∷ [];
        is = so_far.is ∙ ap (λ left. so_far.passed ++ left) next
            ∙ sym (append_assoc so_far.passed (concat after.segments ∷ []) after.paths);
        first = All-push (λ path. GoesOnFirst path pairs) so_far.passed (concat after.segments)
            so_far.first
            (subst (λ list. GoesOnFirst (concat after.segments) list) same comes.first);
      })
      (λ stays. record {
        passed = so_far.passed;
        is = so_far.is ∙ ap (λ left. so_far.passed ++ left) stays.0;
        first = so_far.first;
      })
      comes.place

  -- The first pair is given.
  pub passes-to : (pairs : List (List ℕ × V)) (before after : List (List ℕ)) (key : List ℕ)
      (value : V) (rest : List (List ℕ × V)) → pairs ≡ (key, value) ∷ rest
      → PassesFirst pairs before after → PassesTo key before after
  passes-to pairs before after key value rest is passes =
      record {
        passed = passes.passed;
        is = passes.is;
        begin = All-weaker (λ path. GoesOnFirst path pairs) (λ path. begins path key ≡ true)
            (λ path goes. subst (λ k. begins path k ≡ true) (first-key path goes)
            (begins-longer path goes.0)) passes.passed passes.first;
      }
    where
      head_key : List (List ℕ × V) → List ℕ
      head_key [] = []
      head_key (pair ∷ pairs) = pair.0

      first-key : (path : List ℕ) (goes : GoesOnFirst path pairs) → path ++ goes.0 ≡ key
      first-key path goes = ap head_key (sym goes.3 ∙ is)
