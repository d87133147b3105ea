-- What a diff has entered where it ends on a change.
use Rattle.std.proofs.Common.{◌≡◌, ◌+◌, ◌≤◌, ℕ, Bool, cond, List, [], ◌∷◌, ◌++◌, Option, Some, None, length, sym, ap, subst, ◌∙◌, arith}
use Rattle.std.specs.Prelude.{Ok, Result}
use Rattle.std.specs.Borrow.{Bor}
use Rattle.std.specs.Fn.{Mut}
use Rattle.std.specs.Option.{is_some, option_copied}
use Rattle.std.proofs.lemmas.List.{length-append}
use Rattle.rart_below.specs.declared.visit.VisitControl.{VisitControl}
use Rattle.rart_below.specs.declared.visit.VisitControl.TheVariants.{Continue}
use Rattle.rart_maps.specs.ChangeLists.{Change}
use Rattle.rart_maps.specs.Visits.{AnswersUpTo, CalledOn}
use Rattle.rart_node.specs.Counts.{Counts}
use Rattle.rart_walks.specs.WalkFields.{cursor}
use Rattle.rart_walks.specs.declared.walk.Walk.{Walk}
use Rattle.rart_walks.specs.ChangeFields.{ComesTo, ComesToChange, GivesChange, changes_left, key_given, nodes_to_enter, hands}
use Rattle.rart_walks.specs.DiffEnds.{EntersTo, EntersToFirst, pairs_from, is_up_to_first}
use Rattle.rart_walks.specs.Ends.{EndsWithin}
use Rattle.rart_walks.specs.Passes.{GoesTo}
use Rattle.rart_walks.specs.SideFields.{HasLeft, paths_left}
use Rattle.rart_walks.specs.TwoWalks.{nodes_ahead}
use Rattle.rart_walks.specs.declared.diff.changes.ChangeWalk.{ChangeWalk}
use Rattle.rart_node.proofs.CountingLemmas.{counts-none_made}
use Rattle.rart_walks.proofs.CountedLemmas.{IsCounted}
use Rattle.rart_walks.proofs.DiffPassLemmas.{up_to_first-passes}

module _ {P V : Type 0} {partial : _} (same : V → V → Bool) (old new : Walk P V (List ℕ) partial)
    (made : ChangeWalk P V partial) (before : HasLeft old made.before)
    (after : HasLeft new made.after) where
  pub enters-to : (next : ChangeWalk P V partial) (start now : Counts) (front : List (Change V))
      (last : Change V) → IsCounted (nodes_ahead old new) start (nodes_to_enter next) now
      → ComesTo last.0 made next
      → start.entered + (length front + 1) + hands next ≤ now.entered + hands made
      → EntersTo old new start now front last
  enters-to next start now front last counted come each =
      let key = last.0 in
      let one = subst (λ paths. GoesTo (pairs_from key (cursor old).pairs) paths
      (paths_left next.before)) before.paths
      (subst (λ pairs. GoesTo (pairs_from key pairs) (paths_left made.before)
      (paths_left next.before)) before.pairs come.before) in
      let other = subst (λ paths. GoesTo (pairs_from key (cursor new).pairs) paths
      (paths_left next.after)) after.paths
      (subst (λ pairs. GoesTo (pairs_from key pairs) (paths_left made.after)
      (paths_left next.after)) after.pairs come.after) in
      let few = one.passing (is_up_to_first (pairs_from key (cursor old).pairs))
      (up_to_first-passes (pairs_from key (cursor old).pairs)) in
      let also = other.passing (is_up_to_first (pairs_from key (cursor new).pairs))
      (up_to_first-passes (pairs_from key (cursor new).pairs)) in
      let nodes = counted.same in
      let held = before.hand in
      let also_held = after.hand in
      record {
        at_most = counts-none_made counted.grows (omega (arith, nodes, few, also)) counted.made;
        at_least = omega (arith, each, held, also_held);
      }

  -- The first change was looked for.
  pub first-ends : (next : ChangeWalk P V partial) (start now : Counts)
      (given : Option (Option (Bor V) × Option (Bor V))) → GivesChange same made next given
      → ComesToChange made next given
      → start.entered + cond (is_some given) 1 0 + hands next ≤ now.entered + hands made
      → IsCounted (nodes_ahead old new) start (nodes_to_enter next) now
      → EntersToFirst old new start now (changes_left same made)
  first-ends next start now None gives come each counted =
      let nodes = counted.same in
      let over = gives.1 in
      let through : now.entered ≡ start.entered + nodes_ahead old new =
      omega (arith, nodes, over) in
      subst (EntersToFirst old new start now) (sym gives.0) through
  first-ends next start now (Some values) gives come each counted =
      subst (EntersToFirst old new start now) (sym gives)
      (enters-to next start now [] (key_given next, option_copied values.0, option_copied values.1)
      counted come.1 (omega (arith, each)))

  -- The closure was called on a change, and ended the diff with this answer.
  module _ {F A E : Type 0} (g : Mut F A (Result VisitControl E)) (Shows : A → Change V → Type 0)
    where
      pub ends-on : {f state f' : F} (members left rest : List (Change V)) (change : Change V)
          (answer : Result VisitControl E) (next : ChangeWalk P V partial) (start now : Counts)
          → (calls : AnswersUpTo g Shows (Ok Continue) f members left state)
          → left ≡ change ∷ rest → CalledOn g Shows state change answer f'
          → IsCounted (nodes_ahead old new) start (nodes_to_enter next) now
          → ComesTo change.0 made next
          → start.entered + length members + hands next ≤ now.entered + length rest + hands made
          → EndsWithin g Shows (EntersTo old new start now) f members answer f'
      ends-on {f} {state} members left rest change answer next start now calls is called counted
          come each =
          let whole = calls.1 ∙ ap (λ more. calls.0 ++ more) is in
          let long = ap length whole ∙ length-append calls.0 (change ∷ rest) in (
            calls.0,
            change,
            record { rest = rest; is = whole; state = state; calls = calls.2; call = called },
            enters-to next start now calls.0 change counted come (omega (arith, each, long)),
          )
