use Rattle.std.proofs.Common.{List, ℕ, subst, ◌∙◌}
use Rattle.std.specs.Option.{option_copied}
use Rattle.rart_changes.specs.Rebasing.{IsTrackedSetTo}
use Rattle.rart_changes.proofs.RebaseLemmas.{set-by-insertion, set-by-deletion}
use Rattle.rart_changes.proofs.tracked.TrackedTree.set_to.Goals as goal
use Rattle.rart_changes.proofs.tracked.TrackedTree.set_to.Goals.{in-Some+in_ok-clone-in-Some+in_ok-insert-in-Some, in-None+in_ok-delete-in-None}

pub returns : goal.returns
returns g c =
    let before = c.args.self.now in
    let after = c.match-value.self in
    let is_set = λ (key : List ℕ). IsTrackedSetTo before key (option_copied c.args.value) after in
    elim c.match-value.branch [
      | in-Some+in_ok-clone-in-Some+in_ok-insert-in-Some w ↦ subst is_set w.as_ref.ensures
          (rw w.in-Some.is (set-by-insertion before after w.as_ref.result.now _ _
          (w.self-is ∙ w.in_ok-insert-in-Some.ensures.set)
          (c.requires.clones _ _ w.in_ok-clone-in-Some.ensures.cases)))
      | in-None+in_ok-delete-in-None w ↦ subst is_set w.as_ref-in-None.ensures
          (rw w.in-None.is (set-by-deletion before after w.as_ref-in-None.result.now
          (w.self-is ∙ w.in_ok-delete-in-None.ensures.removed)))
    ]
