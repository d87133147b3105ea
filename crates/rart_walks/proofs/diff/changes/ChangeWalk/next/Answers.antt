use Rattle.std.proofs.Common.{⊎_elim, inl, inr, arith, refl, sym, ◌∙◌}
use Rattle.rart_walks.specs.SideFields.{pairs_to_give}
use Rattle.rart_walks.proofs.CountedLemmas.{counted-start, counted-next}
use Rattle.rart_walks.proofs.DiffLemmas.{changes-agree, changes-differ, no-changes}
use Rattle.rart_walks.proofs.DiffPassLemmas.{gone-still, gone-next, gone-through, come-next, come-through, some-copied}
use Rattle.rart_walks.proofs.diff.changes.ChangeWalk.next.Goals as goal

pub returns-then-do_differ-clause-gives : goal.returns-then-do_differ-clause-gives
returns-then-do_differ-clause-gives g c =
    let takes = rw c.in-Some.is at c.in_ok-before.ensures.takes in
    c.merging.invariant.changes ∙ changes-differ g.V.PartialEq.eq takes.0 takes.1
    (sym c.do_differ.ensures ∙ c.if-do_differ.true)

pub merging-preserved : goal.merging-preserved
merging-preserved g c =
    let takes = rw c.in-Some.is at c.in_ok-before.ensures.takes in
    let before = c.merging.invariant in
    let next = c.in_ok-before.ensures in
    record {
      walk = next.walk;
      changes = before.changes ∙ changes-agree g.V.PartialEq.eq takes.0 takes.1
          (sym c.do_differ.ensures ∙ c.if-do_differ.false);
      counted = counted-next _ before.counted next.exact next.counted;
      gone = gone-through before.gone
          (gone-next _ _ takes.0 takes.1 before.walk next.before next.after);
      each = let so_far = before.each in
          let more = rw c.in-Some.is at c.in_ok-before.ensures.each in
          omega (arith, so_far, more);
    }

pub returns-clause-gives : goal.returns-clause-gives
returns-clause-gives g c =
    let walk = c.merging.self in
    let none = rw c.in_default.is at c.in_ok-before.ensures.takes in (
      c.merging.invariant.changes ∙ no-changes g.V.PartialEq.eq
          (pairs_to_give walk.before) (pairs_to_give walk.after) none.0 none.1,
      none.2,
    )

pub merging-init : goal.merging-init
merging-init g c =
    record {
      walk = c.requires;
      changes = refl;
      counted = counted-start c.args.work.now refl;
      gone = gone-still _;
      each = omega arith;
    }

pub returns-then-do_differ-clause-come : goal.returns-then-do_differ-clause-come
returns-then-do_differ-clause-come g c =
    let takes = rw c.in-Some.is at c.in_ok-before.ensures.takes in
    let before = c.merging.invariant in
    let next = c.in_ok-before.ensures in (
      gone-through before.gone
          (gone-next _ _ takes.0 takes.1 before.walk next.before next.after),
      come-through before.walk before.gone
          (come-next _ _ takes.0 takes.1 before.walk next.before next.after
          (⊎_elim (λ here. inl (some-copied c.in-Some.before here))
          (λ here. inr (some-copied c.in-Some.after here)) takes.2)),
    )

pub returns-then-do_differ-clause-each : goal.returns-then-do_differ-clause-each
returns-then-do_differ-clause-each g c =
    let so_far = c.merging.invariant.each in
    let more = rw c.in-Some.is at c.in_ok-before.ensures.each in
    omega (arith, so_far, more)

pub returns-clause-each : goal.returns-clause-each
returns-clause-each g c =
    let so_far = c.merging.invariant.each in
    let more = rw c.in_default.is at c.in_ok-before.ensures.each in
    omega (arith, so_far, more)
