use Rattle.std.proofs.Common.{rules, [], length, refl, sym, subst, ◌∙◌}
use Rattle.rart_below.specs.Bytes.{IsAdmitted}
use Rattle.rart_maps.specs.ChangeVisits.{ByKeyChange}
use Rattle.rart_maps.proofs.VisitLemmas.{callable-next, up_to-next}
use Rattle.rart_walks.specs.WalkFields.{cursor}
use Rattle.rart_walks.proofs.CountedLemmas.{counted-next, counted-start}
use Rattle.rart_walks.proofs.DiffLemmas.{next-admitted}
use Rattle.rart_walks.proofs.diff.keys.visit_changed_keys.Goals as goal

pub visiting-init : goal.visiting-init
visiting-init g c =
    let made = c.new-changes.ensures in
    record {
      walk = made.walk;
      calls = ([], sym made.changes, refl);
      counted = counted-start c.args.work.now made.nodes;
    }

pub new_from_slice-requires : goal.new_from_slice-requires
new_from_slice-requires g c =
    let most = g.K.KeyTrait.MAXIMUM_SIZE in
    let gives = rw c.in-Some.is at c.in_ok-before.ensures.gives in
    let calls = c.visiting.invariant.calls in
    subst (λ k. IsAdmitted most (length k)) (sym c.key.ensures)
    (next-admitted g.V.PartialEq.eq most (cursor c.args.old).pairs
    (cursor c.args.new).pairs c.requires.old_admitted c.requires.new_admitted
    calls.0 _ _ _ calls.1 gives)

pub f-requires : goal.f-requires
f-requires g c =
    let shows = ByKeyChange g.K.KeyTrait.bytes in
    let gives = rw c.in-Some.is at c.in_ok-before.ensures.gives in
    let calls = c.visiting.invariant.calls in
    let here = callable-next g.F.FnMut shows tt _ _ gives c.requires.visitable calls in
    let key = c.in_ok-key.ensures ∙ c.key.ensures in
    let takes = here (c.in_ok-key.key, (c.in-Some.before, (c.in-Some.after, tt)))
    (key, (refl, refl)) in
    search (rules, takes)

pub visiting-preserved : goal.visiting-preserved
visiting-preserved g c =
    let shows = ByKeyChange g.K.KeyTrait.bytes in
    let gives = rw c.in-Some.is at c.in_ok-before.ensures.gives in
    let before = c.visiting.invariant in
    let next = c.in_ok-before.ensures in
    let key = c.in_ok-key.ensures ∙ c.key.ensures in
    record {
      walk = next.walk;
      calls = up_to-next g.F.FnMut shows tt _ _ gives before.calls
          (_, c.f.ensures, (key, (refl, refl)));
      counted = counted-next _ before.counted next.exact next.counted;
    }
