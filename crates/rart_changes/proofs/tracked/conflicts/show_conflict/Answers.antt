use Rattle.std.proofs.Common.{rules, [], refl, sym, subst}
use Rattle.rart_maps.specs.Visits.{CallableInTurn, Visit}
use Rattle.rart_maps.proofs.VisitLemmas.{callable-next, up_to-start}
use Rattle.rart_changes.specs.ConflictVisits.{ByConflict}
use Rattle.rart_changes.proofs.ConflictLemmas.{conflict-there}
use Rattle.rart_changes.proofs.tracked.conflicts.show_conflict.Goals as goal

pub f-requires : goal.f-requires
f-requires g c =
    let Shows = ByConflict {V = g.row.V.Denot} g.K.KeyTrait.bytes in
    let there = conflict-there g.V.PartialEq.eq c.args.base.now.content c.args.ours.now.content
    c.args.theirs.now.content (g.K.KeyTrait.bytes c.args.key) _ _ _
    (sym c.get_k_counted-before.ensures.value) (sym c.get_k_counted-our.ensures.value)
    (sym c.get_k_counted-their.ensures.value) (sym c.if-are_in_conflict.ensures) in
    let callable = subst (CallableInTurn g.F.FnMut Shows tt c.args.f.now) there c.requires in
    let start = up_to-start g.F.FnMut Shows tt c.args.f.now _ in
    let here = callable-next g.F.FnMut Shows tt _ [] refl callable start in
    let takes = here (
      c.args.key,
      (
        c.get_k_counted-before.result,
        (c.get_k_counted-our.result, (c.get_k_counted-their.result, tt)),
      ),
    ) (refl, refl, refl, refl) in
    search (rules, takes)

pub returns-then-are_in_conflict-clause-visits : goal.returns-then-are_in_conflict-clause-visits
returns-then-are_in_conflict-clause-visits g c =
    let Shows = ByConflict {V = g.row.V.Denot} g.K.KeyTrait.bytes in
    let there = conflict-there g.V.PartialEq.eq c.args.base.now.content c.args.ours.now.content
    c.args.theirs.now.content (g.K.KeyTrait.bytes c.args.key) _ _ _
    (sym c.get_k_counted-before.ensures.value) (sym c.get_k_counted-our.ensures.value)
    (sym c.get_k_counted-their.ensures.value) (sym c.if-are_in_conflict.ensures) in
    subst (λ cs. Visit g.F.FnMut Shows c.args.f.now cs c.f.new.self) (sym there)
    (_, (_, c.f.ensures, (refl, refl, refl, refl)), refl)
