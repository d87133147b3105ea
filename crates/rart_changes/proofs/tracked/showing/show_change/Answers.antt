use Rattle.std.proofs.Common.{rules, [], refl, sym, subst}
use Rattle.rart_maps.specs.Visits.{CallableInTurn, Visit}
use Rattle.rart_maps.proofs.VisitLemmas.{callable-next, up_to-start}
use Rattle.rart_maps.specs.ChangeVisits.{ByKeyChange}
use Rattle.rart_changes.proofs.ShowLemmas.{change-there}
use Rattle.rart_changes.proofs.tracked.showing.show_change.Goals as goal

pub f-requires : goal.f-requires
f-requires g c =
    let Shows = ByKeyChange {V = g.row.V.Denot} g.K.KeyTrait.bytes in
    let there = change-there g.V.PartialEq.eq c.args.old.now.content c.args.new.now.content
    (g.K.KeyTrait.bytes c.args.key) _ _ (sym c.get_k_counted-before.ensures.value)
    (sym c.get_k_counted-after.ensures.value) (sym c.if-do_differ.ensures) in
    let callable = subst (CallableInTurn g.F.FnMut Shows tt c.args.f.now) there c.requires in
    let start = up_to-start g.F.FnMut Shows tt c.args.f.now _ in
    let here = callable-next g.F.FnMut Shows tt _ [] refl callable start in
    let takes = here (
      c.args.key,
      (
        c.get_k_counted-before.result,
        (c.get_k_counted-after.result, tt),
      ),
    ) (refl, (refl, refl)) in
    search (rules, takes)

pub returns-then-do_differ-clause-visits : goal.returns-then-do_differ-clause-visits
returns-then-do_differ-clause-visits g c =
    let Shows = ByKeyChange {V = g.row.V.Denot} g.K.KeyTrait.bytes in
    let there = change-there g.V.PartialEq.eq c.args.old.now.content c.args.new.now.content
    (g.K.KeyTrait.bytes c.args.key) _ _ (sym c.get_k_counted-before.ensures.value)
    (sym c.get_k_counted-after.ensures.value) (sym c.if-do_differ.ensures) in
    subst (λ cs. Visit g.F.FnMut Shows c.args.f.now cs c.f.new.self) (sym there)
    (_, (_, c.f.ensures, (refl, (refl, refl))), refl)
