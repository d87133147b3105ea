use Rattle.std.proofs.Common.{rules, [], refl}
use Rattle.rart_maps.specs.Visits.{BySlice}
use Rattle.rart_maps.proofs.VisitLemmas.{callable-next, up_to-start}
use Rattle.rart_ways.proofs.search.prefix_matches.visit_own.Goals as goal

pub f-requires : goal.f-requires
f-requires g c =
    let callable = rw c.in-Some.is at c.requires in
    let start = up_to-start g.F.FnMut BySlice tt c.args.f.now _ in
    let here = callable-next g.F.FnMut BySlice tt _ [] refl callable start in
    search (rules, here)

pub returns-in-Some : goal.returns-in-Some
returns-in-Some g c = rw c.in-Some.is (_, (_, c.f.ensures, (refl, refl)), refl)
