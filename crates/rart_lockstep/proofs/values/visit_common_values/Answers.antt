use Rattle.std.proofs.Common.{refl}
use Rattle.rart_maps.specs.Visits.{ByValuePair}
use Rattle.rart_lockstep.specs.CommonPairs.{common_pairs}
use Rattle.rart_lockstep.specs.Entries.{ByItsValues}
use Rattle.rart_lockstep.proofs.IntersectionLemmas.{visits-sure}
use Rattle.rart_lockstep.proofs.EndingLemmas.{visits-plain}
use Rattle.rart_lockstep.proofs.LeastCountLemmas.{least-sure}
use Rattle.rart_lockstep.proofs.CommonVisitLemmas.{visitable-as, visits-as}
use Rattle.rart_lockstep.proofs.values.visit_common_values.Goals as goal

pub visit_common-met-requires : goal.visit_common-met-requires
visit_common-met-requires g c κs =
    let s = c.args.left.now.shape in
    let t = c.args.right.now.shape in
    let may = visitable-as g.F.FnMut ByItsValues ByValuePair (λ entry. (entry.1, entry.2))
    (λ a x is. is)
    (common_pairs s t) _ refl c.args.f.now c.requires.visitable in
    ((refl, tt), (c.requires.left, (c.requires.right, (tt, (tt, may)))))

pub returns-clause-visits : goal.returns-clause-visits
returns-clause-visits g c =
    let s = c.args.left.now.shape in
    let t = c.args.right.now.shape in
    let met = c.visit_common-met in
    visits-sure g.F.FnMut ByValuePair c.args.f.now met.new.f _ met.result met.ensures.refused
    (visits-as g.F.FnMut ByItsValues ByValuePair (λ entry. (entry.1, entry.2)) (λ a x is. is)
    (common_pairs s t) _ refl met.result c.args.f.now met.new.f
    (visits-plain g.F.FnMut ByItsValues met.result c.args.f.now met.new.f (common_pairs s t)
    met.ensures.visits))

pub returns-clause-least : goal.returns-clause-least
returns-clause-least g c =
    let met = c.visit_common-met in
    least-sure _ met.result met.ensures.refused met.ensures.least
