use Rattle.std.proofs.Common.{refl}
use Rattle.std.specs.List.{concat}
use Rattle.rart_lockstep.specs.TreeCursorFields.{cursor_shape}
use Rattle.rart_lockstep.proofs.IntersectionLemmas.{here-callable, here-visits}
use Rattle.rart_lockstep.proofs.visit.TreeCursorsOnCommonKey.meet.Goals as goal

pub meet-requires : goal.meet-requires
meet-requires g c κs =
    let s = cursor_shape c.args.self.now.left in
    let t = cursor_shape c.args.self.now.right in
    let may = c.requires.visitable in
    let here = here-callable g.T.IntersectionPath.calls g.T.IntersectionPath.Shows
    g.T.IntersectionPath.goes g.T.IntersectionPath.told (concat may.0) s t _ _ c.in-Some.ensures
    c.args.f.now may.3 in
    ((refl, tt), (may.0, may.1, may.2, here))

pub returns-in-Some-clause-visits : goal.returns-in-Some-clause-visits
returns-in-Some-clause-visits g c =
    λ segments holds.
    let s = cursor_shape c.args.self.now.left in
    let t = cursor_shape c.args.self.now.right in
    here-visits g.T.IntersectionPath.calls g.T.IntersectionPath.Shows g.T.IntersectionPath.goes
    g.T.IntersectionPath.told (concat segments) s t _ _ c.in-Some.ensures c.meet.result
    c.args.f.now c.meet.new.f (c.meet.ensures.visits segments holds)
