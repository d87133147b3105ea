use Rattle.rart_lockstep.proofs.IntersectionLemmas.{may-start, met-end, counted-roots}
use Rattle.rart_lockstep.proofs.LeastCountLemmas.{least-roots}
use Rattle.rart_lockstep.proofs.visit.visit_common.Goals as goal

pub intersect_below-requires-clause-meets : goal.intersect_below-requires-clause-meets
intersect_below-requires-clause-meets g c =
    let s = c.args.left.now.shape in
    let t = c.args.right.now.shape in
    let opened = c.open-at.ensures in
    may-start g.T.IntersectionPath.calls g.T.IntersectionPath.Shows g.T.IntersectionPath.goes
    g.T.KeyPath.holds s t _ _
    opened.left
    opened.right g.T.KeyPath.greatest _ c.args.f.now c.requires.empty c.requires.admitted
    c.requires.visitable

pub returns-clause-visits : goal.returns-clause-visits
returns-clause-visits g c =
    let s = c.args.left.now.shape in
    let t = c.args.right.now.shape in
    let opened = c.open-at.ensures in
    met-end g.T.IntersectionPath.calls g.T.IntersectionPath.Shows g.T.IntersectionPath.goes
    g.T.KeyPath.holds s t _ _ opened.left opened.right g.T.IntersectionPath.told _ _ c.args.f.now c.intersect_below.new.f c.intersect_below.result c.requires.empty
    c.intersect_below.ensures.met

pub returns-clause-counted : goal.returns-clause-counted
returns-clause-counted g c =
    let s = c.args.left.now.shape in
    let t = c.args.right.now.shape in
    let opened = c.open-at.ensures in
    counted-roots s t _ _ opened.left opened.right c.args.work.now _ _ opened.work
    c.intersect_below.ensures.enters

pub returns-clause-least : goal.returns-clause-least
returns-clause-least g c =
    let s = c.args.left.now.shape in
    let t = c.args.right.now.shape in
    let opened = c.open-at.ensures in
    least-roots s t _ _ opened.left opened.right c.args.work.now _ c.intersect_below.new.work _
    opened.work c.intersect_below.ensures.least
