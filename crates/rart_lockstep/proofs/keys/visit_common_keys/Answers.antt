use Rattle.std.proofs.Common.{None}
use Rattle.rart_maps.specs.Visits.{ByKeyPair}
use Rattle.rart_node.specs.KeyPaths.{HoldsBytes}
use Rattle.rart_lockstep.specs.declared.keys.KeyMaker.{KeyMaker}
use Rattle.rart_lockstep.proofs.IntersectionLemmas.{may-start, met-end, counted-roots}
use Rattle.rart_lockstep.proofs.EndingLemmas.{visits-plain}
use Rattle.rart_lockstep.proofs.LeastCountLemmas.{least-roots}
use Rattle.rart_lockstep.proofs.keys.visit_common_keys.Goals as goal

pub intersect_below-requires-clause-meets : goal.intersect_below-requires-clause-meets
intersect_below-requires-clause-meets g c =
    let s = c.args.left.now.shape in
    let t = c.args.right.now.shape in
    let opened = c.open-at.ensures in
    may-start g.F.FnMut (ByKeyPair g.K.KeyTrait.bytes) tt
    (λ (maker : KeyMaker g.row.K.Denot g.row.V.Denot). HoldsBytes maker.key_path) s t _ _
    opened.left opened.right
    g.K.KeyTrait.MAXIMUM_SIZE _ c.args.f.now c.new-key_path.ensures c.requires.admitted
    c.requires.visitable

pub returns-clause-visits : goal.returns-clause-visits
returns-clause-visits g c =
    let s = c.args.left.now.shape in
    let t = c.args.right.now.shape in
    let opened = c.open-at.ensures in
    visits-plain g.F.FnMut (ByKeyPair g.K.KeyTrait.bytes) c.intersect_below.result c.args.f.now
    c.intersect_below.new.f _
    (met-end g.F.FnMut (ByKeyPair g.K.KeyTrait.bytes) tt
    (λ (maker : KeyMaker g.row.K.Denot g.row.V.Denot). HoldsBytes maker.key_path) s t _ _
    opened.left opened.right (λ _. None) _ _ c.args.f.now c.intersect_below.new.f
    c.intersect_below.result c.new-key_path.ensures c.intersect_below.ensures.met)

pub returns-clause-counted : goal.returns-clause-counted
returns-clause-counted g c =
    let s = c.args.left.now.shape in
    let t = c.args.right.now.shape in
    let opened = c.open-at.ensures in
    counted-roots s t _ _ opened.left opened.right c.args.work.now _ _ opened.work
    c.intersect_below.ensures.enters

pub returns-clause-least : goal.returns-clause-least
returns-clause-least g c =
    let s = c.args.left.now.shape in
    let t = c.args.right.now.shape in
    let opened = c.open-at.ensures in
    least-roots s t _ _ opened.left opened.right c.args.work.now _ c.intersect_below.new.work _
    opened.work c.intersect_below.ensures.least
