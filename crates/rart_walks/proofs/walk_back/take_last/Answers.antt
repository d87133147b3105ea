use Rattle.std.proofs.Common.{refl, ap, ◌∙◌, None}
use Rattle.std.specs.Option.{option_copied}
use Rattle.std.specs.Vec.{vec_len}
use Rattle.rart_walks.specs.BackFields.{open_back}
use Rattle.rart_walks.proofs.BackLemmas.{same-segments, took-child, took-own, took-nothing}
use Rattle.rart_walks.proofs.LastElementLemmas.{ends-with, map-push}
use Rattle.rart_walks.proofs.walk_back.take_last.Goals as goal

pub returns-in-Some-clause-segments : goal.returns-in-Some-clause-segments
returns-in-Some-clause-segments g c =
    let frame = c.in_ok-frame.frame.now in
    let last =
    ends-with c.args.frames.now.items (vec_len c.args.frames.now) frame c.args.frames.now.ok.0
    (c.in_ok-frame.ensures.variant.0 refl) c.in_ok-frame.ensures.value in
    let is = ap open_back last.is ∙ map-push _ last.front frame in
    same-segments _ _ _ _ _ _ _ is _
    (ap open_back (last.put
    (record { segment = frame.segment; own = frame.own; children = c.prev_child.new.self }))
    ∙ map-push _ last.front
    (record { segment = frame.segment; own = frame.own; children = c.prev_child.new.self }))

pub returns-in-Some-clause-takes : goal.returns-in-Some-clause-takes
returns-in-Some-clause-takes g c =
    let frame = c.in_ok-frame.frame.now in
    let last =
    ends-with c.args.frames.now.items (vec_len c.args.frames.now) frame c.args.frames.now.ok.0
    (c.in_ok-frame.ensures.variant.0 refl) c.in_ok-frame.ensures.value in
    let is = ap open_back last.is ∙ map-push _ last.front frame in
    took-child _ _ _ _ _ _ _ is
    (ap open_back (last.put
    (record { segment = frame.segment; own = frame.own; children = c.prev_child.new.self }))
    ∙ map-push _ last.front
    (record { segment = frame.segment; own = frame.own; children = c.prev_child.new.self }))
    c.in-Some.ensures

pub returns-in-Some-own-clause-segments : goal.returns-in-Some-own-clause-segments
returns-in-Some-own-clause-segments g c =
    let frame = c.in_ok-frame.frame.now in
    let last =
    ends-with c.args.frames.now.items (vec_len c.args.frames.now) frame c.args.frames.now.ok.0
    (c.in_ok-frame.ensures.variant.0 refl) c.in_ok-frame.ensures.value in
    let is = ap open_back last.is ∙ map-push _ last.front frame in
    same-segments _ _ _ _ _ _ _ is _
    (ap open_back (last.put
    (record { segment = frame.segment; own = None; children = c.prev_child.new.self }))
    ∙ map-push _ last.front
    (record { segment = frame.segment; own = None; children = c.prev_child.new.self }))

pub returns-in-Some-own-clause-takes : goal.returns-in-Some-own-clause-takes
returns-in-Some-own-clause-takes g c =
    let frame = c.in_ok-frame.frame.now in
    let last =
    ends-with c.args.frames.now.items (vec_len c.args.frames.now) frame c.args.frames.now.ok.0
    (c.in_ok-frame.ensures.variant.0 refl) c.in_ok-frame.ensures.value in
    let is = ap open_back last.is ∙ map-push _ last.front frame in
    took-own _ _ _ _ _ _ _ is c.in_default.ensures (ap option_copied c.in-Some-own.is)
    (ap open_back (last.put
    (record { segment = frame.segment; own = None; children = c.prev_child.new.self }))
    ∙ map-push _ last.front
    (record { segment = frame.segment; own = None; children = c.prev_child.new.self }))

pub returns-in-None-clause-segments : goal.returns-in-None-clause-segments
returns-in-None-clause-segments g c =
    let frame = c.in_ok-frame.frame.now in
    let last =
    ends-with c.args.frames.now.items (vec_len c.args.frames.now) frame c.args.frames.now.ok.0
    (c.in_ok-frame.ensures.variant.0 refl) c.in_ok-frame.ensures.value in
    let is = ap open_back last.is ∙ map-push _ last.front frame in
    same-segments _ _ _ _ _ _ _ is _
    (ap open_back (last.put
    (record { segment = frame.segment; own = frame.own; children = c.prev_child.new.self }))
    ∙ map-push _ last.front
    (record { segment = frame.segment; own = frame.own; children = c.prev_child.new.self }))

pub returns-in-None-clause-takes : goal.returns-in-None-clause-takes
returns-in-None-clause-takes g c =
    let frame = c.in_ok-frame.frame.now in
    let last =
    ends-with c.args.frames.now.items (vec_len c.args.frames.now) frame c.args.frames.now.ok.0
    (c.in_ok-frame.ensures.variant.0 refl) c.in_ok-frame.ensures.value in
    let is = ap open_back last.is ∙ map-push _ last.front frame in
    took-nothing _ _ _ _ _ _ _ is c.in_default.ensures (ap option_copied c.in-None.is)
    (ap open_back (last.put
    (record { segment = frame.segment; own = frame.own; children = c.prev_child.new.self }))
    ∙ map-push _ last.front
    (record { segment = frame.segment; own = frame.own; children = c.prev_child.new.self }))
