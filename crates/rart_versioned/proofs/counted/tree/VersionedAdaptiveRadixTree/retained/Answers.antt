use Rattle.std.proofs.Common.{◌∙◌, rules}
use Rattle.rart_maps.specs.Visits.{BySlice}
use Rattle.rart_versioned.proofs.EndPairLemmas.{within-none}
use Rattle.rart_versioned.proofs.RetainLemmas.{retained-asked_once_more, retained-at, retained-next, retained-room, retained-start}
use Rattle.rart_versioned.proofs.counted.tree.VersionedAdaptiveRadixTree.retained.Goals as goal

pub asking-init : goal.asking-init
asking-init g c =
    retained-start g.F.FnMut BySlice c.args.self.now c.args.keep.now c.in_ok-cursor.cursor.left
    c.in_ok-next.next (c.in_ok-cursor.ensures ∙ within-none c.args.self.now.content)
    c.in_ok-next.ensures

pub ask_about-requires-clause-room : goal.ask_about-requires-clause-room
ask_about-requires-clause-room g c =
    let gives = rw c.in-Some.is at c.in_ok-value.ensures.gives in
    let before = retained-at g.F.FnMut BySlice c.args.self.now c.args.keep.now _ _ _ _ _ _ _ gives
    c.key.ensures c.asking.invariant in
    retained-room g.F.FnMut BySlice c.args.self.now c.args.keep.now _ _ _ _ c.requires.room before

pub asking-preserved : goal.asking-preserved
asking-preserved g c =
    let gives = rw c.in-Some.is at c.in_ok-value.ensures.gives in
    let before = retained-at g.F.FnMut BySlice c.args.self.now c.args.keep.now _ _ _ _ _ _ _ gives
    c.key.ensures c.asking.invariant in
    let reply = c.in_ok-ask_about.ensures in
    retained-next g.F.FnMut BySlice c.args.self.now c.args.keep.now _ _ _ _ _ _ reply.0 before
    reply.1 reply.2

pub returns-in_err-ask_about-clause-asked : goal.returns-in_err-ask_about-clause-asked
returns-in_err-ask_about-clause-asked g c =
    let gives = rw c.in-Some.is at c.in_ok-value.ensures.gives in
    let before = retained-at g.F.FnMut BySlice c.args.self.now c.args.keep.now _ _ _ _ _ _ _ gives
    c.key.ensures c.asking.invariant in
    let reply = c.ask_about.ensures in
    let asked = retained-asked_once_more g.F.FnMut BySlice c.args.self.now c.args.keep.now _ _ _ _
    reply.0 _ before reply.1 in
    search (rules, asked)
