use Rattle.std.proofs.Common.{arith, ℕ, List, subst, sym, refl, length, rules, ◌<◌, ◌^◌}
use Rattle.example_store.specs.Replays.{IsPlayed, IsRefusedBy}
use Rattle.example_store.proofs.FeedLemmas.{first_feed, no_feed}
use Rattle.example_store.proofs.ReplayLemmas.{played_room, played_count, played_next, refused_next, refused_tail, replayed_all, refused_by}
use Rattle.example_store.proofs.replay.replay.Goals as goal

pub play-requires-clause-line : goal.play-requires-clause-line
play-requires-clause-line c = (first_feed c.entries.rest.now c.in-Some.end
    c.in-Some.ensures).feedless

pub play-requires-clause-count : goal.play-requires-clause-count
play-requires-clause-count c =
    let fits : length c.args.log.now < 2 ^ 64 = search rules in
    let cut = first_feed c.entries.rest.now c.in-Some.end c.in-Some.ensures in
    let room = played_room c.args.base c.args.log.now c.entries.rest.now _ _ c.entries.replayed
    c.entries.invariant cut in
    omega (arith, fits, room.0)

pub returns-in_err-play-clause-damaged : goal.returns-in_err-play-clause-damaged
returns-in_err-play-clause-damaged c =
    let cut = first_feed c.entries.rest.now c.in-Some.end c.in-Some.ensures in
    refused_by c.args.base c.from_residual.result c.args.log.now c.in_err-play.field-0.0
    c.from_residual.ensures.1
    (refused_next c.args.base c.args.log.now c.entries.rest.now _ _ c.entries.replayed _
    c.entries.invariant cut
    c.in_err-play.ensures.err)

pub entries-preserved : goal.entries-preserved
entries-preserved c =
    let cut = first_feed c.entries.rest.now c.in-Some.end c.in-Some.ensures in
    subst (λ (s : List ℕ). IsPlayed c.args.base c.args.log.now s c.play.new.self) (sym
    c.split_at.ensures.back)
    (played_next c.args.base c.args.log.now c.entries.rest.now _ _ c.entries.replayed
    c.play.new.self c.entries.invariant cut
    c.in_ok-play.ensures.ok)

pub damaged-requires : goal.damaged-requires
damaged-requires c =
    let fits : length c.args.log.now < 2 ^ 64 = search rules in
    let room = played_count c.args.base c.args.log.now c.entries.rest.now c.entries.replayed
    c.entries.invariant in
    omega (arith, fits, room, c.if-rest-gt-LONGEST_TAIL.true)

pub returns-then-rest-gt-LONGEST_TAIL-clause-damaged :
    goal.returns-then-rest-gt-LONGEST_TAIL-clause-damaged
returns-then-rest-gt-LONGEST_TAIL-clause-damaged c =
    subst (IsRefusedBy c.args.base c.args.log.now) (sym c.damaged.ensures)
    (refused_tail c.args.base c.args.log.now c.entries.rest.now c.entries.replayed _ _
    c.entries.invariant
    (no_feed c.entries.rest.now c.in_default.ensures) c.if-rest-gt-LONGEST_TAIL.true refl refl)

pub returns-clause-ok : goal.returns-clause-ok
returns-clause-ok c = replayed_all c.args.base c.args.log.now c.entries.rest.now c.entries.replayed
    c.entries.invariant
    (no_feed c.entries.rest.now c.in_default.ensures) (omega (
      arith,
      c.if-rest-gt-LONGEST_TAIL.false,
    ))
