use Rattle.std.proofs.Common.{◌≡◌, ◌+◌, ◌-◌, ◌≤◌, ap, is_some, subst, sym, ◌∙◌}
use Rattle.std.specs.Int.{from_bool}
use Rattle.std.specs.FinMap as finite
use Rattle.rart_maps.specs.Lookups.{with_value}
use Rattle.rart_maps.specs.Versions.{Version}
use Rattle.rart_saved.proofs.LatestLemmas.{insertion-counted, removal-counted, removal-room, removal-set}
use Rattle.rart_saved.proofs.families.latest.Latest.put.Goals as goal

pub overflow_sub-self : goal.overflow_sub-self
overflow_sub-self g c =
    let held = ap (λ (v : Version g.row.V.Denot). v.content) c.set_version.ensures in
    let room =
    removal-room c.set_version.new.self c.args.key.now c.in_ok-removed-in-None.removed
    c.args.self.now.keys (c.requires.counted ∙ ap finite.len (sym held))
    c.in_ok-removed-in-None.ensures.answer in
    let some : c.is_some.result ≡ is_some c.in_ok-removed-in-None.removed = c.is_some.ensures in
    subst (λ n. n ≤ c.args.self.now.keys) (sym (c.from-in-None.ensures ∙ ap from_bool some)) room

pub returns-in_ok-is_replaced-in-Some-clause-counted : goal.returns-in_ok-is_replaced-in-Some-clause-counted
returns-in_ok-is_replaced-in-Some-clause-counted g c =
    let held = ap (λ (v : Version g.row.V.Denot). v.content) c.set_version.ensures in
    ap (λ n. c.args.self.now.keys + n) c.from.ensures
    ∙ insertion-counted c.set_version.new.self.content c.insert_bytes.new.self.content
    c.args.key.now c.in-Some.value c.args.self.now.keys
    c.in_ok-is_replaced-in-Some.is_replaced (c.requires.counted ∙ ap finite.len (sym held))
    c.in_ok-is_replaced-in-Some.ensures.answer
    (ap (λ (v : Version g.row.V.Denot). v.content) c.in_ok-is_replaced-in-Some.ensures.set)

pub returns-in_ok-removed-in-None-clause-set : goal.returns-in_ok-removed-in-None-clause-set
returns-in_ok-removed-in-None-clause-set g c =
    removal-set c.set_version.new.self c.remove_bytes.new.self c.args.key.now
    c.in_ok-removed-in-None.ensures.removed
    ∙ (λ i. with_value (c.set_version.ensures i).content c.args.key.now (sym c.in-None.is i))

pub returns-in_ok-removed-in-None-clause-counted : goal.returns-in_ok-removed-in-None-clause-counted
returns-in_ok-removed-in-None-clause-counted g c =
    let held = ap (λ (v : Version g.row.V.Denot). v.content) c.set_version.ensures in
    let some : c.is_some.result ≡ is_some c.in_ok-removed-in-None.removed = c.is_some.ensures in
    ap (λ n. c.args.self.now.keys - n) (c.from-in-None.ensures ∙ ap from_bool some)
    ∙ removal-counted c.set_version.new.self c.remove_bytes.new.self c.args.key.now
    c.in_ok-removed-in-None.removed c.args.self.now.keys
    (c.requires.counted ∙ ap finite.len (sym held)) c.in_ok-removed-in-None.ensures.answer
    c.in_ok-removed-in-None.ensures.removed
