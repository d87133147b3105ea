use Rattle.std.proofs.Common.{◌≡◌, rules, of_calls, refl, Err}
use Rattle.rart_maps.specs.Pairs.{under}
use Rattle.rart_versioned.specs.Refusal.TheVariants.{Callback}
use Rattle.rart_family.specs.Families.{values_of}
use Rattle.rart_family.proofs.CountdownLemmas.{replied-ok, replied-failed, visits-lead_back}
use Rattle.rart_family.proofs.family.visits.reply_until.Goals as goal

pub returns-in-Ok : goal.returns-in-Ok
returns-in-Ok g c =
    let found = values_of (under c.args.version.now.content (g.K.KeyTrait.bytes c.args.prefix.now))
    in
    let last = c.try_prefix_values_for_each_k-visited.new.f in
    let begins = c.new-countdown.ensures in
    let told = replied-ok _ _ (λ f. f.0.now)
    (λ f x answer f' called. let shows = called.2 in search (rules, of_calls))
    found _ _ _ _ _ begins.values begins.last_visit begins.fails
    c.try_prefix_values_for_each_k-visited.ensures.visits c.in-Ok.is in
    let name = visits-lead_back _ _ (λ f. last.0.ghost_name ≡ f.0.ghost_name)
    (λ f x answer f' called later. search (rules, of_calls))
    found _ _ _ c.try_prefix_values_for_each_k-visited.ensures.visits refl in
    search rules

pub returns-in-Err-Callback-Callback : goal.returns-in-Err-Callback-Callback
returns-in-Err-Callback-Callback g c =
    let found = values_of (under c.args.version.now.content (g.K.KeyTrait.bytes c.args.prefix.now))
    in
    let answer = c.try_prefix_values_for_each_k-visited.result in
    let last = c.try_prefix_values_for_each_k-visited.new.f in
    let failure = c.in-Err-Callback-Callback.field-0-0-0 in
    let begins = c.new-countdown.ensures in
    let failed : answer ≡ Err (Callback (Callback failure)) = search rules in
    let told = replied-failed _ _ (λ f. f.0.now)
    (λ f x answer f' called. let shows = called.2 in search (rules, of_calls))
    found _ _ _ _ _ begins.values begins.last_visit begins.fails
    c.try_prefix_values_for_each_k-visited.ensures.visits failure failed in
    let name = visits-lead_back _ _ (λ f. last.0.ghost_name ≡ f.0.ghost_name)
    (λ f x answer f' called later. search (rules, of_calls))
    found _ _ _ c.try_prefix_values_for_each_k-visited.ensures.visits refl in
    search rules
