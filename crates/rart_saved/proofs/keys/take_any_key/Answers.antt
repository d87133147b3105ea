use Rattle.std.proofs.Common.{◌≡◌, ◌≢◌, ◌<◌, ◌≤◌, ◌^◌, ◌+◌, ◌-◌, ◌++◌, ℕ, List, drop, take, length, subst, ap, ◌∙◌, rules, arith}
use Rattle.rart_below.specs.Bytes.{common_length}
use Rattle.rart_saved.specs.Keys.{Follows, IsNext, LacksKey}
use Rattle.rart_saved.proofs.SharedKeyLemmas.{lacks-shared, lacks-count, lacks-bytes, lacks-next, key-read}
use Rattle.rart_saved.proofs.BytePartLemmas.{other_error, part-counted, long-counted}
use Rattle.rart_saved.proofs.keys.take_any_key.Goals as goal

pub returns-in_err-shared-clause-refused : goal.returns-in_err-shared-clause-refused
returns-in_err-shared-clause-refused c =
    let fits : length c.args.key.now.items < 2 ^ 64 = search rules in
    other_error _ (LacksKey c.args.is_first c.args.key.now.items (drop c.args.at c.args.bytes.now))
    (lacks-shared c.args.bytes.now c.args.key.now.items c.args.at c.args.is_first fits
    c.in_err-shared.ensures.refused)

pub returns-in_err-count-clause-refused : goal.returns-in_err-count-clause-refused
returns-in_err-count-clause-refused c =
    let fits : length c.args.bytes.now < 2 ^ 64 = search rules in
    other_error _ (LacksKey c.args.is_first c.args.key.now.items (drop c.args.at c.args.bytes.now))
    (lacks-count c.args.bytes.now c.args.key.now.items c.args.at _ _ c.args.is_first fits
    c.in_ok-shared.ensures.read c.in_err-count.ensures.refused)

pub returns-then-count-bytes-clause-refused : goal.returns-then-count-bytes-clause-refused
returns-then-count-bytes-clause-refused c _ =
    lacks-bytes c.args.bytes.now c.args.key.now.items c.args.at _ _ _ _ c.args.is_first
    c.in_ok-shared.ensures.read c.in_ok-count.ensures.read c.if-count-bytes.true

pub returns-then-not-does_follow-clause-refused : goal.returns-then-not-does_follow-clause-refused
returns-then-not-does_follow-clause-refused c _ =
    let inside : c.in_ok-count.from + c.in_ok-count.count ≤ length c.args.bytes.now =
    omega (arith, c.if-count-bytes.false, c.in_ok-count.ensures.read.within) in
    let part = take (c.in_ok-count.from + c.in_ok-count.count - c.in_ok-count.from)
    (drop c.in_ok-count.from c.args.bytes.now) in
    lacks-next c.args.bytes.now c.args.key.now.items part c.args.at _ c.in_ok-count.from
    c.in_ok-shared.shared c.in_ok-count.count c.args.is_first
    c.in_ok-shared.ensures.read c.in_ok-count.ensures.read
    (part-counted c.args.bytes.now c.in_ok-count.from c.in_ok-count.count inside)
    (long-counted c.args.bytes.now c.in_ok-count.from c.in_ok-count.count inside)
    (subst (λ before. (key : List ℕ) → IsNext c.args.is_first before key
    → c.in_ok-shared.shared ≡ common_length before key → part ≢ drop c.in_ok-shared.shared key)
    c.deref.ensures.value (c.does_follow.ensures.no c.if-not-does_follow.true))

pub returns-clause-read : goal.returns-clause-read
returns-clause-read c =
    let inside : c.in_ok-count.from + c.in_ok-count.count ≤ length c.args.bytes.now =
    omega (arith, c.if-count-bytes.false, c.in_ok-count.ensures.read.within) in
    let part = take (c.in_ok-count.from + c.in_ok-count.count - c.in_ok-count.from)
    (drop c.in_ok-count.from c.args.bytes.now) in
    key-read c.args.bytes.now c.args.key.now.items c.extend_from_slice.new.self.items part
    c.args.at _ c.in_ok-count.from
    c.in_ok-shared.shared c.in_ok-count.count c.args.is_first
    c.in_ok-shared.ensures.read c.in_ok-count.ensures.read
    (part-counted c.args.bytes.now c.in_ok-count.from c.in_ok-count.count inside)
    (long-counted c.args.bytes.now c.in_ok-count.from c.in_ok-count.count inside)
    (subst (λ before. Follows c.args.is_first before c.in_ok-shared.shared part)
    c.deref.ensures.value (c.does_follow.ensures.yes c.if-not-does_follow.false))
    (c.in_ok-extend_from_slice.ensures.items ∙ ap (λ g. g ++ part) c.truncate.ensures.items)
