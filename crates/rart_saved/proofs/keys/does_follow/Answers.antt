use Rattle.std.proofs.Common.{drop, ap, ◌∙◌, inl, inr, arith}
use Rattle.std.proofs.lemmas.Bool.{ltb-true, ltb-false}
use Rattle.rart_saved.proofs.BytePartLemmas.{drop-byte, drop-past}
use Rattle.rart_saved.proofs.SharedKeyLemmas.{common-within, follows-some, follows-first, lacks-rest, lacks-greater}
use Rattle.rart_saved.proofs.keys.does_follow.Goals as goal

pub returns-then-shared-before-clause-no : goal.returns-then-shared-before-clause-no
returns-then-shared-before-clause-no c _ key next same is =
    omega (arith, same, c.if-shared-before.true, common-within c.args.before.now key)

pub returns-in_default-clause-yes : goal.returns-in_default-clause-yes
returns-in_default-clause-yes c first =
    follows-first c.args.is_first c.args.before.now c.args.shared c.args.rest.now first
    (c.requires first) c.if-shared-before.false
    (drop-past c.args.rest.now 0 c.in_default.ensures.item.3)

pub returns-in_default-clause-no : goal.returns-in_default-clause-no
returns-in_default-clause-no c later key next same is =
    lacks-rest c.args.before.now key c.args.rest.now c.args.is_first later
    (drop-past c.args.rest.now 0 c.in_default.ensures.item.3) next
    (is ∙ ap (λ n. drop n key) same)

pub returns-then-shared-before-2-clause-yes : goal.returns-then-shared-before-2-clause-yes
returns-then-shared-before-2-clause-yes c _ =
    let found = c.in-Some.ensures.item.3 in
    follows-some c.args.is_first c.args.before.now c.args.shared c.in-Some.byte.now
    c.args.rest.now _ (drop-byte c.args.rest.now 0 c.in-Some.byte.now found.0 found.1)
    c.if-shared-before.false (inl c.if-shared-before-2.true)

pub returns-clause-yes : goal.returns-clause-yes
returns-clause-yes c less =
    let found = c.in-Some.ensures.item.3 in
    follows-some c.args.is_first c.args.before.now c.args.shared c.in-Some.byte.now
    c.args.rest.now _ (drop-byte c.args.rest.now 0 c.in-Some.byte.now found.0 found.1)
    c.if-shared-before.false (inr (ltb-true _ _ less))

pub returns-clause-no : goal.returns-clause-no
returns-clause-no c most key next same is =
    let found = c.in-Some.ensures.item.3 in
    lacks-greater c.args.before.now key c.args.rest.now _ c.in-Some.byte.now c.args.shared
    c.args.is_first (drop-byte c.args.rest.now 0 c.in-Some.byte.now found.0 found.1) c.requires
    c.if-shared-before-2.false (ltb-false _ _ most) c.if-shared-before.false next same
    (is ∙ ap (λ n. drop n key) same)
