use Rattle.std.proofs.Common.{◌≡◌, ◌+◌, ◌-◌, ◌∷◌, ◌<◌, ◌^◌, ◌++◌, suc, drop, sym, ap, ◌∙◌, arith, rules, inl, inr}
use Rattle.rart_saved.specs.Numbers.{groups, LacksGroups}
use Rattle.rart_saved.proofs.SevenBitLemmas.{read-small, read-more, lacks-last, lacks-more, lacks-high, lacks-none}
use Rattle.rart_saved.proofs.BytePartLemmas.{drop-byte, drop-past, each_error}
use Rattle.rart_saved.proofs.numbers.+groups_at.Goals as goal
use Rattle.rart_saved.proofs.numbers.+groups_at.Goals.{then-high-eq0-via-then-high-eq0, then-high-eq0-via-else-high-eq0+then-high}

pub returns-in_default-clause-refused : goal.returns-in_default-clause-refused
returns-in_default-clause-refused t c n rest below few stands =
    lacks-none c.args.more n rest
    (sym (drop-past _ _ c.in_default.ensures.lookup.3) ∙ stands)

pub returns-then-low-lt128-clause-read : goal.returns-then-low-lt128-clause-read
returns-then-low-lt128-clause-read t c =
    let found = c.in-Some.ensures.lookup.3 in
    read-small c.args.bytes.now c.args.at _ (drop-byte c.args.bytes.now c.args.at _ found.0 (λ
    d. c.from-low.ensures ∙ found.1 d)) _ found.0
    c.if-low-lt128.true

pub returns-then-more-eq0-clause-refused : goal.returns-then-more-eq0-clause-refused
returns-then-more-eq0-clause-refused t c n rest below few stands =
    let found = c.in-Some.ensures.lookup.3 in
    let none : c.args.more ≡ 0 = search rules in
    lacks-last c.args.bytes.now c.args.at _ (drop-byte c.args.bytes.now c.args.at _ found.0 (λ
    d. c.from-low.ensures ∙ found.1 d)) n rest
    c.if-low-lt128.false
    (omega (arith, few, ap (λ m. 128 ^ suc m) none))
    (stands ∙ ap (λ m. groups m n ++ rest) none)

pub returns-in_err-high-clause-refused : goal.returns-in_err-high-clause-refused
returns-in_err-high-clause-refused t c =
    let found = c.in-Some.ensures.lookup.3 in
    each_error _ (LacksGroups c.args.more (drop c.args.at c.args.bytes.now))
    (λ n rest below few stands.
    lacks-more c.args.bytes.now c.args.at _ (drop-byte c.args.bytes.now c.args.at _ found.0 (λ
    d. c.from-low.ensures ∙ found.1 d))
    _ (c.args.more - 1) n rest (omega (arith, c.if-more-eq0.false)) c.if-low-lt128.false
    c.in_err-high.ensures.refused below few stands)

pub returns-then-high-eq0-clause-refused : goal.returns-then-high-eq0-clause-refused
returns-then-high-eq0-clause-refused t c n rest below few stands =
    let found = c.in-Some.ensures.lookup.3 in
    let whole : drop c.args.at c.args.bytes.now
    ≡ c.from-low.result ∷ drop (c.args.at + 1) c.args.bytes.now = drop-byte c.args.bytes.now
    c.args.at _ found.0 (λ d. c.from-low.ensures ∙ found.1 d) in
    lacks-high c.args.bytes.now c.args.at _ whole _ (c.args.more - 1) n c.in_ok-high.high _ rest
    (omega (arith, c.if-more-eq0.false)) c.if-low-lt128.false c.in_ok-high.ensures.read
    (elim c.then-high-eq0.branch [
      | then-high-eq0-via-then-high-eq0 w ↦ inl (search rules)
      | then-high-eq0-via-else-high-eq0+then-high w ↦ inr w.if-high.true
    ]) below stands

pub returns-clause-read : goal.returns-clause-read
returns-clause-read t c =
    let found = c.in-Some.ensures.lookup.3 in
    let whole : drop c.args.at c.args.bytes.now
    ≡ c.from-low.result ∷ drop (c.args.at + 1) c.args.bytes.now = drop-byte c.args.bytes.now
    c.args.at _ found.0 (λ d. c.from-low.ensures ∙ found.1 d) in
    let byte : c.from-low.result < 256 =
    omega (arith, c.from-low.ensures, found.1 0, c.type_inv.bytes c.args.at) in
    read-more c.args.bytes.now c.args.at _ whole _ (c.args.more - 1) c.in_ok-high.high _
    (omega (arith, c.if-more-eq0.false)) c.if-low-lt128.false byte
    (omega (arith, c.if-high-eq0.false)) c.in_ok-high.ensures.read
