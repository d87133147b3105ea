use Rattle.std.proofs.Common.{filter, length, ap, sym, ◌∙◌}
use Rattle.std.specs.Range.Bound.{bound_map}
use Rattle.rart_c.specs.Pages.{cursor_in, is_before_end}
use Rattle.rart_c.proofs.PageOrderLemmas.{cursor-behind, range-first, range-none, range-past}
use Rattle.rart_c.proofs.paging.next_of.Goals as goal

pub returns-in_default-clause-first : goal.returns-in_default-clause-first
returns-in_default-clause-first g c m from has =
    let none = rw c.in_default.is at c.in_ok-value.ensures.gives in
    range-none c.args.order m from (bound_map (λ to. to.now) c.args.to) (sym has ∙ none.0)

pub returns-in_default-clause-left : goal.returns-in_default-clause-left
returns-in_default-clause-left g c m from has key value others is =
    let wrong = sym (returns-in_default-clause-first g c m from has) ∙ is in cc

pub returns-then-not-meets-clause-first : goal.returns-then-not-meets-clause-first
returns-then-not-meets-clause-first g c m from has =
    let gives = rw c.in-Some.is at c.in_ok-value.ensures.gives in
    let order = c.args.order in
    let to = bound_map (λ to. to.now) c.args.to in
    let past = ap (is_before_end order to) (sym c.key-key.ensures) ∙ sym c.meets.ensures
    ∙ c.if-not-meets.true in
    range-past m from to _ _ order (sym has ∙ gives) past

pub returns-then-not-meets-clause-left : goal.returns-then-not-meets-clause-left
returns-then-not-meets-clause-left g c m from has key value others is =
    let wrong = sym (returns-then-not-meets-clause-first g c m from has) ∙ is in cc

pub returns-clause-first : goal.returns-clause-first
returns-clause-first g c m from has =
    let gives = rw c.in-Some.is at c.in_ok-value.ensures.gives in
    let order = c.args.order in
    let to = bound_map (λ to. to.now) c.args.to in
    let same = c.key-key.ensures in
    let after = cursor_in c.next_value.new.self in
    let meets = ap (is_before_end order to) (sym same) ∙ sym c.meets.ensures
    ∙ c.if-not-meets.false in
    record {
      key = after.key;
      others = filter (λ pair. is_before_end order to pair.0) after.left;
      first = range-first m from to _ _ order (sym has ∙ gives) meets;
      long = ap length same;
      written = λ fits. c.write_key.ensures.written fits ∙ same;
      behind = c.write_key.ensures.behind;
    }

pub returns-clause-left : goal.returns-clause-left
returns-clause-left g c m from has key value others is =
    let gives = rw c.in-Some.is at c.in_ok-value.ensures.gives in
    let order = c.args.order in
    let to = bound_map (λ to. to.now) c.args.to in
    let meets = ap (is_before_end order to) (sym c.key-key.ensures) ∙ sym c.meets.ensures
    ∙ c.if-not-meets.false in
    cursor-behind order m from to c.args.cursor.now c.next_value.new.self _ (key, value) others has
    gives meets is
