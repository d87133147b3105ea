use Rattle.std.proofs.Common.{arith, refl, sym, ◌∙◌}
use Rattle.rart_walks.proofs.walk_back.WalkBack.next_value.Goals as goal

pub node-init : goal.node-init
node-init g c =
    record {
      walk = c.requires.walk;
      pairs = refl;
      counted = refl;
      grows = omega arith;
      made = refl;
      each = omega arith;
    }

pub returns-in-Some-value : goal.returns-in-Some-value
returns-in-Some-value g c =
    let before = c.node.invariant in
    let next = c.in_ok-value.ensures in
    let comes = rw c.in-Some.is at next.steps in
    let grows = before.grows in
    let same = before.counted in
    let made = before.made in
    let more = next.counted.entered_grows in
    let most = next.counted.entered_at_most in
    let made_more = next.counted.made_grows in
    let made_most = next.counted.made_at_most in
    record {
      walk = next.walk;
      gives = sym before.pairs ∙ (rw c.in-Some-value.is at comes.pairs);
      refused = tt;
      entered = let fall = next.entered in omega (arith, same, fall);
      counted = record {
        entered_grows = omega (arith, grows, more);
        entered_at_most = omega (arith, same, most);
        made_grows = omega (arith, made, made_more);
        made_at_most = omega (arith, made, made_most);
      };
      each = let each = before.each in let also = next.each in omega (arith, each, also);
    }

pub node-preserved : goal.node-preserved
node-preserved g c =
    let before = c.node.invariant in
    let next = c.in_ok-value.ensures in
    let comes = rw c.in-Some.is at next.steps in
    let grows = before.grows in
    let same = before.counted in
    let made = before.made in
    let fall = next.entered in
    let more = next.counted.entered_grows in
    let made_more = next.counted.made_grows in
    let made_most = next.counted.made_at_most in
    let each = before.each in
    let also = next.each in
    record {
      walk = next.walk;
      pairs = sym (rw c.in_default-value.is at comes.pairs) ∙ before.pairs;
      counted = omega (arith, same, fall);
      grows = omega (arith, grows, more);
      made = omega (arith, made, made_more, made_most);
      each = omega (arith, each, also);
    }
