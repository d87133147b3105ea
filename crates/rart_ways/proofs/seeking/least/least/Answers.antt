use Rattle.std.proofs.Common.{◌++◌, ◌∙◌, length, arith, ap, refl, subst, sym}
use Rattle.std.proofs.Math.Nat.{le_refl}
use Rattle.std.proofs.lemmas.List.{length-append}
use Rattle.rart_node.specs.Shape.{prefix_of}
use Rattle.rart_ways.specs.Starts.{IsStart}
use Rattle.rart_node.specs.Trees.{pairs_of}
use Rattle.rart_node.specs.PairsBehind.{behind_path}
use Rattle.rart_node.proofs.CountingLemmas.{counts-none_made}
use Rattle.rart_ways.proofs.LeastLemmas.{start-whole, start-fits, first-here, first-below, first-lower, first-deep, none-some}
use Rattle.rart_ways.proofs.seeking.least.least.Goals as goal

pub down-init : goal.down-init
down-init g c = record {
  above = c.args.path.now;
  at = start-whole c.args.path.now c.args.start.now.shape c.requires.tree
      c.requires.short;
  long = let end = c.write_at-len.ensures.end in omega (arith, end);
  written = c.write_at-len.ensures.written;
  behind = c.write_at-len.ensures.behind;
  grows = omega arith;
  most = omega arith;
  made = refl;
}

pub write_at-len-requires-in-down : goal.write_at-len-requires-in-down
write_at-len-requires-in-down g c =
    let s = c.down.node.now.shape in
    let fits = start-fits _ c.down.invariant.above s c.down.invariant.at in
    let segment = ap length (c.as_ref.ensures ∙ c.prefix.ensures) in
    let long = c.down.invariant.long in
    omega (arith, fits, segment, long)

pub returns-in-Some : goal.returns-in-Some
returns-in-Some g c =
    let s = c.down.node.now.shape in
    let above = c.down.invariant.above in
    let len = c.write_at-len-in-down.result in
    let segment = c.as_ref.ensures ∙ c.prefix.ensures in
    let end = c.write_at-len-in-down.ensures.end in
    let long = c.down.invariant.long in
    let count = ap length segment in
    let joined = length-append above (prefix_of s) in
    let room = c.down.auto.room in
    let grows = c.down.invariant.grows in
    let most = c.down.invariant.most in
    record {
      first = first-here _ above s c.down.invariant.at c.in-Some.value.now
          (sym c.in-Some.ensures) len c.args.room.now c.write_at-len-in-down.new.room
          (omega (arith, end, long, count, joined))
          (λ fits. c.write_at-len-in-down.ensures.written (omega (arith, fits, room))
          ∙ ap (λ z. z ++ c.as_ref.result.now)
          (c.down.invariant.written (omega (arith, fits, end)))
          ∙ ap (λ z. above ++ z) segment)
          (c.write_at-len-in-down.ensures.behind len (le_refl len)
          ∙ c.down.invariant.behind len (omega (arith, end)));
      longer = omega (arith, end, long, count, grows, most);
      counted = counts-none_made grows (omega (arith, end, long, count, grows, most))
          c.down.invariant.made;
    }

pub down-smaller : goal.down-smaller
down-smaller g c =
    let s = c.down.node.now.shape in
    let taken = c.in-Some-next_child.ensures in
    rw c.open-node.ensures.shown
    (first-lower _ c.down.invariant.above s c.down.invariant.at (sym c.in_default.ensures)
    taken.0 _ _
    (sym c.iter.ensures.children ∙ taken.1))

pub down-preserved : goal.down-preserved
down-preserved g c =
    let s = c.down.node.now.shape in
    let above = c.down.invariant.above in
    let at = c.down.invariant.at in
    let none = sym c.in_default.ensures in
    let taken = c.in-Some-next_child.ensures in
    let is = sym c.iter.ensures.children ∙ taken.1 in
    let child = c.in-Some-next_child.child.now.shape in
    let whole = behind_path c.args.path.now
    (pairs_of c.args.start.now.shape) in
    let deep = first-deep whole above s at none taken.0 child _ is in
    let segment = c.as_ref.ensures ∙ c.prefix.ensures in
    let count = ap length segment in
    let end = c.write_at-len-in-down.ensures.end in
    let long = c.down.invariant.long in
    let joined = length-append above (prefix_of s) in
    let room = c.down.auto.room in
    let shown = c.open-node.ensures.shown in
    let below = ap (λ z. length (prefix_of z)) shown in
    let work = ap (λ z. z.entered) c.open-node.ensures.work in
    let grows = c.down.invariant.grows in
    let most = c.down.invariant.most in
    record {
      above = above ++ prefix_of s;
      at = subst (λ z. IsStart whole (above ++ prefix_of s) z) (sym shown)
          (first-below whole above s at none taken.0 child _ is);
      long = omega (arith, end, long, count, joined);
      written =
          λ fits. c.write_at-len-in-down.ensures.written (omega (arith, fits, room))
          ∙ ap (λ z. z ++ c.as_ref.result.now)
          (c.down.invariant.written (omega (arith, fits, end)))
          ∙ ap (λ z. above ++ z) segment;
      behind =
          λ later fits. c.write_at-len-in-down.ensures.behind later fits
          ∙ c.down.invariant.behind later (omega (arith, fits, end));
      grows = omega (arith, grows, work);
      most = omega (arith, most, work, joined, below, deep);
      made = ap (λ z. z.made) c.open-node.ensures.work ∙ c.down.invariant.made;
    }

pub unreachable-requires : goal.unreachable-requires
unreachable-requires g c =
    let s = c.down.node.now.shape in
    none-some s c.down.invariant.at.tree (sym c.in_default.ensures)
    (sym c.iter.ensures.children ∙ c.in-None.ensures.0)
