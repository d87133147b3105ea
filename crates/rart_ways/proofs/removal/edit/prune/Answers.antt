use Rattle.std.proofs.Common.{arith}
use Rattle.rart_ways.proofs.EditLemmas.{when-ok, when-some, on-any, pruned-is, pruned-value, refused-if, refused-ok, replaced-ascending, kept-is}
use Rattle.rart_node.proofs.CountingLemmas.{counts-opened, counts-then}
use Rattle.rart_ways.proofs.removal.edit.prune.Goals as goal

pub returns-in_err-value : goal.returns-in_err-value
returns-in_err-value g c =
    let s = c.args.at.now.shape in
    let replaced =
    when-some c.seek_child_mut.result _ c.in-Some.is
    (c.seek_child_mut.follows.holds c.take.new.at) in
    let shows =
    when-ok c.open_mut.result _ c.in_ok-node.was
    (c.open_mut.follows.holds (c.seek_child_mut.follows.lender c.take.new.at)) in
    let result = c.from_residual-in_err-value.result in
    let err = c.from_residual-in_err-value.ensures.0 in
    record {
      taken = refused-ok _ result err;
      value = refused-if _ result err;
      refused = on-any result
          (kept-is s _ _ _ _ _ c.args.byte c.in_ok-node.ensures.shown c.requires.tree
          c.in-Some.ensures.value replaced shows c.in_err-value.ensures.refused);
      counted = counts-then (counts-opened _ _ c.in_ok-node.ensures.work)
          c.in_err-value.ensures.counted (omega arith) (omega arith);
    }

pub delete_child-requires : goal.delete_child-requires
delete_child-requires g c =
    let s = c.args.at.now.shape in
    let replaced =
    when-some c.seek_child_mut.result _ c.in-Some.is
    (c.seek_child_mut.follows.holds c.take.new.at) in
    replaced-ascending s _ _ _ c.args.byte c.in_ok-node.ensures.shown c.requires.tree replaced

pub returns : goal.returns
returns g c =
    let s = c.args.at.now.shape in
    let replaced =
    when-some c.seek_child_mut.result _ c.in-Some.is
    (c.seek_child_mut.follows.holds c.take.new.at) in
    let shows =
    when-ok c.open_mut.result _ c.in_ok-node.was
    (c.open_mut.follows.holds c.delete_child.new.self) in
    record {
      taken = pruned-is s _ _ _ _ _ c.args.byte c.in_ok-node.ensures.shown c.requires.tree
          replaced c.delete_child.ensures.seen shows;
      value = pruned-value s _ _ _ c.args.byte c.in_ok-node.ensures.shown c.in-Some.ensures.value
          c.in_ok-value.ensures.value;
      refused = tt;
      counted = counts-then (counts-opened _ _ c.in_ok-node.ensures.work)
          c.in_ok-value.ensures.counted (omega arith) (omega arith);
    }
