use Rattle.std.proofs.Common.{◌≡◌, ◌-◌, ◌++◌, [], length, refl, take, arith, sym, ap, subst, ◌∙◌}
use Rattle.std.specs.Prelude.{slice_index_or}
use Rattle.rart_below.specs.Bytes.{common_length}
use Rattle.rart_below.specs.Children.{child_at, children_below}
use Rattle.rart_node.specs.Shape.{prefix_of, children_of, value_of}
use Rattle.rart_node.proofs.CountingLemmas.{counts-then}
use Rattle.rart_node.proofs.PrefixRestLemmas.{common_fits}
use Rattle.rart_node.specs.PairsBehind.{behind_path, pairs_of_all, pending_pair}
use Rattle.rart_node.proofs.PartingLemmas.{goes-on, goes-some}
use Rattle.rart_ways.specs.Lasts.{EndAt, IsEnd, end_shape}
use Rattle.rart_ways.proofs.LastUpToLemmas.{IsBackAt, back-all, back-child, back-missing, back-own, back-start, passed_on, to_high}
use Rattle.rart_ways.proofs.SeekStartLemmas.{children-turns, front-deeper, seek-start}
use Rattle.rart_ways.proofs.SeekStepLemmas.{step-child, step-counted, step-entered, step-lower, step_passed, whole}
use Rattle.rart_ways.proofs.seeking.end.find_end.Goals as goal

pub down-init : goal.down-init
down-init g c = record {
  path = [];
  ahead = [];
  passed = [];
  seek =
      seek-start c.args.edge c.args.high.now c.args.root.now.shape c.args.work.now
      c.requires.tree c.requires.short;
  back = back-start c.args.edge c.args.high.now c.args.root.now.shape;
  turn = refl;
  deep = tt;
}

pub returns-in-All-clause-end : goal.returns-in-All-clause-end
returns-in-All-clause-end g c =
    let same : c.open-node.result.now.shape ≡ c.down.at.now.shape =
    c.open-node.ensures.shown in
    let high = c.args.high.now in
    let seek = c.down.invariant.seek in
    let all = rw same at c.in-All.ensures.reached in
    subst (IsEnd (to_high c.args.edge high c.args.root.now.shape)
    (take (length high - length c.down.rest.now) high)) (sym same)
    (back-all c.args.edge high c.args.root.now.shape c.down.at.now.shape c.down.rest.now
    c.down.invariant.path c.down.invariant.passed c.down.invariant.back seek.at.tree seek.path_is all)

pub returns-in-Own-clause-end : goal.returns-in-Own-clause-end
returns-in-Own-clause-end g c =
    let same : c.open-node.result.now.shape ≡ c.down.at.now.shape =
    c.open-node.ensures.shown in
    let high = c.args.high.now in
    let seek = c.down.invariant.seek in
    let own = rw same at c.in-Own.ensures.reached in
    let end = c.in-Own.ensures.ended refl ∙ ap prefix_of same in
    let there =
    (rw same at c.own_turn.ensures.end) c.down.invariant.passed c.down.invariant.turn in
    subst (EndAt (to_high c.args.edge high c.args.root.now.shape)) (sym c.open_turn.ensures.shown)
    (back-own c.args.edge high c.args.root.now.shape c.down.at.now.shape c.down.rest.now
    c.down.invariant.path c.down.invariant.passed c.down.invariant.back
    (end_shape c.own_turn.result) seek.path_is end own there)

pub returns-in-Own-clause-counted : goal.returns-in-Own-clause-counted
returns-in-Own-clause-counted g c =
    let way = step-counted _ _ _ _ _ _ _ _ _ c.down.invariant.seek _ _ c.open-node.ensures.work
    c.open-node.ensures.shown in
    counts-then way (c.open_turn.ensures.counted (c.own_turn.ensures.deep c.down.invariant.deep)) (omega arith)
    (omega arith)

pub returns-in-Nothing-clause-counted : goal.returns-in-Nothing-clause-counted
returns-in-Nothing-clause-counted g c =
    let way = step-counted _ _ _ _ _ _ _ _ _ c.down.invariant.seek _ _ c.open-node.ensures.work
    c.open-node.ensures.shown in
    counts-then way (c.open_turn-in-Nothing.ensures.counted (c.down.invariant.deep)) (omega arith)
    (omega arith)

pub rest_of-rest-requires : goal.rest_of-rest-requires
rest_of-rest-requires g c =
    let fits = common_fits (g.P.Partial.bytes c.prefix.result.now) c.down.rest.now in
    let is = c.prefix_length_slice-common.ensures in
    omega (arith, fits, is)

pub bounds-rest-0 : goal.bounds-rest-0
bounds-rest-0 g c =
    let o = c.open-node.result.now.shape in
    let matched : c.prefix_length_slice-common.result
    ≡ common_length (prefix_of o) c.down.rest.now = c.prefix_length_slice-common.ensures
    ∙ ap (λ p. common_length p c.down.rest.now) c.prefix.ensures in
    let long : c.len.result ≡ length (prefix_of o) =
    c.len.ensures ∙ ap length c.prefix-else-common-rest.ensures in
    let goes =
    goes-on (prefix_of o) c.down.rest.now c.rest_of-rest.result.now
    c.prefix_length_slice-common.result c.rest_of-rest.ensures matched c.if-common-rest.false
    (let most = c.if-common-len.false in omega (arith, long, most)) in
    goes-some _ _ _ _ goes

pub bounds-rest-0-in-down : goal.bounds-rest-0-in-down
bounds-rest-0-in-down g c =
    let o = c.open-node.result.now.shape in
    let matched : c.prefix_length_slice-common.result
    ≡ common_length (prefix_of o) c.down.rest.now = c.prefix_length_slice-common.ensures
    ∙ ap (λ p. common_length p c.down.rest.now) c.prefix.ensures in
    let long : c.len.result ≡ length (prefix_of o) =
    c.len.ensures ∙ ap length c.prefix-else-common-rest.ensures in
    let goes =
    goes-on (prefix_of o) c.down.rest.now c.rest_of-rest.result.now
    c.prefix_length_slice-common.result c.rest_of-rest.ensures matched c.if-common-rest.false
    (let most = c.if-common-len.false in omega (arith, long, most)) in
    goes-some _ _ _ _ goes

pub returns-in-None-clause-end : goal.returns-in-None-clause-end
returns-in-None-clause-end g c =
    let s = c.down.at.now.shape in
    let o = c.open-node.result.now.shape in
    let same : o ≡ s = c.open-node.ensures.shown in
    let matched : c.prefix_length_slice-common.result
    ≡ common_length (prefix_of o) c.down.rest.now = c.prefix_length_slice-common.ensures
    ∙ ap (λ p. common_length p c.down.rest.now) c.prefix.ensures in
    let long : c.len.result ≡ length (prefix_of o) =
    c.len.ensures ∙ ap length c.prefix-else-common-rest.ensures in
    let goes =
    goes-on (prefix_of o) c.down.rest.now c.rest_of-rest.result.now
    c.prefix_length_slice-common.result c.rest_of-rest.ensures matched c.if-common-rest.false
    (let most = c.if-common-len.false in omega (arith, long, most)) in
    let seek = c.down.invariant.seek in
    let work = c.open-node.ensures.work in
    let high = c.args.high.now in
    let left = c.rest_of-rest.result.now in
    let byte = slice_index_or left 0 0 in
    let on = whole _ _ _ _ _ _ _ _ _ seek o c.open-node.new.work work same byte left goes in
    let path = c.down.invariant.path in
    let passed = c.down.invariant.passed in
    let back = c.down.invariant.back in
    let turns = children-turns _ _ _ _ _ _ _ _ _ seek in
    let turn = end_shape c.turn_before-turn.result in
    let path_is : take (length high - length left) high ≡ path ++ prefix_of s =
    ap (λ z. take (length high - length z) high) goes.is
    ∙ front-deeper _ _ _ _ _ _ _ _ _ seek byte goes.more on in
    let there =
    subst (λ p. EndAt ((passed ++ pending_pair p (value_of s))
    ++ behind_path p (pairs_of_all (children_below byte (children_of s)))) turn) path_is
    ((rw same at c.turn_before-turn.ensures.end) passed c.down.invariant.turn turns) in
    let missing = c.in-None.ensures ∙ ap (λ z. child_at byte (children_of z)) same in
    subst (EndAt (to_high c.args.edge high c.args.root.now.shape))
    (sym c.open_turn-in-None.ensures.shown)
    (back-missing c.args.edge high c.args.root.now.shape s c.down.rest.now path passed back byte
    goes.more on seek.at.tree turn (sym missing) there)

pub returns-in-None-clause-counted : goal.returns-in-None-clause-counted
returns-in-None-clause-counted g c =
    let same = c.open-node.ensures.shown in
    let seek = c.down.invariant.seek in
    let way = step-counted _ _ _ _ _ _ _ _ _ seek _ _ c.open-node.ensures.work same in
    let deep = (rw same at c.turn_before-turn.ensures.deep) c.down.invariant.deep
    (children-turns _ _ _ _ _ _ _ _ _ seek) in
    counts-then way (c.open_turn-in-None.ensures.counted deep) (omega arith) (omega arith)

pub returns-in-None-clause-entered : goal.returns-in-None-clause-entered
returns-in-None-clause-entered g c =
    let same = c.open-node.ensures.shown in
    let seek = c.down.invariant.seek in
    let entered = step-entered _ _ _ _ _ _ _ _ _ seek _ _ c.open-node.ensures.work same in
    let deep = (rw same at c.turn_before-turn.ensures.deep) c.down.invariant.deep
    (children-turns _ _ _ _ _ _ _ _ _ seek) in
    let grows = (c.open_turn-in-None.ensures.counted deep).entered_grows in
    omega (arith, entered, grows)

pub down-smaller : goal.down-smaller
down-smaller g c =
    let s = c.down.at.now.shape in
    let o = c.open-node.result.now.shape in
    let same : o ≡ s = c.open-node.ensures.shown in
    let matched : c.prefix_length_slice-common.result
    ≡ common_length (prefix_of o) c.down.rest.now = c.prefix_length_slice-common.ensures
    ∙ ap (λ p. common_length p c.down.rest.now) c.prefix.ensures in
    let long : c.len.result ≡ length (prefix_of o) =
    c.len.ensures ∙ ap length c.prefix-else-common-rest.ensures in
    let goes =
    goes-on (prefix_of o) c.down.rest.now c.rest_of-rest.result.now
    c.prefix_length_slice-common.result c.rest_of-rest.ensures matched c.if-common-rest.false
    (let most = c.if-common-len.false in omega (arith, long, most)) in
    let seek = c.down.invariant.seek in
    let work = c.open-node.ensures.work in
    step-lower _ _ _ _ _ _ _ _ _ seek o c.open-node.new.work work same _ _ goes
    c.in-Some.child.now.shape c.in-Some.ensures

pub down-preserved : goal.down-preserved
down-preserved g c =
    let s = c.down.at.now.shape in
    let o = c.open-node.result.now.shape in
    let same : o ≡ s = c.open-node.ensures.shown in
    let matched : c.prefix_length_slice-common.result
    ≡ common_length (prefix_of o) c.down.rest.now = c.prefix_length_slice-common.ensures
    ∙ ap (λ p. common_length p c.down.rest.now) c.prefix.ensures in
    let long : c.len.result ≡ length (prefix_of o) =
    c.len.ensures ∙ ap length c.prefix-else-common-rest.ensures in
    let goes =
    goes-on (prefix_of o) c.down.rest.now c.rest_of-rest.result.now
    c.prefix_length_slice-common.result c.rest_of-rest.ensures matched c.if-common-rest.false
    (let most = c.if-common-len.false in omega (arith, long, most)) in
    let seek = c.down.invariant.seek in
    let work = c.open-node.ensures.work in
    let high = c.args.high.now in
    let left = c.rest_of-rest.result.now in
    let byte = slice_index_or left 0 0 in
    let on = whole _ _ _ _ _ _ _ _ _ seek o c.open-node.new.work work same byte left goes in
    let path = c.down.invariant.path in
    let passed = c.down.invariant.passed in
    let back = c.down.invariant.back in
    let turns = children-turns _ _ _ _ _ _ _ _ _ seek in
    let turn = end_shape c.turn_before-turn.result in
    let path_is : take (length high - length left) high ≡ path ++ prefix_of s =
    ap (λ z. take (length high - length z) high) goes.is
    ∙ front-deeper _ _ _ _ _ _ _ _ _ seek byte goes.more on in
    let there =
    subst (λ p. EndAt ((passed ++ pending_pair p (value_of s))
    ++ behind_path p (pairs_of_all (children_below byte (children_of s)))) turn) path_is
    ((rw same at c.turn_before-turn.ensures.end) passed c.down.invariant.turn turns) in
    let deep = (rw same at c.turn_before-turn.ensures.deep) c.down.invariant.deep turns in
    let child = c.in-Some.child.now.shape in
    let here = c.in-Some.ensures ∙ ap (λ z. child_at byte (children_of z)) same in
    record {
      path = path ++ prefix_of s;
      ahead = step_passed _ _ _ _ _ _ _ _ _ seek o c.open-node.new.work work same _ _ goes;
      passed = passed_on c.args.edge high c.args.root.now.shape s c.down.rest.now path passed back byte
          goes.more on seek.at.tree;
      seek =
          step-child _ _ _ _ _ _ _ _ _ seek o c.open-node.new.work work same _ _ goes child
          c.in-Some.ensures;
      back =
          subst (λ z. IsBackAt c.args.edge high c.args.root.now.shape child z (path ++ prefix_of s)
          (passed_on c.args.edge high c.args.root.now.shape s c.down.rest.now path passed back byte
          goes.more on seek.at.tree)) (sym goes.is)
          (back-child c.args.edge high c.args.root.now.shape s c.down.rest.now path passed back byte
          goes.more on seek.at.tree child (sym here));
      turn = there;
      deep = deep;
    }
