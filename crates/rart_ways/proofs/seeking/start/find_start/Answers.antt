use Rattle.std.proofs.Common.{◌≡◌, ◌-◌, ◌++◌, [], length, refl, take, arith, rules, sym, ap, subst, ◌∙◌}
use Rattle.rart_below.specs.Bytes.{common_length}
use Rattle.rart_node.specs.Shape.{prefix_of, children_of}
use Rattle.rart_node.specs.VersionedNodeIter.{children_left}
use Rattle.rart_ways.specs.Starts.{IsStart, AreTurns, start_shape}
use Rattle.rart_ways.proofs.SeekStartLemmas.{from_low, seek-start, ends-with-all, ends-with-none, ends-inside, inside-short, children-turns}
use Rattle.rart_ways.proofs.SeekStepLemmas.{step_passed, step-counted, step-entered, step-lower, step-missing, step-child, step-turns, step-brief, step-turn}
use Rattle.rart_ways.proofs.TurnLemmas.{found-turn}
use Rattle.rart_node.proofs.CountingLemmas.{counts-most}
use Rattle.rart_node.proofs.PrefixRestLemmas.{common_fits}
use Rattle.rart_node.proofs.PartingLemmas.{goes-on, goes-some}
use Rattle.rart_ways.proofs.seeking.start.find_start.Goals as goal

pub down-init : goal.down-init
down-init g c = record {
  path = [];
  ahead = [];
  seek =
      seek-start c.args.edge c.args.low.now c.args.root.now.shape c.args.work.now
      c.requires.tree c.requires.short;
  turn = refl;
  deep = tt;
}

pub kept_of-requires : goal.kept_of-requires
kept_of-requires g c = record {
  tree = rw c.open-node.ensures.shown c.down.invariant.seek.at.tree;
  common = search rules;
  ends = search rules;
}

pub returns-in-All : goal.returns-in-All
returns-in-All g c =
    let same : c.open-node.result.now.shape ≡ c.down.at.now.shape =
    c.open-node.ensures.shown in
    let low = c.args.low.now in
    let seek = c.down.invariant.seek in
    let work = c.open-node.ensures.work in
    let kept = rw same at c.in-All.ensures.kept in
    let way = step-counted _ _ _ _ _ _ _ _ _ seek _ _ work same in
    record {
      start = subst (IsStart (from_low c.args.edge low c.args.root.now.shape)
          (take (length low - length c.down.rest.now) low)) (sym same)
          (ends-with-all _ _ _ _ _ _ _ _ _ seek kept);
      counted = counts-most way (omega arith) (omega arith);
      soon = counts-most way (omega arith) (omega arith);
      entered = step-entered _ _ _ _ _ _ _ _ _ seek _ _ work same;
    }

pub returns-in-Inside : goal.returns-in-Inside
returns-in-Inside g c =
    let same : c.open-node.result.now.shape ≡ c.down.at.now.shape =
    c.open-node.ensures.shown in
    let seek = c.down.invariant.seek in
    let work = c.open-node.ensures.work in
    let inside = rw same at c.in-Inside.ensures.kept in
    let end = c.in-Inside.ensures.ended refl ∙ ap prefix_of same in
    let is : children_left c.iter.result ≡ children_of c.down.at.now.shape =
    c.iter.ensures.children ∙ ap children_of same in
    let turns = children-turns _ _ _ _ _ _ _ _ _ seek in
    let there = (rw is at c.turn_of.ensures.start) c.down.invariant.ahead c.down.invariant.turn
    turns (inside-short _ _ _ _ _ _ _ _ _ seek end) in
    let opens = c.open_turn.ensures in
    let done = found-turn _ _ _ _ _ (step-counted _ _ _ _ _ _ _ _ _ seek _ _ work same)
    (step-entered _ _ _ _ _ _ _ _ _ seek _ _ work same) _ _ opens.shown opens.entered opens.made
    (c.turn_of.ensures.deep c.down.invariant.deep (subst AreTurns (sym is) turns))
    (ends-inside _ _ _ _ _ _ _ _ _ seek end (start_shape c.turn_of.result) there inside) in record {
      start = done.start;
      counted = done.counted;
      soon = done.soon;
      entered = done.entered;
    }

pub returns-in-Nothing : goal.returns-in-Nothing
returns-in-Nothing g c =
    let same : c.open-node.result.now.shape ≡ c.down.at.now.shape =
    c.open-node.ensures.shown in
    let none = rw same at c.in-Nothing.ensures.kept in
    let seek = c.down.invariant.seek in
    let work = c.open-node.ensures.work in
    let opens = c.open_turn-in-Nothing.ensures in
    let done = found-turn _ _ _ _ _ (step-counted _ _ _ _ _ _ _ _ _ seek _ _ work same)
    (step-entered _ _ _ _ _ _ _ _ _ seek _ _ work same) _ _ opens.shown opens.entered opens.made
    c.down.invariant.deep
    (ends-with-none _ _ _ _ _ _ _ _ _ seek (start_shape c.down.turn) c.down.invariant.turn
    none) in record {
      start = done.start;
      counted = done.counted;
      soon = done.soon;
      entered = done.entered;
    }

pub rest_of-rest-requires : goal.rest_of-rest-requires
rest_of-rest-requires g c =
    let fits = common_fits (g.P.Partial.bytes c.prefix.result.now) c.down.rest.now in
    let is = c.prefix_length_slice-common.ensures in
    omega (arith, fits, is)

pub bounds-rest-0 : goal.bounds-rest-0
bounds-rest-0 g c =
    let o = c.open-node.result.now.shape in
    let matched : c.prefix_length_slice-common.result
    ≡ common_length (prefix_of o) c.down.rest.now = c.prefix_length_slice-common.ensures
    ∙ ap (λ p. common_length p c.down.rest.now) c.prefix.ensures in
    let long : c.len.result ≡ length (prefix_of o) =
    c.len.ensures ∙ ap length c.prefix-else-common-rest.ensures in
    let goes =
    goes-on (prefix_of o) c.down.rest.now c.rest_of-rest.result.now
    c.prefix_length_slice-common.result c.rest_of-rest.ensures matched c.if-common-rest.false
    (let most = c.if-common-len.false in omega (arith, long, most)) in
    goes-some _ _ _ _ goes

pub returns-in-None : goal.returns-in-None
returns-in-None g c =
    let o = c.open-node.result.now.shape in
    let same : o ≡ c.down.at.now.shape = c.open-node.ensures.shown in
    let matched : c.prefix_length_slice-common.result
    ≡ common_length (prefix_of o) c.down.rest.now = c.prefix_length_slice-common.ensures
    ∙ ap (λ p. common_length p c.down.rest.now) c.prefix.ensures in
    let long : c.len.result ≡ length (prefix_of o) =
    c.len.ensures ∙ ap length c.prefix-else-common-rest.ensures in
    let goes =
    goes-on (prefix_of o) c.down.rest.now c.rest_of-rest.result.now
    c.prefix_length_slice-common.result c.rest_of-rest.ensures matched c.if-common-rest.false
    (let most = c.if-common-len.false in omega (arith, long, most)) in
    let seek = c.down.invariant.seek in
    let work = c.open-node.ensures.work in
    let later = children_left c.around.result.1 in
    let turn = start_shape c.turn_of-turn.result in
    let missing = rw c.in-None.is at c.around.ensures.child in
    let turns =
    step-turns _ _ _ _ _ _ _ _ _ seek o c.open-node.new.work work same _ _ goes later
    c.around.ensures.later in
    let there =
    step-turn _ _ _ _ _ _ _ _ _ seek o c.open-node.new.work work same _ _ goes later
    c.around.ensures.later turn
    (c.turn_of-turn.ensures.start c.down.invariant.ahead c.down.invariant.turn turns
    (step-brief _ _ _ _ _ _ _ _ _ seek o c.open-node.new.work work same _ _ goes later
    c.around.ensures.later)) in
    let opens = c.open_turn-in-None.ensures in
    let done = found-turn _ _ _ _ _
    (step-counted _ _ _ _ _ _ _ _ _ seek o c.open-node.new.work work same)
    (step-entered _ _ _ _ _ _ _ _ _ seek o c.open-node.new.work work same) _ _
    opens.shown opens.entered opens.made (c.turn_of-turn.ensures.deep c.down.invariant.deep turns)
    (step-missing _ _ _ _ _ _ _ _ _ seek o c.open-node.new.work work same _ _ goes missing turn
    there) in record {
      start = done.start;
      counted = done.counted;
      soon = done.soon;
      entered = done.entered;
    }

pub down-smaller : goal.down-smaller
down-smaller g c =
    let o = c.open-node.result.now.shape in
    let same : o ≡ c.down.at.now.shape = c.open-node.ensures.shown in
    let matched : c.prefix_length_slice-common.result
    ≡ common_length (prefix_of o) c.down.rest.now = c.prefix_length_slice-common.ensures
    ∙ ap (λ p. common_length p c.down.rest.now) c.prefix.ensures in
    let long : c.len.result ≡ length (prefix_of o) =
    c.len.ensures ∙ ap length c.prefix-else-common-rest.ensures in
    let goes =
    goes-on (prefix_of o) c.down.rest.now c.rest_of-rest.result.now
    c.prefix_length_slice-common.result c.rest_of-rest.ensures matched c.if-common-rest.false
    (let most = c.if-common-len.false in omega (arith, long, most)) in
    let here = rw c.in-Some.is at c.around.ensures.child in
    step-lower _ _ _ _ _ _ _ _ _ c.down.invariant.seek o c.open-node.new.work
    c.open-node.ensures.work same _ _ goes c.in-Some.child.now.shape here

pub down-preserved : goal.down-preserved
down-preserved g c =
    let s = c.down.at.now.shape in
    let o = c.open-node.result.now.shape in
    let same : o ≡ s = c.open-node.ensures.shown in
    let matched : c.prefix_length_slice-common.result
    ≡ common_length (prefix_of o) c.down.rest.now = c.prefix_length_slice-common.ensures
    ∙ ap (λ p. common_length p c.down.rest.now) c.prefix.ensures in
    let long : c.len.result ≡ length (prefix_of o) =
    c.len.ensures ∙ ap length c.prefix-else-common-rest.ensures in
    let goes =
    goes-on (prefix_of o) c.down.rest.now c.rest_of-rest.result.now
    c.prefix_length_slice-common.result c.rest_of-rest.ensures matched c.if-common-rest.false
    (let most = c.if-common-len.false in omega (arith, long, most)) in
    let seek = c.down.invariant.seek in
    let work = c.open-node.ensures.work in
    let later = children_left c.around.result.1 in
    let turns =
    step-turns _ _ _ _ _ _ _ _ _ seek o c.open-node.new.work work same _ _ goes later
    c.around.ensures.later in
    let here = rw c.in-Some.is at c.around.ensures.child in
    record {
      path = c.down.invariant.path ++ prefix_of s;
      ahead = step_passed _ _ _ _ _ _ _ _ _ seek o c.open-node.new.work work same _ _ goes;
      seek =
          step-child _ _ _ _ _ _ _ _ _ seek o c.open-node.new.work work same _ _ goes
          c.in-Some.child.now.shape here;
      turn =
          step-turn _ _ _ _ _ _ _ _ _ seek o c.open-node.new.work work same _ _ goes later
          c.around.ensures.later (start_shape c.turn_of-turn.result)
          (c.turn_of-turn.ensures.start c.down.invariant.ahead c.down.invariant.turn turns
          (step-brief _ _ _ _ _ _ _ _ _ seek o c.open-node.new.work work same _ _ goes later
          c.around.ensures.later));
      deep = c.turn_of-turn.ensures.deep c.down.invariant.deep turns;
    }
