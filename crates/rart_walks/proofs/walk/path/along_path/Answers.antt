use Rattle.std.proofs.Common.{inl, ◌≡◌, ◌+◌, ◌<◌, ◌≤◌, ℕ, Bool, List, Option, Some, None, filter, is_some, cond, [], length, refl, arith, sym, ap, subst, ◌∙◌}
use Rattle.std.specs.Prelude.{count_by}
use Rattle.std.proofs.lemmas.List.Sums.{length-filter}
use Rattle.std.proofs.lemmas.Result.{IfOk-from_err}
use Rattle.rart_below.specs.Bytes.{common_length}
use Rattle.rart_node.specs.Shape.{Shape, prefix_of}
use Rattle.rart_node.proofs.FindLemmas.{ascending, ordered}
use Rattle.rart_node.proofs.PrefixRestLemmas.{common_fits}
use Rattle.rart_walks.specs.Frames.{with_rest}
use Rattle.rart_walks.specs.WalkFields.{nodes_open, open_nodes}
use Rattle.rart_walks.specs.Parts.{reaches}
use Rattle.rart_walks.specs.Walks.{IsEndOf, paths_of}
use Rattle.rart_walks.proofs.EndLemmas.{end-fewer}
use Rattle.rart_node.proofs.PartingLemmas.{goes-on, goes-some}
use Rattle.rart_walks.proofs.WalkStepLemmas.{step-counted, step-entered, step-fits, step-lower, step-child, step-missing, step-trees, step-short}
use Rattle.rart_walks.proofs.PathLemmas.{IsOnWay, way-start, way-kept, way-placed}
use Rattle.rart_walks.proofs.walk.path.along_path.Goals as goal

-- How many nodes are left, where the paths are an end of those that a test keeps.
few-left : {V : Type 0} (test : List ℕ → Bool) (s : Shape V) {left : List (List ℕ)}
    → IsEndOf left (filter test (paths_of s)) → length left ≤ count_by test (paths_of s)
few-left test s end =
    let fewer = end-fewer end in
    let kept = length-filter test (paths_of s) in
    omega (arith, fewer, kept)

-- One pair is at hand at most.
hand-fits : {A : Type 0} (pending : Option A) (start now : ℕ) → start < now
    → start + cond (is_some pending) 1 0 ≤ now
hand-fits None start now less = omega (arith, less)
hand-fits (Some value) start now less = omega (arith, less)

pub down-init : goal.down-init
down-init g c =
    let root = c.args.root.now.shape in
    let new = c.new-walk.ensures in
    let none : nodes_open c.new-walk.result ≡ [] =
    λ i. with_rest (open_nodes (new.frames i)) (new.below i) in
    record {
      holds_way = new.walk.holds_way;
      way =
          subst (λ f. IsOnWay c.args.part g.T.KeyPath.greatest c.args.probe.now root c.args.work.now
          root c.args.probe.now f c.args.work.now) (sym none)
          (way-start c.args.part g.T.KeyPath.greatest c.args.probe.now root c.args.work.now
          c.requires.tree c.requires.short);
      framed = new.walk.framed;
      none = new.pending;
    }

pub returns-in_err-finish : goal.returns-in_err-finish
returns-in_err-finish g c =
    let s = c.down.at.now.shape in
    let o = c.open-node.result.now.shape in
    let same : o ≡ s = c.open-node.ensures.shown in
    let refused = c.from_residual.ensures.0 in
    record {
      walk = IfOk-from_err _ _ refused;
      pairs = IfOk-from_err _ _ refused;
      nodes = IfOk-from_err _ _ refused;
      paths = IfOk-from_err _ _ refused;
      counted = step-counted _ _ _ _ _ _ _ _ _ c.down.invariant.way o c.open-node.new.work
          c.open-node.ensures.work same;
      entered = step-entered _ _ _ _ _ _ _ _ _ c.down.invariant.way o c.open-node.new.work
          c.open-node.ensures.work same;
      at_hand = IfOk-from_err _ _ refused;
    }

pub returns-then-common-rest : goal.returns-then-common-rest
returns-then-common-rest g c =
    let s = c.down.at.now.shape in
    let o = c.open-node.result.now.shape in
    let same : o ≡ s = c.open-node.ensures.shown in
    let root = c.args.root.now.shape in
    let kept = way-kept _ _ _ _ _ _ _ _ _ c.down.invariant.way in
    let whole = way-placed _ _ _ _ _ _ _ _ _ c.down.invariant.way in
    let paths = subst (IsEndOf _) (sym whole)
    (rw same at c.in_ok-finish.ensures.paths) in
    let entered =
    step-entered _ _ _ _ _ _ _ _ _ c.down.invariant.way o c.open-node.new.work
    c.open-node.ensures.work same in
    record {
      walk = c.in_ok-finish.ensures.walk;
      pairs =
          (rw (c.down.invariant.none, same) at c.in_ok-finish.ensures.pairs) ∙ sym kept;
      nodes = few-left (reaches c.args.part c.args.probe.now) root paths;
      paths = paths;
      counted = step-counted _ _ _ _ _ _ _ _ _ c.down.invariant.way o c.open-node.new.work
          c.open-node.ensures.work same;
      entered = entered;
      at_hand = hand-fits c.finish.new.walk.pending _ _ entered;
    }

pub rest_of-rest-requires : goal.rest_of-rest-requires
rest_of-rest-requires g c =
    let fits = common_fits (g.P.Partial.bytes c.prefix.result.now) c.down.rest.now in
    let is = c.prefix_length_slice-common.ensures in
    omega (arith, fits, is)

pub bounds-rest-0 : goal.bounds-rest-0
bounds-rest-0 g c =
    let s = c.down.at.now.shape in
    let o = c.open-node.result.now.shape in
    let same : o ≡ s = c.open-node.ensures.shown in
    let matched : c.prefix_length_slice-common.result
    ≡ common_length (prefix_of o) c.down.rest.now = c.prefix_length_slice-common.ensures
    ∙ ap (λ p. common_length p c.down.rest.now) c.prefix.ensures in
    let long : c.len.result ≡ length (prefix_of o) =
    c.len.ensures ∙ ap length c.prefix-else-common-rest.ensures in
    let goes =
    goes-on (prefix_of o) c.down.rest.now c.rest_of-rest.result.now
    c.prefix_length_slice-common.result c.rest_of-rest.ensures matched c.if-common-rest.false
    (let most = c.if-common-len.false in omega (arith, long, most)) in
    goes-some _ _ _ _ goes

pub pass_node-requires : goal.pass_node-requires
pass_node-requires g c =
    let s = c.down.at.now.shape in
    let o = c.open-node.result.now.shape in
    let same : o ≡ s = c.open-node.ensures.shown in
    let way = c.down.invariant.way in
    λ _. (
      (refl, tt),
      (
        rw same (ascending s (ordered s way.at.tree)),
        (
          record {
            holds = c.down.invariant.holds_way;
            short =
                step-fits _ _ _ _ _ _ _ _ _ way o c.open-node.new.work c.open-node.ensures.work
                same _ refl;
          },
          c.down.invariant.framed,
        ),
      ),
    )

pub returns-in_err-pass_node : goal.returns-in_err-pass_node
returns-in_err-pass_node g c =
    let s = c.down.at.now.shape in
    let o = c.open-node.result.now.shape in
    let same : o ≡ s = c.open-node.ensures.shown in
    let refused = c.from_residual-in_err-pass_node.ensures.0 in
    record {
      walk = IfOk-from_err _ _ refused;
      pairs = IfOk-from_err _ _ refused;
      nodes = IfOk-from_err _ _ refused;
      paths = IfOk-from_err _ _ refused;
      counted = step-counted _ _ _ _ _ _ _ _ _ c.down.invariant.way o c.open-node.new.work
          c.open-node.ensures.work same;
      entered = step-entered _ _ _ _ _ _ _ _ _ c.down.invariant.way o c.open-node.new.work
          c.open-node.ensures.work same;
      at_hand = IfOk-from_err _ _ refused;
    }

pub returns-in-None : goal.returns-in-None
returns-in-None g c =
    let s = c.down.at.now.shape in
    let o = c.open-node.result.now.shape in
    let same : o ≡ s = c.open-node.ensures.shown in
    let matched : c.prefix_length_slice-common.result
    ≡ common_length (prefix_of o) c.down.rest.now = c.prefix_length_slice-common.ensures
    ∙ ap (λ p. common_length p c.down.rest.now) c.prefix.ensures in
    let long : c.len.result ≡ length (prefix_of o) =
    c.len.ensures ∙ ap length c.prefix-else-common-rest.ensures in
    let goes =
    goes-on (prefix_of o) c.down.rest.now c.rest_of-rest.result.now
    c.prefix_length_slice-common.result c.rest_of-rest.ensures matched c.if-common-rest.false
    (let most = c.if-common-len.false in omega (arith, long, most)) in
    let inner = nodes_open c.pass_node.new.walk in
    let missing =
    step-missing _ _ _ _ _ _ _ _ _ c.down.invariant.way o c.open-node.new.work
    c.open-node.ensures.work same _ _ goes inner c.in_ok-pass_node.ensures.opened
    c.in-None.ensures in
    let part = c.in_ok-pass_node.ensures in
    let paths = inl missing.1 in
    let entered =
    step-entered _ _ _ _ _ _ _ _ _ c.down.invariant.way o c.open-node.new.work
    c.open-node.ensures.work same in
    record {
      walk = record {
        holds_way = part.holds;
        framed = part.framed;
        trees =
            step-trees _ _ _ _ _ _ _ _ _ c.down.invariant.way o c.open-node.new.work
            c.open-node.ensures.work same _ _ goes inner part.opened;
        short =
            step-short _ _ _ _ _ _ _ _ _ c.down.invariant.way o c.open-node.new.work
            c.open-node.ensures.work same _ _ goes inner part.opened;
      };
      pairs = rw (part.pending, c.down.invariant.none) (sym missing.0);
      nodes = few-left (reaches c.args.part c.args.probe.now)
          c.args.root.now.shape paths;
      paths = paths;
      counted = step-counted _ _ _ _ _ _ _ _ _ c.down.invariant.way o c.open-node.new.work
          c.open-node.ensures.work same;
      entered = entered;
      at_hand = hand-fits c.pass_node.new.walk.pending _ _ entered;
    }

pub down-smaller : goal.down-smaller
down-smaller g c =
    let s = c.down.at.now.shape in
    let o = c.open-node.result.now.shape in
    let same : o ≡ s = c.open-node.ensures.shown in
    let matched : c.prefix_length_slice-common.result
    ≡ common_length (prefix_of o) c.down.rest.now = c.prefix_length_slice-common.ensures
    ∙ ap (λ p. common_length p c.down.rest.now) c.prefix.ensures in
    let long : c.len.result ≡ length (prefix_of o) =
    c.len.ensures ∙ ap length c.prefix-else-common-rest.ensures in
    let goes =
    goes-on (prefix_of o) c.down.rest.now c.rest_of-rest.result.now
    c.prefix_length_slice-common.result c.rest_of-rest.ensures matched c.if-common-rest.false
    (let most = c.if-common-len.false in omega (arith, long, most)) in
    step-lower _ _ _ _ _ _ _ _ _ c.down.invariant.way o c.open-node.new.work
    c.open-node.ensures.work same _ _ goes
    c.in-Some.child.now.shape c.in-Some.ensures

pub down-preserved : goal.down-preserved
down-preserved g c =
    let s = c.down.at.now.shape in
    let o = c.open-node.result.now.shape in
    let same : o ≡ s = c.open-node.ensures.shown in
    let matched : c.prefix_length_slice-common.result
    ≡ common_length (prefix_of o) c.down.rest.now = c.prefix_length_slice-common.ensures
    ∙ ap (λ p. common_length p c.down.rest.now) c.prefix.ensures in
    let long : c.len.result ≡ length (prefix_of o) =
    c.len.ensures ∙ ap length c.prefix-else-common-rest.ensures in
    let goes =
    goes-on (prefix_of o) c.down.rest.now c.rest_of-rest.result.now
    c.prefix_length_slice-common.result c.rest_of-rest.ensures matched c.if-common-rest.false
    (let most = c.if-common-len.false in omega (arith, long, most)) in
    let inner = nodes_open c.pass_node.new.walk in
    record {
      holds_way = c.in_ok-pass_node.ensures.holds;
      way =
          step-child _ _ _ _ _ _ _ _ _ c.down.invariant.way o c.open-node.new.work
          c.open-node.ensures.work same _ _ goes inner c.in_ok-pass_node.ensures.opened
          c.in-Some.child.now.shape c.in-Some.ensures;
      framed = c.in_ok-pass_node.ensures.framed;
      none = c.in_ok-pass_node.ensures.pending ∙ c.down.invariant.none;
    }
