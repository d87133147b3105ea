use Rattle.std.proofs.Common.{◌≡◌, ◌++◌, ◌∷◌, [], None, cond, length, reverse, arith, refl, sym, ap, subst, ◌∙◌}
use Rattle.std.specs.Prelude.{slice_index_or}
use Rattle.std.proofs.lemmas.Result.{IfOk-from_err}
use Rattle.rart_below.specs.Bytes.{common_length}
use Rattle.rart_below.specs.Children.{child_at, children_below}
use Rattle.rart_node.specs.Shape.{prefix_of, value_of, children_of}
use Rattle.rart_node.specs.Trees.{pairs_of}
use Rattle.rart_node.proofs.PrefixRestLemmas.{common_fits}
use Rattle.rart_node.proofs.SearchLemmas.{IsSearchAt, search-child, search-counted, search-entered, search-lower}
use Rattle.rart_walks.specs.BackFields.{open_back}
use Rattle.rart_walks.specs.BackFrames.{back_segments}
use Rattle.rart_walks.specs.Fronts.{has_lower, keeps, passed_frame, reached_frames}
use Rattle.rart_walks.specs.Walks.{AreShort}
use Rattle.rart_walks.proofs.BackWayLemmas.{IsOnWayBack, back-child, back-ended, back-missing, back-start, short-kept}
use Rattle.rart_node.proofs.PartingLemmas.{goes-on, goes-some}
use Rattle.rart_walks.proofs.WalkLemmas.{path-fits}
use Rattle.rart_walks.proofs.walk_back.path.along_path.Goals as goal

pub down-init : goal.down-init
down-init g c =
    let root = c.args.root.now.shape in
    record {
      holds_way = rw c.new-walk.ensures.leaf at c.new-walk.ensures.walk.holds_way;
      way =
          subst (λ f. IsOnWayBack c.args.part g.T.KeyPath.greatest c.args.probe.now root
          c.args.work.now root c.args.probe.now f c.args.work.now) (sym c.new-walk.ensures.frames)
          (back-start c.args.part g.T.KeyPath.greatest c.args.probe.now root c.args.work.now
          c.requires.tree c.requires.short);
      leaf = c.new-walk.ensures.leaf;
    }

pub returns-in_err-enter_reached : goal.returns-in_err-enter_reached
returns-in_err-enter_reached g c =
    let s = c.down.at.now.shape in
    let o = c.open-node.result.now.shape in
    let same : o ≡ s = c.open-node.ensures.shown in
    let refused = c.from_residual.ensures.0 in
    record {
      walk = IfOk-from_err _ _ refused;
      pairs = IfOk-from_err _ _ refused;
      few = IfOk-from_err _ _ refused;
      counted = search-counted _ _ _ s o _ _ c.open-node.new.work c.down.invariant.way.at
          c.open-node.ensures.work same;
      entered = search-entered _ _ _ s o _ _ c.open-node.new.work c.down.invariant.way.at
          c.open-node.ensures.work same;
      at_hand = IfOk-from_err _ _ refused;
    }

pub returns-then-common-rest : goal.returns-then-common-rest
returns-then-common-rest g c =
    let s = c.down.at.now.shape in
    let o = c.open-node.result.now.shape in
    let same : o ≡ s = c.open-node.ensures.shown in
    let frames = open_back c.down.walk.frames.items in
    let reached = c.reached_of.result in
    let pairs = rw same at c.reached_of.ensures.pairs in
    let paths = rw same at c.reached_of.ensures.paths in
    let opens = ap (λ z. z.entered) c.open-node.ensures.work in
    let front =
    back-ended _ _ _ _ _ _ _ _ _ c.down.invariant.way reached pairs paths c.open-node.new.work
    opens in
    let enters = c.in_ok-enter_reached.ensures in
    let none = enters.leaf ∙ c.down.invariant.leaf in
    let is : open_back c.enter_reached.new.walk.frames.items ≡ frames ++ reached_frames reached s =
    enters.frames ∙ ap (λ z. frames ++ reached_frames reached z) same in
    record {
      walk = record {
        holds_way = rw none enters.holds;
        trees = rw (none, is) front.trees;
        short =
            rw (none, is)
            (subst (AreShort g.T.KeyPath.greatest) front.pairs
            (short-kept g.T.KeyPath.greatest (keeps c.args.part c.args.probe.now)
            (pairs_of c.args.root.now.shape) c.requires.short));
      };
      pairs = rw (none, is) (ap reverse (sym front.pairs));
      few = rw (none, is) front.few;
      counted = search-counted _ _ _ s o _ _ c.open-node.new.work c.down.invariant.way.at
          c.open-node.ensures.work same;
      entered = search-entered _ _ _ s o _ _ c.open-node.new.work c.down.invariant.way.at
          c.open-node.ensures.work same;
      at_hand = rw (none, is) front.owns;
    }

pub rest_of-rest-requires : goal.rest_of-rest-requires
rest_of-rest-requires g c =
    let fits = common_fits (g.P.Partial.bytes c.prefix.result.now) c.down.rest.now in
    let is = c.prefix_length_slice-common.ensures in
    omega (arith, fits, is)

pub bounds-rest-0 : goal.bounds-rest-0
bounds-rest-0 g c =
    let s = c.down.at.now.shape in
    let o = c.open-node.result.now.shape in
    let same : o ≡ s = c.open-node.ensures.shown in
    let matched : c.prefix_length_slice-common.result
    ≡ common_length (prefix_of o) c.down.rest.now = c.prefix_length_slice-common.ensures
    ∙ ap (λ p. common_length p c.down.rest.now) c.prefix.ensures in
    let long : c.len.result ≡ length (prefix_of o) =
    c.len.ensures ∙ ap length c.prefix-else-common-rest.ensures in
    let goes =
    goes-on (prefix_of o) c.down.rest.now c.rest_of-rest.result.now
    c.prefix_length_slice-common.result c.rest_of-rest.ensures matched c.if-common-rest.false
    (let most = c.if-common-len.false in omega (arith, long, most)) in
    goes-some _ _ _ _ goes

pub enter_part-requires : goal.enter_part-requires
enter_part-requires g c =
    let s = c.down.at.now.shape in
    let o = c.open-node.result.now.shape in
    let same : o ≡ s = c.open-node.ensures.shown in
    let way = c.down.invariant.way in
    λ _. (
      (refl, tt),
      (
        c.down.invariant.holds_way,
        rw (c.as_ref.ensures, c.prefix-in-down.ensures, same)
            (path-fits (back_segments (open_back c.down.walk.frames.items)) s g.T.KeyPath.greatest
            way.at.tree way.short),
      ),
    )

pub returns-in_err-enter_part : goal.returns-in_err-enter_part
returns-in_err-enter_part g c =
    let s = c.down.at.now.shape in
    let o = c.open-node.result.now.shape in
    let same : o ≡ s = c.open-node.ensures.shown in
    let refused = c.from_residual-in_err-enter_part.ensures.0 in
    record {
      walk = IfOk-from_err _ _ refused;
      pairs = IfOk-from_err _ _ refused;
      few = IfOk-from_err _ _ refused;
      counted = search-counted _ _ _ s o _ _ c.open-node.new.work c.down.invariant.way.at
          c.open-node.ensures.work same;
      entered = search-entered _ _ _ s o _ _ c.open-node.new.work c.down.invariant.way.at
          c.open-node.ensures.work same;
      at_hand = IfOk-from_err _ _ refused;
    }

pub returns-in-None : goal.returns-in-None
returns-in-None g c =
    let s = c.down.at.now.shape in
    let o = c.open-node.result.now.shape in
    let same : o ≡ s = c.open-node.ensures.shown in
    let matched : c.prefix_length_slice-common.result
    ≡ common_length (prefix_of o) c.down.rest.now = c.prefix_length_slice-common.ensures
    ∙ ap (λ p. common_length p c.down.rest.now) c.prefix.ensures in
    let long : c.len.result ≡ length (prefix_of o) =
    c.len.ensures ∙ ap length c.prefix-else-common-rest.ensures in
    let goes =
    goes-on (prefix_of o) c.down.rest.now c.rest_of-rest.result.now
    c.prefix_length_slice-common.result c.rest_of-rest.ensures matched c.if-common-rest.false
    (let most = c.if-common-len.false in omega (arith, long, most)) in
    let part = c.args.part in
    let byte = slice_index_or c.rest_of-rest.result.now 0 0 in
    let frames = open_back c.down.walk.frames.items in
    let segment = c.as_ref.ensures ∙ c.prefix-in-down.ensures ∙ ap prefix_of same in
    let own = c.earlier_own-own.ensures
    ∙ ap (λ t. cond t (value_of o) None) c.has_lower.ensures
    ∙ ap (λ z. cond (has_lower part) (value_of z) None) same in
    let children = c.earlier_children-children.ensures
    ∙ ap (λ t. cond t (children_below byte (children_of o)) []) c.has_lower-in-down.ensures
    ∙ ap (λ z. cond (has_lower part) (children_below byte (children_of z)) []) same in
    let enters = c.in_ok-enter_part.ensures in
    let is : open_back c.enter_part.new.self.frames.items
    ≡ frames ++ passed_frame part s byte ∷ [] = enters.frames
    ∙ (λ i. frames ++ (segment i, own i, children i) ∷ []) in
    let whole : c.down.rest.now ≡ prefix_of s ++ (byte ∷ goes.more) =
    goes.whole ∙ ap (λ z. prefix_of z ++ (byte ∷ goes.more)) same in
    let opens = ap (λ z. z.entered) c.open-node.ensures.work in
    let missing = sym (c.in-None.ensures ∙ ap (λ z. child_at byte (children_of z)) same) in
    let front =
    back-missing _ _ _ _ _ _ _ _ _ c.down.invariant.way byte goes.more whole missing
    c.open-node.new.work opens in
    let none = enters.leaf ∙ c.down.invariant.leaf in
    record {
      walk = record {
        holds_way = rw none enters.holds;
        trees = rw (none, is) front.trees;
        short =
            rw (none, is)
            (subst (AreShort g.T.KeyPath.greatest) front.pairs
            (short-kept g.T.KeyPath.greatest (keeps c.args.part c.args.probe.now)
            (pairs_of c.args.root.now.shape) c.requires.short));
      };
      pairs = rw (none, is) (ap reverse (sym front.pairs));
      few = rw (none, is) front.few;
      counted = search-counted _ _ _ s o _ _ c.open-node.new.work c.down.invariant.way.at
          c.open-node.ensures.work same;
      entered = search-entered _ _ _ s o _ _ c.open-node.new.work c.down.invariant.way.at
          c.open-node.ensures.work same;
      at_hand = rw (none, is) front.owns;
    }

pub down-smaller : goal.down-smaller
down-smaller g c =
    let s = c.down.at.now.shape in
    let o = c.open-node.result.now.shape in
    let same : o ≡ s = c.open-node.ensures.shown in
    let matched : c.prefix_length_slice-common.result
    ≡ common_length (prefix_of o) c.down.rest.now = c.prefix_length_slice-common.ensures
    ∙ ap (λ p. common_length p c.down.rest.now) c.prefix.ensures in
    let long : c.len.result ≡ length (prefix_of o) =
    c.len.ensures ∙ ap length c.prefix-else-common-rest.ensures in
    let goes =
    goes-on (prefix_of o) c.down.rest.now c.rest_of-rest.result.now
    c.prefix_length_slice-common.result c.rest_of-rest.ensures matched c.if-common-rest.false
    (let most = c.if-common-len.false in omega (arith, long, most)) in
    search-lower _ _ _ s o _ _ c.open-node.new.work c.down.invariant.way.at
    c.open-node.ensures.work same (prefix_of o) refl c.rest_of-rest.result.now goes.strips _
    goes.next c.in-Some.child.now.shape c.in-Some.ensures

pub down-preserved : goal.down-preserved
down-preserved g c =
    let s = c.down.at.now.shape in
    let o = c.open-node.result.now.shape in
    let same : o ≡ s = c.open-node.ensures.shown in
    let matched : c.prefix_length_slice-common.result
    ≡ common_length (prefix_of o) c.down.rest.now = c.prefix_length_slice-common.ensures
    ∙ ap (λ p. common_length p c.down.rest.now) c.prefix.ensures in
    let long : c.len.result ≡ length (prefix_of o) =
    c.len.ensures ∙ ap length c.prefix-else-common-rest.ensures in
    let goes =
    goes-on (prefix_of o) c.down.rest.now c.rest_of-rest.result.now
    c.prefix_length_slice-common.result c.rest_of-rest.ensures matched c.if-common-rest.false
    (let most = c.if-common-len.false in omega (arith, long, most)) in
    let part = c.args.part in
    let byte = slice_index_or c.rest_of-rest.result.now 0 0 in
    let frames = open_back c.down.walk.frames.items in
    let segment = c.as_ref.ensures ∙ c.prefix-in-down.ensures ∙ ap prefix_of same in
    let own = c.earlier_own-own.ensures
    ∙ ap (λ t. cond t (value_of o) None) c.has_lower.ensures
    ∙ ap (λ z. cond (has_lower part) (value_of z) None) same in
    let children = c.earlier_children-children.ensures
    ∙ ap (λ t. cond t (children_below byte (children_of o)) []) c.has_lower-in-down.ensures
    ∙ ap (λ z. cond (has_lower part) (children_below byte (children_of z)) []) same in
    let enters = c.in_ok-enter_part.ensures in
    let is : open_back c.enter_part.new.self.frames.items
    ≡ frames ++ passed_frame part s byte ∷ [] = enters.frames
    ∙ (λ i. frames ++ (segment i, own i, children i) ∷ []) in
    let whole : c.down.rest.now ≡ prefix_of s ++ (byte ∷ goes.more) =
    goes.whole ∙ ap (λ z. prefix_of z ++ (byte ∷ goes.more)) same in
    let opens = ap (λ z. z.entered) c.open-node.ensures.work in
    let child = c.in-Some.child.now.shape in
    let after = c.open-node.new.work in
    let root = c.args.root.now.shape in
    let at =
    subst (λ z. IsSearchAt root c.args.probe.now c.args.work.now child z after) goes.is
    (search-child _ _ _ s o _ _ after c.down.invariant.way.at c.open-node.ensures.work same
    (prefix_of o) refl c.rest_of-rest.result.now goes.strips byte goes.next child
    c.in-Some.ensures) in
    let here = sym (c.in-Some.ensures ∙ ap (λ z. child_at byte (children_of z)) same) in
    let there =
    back-child _ _ _ _ _ _ _ _ _ c.down.invariant.way byte goes.more whole child after opens at
    here in
    record {
      holds_way = enters.holds;
      way =
          subst (λ f. IsOnWayBack part g.T.KeyPath.greatest c.args.probe.now root c.args.work.now
          child c.rest_of-rest.result.now f after) (sym is)
          (subst (λ z. IsOnWayBack part g.T.KeyPath.greatest c.args.probe.now root
          c.args.work.now child z (frames ++ passed_frame part s byte ∷ []) after) (sym goes.is)
          there);
      leaf = enters.leaf ∙ c.down.invariant.leaf;
    }
