use Rattle.std.proofs.Common.{◌≡◌, ◌+◌, ◌≤◌, ℕ, ◌++◌, ◌∷◌, [], List, Option, Some, None, cond, is_some, length, inl, inr, refl, arith, sym, ap, subst, ◌∙◌}
use Rattle.std.specs.List.{concat}
use Rattle.std.specs.Option.{option_map, option_copied}
use Rattle.std.proofs.lemmas.List.{append-nil, length-append}
use Rattle.rart_node.specs.Counts.{Counts, CountsUpTo}
use Rattle.rart_node.specs.Shape.{prefix_of, children_of, value_of}
use Rattle.rart_node.proofs.FindLemmas.{ascending, ordered}
use Rattle.rart_walks.specs.Frames.{Pushes, segments_of, pairs_ahead}
use Rattle.rart_walks.specs.Walks.{GoesOnFirst, pending_pair}
use Rattle.rart_walks.specs.WalkFields.{nodes_open}
use Rattle.rart_walks.proofs.WalkLemmas.{took-none, taken-tree, taken-fits, taken-some, inner-pairs, inner-paths, inner-first, inner-trees, inner-short}
use Rattle.rart_walks.proofs.walk.Walk.next_node.Goals as goal

-- one node is entered, of those that are left
one-entered : (left : ℕ) (start after : Counts) → 1 ≤ left
    → after ≡ record start { entered = start.entered + 1 } → CountsUpTo left 0 start after
one-entered left start after some opens =
    let entered = ap (λ z. z.entered) opens in
    let made = ap (λ z. z.made) opens in
    record {
      entered_grows = omega (arith, entered);
      entered_at_most = omega (arith, entered, some);
      made_grows = omega (arith, made);
      made_at_most = omega (arith, made);
    }

-- none is entered
none-entered : (left : ℕ) (now : Counts) → CountsUpTo left 0 now now
none-entered left now = record {
  entered_grows = omega arith;
  entered_at_most = omega arith;
  made_grows = omega arith;
  made_at_most = omega arith;
}

-- A node has one pair of its own at most.
own-one : {V : Type 0} (path : List ℕ) (value : Option V) → length (pending_pair path value) ≤ 1
own-one path None = omega arith
own-one path (Some value) = omega arith

pub returns-in-Some : goal.returns-in-Some
returns-in-Some g c =
    let frames = nodes_open c.args.self.now in
    let path = concat (segments_of frames) in
    let given : pending_pair path (option_map (λ value. value.now) c.args.self.now.pending)
    ++ pairs_ahead frames ≡ (path, c.in-Some.value.now) ∷ pairs_ahead frames =
    ap (λ pending. pending_pair path (option_map (λ value. value.now) pending)
    ++ pairs_ahead frames) c.in-Some.is in
    let hand = ap {B = ℕ} (λ pending. cond (is_some pending) 1 0) c.in-Some.is in
    let long = ap length given in
    record {
      walk = record {
        holds_way = c.requires.walk.holds_way;
        framed = record {
          marked = c.requires.walk.framed.marked;
          innermost = c.requires.walk.framed.innermost;
        };
        trees = c.requires.walk.trees;
        short = c.requires.walk.short;
      };
      steps = record {
        pairs = given;
        first = (
          [],
          c.in-Some.value.now,
          pairs_ahead frames,
          given ∙ ap (λ key. (key, c.in-Some.value.now) ∷ pairs_ahead frames)
              (sym (append-nil path)),
        );
        place = inr (refl, refl);
      };
      refused = tt;
      entered = refl;
      counted = none-entered _ c.args.work.now;
      one = none-entered _ c.args.work.now;
      each = omega (arith, hand, long);
    }

pub returns-in_default-next_ahead : goal.returns-in_default-next_ahead
returns-in_default-next_ahead g c =
    let none = took-none _ _ c.in_default-next_ahead.ensures.spent in
    let has = c.in_default-next_ahead.ensures.none in
    record {
      walk = has.walk;
      steps = (rw c.in_default.is none.0, none.1, has.ended);
      refused = tt;
      entered =
          let left = ap length none.1 in
          let ended = ap (λ z. length z.paths) has.ended in
          omega (arith, left, ended);
      counted = none-entered _ c.args.work.now;
      one = none-entered _ c.args.work.now;
      each =
          let left = ap length none.0 in
          rw (has.pending, c.in_default.is) (omega (arith, left));
    }

pub enter_next-requires : goal.enter_next-requires
enter_next-requires g c =
    let s = c.in-Some-next_ahead.child.now.shape in
    let same : c.open-node.result.now.shape ≡ s = c.open-node.ensures.shown in
    let next = c.in-Some-next_ahead.ensures.some in
    let walk = c.requires.walk in
    let tree = taken-tree _ _ s _ next.takes walk.trees walk.short in
    λ _. (
      (refl, tt),
      (
        rw same (ascending s (ordered s tree)),
        (
          next.below,
          (
            record {
              holds = next.holds;
              short = rw same (taken-fits _ _ s _ next.takes walk.trees walk.short);
            },
            next.framed,
          ),
        ),
      ),
    )

pub returns-in-Err : goal.returns-in-Err
returns-in-Err g c =
    let s = c.in-Some-next_ahead.child.now.shape in
    let next = c.in-Some-next_ahead.ensures.some in
    let some = taken-some g.T.KeyPath.greatest _ s _ next.takes in
    record {
      walk = c.leave_all.ensures.walk;
      steps = tt;
      refused = c.leave_all.ensures.ended;
      entered = tt;
      counted = one-entered _ c.args.work.now c.open-node.new.work some
          c.open-node.ensures.work;
      one = one-entered _ c.args.work.now c.open-node.new.work (omega arith)
          c.open-node.ensures.work;
      each = tt;
    }

pub returns : goal.returns
returns g c =
    let frames = nodes_open c.args.self.now in
    let inner = nodes_open c.enter_next.new.self in
    let path = concat (segments_of inner) in
    let s = c.in-Some-next_ahead.child.now.shape in
    let same : c.open-node.result.now.shape ≡ s = c.open-node.ensures.shown in
    let next = c.in-Some-next_ahead.ensures.some in
    let walk = c.requires.walk in
    let pushes : Pushes (nodes_open c.next_ahead.new.self) (prefix_of s) (children_of s) inner =
    rw same at c.in_default-enter_next.ensures.opened in
    let still = c.enter_next.ensures.pending ∙ next.pending in
    let none : pending_pair (concat (segments_of frames))
    (option_map (λ value. value.now) c.args.self.now.pending) ++ pairs_ahead frames
    ≡ pairs_ahead frames =
    ap (λ pending. pending_pair (concat (segments_of frames))
    (option_map (λ value. value.now) pending) ++ pairs_ahead frames) c.in_default.is in
    let after : pending_pair path (option_map (λ value. value.now) c.enter_next.new.self.pending)
    ++ pairs_ahead inner ≡ pairs_ahead inner =
    ap (λ pending. pending_pair path (option_map (λ value. value.now) pending)
    ++ pairs_ahead inner) (still ∙ c.in_default.is) in
    let own : value_of s ≡ option_map (λ value. value.now) c.value.result =
    sym (c.value.ensures ∙ ap value_of same) in
    let given = none ∙ inner-pairs _ _ s _ next.takes walk.trees walk.short _ pushes
    ∙ (λ i. pending_pair path (own i) ++ sym after i) in
    let places = inner-paths _ _ s _ next.takes walk.trees walk.short _ pushes in
    let fall = ap length places in
    let one = ap (λ z. z.entered) c.open-node.ensures.work in
    record {
      walk = record {
        holds_way = c.in_default-enter_next.ensures.holds;
        framed = c.in_default-enter_next.ensures.framed;
        trees = inner-trees _ _ s _ next.takes walk.trees walk.short _ pushes;
        short = inner-short _ _ s _ next.takes walk.trees walk.short _ pushes;
      };
      steps = record {
        pairs = given;
        first = subst (GoesOnFirst path) (sym none)
            (inner-first _ _ s _ next.takes walk.trees walk.short _ pushes);
        place = inl places;
      };
      refused = tt;
      entered = omega (arith, fall, one);
      counted = one-entered _ c.args.work.now c.open-node.new.work (omega (arith, fall))
          c.open-node.ensures.work;
      one = one-entered _ c.args.work.now c.open-node.new.work (omega arith)
          c.open-node.ensures.work;
      each =
          let own = pending_pair path (option_copied c.value.result) in
          let pairs = ap length given ∙ length-append own _ in
          let most = own-one path (option_copied c.value.result) in
          let hand = ap {B = ℕ} (λ pending. cond (is_some pending) 1 0) still in
          omega (arith, pairs, most, one, hand);
    }
