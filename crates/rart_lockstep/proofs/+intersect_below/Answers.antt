use Rattle.std.proofs.Common.{◌≡◌, ◌∷◌, [], ◌++◌, take, drop, sym, ap, subst, ◌∙◌, ⊎_elim, inl, inr, arith}
use Rattle.std.specs.List.{concat}
use Rattle.rart_maps.specs.Visits.{Answers, CallableInTurn}
use Rattle.rart_maps.proofs.VisitLemmas.{up_to-start}
use Rattle.rart_node.specs.Shape.{IsAscending, prefix_of}
use Rattle.rart_lockstep.specs.Children.{common_children}
use Rattle.rart_lockstep.specs.Endings.{LeavesBy}
use Rattle.rart_lockstep.specs.CommonPairs.{common_pairs}
use Rattle.rart_lockstep.specs.Entries.{behind_key, entry_here}
use Rattle.rart_lockstep.specs.TreeCursors.{behind_bytes, next_children, children_next}
use Rattle.rart_lockstep.proofs.EnterLemmas.{EntersUpTo, enters-none, enters-start, enters-next, enters-past, enters-end}
use Rattle.rart_lockstep.proofs.LockstepLemmas.{IsIntersection, here-visitable, here-ended, on_common_key-start, next-may, on_common_key-next, on_common_key-ended, visits-apart, push-admits, step-lower, enters-still, tree-ascending}
use Rattle.rart_lockstep.proofs.EndingLemmas.{have-ended}
use Rattle.rart_lockstep.proofs.LeastCountLemmas.{EntersLeast, least-start, least-next, least-end, least-apart, least-leaves, least-refused}
use Rattle.rart_lockstep.proofs.PairStepLemmas.{count-left, count-right, one-ends, tree-with}
use Rattle.rart_lockstep.proofs.+intersect_below.Goals as goal

pub returns-in_default-clause-met : goal.returns-in_default-clause-met
returns-in_default-clause-met g t c =
    let s = g.J.PairCursor.left c.args.at in
    let t = g.J.PairCursor.right c.args.at in
    λ segments holds. (
      visits-apart g.J.OnCommonKey.calls g.J.OnCommonKey.Shows g.J.OnCommonKey.goes s t
          (concat segments) _ c.in_default.ensures,
      holds,
    )

pub returns-in_default-clause-enters : goal.returns-in_default-clause-enters
returns-in_default-clause-enters g t c =
    enters-none (g.J.PairCursor.left c.args.at) (g.J.PairCursor.right c.args.at) c.requires.left
    c.requires.right c.args.work.now

pub push-requires-clause-inside : goal.push-requires-clause-inside
push-requires-clause-inside g t c =
    count-left (g.J.PairCursor.left c.args.at) (g.J.PairCursor.right c.args.at) _ c.in-Some.ensures

pub push-requires-clause-short : goal.push-requires-clause-short
push-requires-clause-short g t c =
    let may = c.requires.meets in (
      may.0,
      may.1,
      push-admits g.J.PairCursor.greatest may.0 (g.J.PairCursor.left c.args.at) _
          c.requires.left may.2,
    )

pub returns-in-Err-clause-met : goal.returns-in-Err-clause-met
returns-in-Err-clause-met g t c =
    λ segments holds.
    let calls = g.J.OnCommonKey.calls in
    let Shows = g.J.OnCommonKey.Shows in
    let goes = g.J.OnCommonKey.goes in
    let all = behind_key (concat segments)
    (common_pairs (g.J.PairCursor.left c.args.at) (g.J.PairCursor.right c.args.at)) in (
      subst (λ by. LeavesBy calls Shows goes by c.args.f.now all c.args.f.now)
          (sym c.refused.ensures) (all, up_to-start calls Shows goes c.args.f.now all),
      tt,
    )

pub returns-in-Err-clause-enters : goal.returns-in-Err-clause-enters
returns-in-Err-clause-enters g t c =
    enters-none (g.J.PairCursor.left c.args.at) (g.J.PairCursor.right c.args.at) c.requires.left
    c.requires.right c.args.work.now

pub behind-next-requires-clause-left_inside : goal.behind-next-requires-clause-left_inside
behind-next-requires-clause-left_inside g t c =
    count-left (g.J.PairCursor.left c.args.at) (g.J.PairCursor.right c.args.at) _ c.in-Some.ensures

pub behind-next-requires-clause-right_inside : goal.behind-next-requires-clause-right_inside
behind-next-requires-clause-right_inside g t c =
    count-right (g.J.PairCursor.left c.args.at) (g.J.PairCursor.right c.args.at) _ c.in-Some.ensures

pub meet-requires : goal.meet-requires
meet-requires g t c =
    let s = g.J.PairCursor.left c.args.at in
    let t = g.J.PairCursor.right c.args.at in
    let calls = g.J.OnCommonKey.calls in
    let Shows = g.J.OnCommonKey.Shows in
    let goes = g.J.OnCommonKey.goes in
    let may = c.requires.meets in
    let start = take c.in-Some.common (prefix_of s) in
    let path = concat (may.0 ++ start ∷ []) in
    let next = c.behind-next.ensures in
    let here = here-visitable calls Shows goes g.J.PairCursor.holds s t c.in-Some.common
    c.in-Some.ensures
    c.requires.left c.requires.right may.0 _ may.3 in
    record {
      visitable = (
        may.0 ++ start ∷ [],
        c.in-Ok.ensures.keeps may.0 may.1,
        push-admits g.J.PairCursor.greatest may.0 s _ c.requires.left may.2,
        subst (CallableInTurn calls Shows goes c.args.f.now)
            (λ i. entry_here path (sym next.left i) (sym next.right i)) here,
      );
    }

pub returns-in_err-meet-clause-met : goal.returns-in_err-meet-clause-met
returns-in_err-meet-clause-met g t c =
    λ segments holds.
    let s = g.J.PairCursor.left c.args.at in
    let t = g.J.PairCursor.right c.args.at in
    let calls = g.J.OnCommonKey.calls in
    let Shows = g.J.OnCommonKey.Shows in
    let goes = g.J.OnCommonKey.goes in
    let told = g.J.OnCommonKey.told in
    let broken = c.in_err-meet.field-0.0 in
    let start = take c.in-Some.common (prefix_of s) in
    let path = concat (segments ++ start ∷ []) in
    let next = c.behind-next.ensures in
    let ends = c.in_err-meet.ensures.visits (segments ++ start ∷ [])
    (c.in-Ok.ensures.keeps segments holds) in
    let here = subst
    (λ entries. LeavesBy calls Shows goes (told broken) c.args.f.now entries c.meet.new.f)
    (λ i. entry_here path (next.left i) (next.right i)) ends in
    have-ended calls Shows goes told _ _ _ _ c.from_residual.result broken
    c.from_residual.ensures.0 c.from_residual.ensures.1
    (here-ended calls Shows goes g.J.PairCursor.holds s t c.in-Some.common c.in-Some.ensures
    c.requires.left c.requires.right (told broken) segments _ _ here)

pub returns-in_err-meet-clause-enters : goal.returns-in_err-meet-clause-enters
returns-in_err-meet-clause-enters g t c =
    enters-none (g.J.PairCursor.left c.args.at) (g.J.PairCursor.right c.args.at) c.requires.left
    c.requires.right c.args.work.now

pub branches-branches-requires-clause-right : goal.branches-branches-requires-clause-right
branches-branches-requires-clause-right g t c =
    let t = g.J.PairCursor.right c.args.at in
    let there = tree-with t (drop c.in-Some.common (prefix_of t)) c.requires.right in
    subst IsAscending (sym c.behind-next.ensures.right)
    (tree-ascending _ there)

pub branches-branches-requires-clause-ended : goal.branches-branches-requires-clause-ended
branches-branches-requires-clause-ended g t c =
    let s = g.J.PairCursor.left c.args.at in
    let t = g.J.PairCursor.right c.args.at in
    let next = c.behind-next.ensures in
    ⊎_elim (λ is. inl (ap prefix_of next.left ∙ is)) (λ is. inr (ap prefix_of next.right ∙ is))
    (one-ends s t c.in-Some.common c.in-Some.ensures)

pub branches-init : goal.branches-init
branches-init g t c =
    let s = g.J.PairCursor.left c.args.at in
    let t = g.J.PairCursor.right c.args.at in
    let calls = g.J.OnCommonKey.calls in
    let Shows = g.J.OnCommonKey.Shows in
    let goes = g.J.OnCommonKey.goes in
    let count = c.in-Some.common in
    let start = take count (prefix_of s) in
    let x = behind_bytes count s in
    let y = behind_bytes count t in
    let next = c.behind-next.ensures in
    let left : g.J.PairCursor.branches_left c.branches-branches.result
    ≡ common_children (next_children x) (next_children y) =
    c.branches-branches.ensures.steps
    ∙ (λ i. common_children (next_children (next.left i)) (next_children (next.right i))) in
    record {
      on_common_key = subst (λ left. IsIntersection calls Shows goes g.J.PairCursor.holds s t count
          c.args.key_path.now
          c.args.f.now left c.push.new.key_path c.meet.new.f) (sym left)
          (on_common_key-start calls Shows goes g.J.PairCursor.holds s t count c.in-Some.ensures
          c.requires.left
          c.requires.right _ _ _ _ c.in-Ok.ensures.keeps
          (λ segments holds.
          subst (λ entries. Answers calls Shows goes c.args.f.now entries c.meet.new.f)
          (λ i. entry_here (concat (segments ++ start ∷ [])) (next.left i) (next.right i))
          (c.in_ok-meet.ensures.visits (segments ++ start ∷ [])
          (c.in-Ok.ensures.keeps segments holds))));
      entered = subst (λ left. EntersUpTo x y
          (common_children (next_children x) (next_children y)) left
          c.args.work.now c.args.work.now) (sym left)
          (enters-start x y (common_children (next_children x) (next_children y)) c.args.work.now);
      common = c.in-Some.ensures;
      nodes = c.branches-branches.ensures.nodes
          ∙ (λ i. children_next (prefix_of (next.left i)) (prefix_of (next.right i)));
      least = subst (λ left. EntersLeast s t count left c.args.work.now c.args.work.now) (sym left)
          (least-start s t count c.in-Some.ensures c.requires.left c.args.work.now);
    }

pub branches-preserved-then-parts_early : goal.branches-preserved-then-parts_early
branches-preserved-then-parts_early g t c =
    let s = g.J.PairCursor.left c.args.at in
    let t = g.J.PairCursor.right c.args.at in
    let calls = g.J.OnCommonKey.calls in
    let Shows = g.J.OnCommonKey.Shows in
    let goes = g.J.OnCommonKey.goes in
    let holds = g.J.PairCursor.holds in
    let count = c.in-Some.common in
    let x = g.J.PairCursor.left c.in-Some-next.below in
    let y = g.J.PairCursor.right c.in-Some-next.below in
    let rest = g.J.PairCursor.branches_left c.next.new.branches in
    let takes = c.in-Some-next.ensures.takes in
    let here = subst (λ left. IsIntersection calls Shows goes holds s t count c.args.key_path.now
    c.args.f.now
    left c.branches.key_path c.branches.f) takes.1 c.branches.invariant.on_common_key in
    let all = common_children (next_children (behind_bytes count s))
    (next_children (behind_bytes count t)) in
    let so_far = subst (λ left. EntersUpTo (behind_bytes count s) (behind_bytes count t) all left
    c.args.work.now c.branches.work) takes.1 c.branches.invariant.entered in
    let apart = c.parts_early.ensures c.if-parts_early.true in
    record {
      on_common_key = on_common_key-next calls Shows goes holds s t count c.in-Some.ensures
          c.requires.left
          c.requires.right g.J.OnCommonKey.told c.args.key_path.now c.branches.key_path c.branches.key_path c.args.f.now
          c.branches.f c.branches.f takes.0 x y rest here
          (λ segments held. (
            visits-apart calls Shows goes x y (concat segments) c.branches.f apart,
            held,
          ));
      entered = enters-past (behind_bytes count s) (behind_bytes count t) all rest takes.0 x y
          c.args.work.now c.branches.work c.next.new.work so_far here.pairs.0.0 here.pairs.0.1
          c.in-Some-next.ensures.counted;
      common = c.in-Some.ensures;
      nodes = c.in-Some-next.ensures.nodes ∙ c.branches.invariant.nodes;
      least = least-next s t count takes.0 x y rest _ c.args.work.now c.branches.work
          c.next.new.work c.next.new.work c.branches.invariant.nodes
          (subst (λ left. EntersLeast s t count left c.args.work.now c.branches.work) takes.1
          c.branches.invariant.least) c.in-Some-next.ensures.entered
          (least-apart x y apart c.next.new.work);
    }

pub intersect_leaves-requires-clause-meets : goal.intersect_leaves-requires-clause-meets
intersect_leaves-requires-clause-meets g t c =
    let s = g.J.PairCursor.left c.args.at in
    let t = g.J.PairCursor.right c.args.at in
    let calls = g.J.OnCommonKey.calls in
    let Shows = g.J.OnCommonKey.Shows in
    let goes = g.J.OnCommonKey.goes in
    let holds = g.J.PairCursor.holds in
    let count = c.in-Some.common in
    let x = g.J.PairCursor.left c.in-Some-next.below in
    let y = g.J.PairCursor.right c.in-Some-next.below in
    let rest = g.J.PairCursor.branches_left c.next.new.branches in
    let takes = c.in-Some-next.ensures.takes in
    let here = subst (λ left. IsIntersection calls Shows goes holds s t count c.args.key_path.now
    c.args.f.now
    left c.branches.key_path c.branches.f) takes.1 c.branches.invariant.on_common_key in
    next-may calls Shows goes holds s t count c.in-Some.ensures c.requires.left
    c.requires.right g.J.PairCursor.greatest c.args.key_path.now c.branches.key_path c.args.f.now
    c.branches.f
    takes.0 x y rest c.requires.meets here

pub branches-preserved-then-are_leaves : goal.branches-preserved-then-are_leaves
branches-preserved-then-are_leaves g t c =
    let s = g.J.PairCursor.left c.args.at in
    let t = g.J.PairCursor.right c.args.at in
    let calls = g.J.OnCommonKey.calls in
    let Shows = g.J.OnCommonKey.Shows in
    let goes = g.J.OnCommonKey.goes in
    let holds = g.J.PairCursor.holds in
    let count = c.in-Some.common in
    let x = g.J.PairCursor.left c.in-Some-next.below in
    let y = g.J.PairCursor.right c.in-Some-next.below in
    let rest = g.J.PairCursor.branches_left c.next.new.branches in
    let takes = c.in-Some-next.ensures.takes in
    let here = subst (λ left. IsIntersection calls Shows goes holds s t count c.args.key_path.now
    c.args.f.now
    left c.branches.key_path c.branches.f) takes.1 c.branches.invariant.on_common_key in
    let all = common_children (next_children (behind_bytes count s))
    (next_children (behind_bytes count t)) in
    let so_far = subst (λ left. EntersUpTo (behind_bytes count s) (behind_bytes count t) all left
    c.args.work.now c.branches.work) takes.1 c.branches.invariant.entered in
    record {
      on_common_key = on_common_key-next calls Shows goes holds s t count c.in-Some.ensures
          c.requires.left
          c.requires.right g.J.OnCommonKey.told c.args.key_path.now c.branches.key_path c.intersect_leaves.new.key_path
          c.args.f.now
          c.branches.f c.intersect_leaves.new.f takes.0 x y rest here
          c.in_ok-intersect_leaves.ensures.met;
      entered = enters-past (behind_bytes count s) (behind_bytes count t) all rest takes.0 x y
          c.args.work.now c.branches.work c.next.new.work so_far here.pairs.0.0 here.pairs.0.1
          c.in-Some-next.ensures.counted;
      common = c.in-Some.ensures;
      nodes = c.in-Some-next.ensures.nodes ∙ c.branches.invariant.nodes;
      least = least-next s t count takes.0 x y rest _ c.args.work.now c.branches.work
          c.next.new.work c.next.new.work c.branches.invariant.nodes
          (subst (λ left. EntersLeast s t count left c.args.work.now c.branches.work) takes.1
          c.branches.invariant.least) c.in-Some-next.ensures.entered
          (least-leaves x y (c.are_leaves.ensures.left c.if-are_leaves.true) c.next.new.work);
    }

pub returns-in_err-intersect_leaves-clause-met : goal.returns-in_err-intersect_leaves-clause-met
returns-in_err-intersect_leaves-clause-met g t c =
    λ segments held.
    let s = g.J.PairCursor.left c.args.at in
    let t = g.J.PairCursor.right c.args.at in
    let calls = g.J.OnCommonKey.calls in
    let Shows = g.J.OnCommonKey.Shows in
    let goes = g.J.OnCommonKey.goes in
    let holds = g.J.PairCursor.holds in
    let count = c.in-Some.common in
    let x = g.J.PairCursor.left c.in-Some-next.below in
    let y = g.J.PairCursor.right c.in-Some-next.below in
    let rest = g.J.PairCursor.branches_left c.next.new.branches in
    let takes = c.in-Some-next.ensures.takes in
    let here = subst (λ left. IsIntersection calls Shows goes holds s t count c.args.key_path.now
    c.args.f.now
    left c.branches.key_path c.branches.f) takes.1 c.branches.invariant.on_common_key in
    have-ended calls Shows goes g.J.OnCommonKey.told _ _ _ _ c.from_residual-in_err-intersect_leaves.result
    c.in_err-intersect_leaves.field-0.0 c.from_residual-in_err-intersect_leaves.ensures.0
    c.from_residual-in_err-intersect_leaves.ensures.1
    (on_common_key-ended calls Shows goes holds s t count c.in-Some.ensures c.requires.left
    c.requires.right g.J.OnCommonKey.told _ c.args.key_path.now c.branches.key_path c.intersect_leaves.new.key_path
    c.args.f.now
    c.branches.f c.intersect_leaves.new.f takes.0 x y rest here
    c.in_err-intersect_leaves.ensures.met segments
    held)

pub returns-in_err-intersect_leaves-clause-enters :
    goal.returns-in_err-intersect_leaves-clause-enters
returns-in_err-intersect_leaves-clause-enters g t c =
    let s = g.J.PairCursor.left c.args.at in
    let t = g.J.PairCursor.right c.args.at in
    let calls = g.J.OnCommonKey.calls in
    let Shows = g.J.OnCommonKey.Shows in
    let goes = g.J.OnCommonKey.goes in
    let holds = g.J.PairCursor.holds in
    let count = c.in-Some.common in
    let x = g.J.PairCursor.left c.in-Some-next.below in
    let y = g.J.PairCursor.right c.in-Some-next.below in
    let rest = g.J.PairCursor.branches_left c.next.new.branches in
    let takes = c.in-Some-next.ensures.takes in
    let here = subst (λ left. IsIntersection calls Shows goes holds s t count c.args.key_path.now
    c.args.f.now
    left c.branches.key_path c.branches.f) takes.1 c.branches.invariant.on_common_key in
    let all = common_children (next_children (behind_bytes count s))
    (next_children (behind_bytes count t)) in
    let so_far = subst (λ left. EntersUpTo (behind_bytes count s) (behind_bytes count t) all left
    c.args.work.now c.branches.work) takes.1 c.branches.invariant.entered in
    enters-end s t c.requires.left c.requires.right count rest c.args.work.now c.next.new.work
    c.in-Some.ensures.0
    (enters-past (behind_bytes count s) (behind_bytes count t) all rest takes.0 x y
    c.args.work.now c.branches.work c.next.new.work so_far here.pairs.0.0 here.pairs.0.1
    c.in-Some-next.ensures.counted)

pub intersect_below-requires : goal.intersect_below-requires
intersect_below-requires g t c κs within =
    let s = g.J.PairCursor.left c.args.at in
    let t = g.J.PairCursor.right c.args.at in
    let calls = g.J.OnCommonKey.calls in
    let Shows = g.J.OnCommonKey.Shows in
    let goes = g.J.OnCommonKey.goes in
    let holds = g.J.PairCursor.holds in
    let count = c.in-Some.common in
    let x = g.J.PairCursor.left c.in-Some-next.below in
    let y = g.J.PairCursor.right c.in-Some-next.below in
    let rest = g.J.PairCursor.branches_left c.next.new.branches in
    let takes = c.in-Some-next.ensures.takes in
    let here = subst (λ left. IsIntersection calls Shows goes holds s t count c.args.key_path.now
    c.args.f.now
    left c.branches.key_path c.branches.f) takes.1 c.branches.invariant.on_common_key in
    let left = here.pairs.0.0 in
    let right = here.pairs.0.1 in
    let lower = step-lower s t count takes.0 x y c.in-Some.ensures left right in
    let may = next-may calls Shows goes holds s t count c.in-Some.ensures c.requires.left
    c.requires.right g.J.PairCursor.greatest c.args.key_path.now c.branches.key_path c.args.f.now
    c.branches.f
    takes.0 x y rest c.requires.meets here in (
      omega (arith, lower, c.decreases),
      (
        within.0,
        (
          within.1.0,
          (
            within.1.1.0,
            (
              within.1.1.1.0,
              (
                within.1.1.1.1.0,
                (
                  within.1.1.1.1.1,
                  (left.tree, (right.tree, (c.in-Some-next.ensures.whole, may))),
                ),
              ),
            ),
          ),
        ),
      ),
    )

pub branches-preserved : goal.branches-preserved
branches-preserved g t c =
    let s = g.J.PairCursor.left c.args.at in
    let t = g.J.PairCursor.right c.args.at in
    let calls = g.J.OnCommonKey.calls in
    let Shows = g.J.OnCommonKey.Shows in
    let goes = g.J.OnCommonKey.goes in
    let holds = g.J.PairCursor.holds in
    let count = c.in-Some.common in
    let x = g.J.PairCursor.left c.in-Some-next.below in
    let y = g.J.PairCursor.right c.in-Some-next.below in
    let rest = g.J.PairCursor.branches_left c.next.new.branches in
    let takes = c.in-Some-next.ensures.takes in
    let here = subst (λ left. IsIntersection calls Shows goes holds s t count c.args.key_path.now
    c.args.f.now
    left c.branches.key_path c.branches.f) takes.1 c.branches.invariant.on_common_key in
    let all = common_children (next_children (behind_bytes count s))
    (next_children (behind_bytes count t)) in
    let so_far = subst (λ left. EntersUpTo (behind_bytes count s) (behind_bytes count t) all left
    c.args.work.now c.branches.work) takes.1 c.branches.invariant.entered in
    record {
      on_common_key = on_common_key-next calls Shows goes holds s t count c.in-Some.ensures
          c.requires.left
          c.requires.right g.J.OnCommonKey.told c.args.key_path.now c.branches.key_path c.intersect_below.new.key_path
          c.args.f.now
          c.branches.f c.intersect_below.new.f takes.0 x y rest here
          c.in_ok-intersect_below.ensures.met;
      entered = enters-next (behind_bytes count s) (behind_bytes count t) all rest takes.0 x y
          c.args.work.now c.branches.work c.next.new.work c.intersect_below.new.work so_far
          here.pairs.0.0 here.pairs.0.1 c.in-Some-next.ensures.counted
          c.in_ok-intersect_below.ensures.enters;
      common = c.in-Some.ensures;
      nodes = c.in-Some-next.ensures.nodes ∙ c.branches.invariant.nodes;
      least = least-next s t count takes.0 x y rest _ c.args.work.now c.branches.work
          c.next.new.work c.intersect_below.new.work c.branches.invariant.nodes
          (subst (λ left. EntersLeast s t count left c.args.work.now c.branches.work) takes.1
          c.branches.invariant.least) c.in-Some-next.ensures.entered
          (c.in_ok-intersect_below.ensures.least);
    }

pub returns-in_err-intersect_below-clause-met : goal.returns-in_err-intersect_below-clause-met
returns-in_err-intersect_below-clause-met g t c =
    λ segments held.
    let s = g.J.PairCursor.left c.args.at in
    let t = g.J.PairCursor.right c.args.at in
    let calls = g.J.OnCommonKey.calls in
    let Shows = g.J.OnCommonKey.Shows in
    let goes = g.J.OnCommonKey.goes in
    let holds = g.J.PairCursor.holds in
    let count = c.in-Some.common in
    let x = g.J.PairCursor.left c.in-Some-next.below in
    let y = g.J.PairCursor.right c.in-Some-next.below in
    let rest = g.J.PairCursor.branches_left c.next.new.branches in
    let takes = c.in-Some-next.ensures.takes in
    let here = subst (λ left. IsIntersection calls Shows goes holds s t count c.args.key_path.now
    c.args.f.now
    left c.branches.key_path c.branches.f) takes.1 c.branches.invariant.on_common_key in
    have-ended calls Shows goes g.J.OnCommonKey.told _ _ _ _ c.from_residual-in_err-intersect_below.result
    c.in_err-intersect_below.field-0.0 c.from_residual-in_err-intersect_below.ensures.0
    c.from_residual-in_err-intersect_below.ensures.1
    (on_common_key-ended calls Shows goes holds s t count c.in-Some.ensures c.requires.left
    c.requires.right g.J.OnCommonKey.told _ c.args.key_path.now c.branches.key_path c.intersect_below.new.key_path
    c.args.f.now
    c.branches.f c.intersect_below.new.f takes.0 x y rest here c.in_err-intersect_below.ensures.met
    segments
    held)

pub returns-in_err-intersect_below-clause-enters : goal.returns-in_err-intersect_below-clause-enters
returns-in_err-intersect_below-clause-enters g t c =
    let s = g.J.PairCursor.left c.args.at in
    let t = g.J.PairCursor.right c.args.at in
    let calls = g.J.OnCommonKey.calls in
    let Shows = g.J.OnCommonKey.Shows in
    let goes = g.J.OnCommonKey.goes in
    let holds = g.J.PairCursor.holds in
    let count = c.in-Some.common in
    let x = g.J.PairCursor.left c.in-Some-next.below in
    let y = g.J.PairCursor.right c.in-Some-next.below in
    let rest = g.J.PairCursor.branches_left c.next.new.branches in
    let takes = c.in-Some-next.ensures.takes in
    let here = subst (λ left. IsIntersection calls Shows goes holds s t count c.args.key_path.now
    c.args.f.now
    left c.branches.key_path c.branches.f) takes.1 c.branches.invariant.on_common_key in
    let all = common_children (next_children (behind_bytes count s))
    (next_children (behind_bytes count t)) in
    let so_far = subst (λ left. EntersUpTo (behind_bytes count s) (behind_bytes count t) all left
    c.args.work.now c.branches.work) takes.1 c.branches.invariant.entered in
    enters-end s t c.requires.left c.requires.right count rest c.args.work.now
    c.intersect_below.new.work c.in-Some.ensures.0
    (enters-next (behind_bytes count s) (behind_bytes count t) all rest takes.0 x y
    c.args.work.now c.branches.work c.next.new.work c.intersect_below.new.work so_far
    here.pairs.0.0 here.pairs.0.1 c.in-Some-next.ensures.counted
    c.in_err-intersect_below.ensures.enters)

pub pop-requires-clause-inside : goal.pop-requires-clause-inside
pop-requires-clause-inside g t c =
    count-left (g.J.PairCursor.left c.args.at) (g.J.PairCursor.right c.args.at) _ c.in-Some.ensures

pub returns-clause-enters : goal.returns-clause-enters
returns-clause-enters g t c =
    let s = g.J.PairCursor.left c.args.at in
    let t = g.J.PairCursor.right c.args.at in
    let count = c.in-Some.common in
    let all = common_children (next_children (behind_bytes count s))
    (next_children (behind_bytes count t)) in
    let rest = g.J.PairCursor.branches_left c.branches.branches in
    enters-end s t c.requires.left c.requires.right count rest c.args.work.now c.next.new.work
    c.in-Some.ensures.0
    (enters-still (behind_bytes count s) (behind_bytes count t) all rest c.args.work.now
    c.branches.work c.next.new.work c.branches.invariant.entered c.in_default-next.ensures.counted)

pub returns-in_default-clause-least : goal.returns-in_default-clause-least
returns-in_default-clause-least g t c =
    least-apart (g.J.PairCursor.left c.args.at) (g.J.PairCursor.right c.args.at) c.in_default.ensures
    c.args.work.now

pub returns-in_err-meet-clause-least : goal.returns-in_err-meet-clause-least
returns-in_err-meet-clause-least g t c =
    least-refused _ c.from_residual.result c.from_residual.ensures.0

pub returns-in_err-intersect_leaves-clause-least :
    goal.returns-in_err-intersect_leaves-clause-least
returns-in_err-intersect_leaves-clause-least g t c =
    least-refused _ c.from_residual-in_err-intersect_leaves.result
    c.from_residual-in_err-intersect_leaves.ensures.0

pub returns-in_err-intersect_below-clause-least : goal.returns-in_err-intersect_below-clause-least
returns-in_err-intersect_below-clause-least g t c =
    least-refused _ c.from_residual-in_err-intersect_below.result
    c.from_residual-in_err-intersect_below.ensures.0

pub returns-clause-least : goal.returns-clause-least
returns-clause-least g t c =
    least-end (g.J.PairCursor.left c.args.at) (g.J.PairCursor.right c.args.at) c.in-Some.common
    _ c.args.work.now c.branches.work c.next.new.work c.branches.invariant.least
    c.in_default-next.ensures.takes c.in_default-next.ensures.entered
