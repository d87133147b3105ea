use Rattle.std.proofs.Common.{◌∷◌, [], ◌++◌, take, refl, sym, subst}
use Rattle.std.specs.List.{concat}
use Rattle.rart_maps.specs.Visits.{Answers, CallableInTurn}
use Rattle.rart_maps.proofs.VisitLemmas.{up_to-start}
use Rattle.rart_node.specs.Shape.{prefix_of}
use Rattle.rart_lockstep.specs.CommonPairs.{common_pairs}
use Rattle.rart_lockstep.specs.Endings.{LeavesBy}
use Rattle.rart_lockstep.specs.Entries.{entry_here, behind_key}
use Rattle.rart_lockstep.proofs.PairLeafLemmas.{same-common, leaves-apart, leaves-met}
use Rattle.rart_lockstep.proofs.LockstepLemmas.{here-visitable, here-ended, push-admits}
use Rattle.rart_lockstep.proofs.EndingLemmas.{have-ended}
use Rattle.rart_lockstep.proofs.PairStepLemmas.{count-left, count-right}
use Rattle.rart_lockstep.proofs.leaves.intersect_leaves.Goals as goal

pub returns-in_default-clause-met : goal.returns-in_default-clause-met
returns-in_default-clause-met g c =
    let s = g.J.PairCursor.left c.args.at in
    let t = g.J.PairCursor.right c.args.at in
    let calls = g.J.OnCommonKey.calls in
    let Shows = g.J.OnCommonKey.Shows in
    let goes = g.J.OnCommonKey.goes in
    let none = leaves-apart s t c.requires.left c.requires.left_leaf c.requires.right_leaf
    c.in_default.ensures in
    λ segments holds. (
      subst (λ entries. Answers calls Shows goes c.args.f.now
          (behind_key (concat segments) entries) c.args.f.now) (sym none) refl,
      holds,
    )

pub push-requires-clause-inside : goal.push-requires-clause-inside
push-requires-clause-inside g c =
    let s = g.J.PairCursor.left c.args.at in
    let t = g.J.PairCursor.right c.args.at in
    count-left s t _ (same-common s t _ c.in-Some.ensures)

pub push-requires-clause-short : goal.push-requires-clause-short
push-requires-clause-short g c =
    let may = c.requires.meets in (
      may.0,
      may.1,
      push-admits g.J.PairCursor.greatest may.0 (g.J.PairCursor.left c.args.at) _
          c.requires.left may.2,
    )

pub returns-in-Err-clause-met : goal.returns-in-Err-clause-met
returns-in-Err-clause-met g c =
    λ segments holds.
    let calls = g.J.OnCommonKey.calls in
    let Shows = g.J.OnCommonKey.Shows in
    let goes = g.J.OnCommonKey.goes in
    let all = behind_key (concat segments)
    (common_pairs (g.J.PairCursor.left c.args.at) (g.J.PairCursor.right c.args.at)) in (
      subst (λ by. LeavesBy calls Shows goes by c.args.f.now all c.args.f.now)
          (sym c.refused.ensures) (all, up_to-start calls Shows goes c.args.f.now all),
      tt,
    )

pub behind-next-requires-clause-left_inside : goal.behind-next-requires-clause-left_inside
behind-next-requires-clause-left_inside g c =
    let s = g.J.PairCursor.left c.args.at in
    let t = g.J.PairCursor.right c.args.at in
    count-left s t _ (same-common s t _ c.in-Some.ensures)

pub behind-next-requires-clause-right_inside : goal.behind-next-requires-clause-right_inside
behind-next-requires-clause-right_inside g c =
    let s = g.J.PairCursor.left c.args.at in
    let t = g.J.PairCursor.right c.args.at in
    count-right s t _ (same-common s t _ c.in-Some.ensures)

pub meet-requires : goal.meet-requires
meet-requires g c =
    let s = g.J.PairCursor.left c.args.at in
    let t = g.J.PairCursor.right c.args.at in
    let calls = g.J.OnCommonKey.calls in
    let Shows = g.J.OnCommonKey.Shows in
    let goes = g.J.OnCommonKey.goes in
    let may = c.requires.meets in
    let start = take c.in-Some.common (prefix_of s) in
    let path = concat (may.0 ++ start ∷ []) in
    let next = c.behind-next.ensures in
    let common = same-common s t c.in-Some.common c.in-Some.ensures in
    let here = here-visitable calls Shows goes g.J.PairCursor.holds s t c.in-Some.common common
    c.requires.left c.requires.right may.0 _ may.3 in
    record {
      visitable = (
        may.0 ++ start ∷ [],
        c.in-Ok.ensures.keeps may.0 may.1,
        push-admits g.J.PairCursor.greatest may.0 s _ c.requires.left may.2,
        subst (CallableInTurn calls Shows goes c.args.f.now)
            (λ i. entry_here path (sym next.left i) (sym next.right i)) here,
      );
    }

pub returns-in_err-meet-clause-met : goal.returns-in_err-meet-clause-met
returns-in_err-meet-clause-met g c =
    λ segments holds.
    let s = g.J.PairCursor.left c.args.at in
    let t = g.J.PairCursor.right c.args.at in
    let calls = g.J.OnCommonKey.calls in
    let Shows = g.J.OnCommonKey.Shows in
    let goes = g.J.OnCommonKey.goes in
    let told = g.J.OnCommonKey.told in
    let broken = c.in_err-meet.field-0.0 in
    let start = take c.in-Some.common (prefix_of s) in
    let path = concat (segments ++ start ∷ []) in
    let next = c.behind-next.ensures in
    let common = same-common s t c.in-Some.common c.in-Some.ensures in
    let ends = c.in_err-meet.ensures.visits (segments ++ start ∷ [])
    (c.in-Ok.ensures.keeps segments holds) in
    let here = subst
    (λ entries. LeavesBy calls Shows goes (told broken) c.args.f.now entries c.meet.new.f)
    (λ i. entry_here path (next.left i) (next.right i)) ends in
    have-ended calls Shows goes told _ _ _ _ c.from_residual.result broken
    c.from_residual.ensures.0 c.from_residual.ensures.1
    (here-ended calls Shows goes g.J.PairCursor.holds s t c.in-Some.common common
    c.requires.left c.requires.right (told broken) segments _ _ here)

pub pop-requires-clause-inside : goal.pop-requires-clause-inside
pop-requires-clause-inside g c =
    let s = g.J.PairCursor.left c.args.at in
    let t = g.J.PairCursor.right c.args.at in
    count-left s t _ (same-common s t _ c.in-Some.ensures)

pub pop-requires-clause-kept : goal.pop-requires-clause-kept
pop-requires-clause-kept g c =
    let may = c.requires.meets in (may.0, c.in-Ok.ensures.keeps may.0 may.1)

pub returns-clause-met : goal.returns-clause-met
returns-clause-met g c =
    λ segments holds.
    let s = g.J.PairCursor.left c.args.at in
    let t = g.J.PairCursor.right c.args.at in
    let calls = g.J.OnCommonKey.calls in
    let Shows = g.J.OnCommonKey.Shows in
    let goes = g.J.OnCommonKey.goes in
    let start = take c.in-Some.common (prefix_of s) in
    let next = c.behind-next.ensures in (
      leaves-met s t c.requires.left c.requires.left_leaf c.requires.right_leaf calls Shows goes
          g.J.PairCursor.holds c.in-Some.common c.in-Some.ensures c.requires.right _ _ _ _
          c.in-Ok.ensures.keeps
          (λ segments holds.
          subst (λ entries. Answers calls Shows goes c.args.f.now entries c.meet.new.f)
          (λ i. entry_here (concat (segments ++ start ∷ [])) (next.left i) (next.right i))
          (c.in_ok-meet.ensures.visits (segments ++ start ∷ [])
          (c.in-Ok.ensures.keeps segments holds)))
          segments holds,
      c.pop.ensures segments (c.in-Ok.ensures.keeps segments holds),
    )
