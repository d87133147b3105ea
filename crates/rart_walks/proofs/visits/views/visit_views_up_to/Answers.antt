use Rattle.std.proofs.Common.{rules, arith, [], length, refl, sym, ap, subst, ◌∙◌}
use Rattle.std.specs.List.{concat}
use Rattle.std.specs.Range.Bound.{bound_map}
use Rattle.rart_maps.specs.FoundLaws.{KeysAscend}
use Rattle.rart_maps.specs.Visits.{ByView}
use Rattle.rart_maps.proofs.RangeLemmas.{up_to, is_below, up_to-first, ascends-rest}
use Rattle.rart_maps.proofs.VisitLemmas.{callable-next, up_to-next, up_to-over, up_to-part}
use Rattle.rart_walks.proofs.CountedLemmas.{counted-next, counted-end}
use Rattle.rart_walks.proofs.UpToLemmas.{none-past, few-next, few-end}
use Rattle.rart_walks.proofs.visits.views.visit_views_up_to.Goals as goal

pub returns-then-not-is_up_to : goal.returns-then-not-is_up_to
returns-then-not-is_up_to g c =
    let high = bound_map (λ high. high.now) c.args.high in
    let comes = rw c.in-Some.is at c.in_ok-value.ensures.steps in
    let path = c.view_of-path.ensures ∙ ap concat c.key_path.ensures in
    let past = ap (is_below high) (sym path) ∙ sym c.if-not-is_up_to.ensures in
    let none = none-past high _ _ comes.first c.visiting.invariant.ascend past in
    let walked = c.in_ok-value.ensures in
    let before = c.visiting.invariant in
    record {
      visits = up_to-over g.F.FnMut ByView tt none before.calls;
      counted = counted-end before.counted walked.counted;
      few = few-end (is_below high) before.few walked.one;
      each =
          let each = before.each in
          let over = ap length none in
          let grows = walked.one.entered_grows in
          omega (arith, each, over, grows);
    }

pub f-requires : goal.f-requires
f-requires g c =
    let high = bound_map (λ high. high.now) c.args.high in
    let comes = rw c.in-Some.is at c.in_ok-value.ensures.steps in
    let gives = rw c.in-Some-value.is at comes.pairs in
    let ascend = subst (KeysAscend (λ pair. pair.0)) gives c.visiting.invariant.ascend in
    let path = c.view_of-path.ensures ∙ ap concat c.key_path.ensures in
    let meets = ap (is_below high) (sym path) ∙ sym c.if-not-is_up_to.ensures in
    let first = ap (up_to high) gives ∙ up_to-first high _ _ ascend meets in
    let before = c.visiting.invariant.calls in
    let here = callable-next g.F.FnMut ByView tt _ _ first c.requires.visitable before in
    let takes = here (c.view_of-path.result, (c.in-Some-value.value, tt)) (path, refl) in
    search (rules, takes)

pub visiting-preserved-in-Some-value : goal.visiting-preserved-in-Some-value
visiting-preserved-in-Some-value g c =
    let high = bound_map (λ high. high.now) c.args.high in
    let comes = rw c.in-Some.is at c.in_ok-value.ensures.steps in
    let gives = rw c.in-Some-value.is at comes.pairs in
    let ascend = subst (KeysAscend (λ pair. pair.0)) gives c.visiting.invariant.ascend in
    let path = c.view_of-path.ensures ∙ ap concat c.key_path.ensures in
    let meets = ap (is_below high) (sym path) ∙ sym c.if-not-is_up_to.ensures in
    let first = ap (up_to high) gives ∙ up_to-first high _ _ ascend meets in
    let walked = c.in_ok-value.ensures in
    let before = c.visiting.invariant in
    record {
      walk = walked.walk;
      ascend = ascends-rest high _ _ ascend;
      calls = up_to-next g.F.FnMut ByView tt _ _ first before.calls (_, c.f.ensures, (path, refl));
      counted = counted-next _ before.counted walked.entered walked.counted;
      few = few-next (is_below high) comes meets before.few walked.entered walked.one;
      each =
          let each = before.each in
          let next = walked.each in
          let given = ap length gives in
          let met = ap length first in
          omega (arith, each, next, given, met);
    }

pub visiting-preserved : goal.visiting-preserved
visiting-preserved g c =
    let high = bound_map (λ high. high.now) c.args.high in
    let comes = rw c.in-Some.is at c.in_ok-value.ensures.steps in
    let same = rw c.in_default-value.is at comes.pairs in
    let path = c.view_of-path.ensures ∙ ap concat c.key_path.ensures in
    let meets = ap (is_below high) (sym path) ∙ sym c.if-not-is_up_to.ensures in
    let walked = c.in_ok-value.ensures in
    let before = c.visiting.invariant in
    record {
      walk = walked.walk;
      ascend = subst (KeysAscend (λ pair. pair.0)) same before.ascend;
      calls = up_to-part g.F.FnMut ByView tt [] _ (ap (up_to high) same) before.calls refl;
      counted = counted-next _ before.counted walked.entered walked.counted;
      few = few-next (is_below high) comes meets before.few walked.entered walked.one;
      each =
          let each = before.each in
          let next = walked.each in
          let given = ap length same in
          let met = ap (λ pairs. length (up_to high pairs)) same in
          omega (arith, each, next, given, met);
    }

pub returns : goal.returns
returns g c =
    let high = bound_map (λ high. high.now) c.args.high in
    let over = rw c.in_default.is at c.in_ok-value.ensures.steps in
    let none = ap (up_to high) over.0 in
    let walked = c.in_ok-value.ensures in
    let before = c.visiting.invariant in
    record {
      visits = up_to-over g.F.FnMut ByView tt none before.calls;
      counted = counted-end before.counted walked.counted;
      few = few-end (is_below high) before.few walked.one;
      each =
          let each = before.each in
          let no_pair = ap length none in
          let grows = walked.one.entered_grows in
          omega (arith, each, no_pair, grows);
    }
