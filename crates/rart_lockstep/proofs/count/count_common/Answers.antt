use Rattle.std.proofs.Common.{◌≡◌, ◌+◌, ◌<◌, ◌^◌, ℕ, List, rules, of_calls, refl, arith, length}
use Rattle.std.proofs.lemmas.List.{length-map}
use Rattle.rart_maps.proofs.VisitLemmas.{answers-keep}
use Rattle.rart_lockstep.specs.CommonPairs.{common_pairs}
use Rattle.rart_lockstep.proofs.CommonVisitLemmas.{answers-count, callable-count}
use Rattle.rart_lockstep.proofs.count.count_common.Goals as goal

pub visit_common_values-requires : goal.visit_common_values-requires
visit_common_values-requires g c κs =
    let s = c.args.left.now.shape in
    let t = c.args.right.now.shape in
    let fits = c.requires.fits in
    let same = length-map {B = g.row.V.Denot × g.row.V.Denot} (common_pairs s t)
    (λ (entry : List ℕ × g.row.V.Denot × g.row.V.Denot). (entry.1, entry.2)) in (
      (refl, tt),
      (
        c.requires.left,
        (
          c.requires.right,
          callable-count _ _ (λ f. f.0.now) (λ f x f' called. search (rules, of_calls)) _ _ refl
              (λ x f' fewer a shows.
              let bound : f'.0.now + 1 < 2 ^ 64 = omega (arith, fewer, same, fits) in
              search (rules, bound)),
        ),
      ),
    )

pub returns-clause-count : goal.returns-clause-count
returns-clause-count g c =
    let s = c.args.left.now.shape in
    let t = c.args.right.now.shape in
    let same = length-map {B = g.row.V.Denot × g.row.V.Denot} (common_pairs s t)
    (λ (entry : List ℕ × g.row.V.Denot × g.row.V.Denot). (entry.1, entry.2)) in
    let visit = c.visit_common_values.ensures.visits in
    let counted = answers-count _ _ (λ f. f.0.now) (λ f x f' called. search (rules, of_calls))
    _ _ _ visit in
    let name = answers-keep _ _ _ (λ f f'. f'.0.ghost_name ≡ f.0.ghost_name) (λ f. refl)
    (λ f x f' last called later. search (rules, of_calls)) _ _ _ visit in
    let total : c.visit_common_values.new.f.0.now ≡ length (common_pairs s t) =
    omega (arith, counted, same) in
    search (rules, total, name)
