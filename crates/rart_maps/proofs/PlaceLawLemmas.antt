-- The places of two maps: what they are, and how many there are.
use Rattle.std.proofs.Common.{◌≡◌, ◌≤◌, Bool, true, false, ◌&&◌, refl, sym, ap, subst, ◌∙◌, arith}
use Rattle.std.specs.FinSet as set
use Rattle.std.specs.Cmp.Lexicographic.{nat_list_cmp_total}
use Rattle.std.proofs.lemmas.Bool.{and_from, and_parts}
use Rattle.rart_maps.specs.ChangeLists.{joined}
use Rattle.rart_maps.specs.Pairs.{Strings, shared}
use Rattle.rart_maps.specs.PointLaws.{PlacesAreSharedPoints, PlacesAreFew}
use Rattle.rart_maps.specs.Points.{points}
use Rattle.rart_maps.proofs.OrderLemmas.{byte_order-IsAntisymmetric}
use Rattle.rart_maps.proofs.SetLemmas.{contains-kept, len-retain-weaker, met_kept}

and-true : (b : Bool) → (b && true) ≡ b
and-true true = refl
and-true false = refl

and-swap : (a b : Bool) → (a && b) ≡ (b && a)
and-swap true true = refl
and-swap true false = refl
and-swap false true = refl
and-swap false false = refl

-- What is in both sets is no more than what is in one.
met-fewer : (s t : Strings) → set.len (set.intersection s t) ≤ set.len s
met-fewer s t =
    let less = len-retain-weaker nat_list_cmp_total byte_order-IsAntisymmetric s (set.contains t)
    (λ _. true) (λ k is. refl) in
    let all : set.retain s (λ _. true) ≡ s =
    set.same_set nat_list_cmp_total byte_order-IsAntisymmetric (set.retain s (λ _. true)) s
    (λ q. contains-kept nat_list_cmp_total byte_order-IsAntisymmetric s (λ _. true) q
    ∙ and-true (set.contains s q)) in
    let kept = ap set.len (met_kept nat_list_cmp_total byte_order-IsAntisymmetric s t) in
    let whole = ap set.len all in
    omega (arith, less, kept, whole)

met-swaps : (s t : Strings) → set.intersection s t ≡ set.intersection t s
met-swaps s t =
    set.same_set nat_list_cmp_total byte_order-IsAntisymmetric (set.intersection s t)
    (set.intersection t s) (λ q. set.contains-intersection nat_list_cmp_total s t q
    ∙ and-swap (set.contains s q) (set.contains t q)
    ∙ sym (set.contains-intersection nat_list_cmp_total t s q))

module _ (V : Type 0) where
  pub places_are_shared_points : PlacesAreSharedPoints V
  places_are_shared_points left right s =
      let one = set.contains (shared left right) s in
      let other = set.contains (points (joined left right)) s in
      let is = set.contains-intersection nat_list_cmp_total (shared left right)
      (points (joined left right)) s in (
        λ there. and_parts one other (sym is ∙ there),
        λ both. is ∙ and_from one other both.0 both.1,
      )

  pub places_are_few : PlacesAreFew V
  places_are_few left right = (
    met-fewer (shared left right) (points (joined left right)),
    subst (λ s. set.len s ≤ set.len (points (joined left right)))
        (met-swaps (points (joined left right)) (shared left right))
        (met-fewer (points (joined left right)) (shared left right)),
  )
