-- How many keys there are once one is set or taken out.
use Rattle.std.proofs.Common.{◌≡◌, ◌+◌, ◌-◌, ◌≤◌, ℕ, Bool, true, false, not, cond, List, [], ◌∷◌, length, Option, Some, None, is_some, sym, ap, ◌∙◌, arith}
use Rattle.std.specs.Int.{from_bool}
use Rattle.std.specs.Prelude.{Contains}
use Rattle.std.specs.FinMap as finite
use Rattle.std.proofs.lemmas.Cmp.{nat_list_cmp_total}
use Rattle.rart_changes.proofs.SetKeyLemmas.{set-by-deletion}
use Rattle.rart_maps.specs.Changes.{after_removal}
use Rattle.rart_maps.specs.Lookups.{with_value}
use Rattle.rart_maps.specs.Pairs.{pairs}
use Rattle.rart_maps.specs.Versions.{Map, Version, value_at}
use Rattle.rart_maps.proofs.ElementLemmas.{Contains-nil}
use Rattle.rart_maps.proofs.FoundLemmas.{pairs_are_found}

module _ {V : Type 0} where
  one-of : (xs : List (List ℕ × V)) (x : List ℕ × V) → Contains xs x → 1 ≤ length xs
  one-of [] x there = absurd (Contains-nil x there)
  one-of (y ∷ xs) x there = omega arith

  -- Where a key is, there is one.
  one-there : (m : Map V) (w : List ℕ) (o : Option V) → finite.get m w ≡ o
      → from_bool (is_some o) ≤ finite.len m
  one-there m w None is = omega arith
  one-there m w (Some x) is =
      omega (
        arith,
        finite.len-entries m,
        one-of (pairs m) (w, x) ((pairs_are_found V m w x).1 is),
      )

  pub insertion-counted : (m m' : Map V) (w : List ℕ) (x : V) (keys : ℕ) (replaced : Bool)
      → keys ≡ finite.len m → replaced ≡ finite.contains_key m w → m' ≡ finite.insert m w x
      → keys + from_bool (not replaced) ≡ finite.len m'
  insertion-counted m m' w x keys replaced counted is set =
      counted_by replaced is
      (ap finite.len set ∙ finite.len-insert nat_list_cmp_total m w x)
    where
      counted_by : (t : Bool) → t ≡ finite.contains_key m w
          → finite.len m' ≡ cond (finite.contains_key m w) (finite.len m) (finite.len m + 1)
          → keys + from_bool (not t) ≡ finite.len m'
      counted_by true is long =
          omega (arith, counted, long ∙ ap (λ t. cond t (finite.len m) (finite.len m + 1)) (sym is))
      counted_by false is long =
          omega (arith, counted, long ∙ ap (λ t. cond t (finite.len m) (finite.len m + 1)) (sym is))

  pub removal-set : (v v' : Version V) (w : List ℕ) → v' ≡ after_removal v w
      → v'.content ≡ with_value v.content w None
  removal-set v v' w is = (set-by-deletion v v' w is).content

  pub removal-room : (v : Version V) (w : List ℕ) (removed : Option V) (keys : ℕ)
      → keys ≡ finite.len v.content → removed ≡ value_at v w → from_bool (is_some removed) ≤ keys
  removal-room v w removed keys counted is =
      omega (arith, counted, one-there v.content w removed (sym is))

  pub removal-counted : (v v' : Version V) (w : List ℕ) (removed : Option V) (keys : ℕ)
      → keys ≡ finite.len v.content → removed ≡ value_at v w → v' ≡ after_removal v w
      → keys - from_bool (is_some removed) ≡ finite.len v'.content
  removal-counted v v' w removed keys counted is set =
      counted_by (is_some removed) (ap is_some is)
      (ap finite.len (removal-set v v' w set) ∙ finite.len-remove nat_list_cmp_total v.content w)
    where
      counted_by : (t : Bool) → t ≡ finite.contains_key v.content w
          → finite.len v'.content
          ≡ cond (finite.contains_key v.content w) (finite.len v.content - 1) (finite.len v.content)
          → keys - from_bool t ≡ finite.len v'.content
      counted_by true is long =
          omega (
            arith,
            counted,
            long
                ∙ ap (λ t. cond t (finite.len v.content - 1) (finite.len v.content)) (sym is),
          )
      counted_by false is long =
          omega (
            arith,
            counted,
            long
                ∙ ap (λ t. cond t (finite.len v.content - 1) (finite.len v.content)) (sym is),
          )
