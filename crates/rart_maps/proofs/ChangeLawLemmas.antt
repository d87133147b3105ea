-- The laws of changes.
use Rattle.std.proofs.Common.{◌≡◌, ℕ, Bool, true, false, cond, not, List, Option, Some, None, refl, sym, ap, subst, ◌∙◌}
use Rattle.std.specs.Prelude.{Contains}
use Rattle.std.specs.List.{filter_map}
use Rattle.std.specs.Option.{unwrap_or}
use Rattle.std.specs.FinMap as finite
use Rattle.std.proofs.lemmas.Bool.{false≢true}
use Rattle.std.proofs.lemmas.Cmp.{nat_list_cmp_total}
use Rattle.rart_maps.specs.Versions.{Map}
use Rattle.rart_maps.proofs.ElementLemmas.{Contains-filter_map}
use Rattle.rart_maps.proofs.FoundLemmas.{ascending_lists_are_fixed}
use Rattle.rart_maps.proofs.OrderLemmas.{byte_order-IsAntisymmetric}
use Rattle.std.proofs.lemmas.List.Sums.{count_by-le-length}
use Rattle.rart_maps.specs.ChangeLists.{Change, reversed, patched, takes_effect, differ, changes}
use Rattle.rart_maps.specs.ChangeLaws.{Decides, IsReflexive, IsSymmetric, ChangesAscend, ChangesAreFound, NothingChanges, NoChangeIsTheSame, ChangesReverse, PatchesSetWhatChanged, PatchesGiveTheNew, PatchesLeaveNoChange, PatchesAreUndone, EffectsAreFew}
use Rattle.rart_maps.proofs.ChangeLemmas.{KeysAscend-kept, filter_map-all, nothing-in, patched-elsewhere, patched-there, changes-ascend, changes-from, changes-to}

not-false : (b : Bool) → not b ≡ false → b ≡ true
not-false true is = refl
not-false false is = absurd (false≢true (sym is))

module _ {V : Type 0} (same : V → V → Bool) where
  pub differ-itself : IsReflexive same → (x : Option V) → differ same x x ≡ false
  differ-itself reflexive None = refl
  differ-itself reflexive (Some x) = ap not (reflexive x)

  pub differ-reversed : IsSymmetric same → (x y : Option V) → differ same y x ≡ differ same x y
  differ-reversed symmetric None None = refl
  differ-reversed symmetric None (Some y) = refl
  differ-reversed symmetric (Some x) None = refl
  differ-reversed symmetric (Some x) (Some y) = ap not (symmetric y x)

  pub symmetric-if-decided : Decides same → IsSymmetric same
  symmetric-if-decided decides x y =
      elim (same x y) as (λ s. same x y ≡ s → s ≡ same y x) [
        | true ↦ λ is. sym ((decides y x).1 (sym ((decides x y).0 is)))
        | false ↦ λ is. elim (same y x) as (λ t. same y x ≡ t → false ≡ t) [
          | true ↦ λ back. absurd (false≢true (sym is
              ∙ (decides x y).1 (sym ((decides y x).0 back))))
          | false ↦ λ _. refl
        ] refl
      ] refl

  -- What does not differ is the same.
  pub alike : Decides same → (x y : Option V) → differ same x y ≡ false → x ≡ y
  alike decides None None is = refl
  alike decides None (Some y) is = absurd (false≢true (sym is))
  alike decides (Some x) None is = absurd (false≢true (sym is))
  alike decides (Some x) (Some y) is =
      ap (λ z. Some z) ((decides x y).0 (not-false (same x y) is))

  pub changes_ascend : ChangesAscend same
  changes_ascend old new = changes-ascend same old new

  pub changes_are_found : ChangesAreFound same
  changes_are_found old new key x y = (
    changes-from same old new (key, x, y),
    λ all. changes-to same old new key x y all.0 all.1 all.2,
  )

  pub nothing_changes : NothingChanges same
  nothing_changes reflexive m =
      nothing-in (changes same m m) (λ c there.
      let found = changes-from same m m c there in
      false≢true (sym (differ-itself reflexive (finite.get m c.0))
      ∙ (λ i. differ same (found.0 i) (found.1 i)) ∙ found.2))

  -- A change, reversed, stands among those the other way.
  reversed-there : IsSymmetric same → (old new : Map V) (c : Change V)
      → Contains (changes same old new) c → Contains (changes same new old) (reversed c)
  reversed-there symmetric old new c there =
      let found = changes-from same old new c there in
      changes-to same new old c.0 c.2 c.1 found.1 found.0
      (differ-reversed symmetric c.1 c.2 ∙ found.2)

  pub changes_reverse : ChangesReverse same
  changes_reverse symmetric old new =
      ascending_lists_are_fixed (Change V) (λ c. c.0) (changes same new old)
      (filter_map (λ c. Some (reversed c)) (changes same old new))
      (changes-ascend same new old)
      (KeysAscend-kept (λ (c : Change V). c.0) (λ (c : Change V). c.0)
      (λ c. Some (reversed c)) (λ c d is. sym (ap (λ o. (unwrap_or o d).0) is))
      (changes same old new) (changes-ascend same old new))
      (λ c. (
        λ there. (Contains-filter_map (λ d. Some (reversed d)) (changes same old new) c).1
            (reversed c, reversed-there symmetric new old c there, refl),
        λ there.
            let found = (Contains-filter_map (λ d. Some (reversed d)) (changes same old new) c).0
            there in
            subst (Contains (changes same new old)) (ap (λ o. unwrap_or o c) found.2)
            (reversed-there symmetric old new found.0 found.1),
      ))
      ∙ filter_map-all reversed (changes same old new)

  -- What both have at a key, by whether it differs.
  pub patched-by_key : (old new other : Map V) (key : List ℕ) (d : Bool)
      → differ same (finite.get old key) (finite.get new key) ≡ d
      → finite.get (patched other (changes same old new)) key
      ≡ cond d (finite.get new key) (finite.get other key)
  patched-by_key old new other key true is =
      patched-there (changes same old new) other (changes-ascend same old new)
      (key, finite.get old key, finite.get new key)
      (changes-to same old new key (finite.get old key) (finite.get new key) refl refl is)
  patched-by_key old new other key false is =
      patched-elsewhere (changes same old new) other key (λ c there at.
      let found = changes-from same old new c there in
      false≢true (sym is
      ∙ (λ i. differ same ((ap (finite.get old) at ∙ found.0) i)
      ((ap (finite.get new) at ∙ found.1) i))
      ∙ found.2))

  pub patches_set_what_changed : PatchesSetWhatChanged same
  patches_set_what_changed old new other key =
      patched-by_key old new other key
      (differ same (finite.get old key) (finite.get new key)) refl

  pub patches_give_the_new : PatchesGiveTheNew same
  patches_give_the_new decides old new =
      finite.same_map nat_list_cmp_total byte_order-IsAntisymmetric _ _ (λ q.
      elim (differ same (finite.get old q) (finite.get new q))
      as (λ d. differ same (finite.get old q) (finite.get new q) ≡ d
      → finite.get (patched old (changes same old new)) q ≡ finite.get new q) [
        | true ↦ λ is. patched-by_key old new old q true is
        | false ↦ λ is. patched-by_key old new old q false is
            ∙ alike decides (finite.get old q) (finite.get new q) is
      ] refl)

  pub no_change_is_the_same : NoChangeIsTheSame same
  no_change_is_the_same decides old new none =
      ap (patched old) (sym none) ∙ patches_give_the_new decides old new

  pub patches_leave_no_change : PatchesLeaveNoChange same
  patches_leave_no_change reflexive old new =
      nothing-in (changes same (patched old (changes same old new)) new) (λ c there.
      let found = changes-from same (patched old (changes same old new)) new c there in
      let x = finite.get old c.0 in let y = finite.get new c.0 in
      elim (differ same x y) as (λ d. differ same x y ≡ d → ⊥) [
        | true ↦ λ is. false≢true (sym (differ-itself reflexive y)
            ∙ (λ i. differ same ((sym (patched-by_key old new old c.0 true is) ∙ found.0) i)
            (found.1 i))
            ∙ found.2)
        | false ↦ λ is. false≢true (sym is
            ∙ (λ i. differ same ((sym (patched-by_key old new old c.0 false is) ∙ found.0) i)
            (found.1 i))
            ∙ found.2)
      ] refl)

  pub patches_are_undone : PatchesAreUndone same
  patches_are_undone decides old new =
      (λ i. patched (patches_give_the_new decides old new i)
      (sym (changes_reverse (symmetric-if-decided decides) old new) i))
      ∙ patches_give_the_new decides new old

pub effects_are_few : (V : Type 0) → EffectsAreFew V
effects_are_few V m some = count_by-le-length (takes_effect m) some
