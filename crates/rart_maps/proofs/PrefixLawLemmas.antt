-- The laws of maps cut at a prefix.
use Rattle.std.proofs.Common.{◌≡◌, ℕ, Bool, true, false, cond, not, List, [], ◌∷◌, refl, sym, ap, ◌∙◌}
use Rattle.std.specs.Prelude.{◌==◌, ◌&&◌, Option, Some, None, Contains, filter}
use Rattle.std.specs.FinMap as finite
use Rattle.std.proofs.lemmas.Bool.{and_parts, eqb-true, eq-eqb, false≢true}
use Rattle.std.proofs.lemmas.Option.{none-some}
use Rattle.std.proofs.lemmas.List.Kept.{AllPairs-filter}
use Rattle.rart_below.specs.Bytes.{begins, byte_order}
use Rattle.rart_maps.specs.ChangeLists.{Change, changes, differ}
use Rattle.rart_maps.specs.Order.{IsBefore}
use Rattle.rart_maps.specs.Pairs.{pairs}
use Rattle.rart_maps.specs.PrefixLaws.{UnderAnswers, WithoutAnswers, WithAnswers, AnswersFixTheMap, HasUnderIsOfAKey, PairsUnderAreUnder, PairsWithoutAreTheOthers, UnderIsTheOthers, PartsAnswer, RemovalsAnswer, RemovalsRaise, RestoringsAnswer, RestoringUndoes, PuttingBackIsNothing, RemovingRestoresNothing, KeepingRestoresIntoNothing, EmptyPrefixIsAll, ApartPrefixesCommute, RestoringChangesUnder}
use Rattle.rart_maps.specs.Prefixes.{pairs_under, without_prefix, with_prefix_of}
use Rattle.rart_maps.specs.Versions.{Map}
use Rattle.rart_maps.proofs.ChangeLawLemmas.{differ-itself}
use Rattle.rart_maps.proofs.ChangeLemmas.{changes-ascend, changes-from, changes-to}
use Rattle.rart_maps.proofs.ElementLemmas.{Contains-filter}
use Rattle.rart_maps.proofs.FoundLemmas.{Contains-pairs, Contains-filter_pairs, KeysAscend-filter_pairs, pairs_ascend_by_key, ascending_lists_are_fixed}
use Rattle.rart_maps.proofs.PrefixLemmas.{same_map, get-pairs_under, get-without_prefix, get-with_prefix_of, has-under-key, key-has-under, removed, value_at-under_prefix, value_at-prefix_removal}

-- Two prefixes of one string: one of them begins the other.
begins-either : (p q key : List ℕ) → begins p key ≡ true → begins q key ≡ true
    → begins p q ≡ false → begins q p ≡ false → ⊥
begins-either [] q key one other apart also = false≢true (sym apart)
begins-either (b ∷ p) [] key one other apart also = false≢true (sym also)
begins-either (b ∷ p) (c ∷ q) [] one other apart also = false≢true one
begins-either (b ∷ p) (c ∷ q) (d ∷ key) one other apart also =
    let first = and_parts (b == d) (begins p key) one in
    let second = and_parts (c == d) (begins q key) other in
    let same = eqb-true b d first.0 ∙ sym (eqb-true c d second.0) in
    begins-either p q key first.1 second.1
    (ap (λ t. t && begins p q) (sym (eq-eqb b c same)) ∙ apart)
    (ap (λ t. t && begins q p) (sym (eq-eqb c b (sym same))) ∙ also)

-- tests that are not both true may be made in any order
cond-apart : {A : Type 0} (s t : Bool) (x y z : A) → (s ≡ true → t ≡ true → ⊥)
    → cond s x (cond t y z) ≡ cond t y (cond s x z)
cond-apart true true x y z apart = absurd (apart refl refl)
cond-apart true false x y z apart = refl
cond-apart false t x y z apart = refl

chosen-some : {A : Type 0} (t : Bool) (o : Option A) (x : A) → cond t o None ≡ Some x
    → (t ≡ true) × (o ≡ Some x)
chosen-some true o x is = (refl, is)
chosen-some false o x is = absurd (none-some x is)

module _ (V : Type 0) where
  pub under_answers : UnderAnswers V
  under_answers m p key = get-pairs_under m p key

  pub without_answers : WithoutAnswers V
  without_answers m p key = get-without_prefix m p key

  pub with_answers : WithAnswers V
  with_answers other m p key = get-with_prefix_of p other m key

  pub answers_fix_the_map : AnswersFixTheMap V
  answers_fix_the_map m n same = same_map m n same

  pub has_under_is_of_a_key : HasUnderIsOfAKey V
  has_under_is_of_a_key v p =
      (has-under-key v p, λ found. key-has-under v p found.0 found.1 found.2)

  pub parts_answer : PartsAnswer V
  parts_answer v p more key = value_at-under_prefix v p more key

  pub removals_answer : RemovalsAnswer V
  removals_answer v p key = value_at-prefix_removal v p key

  pub removals_raise : RemovalsRaise V
  removals_raise v p = (
    λ some. ap (λ t. (removed v p t).number) some,
    λ none. ap (removed v p) none,
  )

  pub restorings_answer : RestoringsAnswer V
  restorings_answer v other p key = get-with_prefix_of p other.content v.content key

  -- the pairs of a map that has these keys of another one
  pub kept-pairs : (test : List ℕ → Bool) (m kept : Map V)
      → ((q : List ℕ) → finite.get kept q ≡ cond (test q) (finite.get m q) None)
      → pairs kept ≡ filter (λ pair. test pair.0) (pairs m)
  kept-pairs test m kept answers =
      ascending_lists_are_fixed (List ℕ × V) (λ pair. pair.0) (pairs kept)
      (filter (λ pair. test pair.0) (pairs m)) (pairs_ascend_by_key V kept)
      (KeysAscend-filter_pairs test m) (λ pair.
      let here = Contains-pairs kept pair.0 pair.1 in
      let there = Contains-filter_pairs test m pair.0 pair.1 in (
        λ found. there.1 (chosen-some (test pair.0) (finite.get m pair.0) pair.1
            (sym (answers pair.0) ∙ here.0 found)),
        λ found. let both = there.0 found in
            here.1 (answers pair.0 ∙ ap (λ t. cond t (finite.get m pair.0) None) both.0 ∙ both.1),
      ))

  pub pairs_under_are_under : PairsUnderAreUnder V
  pairs_under_are_under m p = kept-pairs (begins p) m (pairs_under m p) (get-pairs_under m p)

  turned : (t : Bool) (x : Option V) → cond t None x ≡ cond (not t) x None
  turned true x = refl
  turned false x = refl

  pub pairs_without_are_the_others : PairsWithoutAreTheOthers V
  pairs_without_are_the_others m p =
      kept-pairs (λ key. not (begins p key)) m (without_prefix m p)
      (λ q. get-without_prefix m p q ∙ turned (begins p q) (finite.get m q))

  -- ---- together
  same-under : (t : Bool) (x y : Option V) → cond t (cond t x y) None ≡ cond t x None
  same-under true x y = refl
  same-under false x y = refl

  pub under_is_the_others : UnderIsTheOthers V
  under_is_the_others other m p =
      sym (pairs_under_are_under (with_prefix_of p other m) p)
      ∙ ap pairs (same_map (pairs_under (with_prefix_of p other m) p) (pairs_under other p) (λ q.
      get-pairs_under (with_prefix_of p other m) p q
      ∙ ap (λ o. cond (begins p q) o None) (get-with_prefix_of p other m q)
      ∙ same-under (begins p q) (finite.get other q) (finite.get m q)
      ∙ sym (get-pairs_under other p q)))
      ∙ pairs_under_are_under other p

  restored : (t : Bool) (x y : Option V) → (t ≡ false → y ≡ x)
      → cond t (cond t x None) y ≡ x
  restored true x y same = refl
  restored false x y same = same refl

  pub restoring_undoes : RestoringUndoes V
  restoring_undoes before after p same =
      same_map (with_prefix_of p (pairs_under before p) after) before (λ q.
      get-with_prefix_of p (pairs_under before p) after q
      ∙ ap (λ o. cond (begins p q) o (finite.get after q)) (get-pairs_under before p q)
      ∙ restored (begins p q) (finite.get before q) (finite.get after q) (same q))

  pub putting_back_is_nothing : PuttingBackIsNothing V
  putting_back_is_nothing m p =
      restoring_undoes m (without_prefix m p) p (λ q apart.
      get-without_prefix m p q ∙ ap (λ t. cond t None (finite.get m q)) apart)

  pub removing_restores_nothing : RemovingRestoresNothing V
  removing_restores_nothing m p =
      same_map (without_prefix m p) (with_prefix_of p finite.empty m) (λ q.
      get-without_prefix m p q
      ∙ ap (λ o. cond (begins p q) o (finite.get m q)) (sym (finite.get-empty byte_order q))
      ∙ sym (get-with_prefix_of p finite.empty m q))

  pub keeping_restores_into_nothing : KeepingRestoresIntoNothing V
  keeping_restores_into_nothing m p =
      same_map (pairs_under m p) (with_prefix_of p m finite.empty) (λ q.
      get-pairs_under m p q
      ∙ ap (cond (begins p q) (finite.get m q)) (sym (finite.get-empty byte_order q))
      ∙ sym (get-with_prefix_of p m finite.empty q))

  pub empty_prefix_is_all : EmptyPrefixIsAll V
  empty_prefix_is_all other m = (
    same_map (pairs_under m []) m (get-pairs_under m []),
    same_map (without_prefix m []) finite.empty
        (λ q. get-without_prefix m [] q ∙ sym (finite.get-empty byte_order q)),
    same_map (with_prefix_of [] other m) other (get-with_prefix_of [] other m),
  )

  pub apart_prefixes_commute : ApartPrefixesCommute V
  apart_prefixes_commute one other m p q apart also =
      same_map (with_prefix_of p one (with_prefix_of q other m))
      (with_prefix_of q other (with_prefix_of p one m)) (λ key.
      get-with_prefix_of p one (with_prefix_of q other m) key
      ∙ ap (cond (begins p key) (finite.get one key)) (get-with_prefix_of q other m key)
      ∙ cond-apart (begins p key) (begins q key) (finite.get one key) (finite.get other key)
      (finite.get m key) (λ here there. begins-either p q key here there apart also)
      ∙ ap (cond (begins q key) (finite.get other key)) (sym (get-with_prefix_of p one m key))
      ∙ sym (get-with_prefix_of q other (with_prefix_of p one m) key))

module _ {V : Type 0} (same : V → V → Bool) where
  pub restoring_changes_under : RestoringChangesUnder same
  restoring_changes_under reflexive other m p =
      let after = with_prefix_of p other m in
      let under = λ (c : Change V). begins p c.0 in
      ascending_lists_are_fixed (Change V) (λ c. c.0) (changes same m after)
      (filter under (changes same m other)) (changes-ascend same m after)
      (AllPairs-filter (λ a b. IsBefore a.0 b.0) under (changes same m other)
      (changes-ascend same m other))
      (λ c. (
        λ there.
            let found = changes-from same m after c there in
            let answer = get-with_prefix_of p other m c.0 in
            elim (begins p c.0) as (λ t. begins p c.0 ≡ t
            → Contains (filter under (changes same m other)) c) [
              | true ↦ λ is. (Contains-filter under (changes same m other) c).1 (
                changes-to same m other c.0 c.1 c.2 found.0
                    (sym (answer ∙ ap (λ t. cond t (finite.get other c.0) (finite.get m c.0)) is)
                    ∙ found.1) found.2,
                is,
              )
              | false ↦ λ is. absurd (false≢true
                  (sym (differ-itself same reflexive (finite.get m c.0))
                  ∙ (λ i. differ same (found.0 i)
                  ((sym (answer ∙ ap (λ t. cond t (finite.get other c.0) (finite.get m c.0)) is)
                  ∙ found.1) i))
                  ∙ found.2))
            ] refl,
        λ there.
            let kept = (Contains-filter under (changes same m other) c).0 there in
            let found = changes-from same m other c kept.0 in
            changes-to same m after c.0 c.1 c.2 found.0
            (get-with_prefix_of p other m c.0
            ∙ ap (λ t. cond t (finite.get other c.0) (finite.get m c.0)) kept.1 ∙ found.1)
            found.2,
      ))
