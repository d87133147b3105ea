-- What look-ups answer in a map cut at a prefix.
use Rattle.std.proofs.Common.{◌≡◌, ◌+◌, ℕ, Bool, true, false, cond, not, List, [], ◌∷◌, length, arith, refl, sym, ap, subst, ◌∙◌}
use Rattle.std.specs.Prelude.{◌==◌, Option, Some, None, Contains, is_some}
use Rattle.std.specs.FinMap as finite
use Rattle.std.proofs.lemmas.Bool.{false≢true, ne_eqb}
use Rattle.std.proofs.lemmas.Cmp.{nat_list_cmp_total}
use Rattle.rart_below.specs.Bytes.{begins}
use Rattle.rart_maps.specs.Pairs.{pairs}
use Rattle.rart_maps.specs.Prefixes.{pairs_under, without_prefix, with_prefix_of, has_under, under_prefix, after_prefix_removal}
use Rattle.rart_maps.specs.Versions.{Map, Version, has_key, value_at}
use Rattle.rart_maps.proofs.ChangeLemmas.{or_else, get-joined}
use Rattle.rart_maps.proofs.ElementLemmas.{Contains-nil, Contains-here}
use Rattle.rart_maps.proofs.FoundLemmas.{Contains-pairs}
use Rattle.rart_maps.proofs.OrderLemmas.{byte_order-IsAntisymmetric}

module _ {V : Type 0} where
  pub same_map : (m n : Map V) → ((q : List ℕ) → finite.get m q ≡ finite.get n q) → m ≡ n
  same_map = finite.same_map nat_list_cmp_total byte_order-IsAntisymmetric

  pub get-pairs_under : (m : Map V) (p q : List ℕ)
      → finite.get (pairs_under m p) q ≡ cond (begins p q) (finite.get m q) None
  get-pairs_under m p q =
      finite.get-retain_keys m (begins p) q
      (λ x tied. ap (begins p) (sym (byte_order-IsAntisymmetric q x tied)))

  turned : (t : Bool) (x : Option V) → cond (not t) x None ≡ cond t None x
  turned true x = refl
  turned false x = refl

  pub get-without_prefix : (m : Map V) (p q : List ℕ)
      → finite.get (without_prefix m p) q ≡ cond (begins p q) None (finite.get m q)
  get-without_prefix m p q =
      finite.get-retain_keys m (λ key. not (begins p key)) q
      (λ x tied. ap (λ key. not (begins p key)) (sym (byte_order-IsAntisymmetric q x tied)))
      ∙ turned (begins p q) (finite.get m q)

  or-none : (x : Option V) → or_else x None ≡ x
  or-none None = refl
  or-none (Some x) = refl

  either : (t : Bool) (x y : Option V) → or_else (cond t x None) (cond t None y) ≡ cond t x y
  either true x y = or-none x
  either false x y = refl

  pub get-with_prefix_of : (p : List ℕ) (other m : Map V) (q : List ℕ)
      → finite.get (with_prefix_of p other m) q
      ≡ cond (begins p q) (finite.get other q) (finite.get m q)
  get-with_prefix_of p other m q =
      get-joined (pairs_under other p) (without_prefix m p) q
      ∙ (λ i. or_else (get-pairs_under other p q i) (get-without_prefix m p q i))
      ∙ either (begins p q) (finite.get other q) (finite.get m q)

  -- ---- whether there is something under a prefix
  some-pair : (m : Map V) → not (finite.len m == 0) ≡ true
      → (key : List ℕ) × (is_some (finite.get m key) ≡ true)
  some-pair m some =
      elim (pairs m) as (λ es. pairs m ≡ es
      → (key : List ℕ) × (is_some (finite.get m key) ≡ true)) [
        | [] ↦ λ is. absurd (false≢true
            (ap (λ n. not (n == 0)) (sym (finite.len-entries m ∙ ap length is)) ∙ some))
        | e ∷ es ↦ λ is. (
          e.0,
          ap is_some ((Contains-pairs m e.0 e.1).0
              (subst (λ z. Contains z e) (sym is) (Contains-here e es))),
        )
      ] refl

  pair-some : (m : Map V) (key : List ℕ) (x : V) → finite.get m key ≡ Some x
      → not (finite.len m == 0) ≡ true
  pair-some m key x there =
      elim (pairs m) as (λ es. pairs m ≡ es → not (finite.len m == 0) ≡ true) [
        | [] ↦ λ is. absurd (Contains-nil (key, x)
            (subst (λ z. Contains z (key, x)) is ((Contains-pairs m key x).1 there)))
        | e ∷ es ↦ λ is. ap (λ n. not (n == 0)) (finite.len-entries m ∙ ap length is)
            ∙ ap not (ne_eqb (length (e ∷ es)) 0 (λ none. omega (arith, none)))
      ] refl

  kept-some : (t : Bool) (o : Option V) → is_some (cond t o None) ≡ true
      → (t ≡ true) × (is_some o ≡ true)
  kept-some true o some = (refl, some)
  kept-some false o some = absurd (false≢true some)

  pub has-under-key : (v : Version V) (p : List ℕ) → has_under v p ≡ true
      → (key : List ℕ) × (begins p key ≡ true) × (has_key v key ≡ true)
  has-under-key v p some =
      let one = some-pair (pairs_under v.content p) some in
      let both = kept-some (begins p one.0) (finite.get v.content one.0)
      (sym (ap is_some (get-pairs_under v.content p one.0)) ∙ one.1) in
      (one.0, both.0, both.1)

  some-key : (m : Map V) (key : List ℕ) (o : Option V) → finite.get m key ≡ o
      → is_some o ≡ true → not (finite.len m == 0) ≡ true
  some-key m key None is there = absurd (false≢true there)
  some-key m key (Some x) is there = pair-some m key x is

  pub key-has-under : (v : Version V) (p key : List ℕ) → begins p key ≡ true
      → has_key v key ≡ true → has_under v p ≡ true
  key-has-under v p key begun there =
      some-key (pairs_under v.content p) key (finite.get v.content key)
      (get-pairs_under v.content p key ∙ ap (λ t. cond t (finite.get v.content key) None) begun)
      there

  -- ---- what the calls on a prefix make of a version
  pub value_at-under_prefix : (v : Version V) (p : List ℕ) (more : ℕ) (key : List ℕ)
      → value_at (under_prefix v p more) key ≡ cond (begins p key) (value_at v key) None
  value_at-under_prefix v p more key = get-pairs_under v.content p key

  abbrev pub removed : Version V → List ℕ → Bool → Version V
  removed v p some =
      cond some (record { content = without_prefix v.content p; number = v.number + 1 }) v

  -- what is under a prefix where nothing is
  none-under : (v : Version V) (p key : List ℕ) (t : Bool) (o : Option V) → begins p key ≡ t
      → value_at v key ≡ o → has_under v p ≡ false → o ≡ cond t None o
  none-under v p key true None begun is none = refl
  none-under v p key false None begun is none = refl
  none-under v p key false (Some x) begun is none = refl
  none-under v p key true (Some x) begun is none =
      absurd (false≢true (sym none ∙ key-has-under v p key begun (ap is_some is)))

  pub value_at-prefix_removal : (v : Version V) (p key : List ℕ)
      → value_at (after_prefix_removal v p) key ≡ cond (begins p key) None (value_at v key)
  value_at-prefix_removal v p key =
      elim (has_under v p) as (λ t. has_under v p ≡ t
      → value_at (removed v p t) key ≡ cond (begins p key) None (value_at v key)) [
        | true ↦ λ _. get-without_prefix v.content p key
        | false ↦ λ none. none-under v p key (begins p key) (value_at v key) refl refl none
      ] refl
