-- How many keys there are under a prefix and without it, and how long they are.
use Rattle.std.proofs.Common.{◌≡◌, ◌∙◌, ◌+◌, ◌-◌, ◌≤◌, ◌==◌, ℕ, List, Option, None, true, false, Bool, ap, arith, cond, is_some, length, not, refl, sym}
use Rattle.std.proofs.lemmas.Bool.{false≢true}
use Rattle.std.proofs.lemmas.Bool.Decides.{nat_tests}
use Rattle.std.proofs.lemmas.List.Filters.{length-filter_both}
use Rattle.std.specs.FinMap as finite
use Rattle.rart_below.specs.Bytes.{begins, byte_order}
use Rattle.rart_c.specs.Trees.{KeepsLimit}
use Rattle.rart_maps.proofs.PrefixLawLemmas.{pairs_under_are_under, pairs_without_are_the_others, under_is_the_others}
use Rattle.rart_maps.proofs.PrefixLemmas.{same_map, get-with_prefix_of, get-without_prefix, value_at-under_prefix, value_at-prefix_removal}
use Rattle.rart_maps.specs.Pairs.{pairs, under}
use Rattle.rart_maps.specs.Prefixes.{after_prefix_removal, after_prefix_restoring, has_under, pairs_under, under_prefix, with_prefix_of, without_prefix}
use Rattle.rart_maps.specs.Versions.{Map, Version, empty_at, value_at}
use Rattle.rart_versioned.proofs.VersionPrefixLemmas.{no-root-none}

none-of : (n : ℕ) → not (n == 0) ≡ false → 0 ≡ n
none-of n is = grind (arith, nat_tests)

module _ {V : Type 0} where
  pub len-under : (m : Map V) (p : List ℕ) → length (under m p) ≡ finite.len (pairs_under m p)
  len-under m p =
      sym (finite.len-entries (pairs_under m p) ∙ ap length (pairs_under_are_under V m p))

  both-parts : (m : Map V) (p : List ℕ)
      → finite.len (without_prefix m p) + length (under m p) ≡ finite.len m
  both-parts m p =
      let both =
      length-filter_both (λ (pair : List ℕ × V). begins p pair.0)
      (λ pair. not (begins p pair.0)) (λ _. refl) (pairs m) in
      let all = finite.len-entries m in
      let kept = finite.len-entries (without_prefix m p)
      ∙ ap length (pairs_without_are_the_others V m p) in
      omega (arith, both, all, kept)

  others-stay : (t : Bool) (theirs ours : Option V)
      → cond t None (cond t theirs ours) ≡ cond t None ours
  others-stay true theirs ours = refl
  others-stay false theirs ours = refl

  pub len-restored : (other m : Map V) (p : List ℕ)
      → finite.len m - length (under m p) + length (under other p)
      ≡ finite.len (with_prefix_of p other m)
  len-restored other m p =
      let after = with_prefix_of p other m in
      let parts = both-parts m p in
      let all = both-parts after p in
      let there = ap length (under_is_the_others V other m p) in
      let rest = ap finite.len (same_map (without_prefix after p) (without_prefix m p) (λ q.
      get-without_prefix after p q ∙ ap (cond (begins p q) None) (get-with_prefix_of p other m q)
      ∙ others-stay (begins p q) (finite.get other q) (finite.get m q)
      ∙ sym (get-without_prefix m p q))) in
      omega (arith, parts, all, there, rest)

  -- without a key under the prefix, none goes
  pub none-removed : (v : Version V) (p : List ℕ) → has_under v p ≡ false
      → (0 ≡ length (under v.content p)) × (v ≡ after_prefix_removal v p)
  none-removed v p none = (
    none-of (finite.len (pairs_under v.content p)) none ∙ sym (len-under v.content p),
    sym (ap (λ t. cond t (record {
      content = without_prefix v.content p;
      number = v.number + 1;
    }) v) none),
  )

  pub none-at-first : (p : List ℕ) → (0 ≡ length (under (empty_at {V = V} 0).content p))
      × (empty_at {V = V} 0 ≡ after_prefix_removal (empty_at 0) p)
  none-at-first p =
      none-removed (empty_at 0) p
      (no-root-none (empty_at 0) p (λ w. finite.get-empty byte_order w))

  module _ (before : Version V) (p : List ℕ) where
    pub few-under : length (under before.content p) ≤ finite.len before.content
    few-under = let parts = both-parts before.content p in omega (arith, parts)

    pub len-after : (after : Version V) → after ≡ after_prefix_removal before p
        → has_under before p ≡ true
        → finite.len before.content - length (under before.content p) ≡ finite.len after.content
    len-after after is some =
        let parts = both-parts before.content p in
        let left = ap (λ v. finite.len v.content) is
        ∙ ap (λ t. finite.len (cond t (record {
          content = without_prefix before.content p;
          number = before.number + 1;
        }) before).content) some in
        omega (arith, parts, left)

  module _ (longest : ℕ) (before : Version V) (p : List ℕ) where
    abbrev Keeps : Version V → Type 0
    Keeps version = KeepsLimit (record { version = version; longest = longest })

    taken : (t : Bool) (o : Option V) → is_some (cond t o None) ≡ true → is_some o ≡ true
    taken true o some = some
    taken false o some = absurd (false≢true some)

    others : (t : Bool) (o : Option V) → is_some (cond t None o) ≡ true → is_some o ≡ true
    others true o some = absurd (false≢true some)
    others false o some = some

    pub KeepsLimit-under : Keeps before → (after : Version V) → after ≡ under_prefix before p 1
        → Keeps after
    KeepsLimit-under limit after is key there =
        limit key (taken (begins p key) (value_at before key)
        (sym (ap is_some (ap (λ v. value_at v key) is ∙ value_at-under_prefix before p 1 key))
        ∙ there))

    pub KeepsLimit-without : Keeps before → (after : Version V)
        → after ≡ after_prefix_removal before p → Keeps after
    KeepsLimit-without limit after is key there =
        limit key (others (begins p key) (value_at before key)
        (sym (ap is_some (ap (λ v. value_at v key) is ∙ value_at-prefix_removal before p key))
        ∙ there))

    either : (t : Bool) (theirs ours : Option V) (n : ℕ) → (is_some theirs ≡ true → n ≤ longest)
        → (is_some ours ≡ true → n ≤ longest) → is_some (cond t theirs ours) ≡ true → n ≤ longest
    either true theirs ours n short also there = short there
    either false theirs ours n short also there = also there

    pub KeepsLimit-restored : Keeps before → (other : Version V) (most : ℕ)
        → KeepsLimit (record { version = other; longest = most }) → most ≤ longest
        → (after : Version V) → after ≡ after_prefix_restoring before p other → Keeps after
    KeepsLimit-restored limit other most theirs le after is key there =
        either (begins p key) (value_at other key) (value_at before key) (length key)
        (λ some. let short = theirs key some in omega (arith, short, le)) (limit key)
        (sym (ap is_some (ap (λ v. value_at v key) is
        ∙ get-with_prefix_of p other.content before.content key)) ∙ there)
