-- What is kept of a version under a prefix or without it, and that all stays in order.
use Rattle.std.proofs.Common.{◌≡◌, ℕ, ◌+◌, ◌≤◌, List, ◌++◌, Option, Some, None, IsSome, is_some, length, cond, not, Bool, true, false, refl, arith, sym, ap, subst, ◌∙◌}
use Rattle.std.specs.Prelude.{filter}
use Rattle.std.specs.FinMap as finite
use Rattle.std.proofs.lemmas.Bool.{false≢true}
use Rattle.std.proofs.lemmas.List.Sums.{length-filter, count_by-le-length}
use Rattle.rart_below.specs.Bytes.{begins}
use Rattle.rart_node.specs.Shape.{Shape}
use Rattle.rart_node.specs.Trees.{strip_prefix, found}
use Rattle.rart_ways.specs.Prefixes.{HasNoneUnder, HasSomeUnder, IsUnderAlone, IsCleared, under_or}
use Rattle.rart_ways.proofs.UnderPrefixLemmas.{strip-begins}
use Rattle.rart_maps.specs.Pairs.{pairs}
use Rattle.rart_maps.specs.Prefixes.{pairs_under, without_prefix, has_under, after_prefix_removal}
use Rattle.rart_maps.specs.Versions.{Map, Version, value_at}
use Rattle.rart_maps.proofs.OrderLemmas.{begins-append, begins-rest}
use Rattle.rart_maps.proofs.PrefixLawLemmas.{pairs_under_are_under, pairs_without_are_the_others}
use Rattle.rart_maps.proofs.PrefixLemmas.{same_map, get-pairs_under, get-without_prefix, has-under-key, key-has-under}
use Rattle.rart_versioned.specs.Roots.{found_in, map_of, IsTreeIn, IsUnderIn, IsSound}
use Rattle.rart_versioned.proofs.VersionMapLemmas.{get-found}
use Rattle.rart_versioned.proofs.SoundLemmas.{tree-in, few, admitted}

module _ {V : Type 0} where
  -- ---- how many keys
  pub filter-fewer : (test : List ℕ × V → Bool) (list : List (List ℕ × V))
      → length (filter test list) ≤ length list
  filter-fewer test list =
      let same = length-filter test list in
      let less = count_by-le-length test list in
      omega (arith, same, less)

  pub len-under : (m : Map V) (p : List ℕ) → finite.len (pairs_under m p) ≤ finite.len m
  len-under m p =
      let kept = finite.len-entries (pairs_under m p) ∙ ap length (pairs_under_are_under V m p) in
      let all = finite.len-entries m in
      let fewer = filter-fewer (λ pair. begins p pair.0) (pairs m) in
      omega (arith, kept, all, fewer)

  pub len-without : (m : Map V) (p : List ℕ) → finite.len (without_prefix m p) ≤ finite.len m
  len-without m p =
      let kept = finite.len-entries (without_prefix m p)
      ∙ ap length (pairs_without_are_the_others V m p) in
      let all = finite.len-entries m in
      let fewer = filter-fewer (λ pair. not (begins p pair.0)) (pairs m) in
      omega (arith, kept, all, fewer)

  -- ---- under the prefix alone
  pub cond-none : (t : Bool) → ◌≡◌ {A = Option V} None (cond t None None)
  cond-none true = refl
  cond-none false = refl

  pub under-none : (p : List ℕ) → IsUnderIn {V = V} p None None
  under-none p = (tt, λ q. cond-none (begins p q))

  pub none-begun : (p : List ℕ) (root : Shape V) → HasNoneUnder p root → (q : List ℕ)
      → begins p q ≡ true → found root q ≡ None
  none-begun p root none q begun =
      let more = begins-rest p q begun in ap (found root) more.1 ∙ none more.0

  pub under-root : (p : List ℕ) (root : Shape V) (o : Option (Shape V)) → IsUnderAlone p root o
      → IsUnderIn p (Some root) o
  under-root p root None none = (
    tt,
    λ q. elim (begins p q) as (λ t. begins p q ≡ t → None ≡ cond t (found root q) None) [
      | true ↦ λ begun. sym (none-begun p root none q begun)
      | false ↦ λ _. refl
    ] refl,
  )
  under-root p root (Some after) alone = (alone.0, alone.1)

  pub map-under : (before after : Option (Shape V)) (p : List ℕ) → IsTreeIn before
      → IsUnderIn p before after → map_of after ≡ pairs_under (map_of before) p
  map-under before after p tree under =
      same_map (map_of after) (pairs_under (map_of before) p) (λ q.
      get-found after q under.0 ∙ under.1 q
      ∙ ap (λ o. cond (begins p q) o None) (sym (get-found before q tree))
      ∙ sym (get-pairs_under (map_of before) p q))

  chosen-some : (t : Bool) (o : Option V) → IsSome (cond t o None) → IsSome o
  chosen-some true o some = some
  chosen-some false o some = absurd (false≢true some)

  pub sound-under : (most : Option ℕ) (count later : ℕ) (before after : Option (Shape V))
      (p : List ℕ) → IsSound most count before → count ≤ later → IsUnderIn p before after
      → IsSound most later after
  sound-under most count later before None p sound le under = tt
  sound-under most count later before (Some root) p sound le under =
      let same = map-under before (Some root) p (tree-in most count before sound) under in
      let fewer = len-under (map_of before) p in
      let all = few most count before sound in (
        under.0,
        (λ q there. admitted most count before sound q
            (chosen-some (begins p q) (found_in before q) (subst IsSome (under.1 q) there))),
        subst (λ m. finite.len m ≤ later) (sym same) (omega (arith, fewer, all, le)),
      )

  -- ---- without the prefix
  -- After, below the root, if there still is one, is nothing under p, and else what was there.
  abbrev pub IsClearedIn : List ℕ → Option (Shape V) → Option (Shape V) → Type 0
  IsClearedIn p before after =
      IsTreeIn after × ((q : List ℕ) → found_in after q ≡ cond (begins p q) None (found_in before q))

  under_or-none : (o : Option (List ℕ)) (was : Option V)
      → under_or o (λ rest. None) was ≡ cond (is_some o) None was
  under_or-none None was = refl
  under_or-none (Some rest) was = refl

  pub cleared-part : (p : List ℕ) (root after : Shape V) → IsCleared p root after
      → IsClearedIn p (Some root) (Some after)
  cleared-part p root after cleared = (
    cleared.tree,
    λ q. cleared.finds q ∙ under_or-none (strip_prefix p q) (found root q)
        ∙ ap (λ t. cond t None (found root q)) (sym (strip-begins p q)),
  )

  pub cleared-whole : (p : List ℕ) (root : Shape V)
      → ((q : List ℕ) → begins p q ≡ false → found root q ≡ None)
      → IsClearedIn p (Some root) None
  cleared-whole p root only = (
    tt,
    λ q. elim (begins p q) as (λ t. begins p q ≡ t → None ≡ cond t None (found root q)) [
      | true ↦ λ _. refl
      | false ↦ λ apart. sym (only q apart)
    ] refl,
  )

  pub map-cleared : (before after : Option (Shape V)) (p : List ℕ) → IsTreeIn before
      → IsClearedIn p before after → map_of after ≡ without_prefix (map_of before) p
  map-cleared before after p tree cleared =
      same_map (map_of after) (without_prefix (map_of before) p) (λ q.
      get-found after q cleared.0 ∙ cleared.1 q
      ∙ ap (cond (begins p q) None) (sym (get-found before q tree))
      ∙ sym (get-without_prefix (map_of before) p q))

  other-some : (t : Bool) (o : Option V) → IsSome (cond t None o) → IsSome o
  other-some true o some = absurd (false≢true some)
  other-some false o some = some

  pub sound-cleared : (most : Option ℕ) (count later : ℕ) (before after : Option (Shape V))
      (p : List ℕ) → IsSound most count before → count ≤ later → IsClearedIn p before after
      → IsSound most later after
  sound-cleared most count later before None p sound le cleared = tt
  sound-cleared most count later before (Some root) p sound le cleared =
      let same = map-cleared before (Some root) p (tree-in most count before sound) cleared in
      let fewer = len-without (map_of before) p in
      let all = few most count before sound in (
        cleared.0,
        (λ q there. admitted most count before sound q
            (other-some (begins p q) (found_in before q) (subst IsSome (cleared.1 q) there))),
        subst (λ m. finite.len m ≤ later) (sym same) (omega (arith, fewer, all, le)),
      )

  -- ---- whether there is something, in the words of the version
  module _ (v : Version V) (root : Shape V) (p : List ℕ)
      (values : (w : List ℕ) → found root w ≡ value_at v w) where
    pub some-there : HasSomeUnder p root → has_under v p ≡ true
    some-there some =
        key-has-under v p (p ++ some.0) (begins-append p some.0)
        (sym (ap is_some (values (p ++ some.0))) ∙ some.1)

    pub none-there : HasNoneUnder p root → has_under v p ≡ false
    none-there none =
        elim (has_under v p) as (λ t. has_under v p ≡ t → t ≡ false) [
          | true ↦ λ is.
              let key = has-under-key v p is in
              absurd (false≢true (sym (ap is_some (none-begun p root none key.0 key.1))
              ∙ ap is_some (values key.0) ∙ key.2))
          | false ↦ λ _. refl
        ] refl

    pub there-none : has_under v p ≡ false → HasNoneUnder p root
    there-none is rest =
        elim (found root (p ++ rest)) as (λ o. found root (p ++ rest) ≡ o → o ≡ None) [
          | None ↦ λ _. refl
          | Some x ↦ λ here. absurd (false≢true (sym is
              ∙ key-has-under v p (p ++ rest) (begins-append p rest)
              (sym (ap is_some (values (p ++ rest))) ∙ ap is_some here)))
        ] refl

  -- a version without a key has nothing under a prefix
  pub no-root-none : (v : Version V) (p : List ℕ) → ((w : List ℕ) → value_at v w ≡ None)
      → has_under v p ≡ false
  no-root-none v p none =
      elim (has_under v p) as (λ t. has_under v p ≡ t → t ≡ false) [
        | true ↦ λ is.
            let key = has-under-key v p is in
            absurd (false≢true (sym (ap is_some (none key.0)) ∙ key.2))
        | false ↦ λ _. refl
      ] refl

  pub nothing-stays : (v : Version V) (p : List ℕ) → has_under v p ≡ false
      → v ≡ after_prefix_removal v p
  nothing-stays v p none =
      sym (ap (λ t. cond t (record { content = without_prefix v.content p; number = v.number + 1 }) v)
      none)

  pub something-goes : (v : Version V) (p : List ℕ) → has_under v p ≡ true
      → record { content = without_prefix v.content p; number = v.number + 1 }
      ≡ after_prefix_removal v p
  something-goes v p some =
      sym (ap (λ t. cond t (record { content = without_prefix v.content p; number = v.number + 1 }) v)
      some)
