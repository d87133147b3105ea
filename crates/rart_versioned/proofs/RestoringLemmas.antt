-- What is put in place of all that a version has under a prefix, and that all stays in order.
use Rattle.std.proofs.Common.{◌≡◌, ℕ, ◌+◌, ◌≤◌, List, ◌++◌, Option, Some, None, IsSome, is_some, cond, Bool, true, false, refl, arith, sym, ap, subst, ◌∙◌}
use Rattle.std.specs.FinMap as finite
use Rattle.std.proofs.lemmas.List.{length-append}
use Rattle.rart_below.specs.Bytes.{begins}
use Rattle.rart_maps.specs.ChangeLists.{joined}
use Rattle.rart_maps.specs.Pairs.{pairs}
use Rattle.std.proofs.lemmas.Bool.{false≢true}
use Rattle.rart_maps.specs.Prefixes.{has_under, pairs_under, without_prefix, with_prefix_of}
use Rattle.rart_maps.specs.Versions.{Map, Version, value_at}
use Rattle.rart_maps.proofs.OrderLemmas.{begins-append}
use Rattle.rart_maps.proofs.PrefixLemmas.{same_map, get-with_prefix_of, key-has-under}
use Rattle.rart_node.specs.Shape.{Shape, prefix_of}
use Rattle.rart_node.specs.Trees.{strip_prefix, found, IsTree}
use Rattle.rart_node.proofs.KeyLemmas.{tree-has-key}
use Rattle.rart_node.proofs.PrefixRestLemmas.{strip_prefix-is}
use Rattle.rart_ways.specs.Prefixes.{HasNoneUnder, IsGrafted, under_or}
use Rattle.rart_ways.proofs.UnderPrefixLemmas.{strip-begins, not-begun}
use Rattle.rart_versioned.specs.Roots.{found_in, map_of, HasSomeIn, IsReplacedUnder, IsTreeIn, IsUnderIn, IsSound}
use Rattle.rart_versioned.proofs.SoundLemmas.{tree-in, few, admitted}
use Rattle.rart_versioned.proofs.VersionDiffLemmas.{entries-few}
use Rattle.rart_versioned.proofs.VersionMapLemmas.{get-found}
use Rattle.rart_versioned.proofs.VersionPrefixLemmas.{cond-none, none-begun, len-under, len-without, under-root}

module _ {V : Type 0} where
  -- ---- below the root
  pub put-part : (p : List ℕ) (part root after : Shape V)
      → IsGrafted p (λ rest. found part (p ++ rest)) root after
      → IsReplacedUnder p (Some part) (Some root) (Some after)
  put-part p part root after grafted = (
    grafted.tree,
    λ q. grafted.finds q
        ∙ elim (strip_prefix p q) as (λ o. strip_prefix p q ≡ o
        → under_or o (λ rest. found part (p ++ rest)) (found root q)
        ≡ cond (is_some o) (found part q) (found root q)) [
          | None ↦ λ _. refl
          | Some w ↦ λ is. ap (found part) (sym (strip_prefix-is p q w is))
        ] refl
        ∙ ap (λ t. cond t (found part q) (found root q)) (sym (strip-begins p q)),
  )

  pub none-emptied : (p : List ℕ) → IsReplacedUnder {V = V} p None None None
  none-emptied p = (tt, λ q. cond-none (begins p q))

  pub same-emptied : (p : List ℕ) (root after : Shape V) → IsTree root → after ≡ root
      → HasNoneUnder p root → IsReplacedUnder p None (Some root) (Some after)
  same-emptied p root after tree same none =
      subst (λ z. IsReplacedUnder p None (Some root) (Some z)) (sym same) (
        tree,
        λ q. elim (begins p q) as (λ t. begins p q ≡ t
            → found root q ≡ cond t None (found root q)) [
              | true ↦ λ begun. none-begun p root none q begun
              | false ↦ λ _. refl
            ] refl,
      )

  -- ---- with what another root has under the prefix
  twice : (t : Bool) (x y : Option V) → cond t (cond t x None) y ≡ cond t x y
  twice true x y = refl
  twice false x y = refl

  restored-in : (p : List ℕ) (from part before after : Option (Shape V))
      → IsUnderIn p from part → IsReplacedUnder p part before after
      → IsReplacedUnder p from before after
  restored-in p from part before after under replaced = (
    replaced.0,
    λ q. replaced.1 q ∙ ap (λ o. cond (begins p q) o (found_in before q)) (under.1 q)
        ∙ twice (begins p q) (found_in from q) (found_in before q),
  )

  -- Where that has nothing there, nothing is put there.
  pub none-restored : (p : List ℕ) (from : Shape V) (before after : Option (Shape V))
      → HasNoneUnder p from → IsReplacedUnder p None before after
      → IsReplacedUnder p (Some from) before after
  none-restored p from before after none =
      restored-in p (Some from) None before after (under-root p from None none)

  pub map-restored : (p : List ℕ) (from before after : Option (Shape V)) → IsTreeIn from
      → IsTreeIn before → IsReplacedUnder p from before after
      → map_of after ≡ with_prefix_of p (map_of from) (map_of before)
  map-restored p from before after other tree replaced =
      same_map (map_of after) (with_prefix_of p (map_of from) (map_of before)) (λ q.
      get-found after q replaced.0 ∙ replaced.1 q
      ∙ (λ i. cond (begins p q) (sym (get-found from q other) i)
      (sym (get-found before q tree) i))
      ∙ sym (get-with_prefix_of p (map_of from) (map_of before) q))

  pub len-joined : (m n : Map V) → finite.len (joined m n) ≤ finite.len m + finite.len n
  len-joined m n =
      let fewer = entries-few (pairs m ++ pairs n) in
      let both = length-append (pairs m) (pairs n) in
      let one = finite.len-entries m in
      let other = finite.len-entries n in
      omega (arith, fewer, both, one, other)

  len-restored : (p : List ℕ) (other m : Map V)
      → finite.len (with_prefix_of p other m) ≤ finite.len m + finite.len other
  len-restored p other m =
      let both = len-joined (pairs_under other p) (without_prefix m p) in
      let one = len-under other p in
      let rest = len-without m p in
      omega (arith, both, one, rest)

  either-some : (t : Bool) (x y : Option V) (P : Type 0) → (IsSome x → P) → (IsSome y → P)
      → IsSome (cond t x y) → P
  either-some true x y P one other some = one some
  either-some false x y P one other some = other some

  pub sound-restored : (most : Option ℕ) (count more later : ℕ) (p : List ℕ)
      (from before after : Option (Shape V)) → IsSound most count before → IsSound most more from
      → count + more ≤ later → IsReplacedUnder p from before after → IsSound most later after
  sound-restored most count more later p from before None sound other le replaced = tt
  sound-restored most count more later p from before (Some root) sound other le replaced =
      let same = map-restored p from before (Some root) (tree-in most more from other)
      (tree-in most count before sound) replaced in
      let fewer = len-restored p (map_of from) (map_of before) in
      let all = few most count before sound in
      let others = few most more from other in (
        replaced.0,
        (λ q there. either-some (begins p q) (found_in from q) (found_in before q) _
            (admitted most more from other q) (admitted most count before sound q)
            (subst IsSome (replaced.1 q) there)),
        subst (λ m. finite.len m ≤ later) (sym same) (omega (arith, fewer, all, others, le)),
      )

  -- ---- whether there is something under the prefix, in the words of the version
  module _ (v : Version V) (p : List ℕ) (root : Option (Shape V))
      (values : (w : List ℕ) → value_at v w ≡ found_in root w) where
    pub some-in : HasSomeIn p root → has_under v p ≡ true
    some-in some =
        key-has-under v p (p ++ some.0) (begins-append p some.0)
        (ap is_some (values (p ++ some.0)) ∙ some.1)
