-- The last key under a prefix up to a bound, from the last key up to it whatever begins that.
use Rattle.std.proofs.Common.{◌≡◌, ◌<◌, ◌+◌, ◌⊎◌, ℕ, Bool, true, false, cond, List, [], ◌∷◌, ◌++◌, Option, Some, None, is_some, length, take, reverse, refl, sym, ap, subst, ◌∙◌, ⊎_elim, inl, inr, arith}
use Rattle.std.specs.Prelude.{◌==◌, ◌&&◌, Contains, AllPairs, nat_eq}
use Rattle.std.specs.List.{starts_with}
use Rattle.std.specs.Int.{w64, to_be_bytes}
use Rattle.std.specs.declared.ops.Bound.{Bound}
use Rattle.std.specs.declared.ops.Bound.TheVariants.{Included, Excluded, Unbounded}
use Rattle.std.proofs.lemmas.Bool.{and_parts, and_from, eqb-true, eq-eqb, false≢true}
use Rattle.std.proofs.lemmas.List.{length-append, reverse-append, reverse-reverse}
use Rattle.std.proofs.Math.Seq.{take-append_seam}
use Rattle.rart_below.specs.Bytes.{begins}
use Rattle.rart_maps.specs.FoundLaws.{KeysAscend}
use Rattle.rart_maps.specs.Order.{IsAtMost, IsBefore, MeetsHigh}
use Rattle.rart_maps.specs.Pairs.{within}
use Rattle.rart_maps.specs.Versions.{Version, has_key, value_at}
use Rattle.rart_maps.proofs.CallerLemmas.{AllPairs-first, AllPairs-rest, Contains-cases, Contains-here, Contains-later, Contains-nil, begins-append, within_ascends, within_is_found}
use Rattle.example_uses.specs.declared.timeline.Record.{Record}
use Rattle.example_uses.specs.Timelines.{IsLastPair, IsLastUnder, beginning, if_begun, record_key}

-- ---- of strings between two that a prefix begins
abbrev head_of : List ℕ → ℕ
head_of [] = 0
head_of (b ∷ u) = b

abbrev tail_of : List ℕ → List ℕ
tail_of [] = []
tail_of (b ∷ u) = u

at-most-parts : (b c : ℕ) (u w : List ℕ) → IsAtMost (b ∷ u) (c ∷ w) →
    (b < c) ⊎ ((b ≡ c) × IsAtMost u w)
at-most-parts b c u w most =
    ⊎_elim
    (λ same. inr (ap head_of same, inl (ap tail_of same)))
    (λ before. ⊎_elim (λ less. inl less) (λ both. inr (both.0, inr both.1)) before)
    most

at-most-none : (b : ℕ) (u : List ℕ) → IsAtMost (b ∷ u) [] → ⊥
at-most-none b u most =
    ⊎_elim (λ same. omega (arith, ap length same)) (λ before. before) most

-- Of strings between two that a prefix begins, all are begun by it.
pub begins-between : (p u k w : List ℕ) → begins p u ≡ true → begins p w ≡ true →
    IsAtMost u k → IsAtMost k w → begins p k ≡ true
begins-between [] u k w first last from to = refl
begins-between (b ∷ p) [] k w first last from to = absurd (false≢true first)
begins-between (b ∷ p) (c ∷ u) k [] first last from to = absurd (false≢true last)
begins-between (b ∷ p) (c ∷ u) [] (d ∷ w) first last from to = absurd (at-most-none c u from)
begins-between (b ∷ p) (c ∷ u) (e ∷ k) (d ∷ w) first last from to =
    let one = and_parts (b == c) (begins p u) first in
    let other = and_parts (b == d) (begins p w) last in
    let low = eqb-true b c one.0 in
    let high = eqb-true b d other.0 in
    ⊎_elim
    (λ less. ⊎_elim
    (λ more. absurd (omega (arith, less, more, low, high)))
    (λ there. absurd (omega (arith, less, there.0, low, high)))
    (at-most-parts e d k w to))
    (λ here. ⊎_elim
    (λ more. absurd (omega (arith, here.0, more, low, high)))
    (λ there. and_from (b == e) (begins p k) (eq-eqb b e (low ∙ here.0))
    (begins-between p u k w one.1 other.1 here.1 there.1))
    (at-most-parts e d k w to))
    (at-most-parts c e u k from)

-- ---- of the last of an ascending list
module _ {A : Type 0} (R : A → A → Type 0) where
  last-there : (front : List A) (last : A) → Contains (front ++ last ∷ []) last
  last-there [] last = Contains-here last []
  last-there (x ∷ front) last =
      Contains-later x (front ++ last ∷ []) last (last-there front last)

  last-greatest : (front : List A) (last : A) → AllPairs R (front ++ last ∷ []) →
      (x : A) → Contains (front ++ last ∷ []) x → (x ≡ last) ⊎ R x last
  last-greatest [] last pairs x there =
      ⊎_elim (λ same. inl (sym same)) (λ later. absurd (Contains-nil x later))
      (Contains-cases last [] x there)
  last-greatest (y ∷ front) last pairs x there =
      let rest = front ++ last ∷ [] in
      ⊎_elim
      (λ same. inr (subst (λ z. R z last) same
      (AllPairs-first R y rest pairs last (last-there front last))))
      (λ later. last-greatest front last (AllPairs-rest R y rest pairs) x later)
      (Contains-cases y rest x there)

-- ---- of what is found up to a bound
abbrev Pair : Type 0
Pair = List ℕ × ℕ

module _ (v : Version ℕ) (high : Bound (List ℕ)) where
  abbrev found : List Pair
  found = within v.content Unbounded high

  -- a key that is there and meets the bound is found
  is-found : (key : List ℕ) (o : Option ℕ) → value_at v key ≡ o → is_some o ≡ true →
      MeetsHigh high key → (x : ℕ) × Contains found (key, x)
  is-found key None is there meets = absurd (false≢true there)
  is-found key (Some x) is there meets =
      (x, (within_is_found ℕ v.content Unbounded high key x).1 (tt, meets, is))

  key-found : (key : List ℕ) → has_key v key ≡ true → MeetsHigh high key →
      (x : ℕ) × Contains found (key, x)
  key-found key there meets = is-found key (value_at v key) refl there meets

  none-found : reverse found ≡ [] → (key : List ℕ) → has_key v key ≡ true →
      MeetsHigh high key → ⊥
  none-found none key there meets =
      let here = key-found key there meets in
      Contains-nil (key, here.0)
      (subst (λ (list : List Pair). Contains list (key, here.0))
      (sym (reverse-reverse found) ∙ ap reverse none) here.1)

  module _ (last : Pair) (others : List Pair) (is : reverse found ≡ last ∷ others) where
    found-is : found ≡ reverse others ++ last ∷ []
    found-is =
        sym (reverse-reverse found) ∙ ap reverse is ∙ reverse-append (last ∷ []) others

    last-found : MeetsHigh high last.0 × (value_at v last.0 ≡ Some last.1)
    last-found =
        let told = (within_is_found ℕ v.content Unbounded high last.0 last.1).0
        (subst (λ (list : List Pair). Contains list last) (sym found-is)
        (last-there (λ (a : Pair) b. IsBefore a.0 b.0) (reverse others) last)) in
        (told.1, told.2)

    at-most-last : (key : List ℕ) → has_key v key ≡ true → MeetsHigh high key →
        IsAtMost key last.0
    at-most-last key there meets =
        let here = key-found key there meets in
        ⊎_elim
        (λ (same : ◌≡◌ {A = Pair} (key, here.0) last). inl (ap (λ (pair : Pair). pair.0) same))
        (λ before. inr before)
        (last-greatest (λ (a : Pair) b. IsBefore a.0 b.0) (reverse others) last
        (subst (λ list. KeysAscend (λ (pair : Pair). pair.0) list) found-is
        (within_ascends ℕ v.content Unbounded high))
        (key, here.0)
        (subst (λ (list : List Pair). Contains list (key, here.0)) found-is here.1))

  -- ---- where the bound is a string that a prefix begins
  module _ (p w : List ℕ) (begun : begins p w ≡ true)
      (below : (key : List ℕ) → MeetsHigh high key → IsAtMost key w) where
    last-under : (told : Option Record) → IsLastPair v.content high told →
        IsLastUnder v p high (if_begun p told)
    last-under None none = λ key one. none-found none key one.2 one.1
    last-under (Some it) one =
        let last : Pair = (it.key.items, it.value) in
        let here = last-found last one.0 one.1 in
        elim (begins p it.key.items) as (λ t. begins p it.key.items ≡ t →
        IsLastUnder v p high (cond t (Some it) None)) [
          | true ↦ λ is. (
            (is, here.0, ap is_some here.1),
            here.1,
            λ key other. at-most-last last one.0 one.1 key other.2 other.1,
          )
          | false ↦ λ is. λ key other. false≢true (sym is ∙
              begins-between p key it.key.items w other.0 begun
              (at-most-last last one.0 one.1 key other.2 other.1)
              (below it.key.items here.0))
        ] refl

-- ---- of the keys of an id
length-beginning : (id : List ℕ) → length (beginning id) ≡ length id + 1
length-beginning id = length-append id (47 ∷ [])

-- the front of a key of an id
pub key-front : (id : List ℕ) (time : ℕ) (key : List ℕ) → key ≡ record_key id time →
    take (length id + 1) key ≡ beginning id
key-front id time key is =
    (λ i. take (sym (length-beginning id) i) (is i))
    ∙ take-append_seam (beginning id) (to_be_bytes w64 time)

pub key-begun : (id : List ℕ) (time : ℕ) → begins (beginning id) (record_key id time) ≡ true
key-begun id time = begins-append (beginning id) (to_be_bytes w64 time)

-- Up to a key of an id, that key among them, and before it.
pub last-until : (v : Version ℕ) (id : List ℕ) (time : ℕ) (told : Option Record) →
    IsLastPair v.content (Included (record_key id time)) told →
    IsLastUnder v (beginning id) (Included (record_key id time)) (if_begun (beginning id) told)
last-until v id time told last =
    last-under v (Included (record_key id time)) (beginning id) (record_key id time)
    (key-begun id time) (λ key meets. meets) told last

pub last-before : (v : Version ℕ) (id : List ℕ) (time : ℕ) (told : Option Record) →
    IsLastPair v.content (Excluded (record_key id time)) told →
    IsLastUnder v (beginning id) (Excluded (record_key id time)) (if_begun (beginning id) told)
last-before v id time told last =
    last-under v (Excluded (record_key id time)) (beginning id) (record_key id time)
    (key-begun id time) (λ key meets. inr meets) told last

-- ---- as the calls tell it
starts-begins : (s p : List ℕ) → starts_with nat_eq s p ≡ begins p s
starts-begins s [] = refl
starts-begins [] (b ∷ p) = refl
starts-begins (c ∷ s) (b ∷ p) = ap (λ t. (b == c) && t) (starts-begins s p)

begun-told : (s t p : List ℕ) (r told : Bool) → r ≡ starts_with nat_eq s p → s ≡ t →
    r ≡ told → begins p t ≡ told
begun-told s t p r told value same is =
    ap (begins p) (sym same) ∙ sym (starts-begins s p) ∙ sym value ∙ is

pub begun-kept : (s p : List ℕ) (r : Bool) (told : Option Record) (it : Record) →
    told ≡ Some it → r ≡ starts_with nat_eq s p → s ≡ it.key.items → r ≡ true →
    Some it ≡ if_begun p told
begun-kept s p r told it was value same is =
    sym (ap (if_begun p) was
    ∙ ap (λ t. cond t (Some it) None) (begun-told s it.key.items p r true value same is))

pub begun-dropped : (s p : List ℕ) (r : Bool) (told : Option Record) (it : Record) →
    told ≡ Some it → r ≡ starts_with nat_eq s p → s ≡ it.key.items → r ≡ false →
    None ≡ if_begun p told
begun-dropped s p r told it was value same is =
    sym (ap (if_begun p) was
    ∙ ap (λ t. cond t (Some it) None) (begun-told s it.key.items p r false value same is))

module _ (v : Version ℕ) (id : List ℕ) (time : ℕ) (told : Option Record) (key : List ℕ)
    (is : key ≡ record_key id time) (shown viewed : List ℕ) (result : Option Record) where
  of-front : viewed ≡ key → result ≡ if_begun (take (length id + 1) viewed) told →
      if_begun (beginning id) told ≡ result
  of-front same gives =
      sym (gives ∙ ap (λ p. if_begun p told) (key-front id time viewed (same ∙ is)))

  pub told-until : shown ≡ key → IsLastPair v.content (Included shown) told → viewed ≡ key →
      result ≡ if_begun (take (length id + 1) viewed) told →
      IsLastUnder v (beginning id) (Included (record_key id time)) result
  told-until shows last same gives =
      subst (IsLastUnder v (beginning id) (Included (record_key id time))) (of-front same gives)
      (last-until v id time told
      (subst (λ w. IsLastPair v.content (Included w) told) (shows ∙ is) last))

  pub told-before : shown ≡ key → IsLastPair v.content (Excluded shown) told → viewed ≡ key →
      result ≡ if_begun (take (length id + 1) viewed) told →
      IsLastUnder v (beginning id) (Excluded (record_key id time)) result
  told-before shows last same gives =
      subst (IsLastUnder v (beginning id) (Excluded (record_key id time))) (of-front same gives)
      (last-before v id time told
      (subst (λ w. IsLastPair v.content (Excluded w) told) (shows ∙ is) last))
