-- Commands that only read: they leave the family, visitors are replied as iterators, and
-- intersections swap with their places.
use Rattle.std.proofs.Common.{◌≡◌, ℕ, List, length, refl, sym, ap, ◌∙◌, ⊎_elim}
use Rattle.std.proofs.lemmas.List.{length-map}
use Rattle.std.proofs.lemmas.Simd.{map-map}
use Rattle.std.specs.Prelude.{Option, Some, None}
use Rattle.rart_maps.specs.Versions.{Map, Version}
use Rattle.rart_maps.specs.Pairs.{common}
use Rattle.rart_maps.proofs.PairLawLemmas.{common_swaps}
use Rattle.rart_family.specs.Replies.{Reply, Pairs, ValuePairs, Count, NoVersion}
use Rattle.rart_family.specs.Families.{Family, Call, Reads, Meets, call_outcome, called, value_pairs_of, version_at, call_of}
use Rattle.rart_family.specs.Laws.{swapped_reply, OnlyReads, ReadsLeaveFamily, VisitorsReplyAsIterators, IntersectionsSwap}

placed_leaves : {V : Type 0} (f : Family V) (reply : Version V → Reply V)
    (found : Option (Version V)) → (call_outcome f (λ v. (reply v, f)) found).1 ≡ f
placed_leaves f reply None = refl
placed_leaves f reply (Some v) = refl

met_leaves : {V : Type 0} (f : Family V) (reply : Version V → Version V → Reply V)
    (left right : Option (Version V))
    → (call_outcome f (λ one. call_outcome f (λ other. (reply one other, f)) right) left).1 ≡ f
met_leaves f reply None right = refl
met_leaves f reply (Some one) right = placed_leaves f (reply one) right

after_reading : {V : Type 0} (f : Family V) (call : Call V) → OnlyReads call → (called f call).1 ≡ f
after_reading f (Reads place reply) reads = placed_leaves f reply (version_at f place)
after_reading f (Meets left right reply) reads =
    met_leaves f reply (version_at f left) (version_at f right)
after_reading f call reads = absurd reads

-- Where what is replied of two versions in turn is what is replied of them swapped, so it is where
-- either may be lacking.
met_turns : {V : Type 0} (f : Family V) (turned : Reply V → Reply V) → NoVersion ≡ turned NoVersion
    → (reply other : Version V → Version V → Reply V)
    → ((one two : Version V) → other two one ≡ turned (reply one two))
    → (left right : Option (Version V))
    → (call_outcome f (λ two. call_outcome f (λ one. (other two one, f)) left) right).0
    ≡ turned (call_outcome f (λ one. call_outcome f (λ two. (reply one two, f)) right) left).0
met_turns f turned none reply other turns None None = none
met_turns f turned none reply other turns None (Some two) = none
met_turns f turned none reply other turns (Some one) None = none
met_turns f turned none reply other turns (Some one) (Some two) = turns one two

module _ {V : Type 0} where
  pairs-swap : (one two : Map V) → Pairs (common two one) ≡ swapped_reply (Pairs (common one two))
  pairs-swap one two = ap Pairs (common_swaps V one two)

  value_pairs-swap : (one two : Map V) → ValuePairs (value_pairs_of (common two one))
      ≡ swapped_reply (ValuePairs (value_pairs_of (common one two)))
  value_pairs-swap one two =
      ap (λ found. ValuePairs (value_pairs_of found)) (common_swaps V one two)
      ∙ ap ValuePairs (map-map _ _ (common one two) ∙ sym (map-map _ _ (common one two)))

  abbrev counted : ℕ → Reply V
  counted number = Count number

  count-stays : (one two : Map V)
      → counted (length (common two one)) ≡ counted (length (common one two))
  count-stays one two =
      ap (λ found. counted (length found)) (common_swaps V one two)
      ∙ ap counted (length-map (common one two) _)

module _ (K V : Type 0) (bytes : K → List ℕ) where
  pub reads_leave_family : ReadsLeaveFamily K V bytes
  reads_leave_family old new c r reads step =
      ⊎_elim (λ own. own.1 ∙ after_reading old (call_of bytes c) reads) (λ want. want.1) step

  pub visitors_reply_as_iterators : VisitorsReplyAsIterators K V bytes
  visitors_reply_as_iterators f place key lo hi = (refl, refl, refl, refl)

  pub intersections_swap : IntersectionsSwap K V bytes
  intersections_swap f left right =
      let one = version_at f left in
      let two = version_at f right in (
        met_turns f swapped_reply refl _ _ (λ a b. pairs-swap a.content b.content) one two,
        refl,
        met_turns f swapped_reply refl _ _ (λ a b. value_pairs-swap a.content b.content) one two,
        met_turns f (λ r. r) refl _ _ (λ a b. count-stays a.content b.content) one two,
      )
