-- The set of tuples that a version stands for, together with another one: what a call makes of the
-- pairs of two versions it makes of their tuples.
use Rattle.std.proofs.Common.{◌≡◌, ℕ, List, not, sym, ap, subst, ◌∙◌}
use Rattle.std.specs.FinMap as finite
use Rattle.rart_maps.specs.MapParts.{apart, common_part, version_apart, version_common, version_joined, version_without, without}
use Rattle.rart_maps.specs.Pairs.{pairs}
use Rattle.rart_maps.specs.Versions.{Map, Version}
use Rattle.tuple_index.specs.Decoding.{tuple_at}
use Rattle.tuple_index.specs.Indexes.{AreTupleKeys, IsTupleKey, index_of, tuples_in}
use Rattle.tuple_index.specs.Tuples.{Index, common_tuples, has_tuple, tuples_of_either, tuples_of_one_alone, without_tuples_of}
use Rattle.tuple_index.proofs.CutLemmas.{keys-joined, keys-retained, tuples-joined, tuples-retained}
use Rattle.tuple_index.proofs.IndexLemmas.{contains-tuple}

-- ---- of two maps: what is cut off by the keys of the other one
module _ (one other : Map (Unit {0})) (keys : AreTupleKeys (pairs one))
    (keys' : AreTupleKeys (pairs other)) where
  has : (key : List ℕ) → IsTupleKey key →
      finite.contains_key other key ≡ has_tuple (tuples_in (pairs other)) (tuple_at key)
  has key is = sym (contains-tuple other keys' key is)

  lacks : (key : List ℕ) → IsTupleKey key →
      not (finite.contains_key other key)
      ≡ not (has_tuple (tuples_in (pairs other)) (tuple_at key))
  lacks key is = ap not (has key is)

  keys-common : AreTupleKeys (pairs (common_part one other))
  keys-common =
      keys-retained (finite.contains_key other) (has_tuple (tuples_in (pairs other))) has one keys

  tuples-common : tuples_in (pairs (common_part one other))
      ≡ common_tuples (tuples_in (pairs one)) (tuples_in (pairs other))
  tuples-common =
      tuples-retained (finite.contains_key other) (has_tuple (tuples_in (pairs other))) has one keys

  keys-without : AreTupleKeys (pairs (without one other))
  keys-without =
      keys-retained (λ key. not (finite.contains_key other key))
      (λ t. not (has_tuple (tuples_in (pairs other)) t)) lacks one keys

  tuples-without : tuples_in (pairs (without one other))
      ≡ without_tuples_of (tuples_in (pairs other)) (tuples_in (pairs one))
  tuples-without =
      tuples-retained (λ key. not (finite.contains_key other key))
      (λ t. not (has_tuple (tuples_in (pairs other)) t)) lacks one keys

module _ (one other : Map (Unit {0})) (keys : AreTupleKeys (pairs one))
    (keys' : AreTupleKeys (pairs other)) where
  keys-apart : AreTupleKeys (pairs (apart one other))
  keys-apart =
      keys-joined (without one other) (without other one)
      (keys-without one other keys keys') (keys-without other one keys' keys)

  tuples-apart : tuples_in (pairs (apart one other))
      ≡ tuples_of_one_alone (tuples_in (pairs one)) (tuples_in (pairs other))
  tuples-apart =
      tuples-joined (without one other) (without other one)
      (keys-without one other keys keys') (keys-without other one keys' keys)
      ∙ (λ i. tuples_of_either (tuples-without one other keys keys' i)
      (tuples-without other one keys' keys i))

-- ---- of two indexes, and the version that a call made of theirs
module _ (one : Version (Unit {0})) (keys : AreTupleKeys (pairs one.content))
    (shown : Index) (shows : index_of one ≡ shown)
    (other : Version (Unit {0})) (keys' : AreTupleKeys (pairs other.content))
    (shown' : Index) (shows' : index_of other ≡ shown') (made : Version (Unit {0})) where
  pub union-keys : made ≡ version_joined one other → AreTupleKeys (pairs made.content)
  union-keys is =
      subst (λ (v : Version (Unit {0})). AreTupleKeys (pairs v.content)) (sym is)
      (keys-joined one.content other.content keys keys')

  pub union-tuples : made ≡ version_joined one other →
      tuples_in (pairs made.content) ≡ tuples_of_either shown.tuples shown'.tuples
  union-tuples is =
      ap (λ (v : Version (Unit {0})). tuples_in (pairs v.content)) is
      ∙ tuples-joined one.content other.content keys keys'
      ∙ (λ i. tuples_of_either (shows i).tuples (shows' i).tuples)

  pub intersection-keys : made ≡ version_common one other → AreTupleKeys (pairs made.content)
  intersection-keys is =
      subst (λ (v : Version (Unit {0})). AreTupleKeys (pairs v.content)) (sym is)
      (keys-common one.content other.content keys keys')

  pub intersection-tuples : made ≡ version_common one other →
      tuples_in (pairs made.content) ≡ common_tuples shown.tuples shown'.tuples
  intersection-tuples is =
      ap (λ (v : Version (Unit {0})). tuples_in (pairs v.content)) is
      ∙ tuples-common one.content other.content keys keys'
      ∙ (λ i. common_tuples (shows i).tuples (shows' i).tuples)

  pub difference-keys : made ≡ version_without one other → AreTupleKeys (pairs made.content)
  difference-keys is =
      subst (λ (v : Version (Unit {0})). AreTupleKeys (pairs v.content)) (sym is)
      (keys-without one.content other.content keys keys')

  pub difference-tuples : made ≡ version_without one other →
      tuples_in (pairs made.content) ≡ without_tuples_of shown'.tuples shown.tuples
  difference-tuples is =
      ap (λ (v : Version (Unit {0})). tuples_in (pairs v.content)) is
      ∙ tuples-without one.content other.content keys keys'
      ∙ (λ i. without_tuples_of (shows' i).tuples (shows i).tuples)

  pub symmetric-keys : made ≡ version_apart one other → AreTupleKeys (pairs made.content)
  symmetric-keys is =
      subst (λ (v : Version (Unit {0})). AreTupleKeys (pairs v.content)) (sym is)
      (keys-apart one.content other.content keys keys')

  pub symmetric-tuples : made ≡ version_apart one other →
      tuples_in (pairs made.content) ≡ tuples_of_one_alone shown.tuples shown'.tuples
  symmetric-tuples is =
      ap (λ (v : Version (Unit {0})). tuples_in (pairs v.content)) is
      ∙ tuples-apart one.content other.content keys keys'
      ∙ (λ i. tuples_of_one_alone (shows i).tuples (shows' i).tuples)
