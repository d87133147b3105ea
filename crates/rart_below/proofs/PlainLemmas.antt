-- The pairs of a sorted map, each key by its bytes, and the map that they stand for.
use Rattle.std.proofs.Common.{◌≡◌, ℕ, ◌⊎◌, inl, inr, List, [], ◌∷◌, refl, sym, ap, subst, ◌∙◌}
use Rattle.std.specs.Prelude.{T, true, Option, Some, None, cond, length}
use Rattle.std.specs.declared.cmp.Ordering.{Ordering}
use Rattle.std.specs.declared.cmp.Ordering.TheVariants.{Less, Equal, Greater}
use Rattle.std.specs.Cmp.{eq_by_cmp_equiv}
use Rattle.std.specs.Ordering.{eq_by_cmp, is_eq, is_lt, match_ordering}
use Rattle.std.specs.Cmp.Lexicographic.{nat_list_cmp_total}
use Rattle.std.specs.FinMap as finite
use Rattle.std.specs.FinMap.Entries.{below_all, by_order, find, find-put, is_sorted, put, same_entries}
use Rattle.std.specs.BTreeMap.{insert_entry, is_at}
use Rattle.std.specs.List.{AllByRecursion}
use Rattle.std.specs.List.Sorted.{IsStrictlySortedBy}
use Rattle.std.specs.Map.{keys_of, lookup, update, update_all}
use Rattle.std.proofs.lemmas.Bool.{and_from}
use Rattle.std.proofs.lemmas.List.{length-map}
use Rattle.std.proofs.lemmas.Map.Keys.{sorted_head, sorted_tail}
use Rattle.rart_below.specs.Bytes.{byte_order}
use Rattle.rart_below.specs.Plain.{PlainMap, by_bytes, plain_map, put_all}

byte_order-IsAntisymmetric : finite.IsAntisymmetric byte_order
byte_order-IsAntisymmetric = finite.slice_cmp-IsAntisymmetric finite.nat_cmp-IsAntisymmetric

-- these are a key's bytes
abbrev AreKey : {K : Type 0} → (K → List ℕ) → List ℕ → Type 0
AreKey {K} bytes q = (key : K) × (bytes key ≡ q)

module _ {K V : Type 0} (bytes : K → List ℕ) (cmp : K → K → Ordering)
    (ordered : (a b : K) → cmp a b ≡ byte_order (bytes a) (bytes b)) where
  found-by_bytes : (key : K) (pairs : List (K × V)) →
      lookup (is_at (cmp key)) pairs ≡ find byte_order (bytes key) (by_bytes bytes pairs)
  found-by_bytes key [] = refl
  found-by_bytes key (pair ∷ pairs) =
      ap (λ order. cond (is_eq order) (Some pair.1) (lookup (is_at (cmp key)) pairs))
      (ordered key pair.0)
      ∙ ap (cond (is_eq (byte_order (bytes key) (bytes pair.0))) (Some pair.1))
      (found-by_bytes key pairs)

  -- What is found at a key is the value that the map has there.
  pub get-plain : (key : K) (pairs : List (K × V)) →
      lookup (is_at (cmp key)) pairs ≡ finite.get (plain_map bytes pairs) (bytes key)
  get-plain key pairs =
      found-by_bytes key pairs
      ∙ sym (finite.get-from_entries nat_list_cmp_total (by_bytes bytes pairs) (bytes key))

  put-by_bytes : (pairs : List (K × V)) (key : K) (value : V) →
      by_bytes bytes (insert_entry cmp pairs key value)
      ≡ put byte_order (bytes key) value (by_bytes bytes pairs)
  put-by_bytes [] key value = refl
  put-by_bytes (pair ∷ pairs) key value =
      let before = (bytes key, value) ∷ by_bytes bytes (pair ∷ pairs) in
      let here = (bytes pair.0, value) ∷ by_bytes bytes pairs in
      let later =
      (bytes pair.0, pair.1) ∷ put byte_order (bytes key) value (by_bytes bytes pairs) in
      elim (cmp key pair.0) as (λ r. r ≡ byte_order (bytes key) (bytes pair.0) →
      by_bytes bytes (match_ordering r ((key, value) ∷ pair ∷ pairs) ((pair.0, value) ∷ pairs)
      (pair ∷ insert_entry cmp pairs key value))
      ≡ by_order (byte_order (bytes key) (bytes pair.0)) before here later) [
        | Less ↦ λ is. ap (λ r. by_order r before here later) is
        | Equal ↦ λ is. ap (λ r. by_order r before here later) is
        | Greater ↦ λ is.
            ap (λ rest. (bytes pair.0, pair.1) ∷ rest) (put-by_bytes pairs key value)
            ∙ ap (λ r. by_order r before here later) is
      ] (ordered key pair.0)

  -- The pairs with one more, or with its value in place of another, are the map with the key set.
  pub insert-plain : (pairs : List (K × V)) (key : K) (value : V) →
      plain_map bytes (insert_entry cmp pairs key value)
      ≡ finite.insert (plain_map bytes pairs) (bytes key) value
  insert-plain pairs key value =
      finite.same_map nat_list_cmp_total byte_order-IsAntisymmetric _ _ (λ q.
      finite.get-from_entries nat_list_cmp_total
      (by_bytes bytes (insert_entry cmp pairs key value)) q
      ∙ ap (find byte_order q) (put-by_bytes pairs key value)
      ∙ find-put byte_order nat_list_cmp_total q (bytes key) value (by_bytes bytes pairs)
      ∙ ap (cond (is_eq (byte_order q (bytes key))) (Some value))
      (sym (finite.get-from_entries nat_list_cmp_total (by_bytes bytes pairs) q))
      ∙ sym (finite.get-insert nat_list_cmp_total (plain_map bytes pairs) (bytes key) value q))

  below-by_bytes : (key : K) (pairs : List (K × V)) →
      AllByRecursion (λ other. cmp key other ≡ Less) (keys_of pairs) →
      below_all byte_order (bytes key) (by_bytes bytes pairs) ≡ true
  below-by_bytes key [] below = refl
  below-by_bytes key (pair ∷ pairs) below =
      and_from (is_lt (byte_order (bytes key) (bytes pair.0)))
      (below_all byte_order (bytes key) (by_bytes bytes pairs))
      (ap is_lt (sym (ordered key pair.0) ∙ below.0))
      (below-by_bytes key pairs below.1)

  sorted-by_bytes : (pairs : List (K × V)) → IsStrictlySortedBy cmp (keys_of pairs) →
      is_sorted byte_order (by_bytes bytes pairs) ≡ true
  sorted-by_bytes [] sorted = refl
  sorted-by_bytes (pair ∷ pairs) sorted =
      and_from (below_all byte_order (bytes pair.0) (by_bytes bytes pairs))
      (is_sorted byte_order (by_bytes bytes pairs))
      (below-by_bytes pair.0 pairs (sorted_head cmp pair.0 (keys_of pairs) sorted))
      (sorted-by_bytes pairs (sorted_tail cmp pair.0 (keys_of pairs) sorted))

  -- Pairs in order are those of the map, and as many.
  pub entries-plain : (pairs : List (K × V)) → IsStrictlySortedBy cmp (keys_of pairs) →
      by_bytes bytes pairs ≡ finite.entries (plain_map bytes pairs)
  entries-plain pairs sorted =
      sym (same_entries byte_order nat_list_cmp_total byte_order-IsAntisymmetric
      (finite.entries (plain_map bytes pairs)) (by_bytes bytes pairs)
      (finite.entries_sorted (plain_map bytes pairs))
      (subst T (sym (sorted-by_bytes pairs sorted)) tt)
      (λ q. sym (finite.get-entries (plain_map bytes pairs) q)
      ∙ finite.get-from_entries nat_list_cmp_total (by_bytes bytes pairs) q))

  pub len-plain : (pairs : List (K × V)) → IsStrictlySortedBy cmp (keys_of pairs) →
      length pairs ≡ finite.len (plain_map bytes pairs)
  len-plain pairs sorted =
      sym (length-map pairs (λ pair. (bytes pair.0, pair.1)))
      ∙ ap length (entries-plain pairs sorted)
      ∙ sym (finite.len-entries (plain_map bytes pairs))

  -- ---- pairs that are put in, one after the other

  -- Where something is found, there is a key with these bytes: one of the pairs'.
  key-or_not_found : (q : List ℕ) (pairs : List (K × V)) →
      AreKey bytes q ⊎ (find byte_order q (by_bytes bytes pairs) ≡ None)
  key-or_not_found q [] = inr refl
  key-or_not_found q (pair ∷ pairs) =
      let later = find byte_order q (by_bytes bytes pairs) in
      elim (byte_order q (bytes pair.0)) as (λ r. byte_order q (bytes pair.0) ≡ r →
      AreKey bytes q ⊎ (cond (is_eq r) (Some pair.1) later ≡ None)) [
        | Less ↦ λ is. key-or_not_found q pairs
        | Equal ↦ λ is. inl (pair.0, sym (byte_order-IsAntisymmetric q (bytes pair.0) is))
        | Greater ↦ λ is. key-or_not_found q pairs
      ] refl

  key-or_not_put : (q : List ℕ) (pairs : List (K × V)) (m : PlainMap V) →
      AreKey bytes q ⊎ (finite.get (put_all m (by_bytes bytes pairs)) q ≡ finite.get m q)
  key-or_not_put q [] m = inr refl
  key-or_not_put q (pair ∷ pairs) m =
      let with_pair = finite.insert m (bytes pair.0) pair.1 in
      elim (key-or_not_put q pairs with_pair) as (λ _.
      AreKey bytes q ⊎ (finite.get (put_all with_pair (by_bytes bytes pairs)) q ≡ finite.get m q)) [
        | inl key ↦ inl key
        | inr later ↦
            elim (byte_order q (bytes pair.0)) as (λ r. byte_order q (bytes pair.0) ≡ r →
            finite.get with_pair q ≡ cond (is_eq r) (Some pair.1) (finite.get m q) →
            AreKey bytes q ⊎ (finite.get (put_all with_pair (by_bytes bytes pairs)) q
            ≡ finite.get m q)) [
              | Less ↦ λ is here. inr (later ∙ here)
              | Equal ↦ λ is here.
                  inl (pair.0, sym (byte_order-IsAntisymmetric q (bytes pair.0) is))
              | Greater ↦ λ is here. inr (later ∙ here)
            ] refl (finite.get-insert nat_list_cmp_total m (bytes pair.0) pair.1 q)
      ]

  -- What a key has, pair after pair, the map has at its bytes.
  get-put_all : (pairs : List (K × V)) (values : K → Option V) (m : PlainMap V) →
      ((key : K) → values key ≡ finite.get m (bytes key)) → (key : K) →
      update_all (eq_by_cmp cmp) values pairs key
      ≡ finite.get (put_all m (by_bytes bytes pairs)) (bytes key)
  get-put_all [] values m same key = same key
  get-put_all (pair ∷ pairs) values m same key =
      get-put_all pairs (update (eq_by_cmp cmp) values pair.0 (Some pair.1))
      (finite.insert m (bytes pair.0) pair.1) (λ q.
      ap (λ r. cond (is_eq r) (Some pair.1) (values q)) (ordered pair.0 q)
      ∙ ap (λ is_here. cond is_here (Some pair.1) (values q))
      ((eq_by_cmp_equiv nat_list_cmp_total).symm (bytes pair.0) (bytes q))
      ∙ ap (cond (is_eq (byte_order (bytes q) (bytes pair.0))) (Some pair.1)) (same q)
      ∙ sym (finite.get-insert nat_list_cmp_total m (bytes pair.0) pair.1 (bytes q))) key

  -- A map in which each key has the last value that comes with it is the one into which all pairs
  -- are put.
  pub put_all-plain : (pairs entries : List (K × V)) → ((key : K) →
      lookup (is_at (cmp key)) entries ≡ update_all (eq_by_cmp cmp) (λ _. None) pairs key) →
      plain_map bytes entries ≡ put_all finite.empty (by_bytes bytes pairs)
  put_all-plain pairs entries is =
      let made = plain_map bytes entries in
      let wanted : PlainMap V = put_all finite.empty (by_bytes bytes pairs) in
      let at_key : (key : K) → finite.get made (bytes key) ≡ finite.get wanted (bytes key) =
      λ key. sym (get-plain key entries) ∙ is key
      ∙ get-put_all pairs (λ _. None) finite.empty
      (λ other. sym (finite.get-empty byte_order (bytes other))) key in
      finite.same_map nat_list_cmp_total byte_order-IsAntisymmetric made wanted (λ q.
      elim (key-or_not_found q entries) as (λ _. finite.get made q ≡ finite.get wanted q) [
        | inl key ↦
            subst (λ bytes. finite.get made bytes ≡ finite.get wanted bytes) key.1 (at_key key.0)
        | inr none ↦
            elim (key-or_not_put q pairs finite.empty) as (λ _.
            finite.get made q ≡ finite.get wanted q) [
              | inl key ↦
                  subst (λ bytes. finite.get made bytes ≡ finite.get wanted bytes) key.1
                  (at_key key.0)
              | inr kept ↦
                  finite.get-from_entries nat_list_cmp_total (by_bytes bytes entries) q
                  ∙ none ∙ sym (kept ∙ finite.get-empty byte_order q)
            ]
      ])
