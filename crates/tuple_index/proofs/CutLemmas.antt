-- The set of tuples that a version stands for, cut at first columns: what a call makes of the pairs
-- under their bytes it makes of the tuples that begin so.
use Rattle.std.proofs.Common.{◌≡◌, ◌⊎◌, ⊎_elim, inl, inr, ◌<◌, ◌^◌, ◌+◌, ℕ, length, Bool, true, false, cond, not, List, [], ◌∷◌, ◌++◌, map, refl, sym, ap, subst, ◌∙◌}
use Rattle.std.specs.Prelude.{◌==◌, All, IfOk, OnOk, OnErr, Result, Ok, Err, None}
use Rattle.std.specs.declared.alloc.AllocError.{AllocError}
use Rattle.std.specs.declared.cmp.Ordering.{Ordering}
use Rattle.std.specs.declared.cmp.Ordering.TheVariants.{Equal}
use Rattle.std.proofs.lemmas.List.{length-map, map-append}
use Rattle.std.specs.Cmp.{IsTotalOrder}
use Rattle.std.specs.Cmp.Lexicographic.{nat_list_cmp_total}
use Rattle.std.specs.FinMap as finite
use Rattle.std.specs.FinMap.Entries.{where_key, find-where_key, is_sorted-where_key, same_entries}
use Rattle.rart_versioned.specs.Bytes.{begins, byte_order}
use Rattle.rart_maps.proofs.CallerLemmas.{byte_order-IsAntisymmetric, get-without_prefix, same_map, value_at-prefix_removal}
use Rattle.rart_maps.specs.Pairs.{pairs}
use Rattle.rart_maps.specs.Prefixes.{after_prefix_removal, after_prefix_restoring, has_under, pairs_under, under_prefix, with_prefix_of, without_prefix}
use Rattle.rart_maps.specs.Versions.{Map, Version}
use Rattle.tuple_index.specs.declared.tuple.Tuple.{Tuple}
use Rattle.tuple_index.specs.Decoding.{tuple_at}
use Rattle.tuple_index.specs.Indexes.{AreTupleKeys, IsTupleKey, Pair, entry_of, index_of, tuples_in}
use Rattle.tuple_index.specs.Tuples.{Index, bytes_of, has_columns, has_some_with, tuple_order, tuples_of_either, tuples_with, tuples_without, with_tuple, with_tuples_of}
use Rattle.tuple_index.proofs.IndexLemmas.{entries-in, keys-empty, keys-inserted, keys-where, own-columns, total, tuples-empty, tuples-entries, tuples-inserted, where-kept}
use Rattle.tuple_index.proofs.TupleKeyLemmas.{columns-kept}

-- the entries that a test of keys keeps
pub retained-entries : {K X : Type 0} {R : K → K → Ordering} (o : IsTotalOrder R)
    (same : finite.IsAntisymmetric R) (m : finite.FinMap R X) (p : K → Bool) →
    finite.entries (finite.retain_keys m p) ≡ where_key R p (finite.entries m)
retained-entries {K = K} {R = R} o same m p =
    let alike : (q x : K) → R q x ≡ Equal → p x ≡ p q = λ q x tie. ap p (sym (same q x tie)) in
    same_entries R o same (finite.entries (finite.retain_keys m p))
    (where_key R p (finite.entries m))
    (finite.entries_sorted (finite.retain_keys m p))
    (is_sorted-where_key R p (finite.entries m) (finite.entries_sorted m))
    (λ q. sym (finite.get-entries (finite.retain_keys m p) q)
    ∙ finite.get-retain_keys m p q (alike q)
    ∙ (λ i. cond (p q) (finite.get-entries m q i) None)
    ∙ sym (find-where_key R p q (alike q) (finite.entries m)))

-- ---- of a test of keys, which is one of tuples
module _ (p : List ℕ → Bool) (q : Tuple → Bool)
    (same : (key : List ℕ) → IsTupleKey key → p key ≡ q (tuple_at key))
    (m : Map (Unit {0})) (keys : AreTupleKeys (pairs m)) where
  kept-entries : pairs (finite.retain_keys m p) ≡ where_key byte_order p (pairs m)
  kept-entries = retained-entries nat_list_cmp_total byte_order-IsAntisymmetric m p

  pub keys-retained : AreTupleKeys (pairs (finite.retain_keys m p))
  keys-retained = subst AreTupleKeys (sym kept-entries) (keys-where p (pairs m) keys)

  pub tuples-retained :
      tuples_in (pairs (finite.retain_keys m p)) ≡ finite.retain_keys (tuples_in (pairs m)) q
  tuples-retained =
      let after = finite.retain_keys m p in
      finite.same_entries_map _ _
      (entries-in (pairs after) (finite.entries_sorted after) keys-retained
      ∙ ap (map entry_of) kept-entries
      ∙ where-kept p q same (pairs m) keys
      ∙ ap (where_key tuple_order q) (sym (tuples-entries m keys))
      ∙ sym (retained-entries total own-columns (tuples_in (pairs m)) q))

-- ---- of two maps that are joined
keys-append : (front back : List Pair) → AreTupleKeys front → AreTupleKeys back →
    AreTupleKeys (front ++ back)
keys-append [] back first second = second
keys-append (pair ∷ front) back first second =
    (first.0, keys-append front back first.1 second)

abbrev of_pairs : List Pair → Map (Unit {0})
of_pairs list = finite.from_entries list

keys-made : (list : List Pair) → AreTupleKeys list → AreTupleKeys (pairs (of_pairs list))
keys-made [] keys = keys-empty
keys-made (pair ∷ list) keys =
    keys-inserted (of_pairs list) (keys-made list keys.1) pair.0 keys.0

tuples-made : (list : List Pair) → AreTupleKeys list →
    tuples_in (pairs (of_pairs list)) ≡ finite.from_entries (map entry_of list)
tuples-made [] keys = tuples-empty
tuples-made (pair ∷ list) keys =
    tuples-inserted (of_pairs list) (keys-made list keys.1) pair.0 keys.0
    ∙ ap (λ tuples. with_tuple tuples (tuple_at pair.0)) (tuples-made list keys.1)

module _ (one other : Map (Unit {0})) (keys : AreTupleKeys (pairs one))
    (keys' : AreTupleKeys (pairs other)) where
  pub keys-joined : AreTupleKeys (pairs (of_pairs (pairs one ++ pairs other)))
  keys-joined =
      keys-made (pairs one ++ pairs other) (keys-append (pairs one) (pairs other) keys keys')

  pub tuples-joined : tuples_in (pairs (of_pairs (pairs one ++ pairs other)))
      ≡ tuples_of_either (tuples_in (pairs one)) (tuples_in (pairs other))
  tuples-joined =
      tuples-made (pairs one ++ pairs other) (keys-append (pairs one) (pairs other) keys keys')
      ∙ ap (λ entries. finite.from_entries entries)
      (map-append entry_of (pairs one) (pairs other)
      ∙ (λ i. sym (tuples-entries one keys) i ++ sym (tuples-entries other keys') i))

-- ---- of first columns
module _ (columns : List ℕ) (narrow : All (λ n. n < 2 ^ 32) columns) where
  begun : (key : List ℕ) → IsTupleKey key →
      begins (bytes_of columns) key ≡ has_columns columns (tuple_at key)
  begun key is = columns-kept columns key narrow is

  not-begun : (key : List ℕ) → IsTupleKey key →
      not (begins (bytes_of columns) key) ≡ not (has_columns columns (tuple_at key))
  not-begun key is = ap not (begun key is)

  module _ (m : Map (Unit {0})) (keys : AreTupleKeys (pairs m)) where
    keys-part : AreTupleKeys (pairs (pairs_under m (bytes_of columns)))
    keys-part = keys-retained (begins (bytes_of columns)) (has_columns columns) begun m keys

    tuples-part : tuples_in (pairs (pairs_under m (bytes_of columns)))
        ≡ tuples_with (tuples_in (pairs m)) columns
    tuples-part = tuples-retained (begins (bytes_of columns)) (has_columns columns) begun m keys

    keys-rest : AreTupleKeys (pairs (without_prefix m (bytes_of columns)))
    keys-rest =
        keys-retained (λ key. not (begins (bytes_of columns) key))
        (λ t. not (has_columns columns t)) not-begun m keys

    tuples-rest : tuples_in (pairs (without_prefix m (bytes_of columns)))
        ≡ tuples_without (tuples_in (pairs m)) columns
    tuples-rest =
        tuples-retained (λ key. not (begins (bytes_of columns) key))
        (λ t. not (has_columns columns t)) not-begun m keys

  -- as many tuples as keys
  same-length : (m : Map (Unit {0})) → AreTupleKeys (pairs m) →
      finite.len m ≡ finite.len (tuples_in (pairs m))
  same-length m keys =
      finite.len-entries m
      ∙ sym (length-map (pairs m) entry_of)
      ∙ ap length (sym (tuples-entries m keys))
      ∙ sym (finite.len-entries (tuples_in (pairs m)))

  some-part : (v : Version (Unit {0})) → AreTupleKeys (pairs v.content) →
      has_under v (bytes_of columns) ≡ has_some_with (tuples_in (pairs v.content)) columns
  some-part v keys =
      ap (λ n. not (n == 0))
      (same-length (pairs_under v.content (bytes_of columns)) (keys-part v.content keys)
      ∙ ap finite.len (tuples-part v.content keys))

  module _ (m other : Map (Unit {0})) (keys : AreTupleKeys (pairs m))
      (keys' : AreTupleKeys (pairs other)) where
    keys-restored : AreTupleKeys (pairs (with_prefix_of (bytes_of columns) other m))
    keys-restored =
        keys-joined (pairs_under other (bytes_of columns)) (without_prefix m (bytes_of columns))
        (keys-part other keys') (keys-rest m keys)

    tuples-restored : tuples_in (pairs (with_prefix_of (bytes_of columns) other m))
        ≡ with_tuples_of columns (tuples_in (pairs other)) (tuples_in (pairs m))
    tuples-restored =
        tuples-joined (pairs_under other (bytes_of columns)) (without_prefix m (bytes_of columns))
        (keys-part other keys') (keys-rest m keys)
        ∙ (λ i. tuples_of_either (tuples-part other keys' i) (tuples-rest m keys i))

-- ---- of a removal
content-removed : (v : Version (Unit {0})) (p : List ℕ) →
    (after_prefix_removal v p).content ≡ without_prefix v.content p
content-removed v p =
    same_map (after_prefix_removal v p).content (without_prefix v.content p)
    (λ q. value_at-prefix_removal v p q ∙ sym (get-without_prefix v.content p q))

number-removed : (v : Version (Unit {0})) (p : List ℕ) →
    (after_prefix_removal v p).number ≡ cond (has_under v p) (v.number + 1) v.number
number-removed v p =
    elim (has_under v p) as (λ t.
    (cond t (record { content = without_prefix v.content p; number = v.number + 1 }) v).number
    ≡ cond t (v.number + 1) v.number) [ true ↦ refl | false ↦ refl ]

-- ---- of an index
module _ (columns : List ℕ) (narrow : All (λ n. n < 2 ^ 32) columns)
    (prefix : List ℕ) (is : prefix ≡ bytes_of columns)
    (before : Version (Unit {0})) (keys : AreTupleKeys (pairs before.content))
    (shown : Index) (shows : index_of before ≡ shown) where
  shown-tuples : tuples_in (pairs before.content) ≡ shown.tuples
  shown-tuples = ap (λ (index : Index). index.tuples) shows

  shown-number : before.number ≡ shown.number
  shown-number = ap (λ (index : Index). index.number) shows

  -- Whether there is such a tuple is whether there is such a key.
  pub some-shown : has_under before prefix ≡ has_some_with shown.tuples columns
  some-shown =
      ap (has_under before) is
      ∙ some-part columns narrow before keys
      ∙ ap (λ tuples. has_some_with tuples columns) shown-tuples

  pub some-answered : (r : Result Bool AllocError) →
      IfOk r (λ some. some ≡ has_under before prefix) →
      IfOk r (λ some. some ≡ has_some_with shown.tuples columns)
  some-answered (Ok some) answer = answer ∙ some-shown
  some-answered (Err error) answer = tt

  pub some-there : {A : Type 0} (r : Result A AllocError) → has_under before prefix ≡ true →
      OnErr r (has_some_with shown.tuples columns ≡ true)
  some-there (Ok done) there = tt
  some-there (Err error) there = sym some-shown ∙ there

  pub some-refused : {A : Type 0} (r : Result A AllocError) →
      OnErr r (has_under before prefix ≡ true) →
      OnErr r (has_some_with shown.tuples columns ≡ true)
  some-refused (Ok done) there = tt
  some-refused (Err error) there = sym some-shown ∙ there

  module _ (after : Version (Unit {0})) where
    -- What begins so was taken out.
    content-after : after ≡ after_prefix_removal before prefix →
        after.content ≡ without_prefix before.content (bytes_of columns)
    content-after removed =
        ap (λ (v : Version (Unit {0})). v.content) removed
        ∙ content-removed before prefix
        ∙ ap (without_prefix before.content) is

    pub cut-keys : (r : Result Bool AllocError) →
        OnOk r (after ≡ after_prefix_removal before prefix) → OnErr r (after ≡ before) →
        AreTupleKeys (pairs after.content)
    cut-keys (Ok some) removed refused =
        subst (λ m. AreTupleKeys (pairs m)) (sym (content-after removed))
        (keys-rest columns narrow before.content keys)
    cut-keys (Err error) removed refused =
        subst (λ (v : Version (Unit {0})). AreTupleKeys (pairs v.content)) (sym refused) keys

    pub cut-tuples : (r : Result Bool AllocError) →
        OnOk r (after ≡ after_prefix_removal before prefix) →
        OnOk r (tuples_in (pairs after.content) ≡ tuples_without shown.tuples columns)
    cut-tuples (Ok some) removed =
        ap (λ m. tuples_in (pairs m)) (content-after removed)
        ∙ tuples-rest columns narrow before.content keys
        ∙ ap (λ tuples. tuples_without tuples columns) shown-tuples
    cut-tuples (Err error) removed = tt

    pub cut-number : (r : Result Bool AllocError) →
        IfOk r (λ some. some ≡ has_under before prefix) →
        OnOk r (after ≡ after_prefix_removal before prefix) →
        IfOk r (λ some. after.number ≡ cond some (shown.number + 1) shown.number)
    cut-number (Ok some) answer removed =
        ap (λ (v : Version (Unit {0})). v.number) removed
        ∙ number-removed before prefix
        ∙ (λ i. cond (sym answer i) (shown-number i + 1) (shown-number i))
    cut-number (Err error) answer removed = tt

    -- What begins so is another version's.
    module _ (other : Version (Unit {0})) (keys' : AreTupleKeys (pairs other.content))
        (shown' : Index) (shows' : index_of other ≡ shown') where
      content-of : after ≡ after_prefix_restoring before prefix other →
          after.content ≡ with_prefix_of (bytes_of columns) other.content before.content
      content-of restored =
          ap (λ (v : Version (Unit {0})). v.content) restored
          ∙ ap (λ p. with_prefix_of p other.content before.content) is

      pub restored-keys : (r : Result (Unit {0}) AllocError) →
          OnOk r (after ≡ after_prefix_restoring before prefix other) → OnErr r (after ≡ before) →
          AreTupleKeys (pairs after.content)
      restored-keys (Ok done) restored refused =
          subst (λ m. AreTupleKeys (pairs m)) (sym (content-of restored))
          (keys-restored columns narrow before.content other.content keys keys')
      restored-keys (Err error) restored refused =
          subst (λ (v : Version (Unit {0})). AreTupleKeys (pairs v.content)) (sym refused) keys

      pub restored-tuples : (r : Result (Unit {0}) AllocError) →
          OnOk r (after ≡ after_prefix_restoring before prefix other) →
          OnOk r (tuples_in (pairs after.content)
          ≡ with_tuples_of columns shown'.tuples shown.tuples)
      restored-tuples (Ok done) restored =
          ap (λ m. tuples_in (pairs m)) (content-of restored)
          ∙ tuples-restored columns narrow before.content other.content keys keys'
          ∙ (λ i. with_tuples_of columns (shows' i).tuples (shows i).tuples)
      restored-tuples (Err error) restored = tt

  -- ---- of the tuples that begin so alone
  part-content : (part : Version (Unit {0})) → part ≡ under_prefix before prefix 1 →
      part.content ≡ pairs_under before.content (bytes_of columns)
  part-content part kept =
      ap (λ (v : Version (Unit {0})). v.content) kept ∙ ap (pairs_under before.content) is

  pub part-keys : (part : Version (Unit {0})) → part ≡ under_prefix before prefix 1 →
      AreTupleKeys (pairs part.content)
  part-keys part kept =
      subst (λ m. AreTupleKeys (pairs m)) (sym (part-content part kept))
      (keys-part columns narrow before.content keys)

  pub part-tuples : (part : Version (Unit {0})) → part ≡ under_prefix before prefix 1 →
      tuples_in (pairs part.content) ≡ tuples_with shown.tuples columns
  part-tuples part kept =
      ap (λ m. tuples_in (pairs m)) (part-content part kept)
      ∙ tuples-part columns narrow before.content keys
      ∙ ap (λ tuples. tuples_with tuples columns) shown-tuples

-- ---- of two indexes: whether one of them has such a tuple
pub either-refused : (columns : List ℕ) → All (λ n. n < 2 ^ 32) columns →
    (prefix : List ℕ) → prefix ≡ bytes_of columns →
    (one : Version (Unit {0})) → AreTupleKeys (pairs one.content) →
    (shown : Index) → index_of one ≡ shown →
    (other : Version (Unit {0})) → AreTupleKeys (pairs other.content) →
    (shown' : Index) → index_of other ≡ shown' →
    {A : Type 0} (r : Result A AllocError) →
    OnErr r ((has_under one prefix ≡ true) ⊎ (has_under other prefix ≡ true)) →
    OnErr r ((has_some_with shown.tuples columns ≡ true)
    ⊎ (has_some_with shown'.tuples columns ≡ true))
either-refused columns narrow prefix is one keys shown shows other keys' shown' shows' (Ok done)
    either =
    tt
either-refused columns narrow prefix is one keys shown shows other keys' shown' shows' (Err e)
    either =
    ⊎_elim
    (λ mine. inl (sym (some-shown columns narrow prefix is one keys shown shows) ∙ mine))
    (λ theirs. inr (sym (some-shown columns narrow prefix is other keys' shown' shows') ∙ theirs))
    either
