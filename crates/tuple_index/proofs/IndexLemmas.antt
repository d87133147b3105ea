-- The set of tuples that a version stands for: what is done to the version is done to the set.
use Rattle.std.proofs.Common.{◌≡◌, ◌*◌, ◌<◌, ◌≤◌, ◌^◌, ℕ, zero, suc, take, arith, Bool, true, false, cond, not, ◌&&◌, List, [], ◌∷◌, Option, Some, None, is_some, filter, map, get_or, refl, sym, ap, subst, ◌∙◌}
use Rattle.std.specs.Prelude.{All, IfOk, OnOk, OnErr, Result, Ok, Err, T}
use Rattle.std.specs.Global.{Vec}
use Rattle.std.specs.declared.alloc.AllocError.{AllocError}
use Rattle.std.proofs.lemmas.Bool.{true≢false}
use Rattle.std.proofs.lemmas.Simd.{map-map}
use Rattle.std.specs.Cmp.{Equal-is, IsTotalOrder, eq_by_cmp_equiv, on_total}
use Rattle.std.specs.Cmp.Lexicographic.{nat_list_cmp_total}
use Rattle.std.specs.FinMap as finite
use Rattle.std.specs.FinMap.Entries.{by_order, put, where_key, find, below_all, is_sorted, find-where_key, is_sorted-where_key, same_entries}
use Rattle.std.specs.List.{cons_option, filter_map}
use Rattle.std.specs.Option.{option_map}
use Rattle.std.specs.Ordering.{eq_by_cmp, is_eq, is_lt}
use Rattle.std.specs.declared.cmp.Ordering.{Ordering}
use Rattle.std.specs.declared.cmp.Ordering.TheVariants.{Less, Equal, Greater}
use Rattle.rart_versioned.specs.Bytes.{begins, byte_order}
use Rattle.rart_maps.proofs.CallerLemmas.{byte_order-IsAntisymmetric, pairs-empty}
use Rattle.rart_maps.specs.Changes.{after_removal}
use Rattle.rart_maps.specs.Pairs.{pairs, under, common}
use Rattle.rart_maps.specs.Versions.{Map, Version, has_key, with_key, without_key}
use Rattle.tuple_index.specs.declared.tuple.Tuple.{Tuple}
use Rattle.tuple_index.specs.Decoding.{tuple_at}
use Rattle.tuple_index.specs.Indexes.{AreTupleKeys, IsNarrow, IsTupleKey, Pair, entry_of, index_of, tuples_in}
use Rattle.tuple_index.specs.Tuples.{Index, bytes_of, columns_of, has_columns, has_tuple, key_of, listed, no_tuple, tuple_order, with_tuple, without_tuple}
use Rattle.tuple_index.proofs.TupleKeyLemmas.{columns-kept, key-tuple, order-kept}

pub total : IsTotalOrder tuple_order
total = on_total columns_of nat_list_cmp_total

-- Two tuples with the same columns are the same.
pub own-columns : finite.IsAntisymmetric tuple_order
own-columns one other tied =
    ap with_all (byte_order-IsAntisymmetric (columns_of one) (columns_of other) tied)
  where
    with_all : List ℕ → Tuple
    with_all columns = record {
      relation = get_or columns 0 0;
      entity = get_or columns 1 0;
      attribute = get_or columns 2 0;
      value = get_or columns 3 0;
    }

-- ---- of lists of pairs, each by a tuple's key

-- They are sorted as their tuples,
below-kept : (key : List ℕ) (list : List Pair) → IsTupleKey key → AreTupleKeys list →
    below_all tuple_order (tuple_at key) (map entry_of list) ≡ below_all byte_order key list
below-kept key [] is keys = refl
below-kept key (pair ∷ list) is keys =
    λ i. is_lt (order-kept key pair.0 is keys.0 i) && below-kept key list is keys.1 i

sorted-kept : (list : List Pair) → AreTupleKeys list →
    is_sorted tuple_order (map entry_of list) ≡ is_sorted byte_order list
sorted-kept [] keys = refl
sorted-kept (pair ∷ list) keys =
    λ i. below-kept pair.0 list keys.0 keys.1 i && sorted-kept list keys.1 i

-- what is found is found,
find-kept : (key : List ℕ) (list : List Pair) → IsTupleKey key → AreTupleKeys list →
    find tuple_order (tuple_at key) (map entry_of list) ≡ find byte_order key list
find-kept key [] is keys = refl
find-kept key (pair ∷ list) is keys =
    λ i. cond (is_eq (order-kept key pair.0 is keys.0 i)) (Some tt) (find-kept key list is keys.1 i)

-- a pair that is put in is put in at its place,
by-order : (o : Ordering) (a b c : List Pair) →
    map entry_of (by_order o a b c)
    ≡ by_order o (map entry_of a) (map entry_of b) (map entry_of c)
by-order Less a b c = refl
by-order Equal a b c = refl
by-order Greater a b c = refl

put-kept : (key : List ℕ) (list : List Pair) → IsTupleKey key → AreTupleKeys list →
    map entry_of (put byte_order key tt list)
    ≡ put tuple_order (tuple_at key) tt (map entry_of list)
put-kept key [] is keys = refl
put-kept key (pair ∷ list) is keys =
    by-order (byte_order key pair.0) ((key, tt) ∷ pair ∷ list) (pair ∷ list)
    (pair ∷ put byte_order key tt list)
    ∙ (λ i. by_order (sym (order-kept key pair.0 is keys.0) i)
    (entry_of (key, tt) ∷ map entry_of (pair ∷ list)) (entry_of pair ∷ map entry_of list)
    (entry_of pair ∷ put-kept key list is keys.1 i))

-- and a test of keys keeps the tuples that it keeps.
mapped : {A B : Type 0} (f : A → B) (b : Bool) (xs ys : List A) →
    map f (cond b xs ys) ≡ cond b (map f xs) (map f ys)
mapped f true xs ys = refl
mapped f false xs ys = refl

pub where-kept : (p : List ℕ → Bool) (q : Tuple → Bool)
    (same : (key : List ℕ) → IsTupleKey key → p key ≡ q (tuple_at key)) (list : List Pair) →
    AreTupleKeys list →
    map entry_of (where_key byte_order p list) ≡ where_key tuple_order q (map entry_of list)
where-kept p q same [] keys = refl
where-kept p q same (pair ∷ list) keys =
    let rest = where_key byte_order p list in
    mapped entry_of (p pair.0) (pair ∷ rest) rest
    ∙ (λ i. cond (same pair.0 keys.0 i) (entry_of pair ∷ where-kept p q same list keys.1 i)
    (where-kept p q same list keys.1 i))

-- ---- that keys stay tuples' keys
keys-either : (o : Ordering) (a b c : List Pair) → AreTupleKeys a → AreTupleKeys b →
    AreTupleKeys c → AreTupleKeys (by_order o a b c)
keys-either Less a b c first second third = first
keys-either Equal a b c first second third = second
keys-either Greater a b c first second third = third

keys-put : (key : List ℕ) (list : List Pair) → IsTupleKey key → AreTupleKeys list →
    AreTupleKeys (put byte_order key tt list)
keys-put key [] is keys = (is, tt)
keys-put key (pair ∷ list) is keys =
    keys-either (byte_order key pair.0) ((key, tt) ∷ pair ∷ list) (pair ∷ list)
    (pair ∷ put byte_order key tt list) (is, keys) keys
    (keys.0, keys-put key list is keys.1)

keys-tested : (b : Bool) (pair : Pair) (list : List Pair) → IsTupleKey pair.0 →
    AreTupleKeys list → AreTupleKeys (cond b (pair ∷ list) list)
keys-tested true pair list is keys = (is, keys)
keys-tested false pair list is keys = keys

pub keys-where : (p : List ℕ → Bool) (list : List Pair) → AreTupleKeys list →
    AreTupleKeys (where_key byte_order p list)
keys-where p [] keys = tt
keys-where p (pair ∷ list) keys =
    keys-tested (p pair.0) pair (where_key byte_order p list) keys.0 (keys-where p list keys.1)

-- ---- of the set

module _ (list : List Pair) (sorted : T (is_sorted byte_order list))
    (keys : AreTupleKeys list) where
  pub entries-in : finite.entries (tuples_in list) ≡ map entry_of list
  entries-in =
      finite.entries-from_sorted tuple_order (map entry_of list)
      (subst T (sym (sorted-kept list keys)) sorted)

-- ---- what is read off
-- a test of tuples, as a test of their keys
listed-kept : (p : List ℕ → Bool) (q : Tuple → Bool)
    (same : (key : List ℕ) → IsTupleKey key → p key ≡ q (tuple_at key)) (list : List Pair) →
    AreTupleKeys list →
    map (λ pair. tuple_at pair.0) (where_key byte_order p list)
    ≡ filter q (map (λ pair. tuple_at pair.0) list)
listed-kept p q same [] keys = refl
listed-kept p q same (pair ∷ list) keys =
    let rest = where_key byte_order p list in
    mapped (λ (pair : Pair). tuple_at pair.0) (p pair.0) (pair ∷ rest) rest
    ∙ (λ i. cond (same pair.0 keys.0 i) (tuple_at pair.0 ∷ listed-kept p q same list keys.1 i)
    (listed-kept p q same list keys.1 i))

-- of an entry with a key of both the tuple is that of its key
abbrev Entry : Type 0
Entry = List ℕ × Unit {0} × Unit {0}

common-kept : (other : Map (Unit {0})) (list : List Pair) →
    map (λ (entry : Entry). tuple_at entry.0)
    (filter_map (λ pair. option_map (λ x. (pair.0, pair.1, x)) (finite.get other pair.0)) list)
    ≡ map (λ pair. tuple_at pair.0)
    (where_key byte_order (finite.contains_key other) list)
common-kept other [] = refl
common-kept other (pair ∷ list) =
    let rest = filter_map (λ (pair : Pair). option_map
    (λ x. (pair.0, pair.1, x)) (finite.get other pair.0)) list in
    let kept = where_key byte_order (finite.contains_key other) list in
    one-more (finite.get other pair.0) pair rest
    ∙ (λ i. cond (finite.contains_key other pair.0) (tuple_at pair.0 ∷ common-kept other list i)
    (common-kept other list i))
    ∙ sym (mapped (λ (pair : Pair). tuple_at pair.0) (finite.contains_key other pair.0)
    (pair ∷ kept) kept)
  where
    one-more : (o : Option (Unit {0})) (pair : Pair) (rest : List Entry) →
        map (λ (entry : Entry). tuple_at entry.0)
        (cons_option (option_map (λ x. (pair.0, pair.1, x)) o) rest)
        ≡ cond (is_some o) (tuple_at pair.0 ∷ map (λ (entry : Entry). tuple_at entry.0) rest)
        (map (λ (entry : Entry). tuple_at entry.0) rest)
    one-more None pair rest = refl
    one-more (Some x) pair rest = refl

-- ---- of maps
turned : {A : Type 0} (b : Bool) (x y : A) → cond (not b) x y ≡ cond b y x
turned true x y = refl
turned false x y = refl

remove-entries : {K X : Type 0} {R : K → K → Ordering} (o : IsTotalOrder R)
    (same : finite.IsAntisymmetric R) (m : finite.FinMap R X) (k : K) →
    finite.entries (finite.remove m k)
    ≡ where_key R (λ x. not (eq_by_cmp R k x)) (finite.entries m)
remove-entries {K = K} {R = R} o same m k =
    let test : K → Bool = λ x. not (eq_by_cmp R k x) in
    let es = finite.entries m in
    same_entries R o same (finite.entries (finite.remove m k)) (where_key R test es)
    (finite.entries_sorted (finite.remove m k))
    (is_sorted-where_key R test es (finite.entries_sorted m))
    (λ q. sym (finite.get-entries (finite.remove m k) q)
    ∙ finite.get-remove o m k q
    ∙ (λ i. cond ((eq_by_cmp_equiv o).symm q k i) None (finite.get-entries m q i))
    ∙ sym (turned (eq_by_cmp R k q) (find R q es) None)
    ∙ sym (find-where_key R test q (λ x tie. ap test (sym (same q x tie))) es))

remove-absent : {K X : Type 0} {R : K → K → Ordering} (o : IsTotalOrder R)
    (same : finite.IsAntisymmetric R) (m : finite.FinMap R X) (k : K) →
    finite.contains_key m k ≡ false → finite.remove m k ≡ m
remove-absent {X = X} {R = R} o same m k lacks =
    finite.same_map o same _ _ (λ q. finite.get-remove o m k q ∙ stays q (eq_by_cmp R q k) refl)
  where
    none : (found : Option X) → is_some found ≡ false → None ≡ found
    none None lacks = refl
    none (Some x) lacks = absurd (true≢false lacks)

    stays : (q : _) (b : Bool) → eq_by_cmp R q k ≡ b → cond b None (finite.get m q) ≡ finite.get m q
    stays q true tied =
        none (finite.get m k) lacks ∙ ap (finite.get m) (sym (same q k ((Equal-is (R q k)).0 tied)))
    stays q false tied = refl

-- ---- of a map whose keys are tuples' keys
module _ (m : Map (Unit {0})) (keys : AreTupleKeys (pairs m)) where
  pub tuples-entries : finite.entries (tuples_in (pairs m)) ≡ map entry_of (pairs m)
  tuples-entries = entries-in (pairs m) (finite.entries_sorted m) keys

  pub contains-tuple : (key : List ℕ) → IsTupleKey key →
      has_tuple (tuples_in (pairs m)) (tuple_at key) ≡ finite.contains_key m key
  contains-tuple key is =
      ap is_some (finite.get-entries (tuples_in (pairs m)) (tuple_at key)
      ∙ ap (find tuple_order (tuple_at key)) tuples-entries
      ∙ find-kept key (pairs m) is keys
      ∙ sym (finite.get-entries m key))

  module _ (key : List ℕ) (is : IsTupleKey key) where
    pub keys-inserted : AreTupleKeys (pairs (finite.insert m key tt))
    keys-inserted =
        subst AreTupleKeys (sym (finite.entries-insert nat_list_cmp_total m key tt))
        (keys-put key (pairs m) is keys)

    pub tuples-inserted :
        tuples_in (pairs (finite.insert m key tt))
        ≡ with_tuple (tuples_in (pairs m)) (tuple_at key)
    tuples-inserted =
        let after = finite.insert m key tt in
        finite.same_entries_map _ _
        (entries-in (pairs after) (finite.entries_sorted after) keys-inserted
        ∙ ap (map entry_of) (finite.entries-insert nat_list_cmp_total m key tt)
        ∙ put-kept key (pairs m) is keys
        ∙ ap (put tuple_order (tuple_at key) tt) (sym tuples-entries)
        ∙ sym (finite.entries-insert total (tuples_in (pairs m)) (tuple_at key) tt))

    removed-entries : pairs (finite.remove m key)
        ≡ where_key byte_order (λ x. not (eq_by_cmp byte_order key x)) (pairs m)
    removed-entries = remove-entries nat_list_cmp_total byte_order-IsAntisymmetric m key

    pub keys-removed : AreTupleKeys (pairs (finite.remove m key))
    keys-removed =
        subst AreTupleKeys (sym removed-entries)
        (keys-where (λ x. not (eq_by_cmp byte_order key x)) (pairs m) keys)

    pub tuples-removed :
        tuples_in (pairs (finite.remove m key))
        ≡ without_tuple (tuples_in (pairs m)) (tuple_at key)
    tuples-removed =
        let after = finite.remove m key in
        let other = λ (t : Tuple). not (eq_by_cmp tuple_order (tuple_at key) t) in
        finite.same_entries_map _ _
        (entries-in (pairs after) (finite.entries_sorted after) keys-removed
        ∙ ap (map entry_of) removed-entries
        ∙ where-kept (λ x. not (eq_by_cmp byte_order key x)) other
        (λ x is_x. ap (λ o. not (is_eq o)) (sym (order-kept key x is is_x))) (pairs m) keys
        ∙ ap (where_key tuple_order other) (sym tuples-entries)
        ∙ sym (remove-entries total own-columns (tuples_in (pairs m)) (tuple_at key)))

  tuples-listed : listed (tuples_in (pairs m)) ≡ map (λ pair. tuple_at pair.0) (pairs m)
  tuples-listed =
      ap (map (λ (e : Tuple × Unit {0}). e.0)) tuples-entries
      ∙ map-map (λ (e : Tuple × Unit {0}). e.0) entry_of (pairs m)

  pub tuples-under : (columns : List ℕ) → All (λ n. n < 2 ^ 32) columns →
      map (λ pair. tuple_at pair.0) (under m (bytes_of columns))
      ≡ filter (has_columns columns) (listed (tuples_in (pairs m)))
  tuples-under columns narrow =
      listed-kept (begins (bytes_of columns)) (has_columns columns)
      (λ key is. columns-kept columns key narrow is) (pairs m) keys
      ∙ ap (filter (has_columns columns)) (sym tuples-listed)

pub tuples-common : (m n : Map (Unit {0})) → AreTupleKeys (pairs m) → AreTupleKeys (pairs n) →
    map (λ (entry : Entry). tuple_at entry.0) (common m n)
    ≡ filter (has_tuple (tuples_in (pairs n))) (listed (tuples_in (pairs m)))
tuples-common m n keys_m keys_n =
    let there = has_tuple (tuples_in (pairs n)) in
    common-kept n (pairs m)
    ∙ listed-kept (finite.contains_key n) there
    (λ key is. sym (contains-tuple n keys_n key is)) (pairs m) keys_m
    ∙ ap (filter there) (sym (tuples-listed m keys_m))

-- ---- of an index
module _ (before : Version (Unit {0})) (keys : AreTupleKeys (pairs before.content))
    (shown : Index) (shows : index_of before ≡ shown)
    (w : List ℕ) (t : Tuple) (narrow : IsNarrow t) (is : w ≡ key_of t) where
  abbrev is-key : IsTupleKey w
  is-key = (t, narrow, is)

  same-tuple : tuple_at w ≡ t
  same-tuple = key-tuple w is-key

  shown-tuples : tuples_in (pairs before.content) ≡ shown.tuples
  shown-tuples = ap (λ (index : Index). index.tuples) shows

  -- Whether the tuple is there is whether its key is.
  pub there-shown : has_key before w ≡ has_tuple shown.tuples t
  there-shown =
      sym (contains-tuple before.content keys w is-key)
      ∙ (λ i. has_tuple (shown-tuples i) (same-tuple i))

  inserted : tuples_in (pairs (finite.insert before.content w tt)) ≡ with_tuple shown.tuples t
  inserted =
      tuples-inserted before.content keys w is-key
      ∙ (λ i. with_tuple (shown-tuples i) (same-tuple i))

  removed : tuples_in (pairs (finite.remove before.content w)) ≡ without_tuple shown.tuples t
  removed =
      tuples-removed before.content keys w is-key
      ∙ (λ i. without_tuple (shown-tuples i) (same-tuple i))

  pub answer-shown : (r : Result Bool AllocError) → IfOk r (λ there. there ≡ has_key before w)
      → IfOk r (λ there. there ≡ has_tuple shown.tuples t)
  answer-shown (Ok there) is = is ∙ there-shown
  answer-shown (Err error) is = tt

  -- Where it is refused, the tuple is there.
  pub present-shown : (r : Result Bool AllocError) → OnErr r (has_key before w ≡ true)
      → OnErr r (has_tuple shown.tuples t ≡ true)
  present-shown (Ok there) is = tt
  present-shown (Err error) is = sym there-shown ∙ is

  module _ (after : Version (Unit {0})) where
    -- Its key was set.
    pub put-keys : (r : Result Bool AllocError) → OnOk r (after ≡ with_key before w tt 1)
        → OnErr r (after ≡ before) → AreTupleKeys (pairs after.content)
    put-keys (Ok there) set refused =
        subst (λ (v : Version (Unit {0})). AreTupleKeys (pairs v.content)) (sym set)
        (keys-inserted before.content keys w is-key)
    put-keys (Err error) set refused =
        subst (λ (v : Version (Unit {0})). AreTupleKeys (pairs v.content)) (sym refused) keys

    pub put-tuples : (r : Result Bool AllocError) → OnOk r (after ≡ with_key before w tt 1)
        → OnOk r (tuples_in (pairs after.content) ≡ with_tuple shown.tuples t)
    put-tuples (Ok there) set =
        ap (λ (v : Version (Unit {0})). tuples_in (pairs v.content)) set ∙ inserted
    put-tuples (Err error) set = tt

    -- Its key was taken out.
    without : (b : Bool) → has_key before w ≡ b →
        AreTupleKeys (pairs (cond b (without_key before w 1) before).content)
        × (tuples_in (pairs (cond b (without_key before w 1) before).content)
        ≡ without_tuple shown.tuples t)
    without true there = (keys-removed before.content keys w is-key, removed)
    without false there =
        let stays = remove-absent nat_list_cmp_total byte_order-IsAntisymmetric before.content w
        there in
        (keys, ap (λ m. tuples_in (pairs m)) (sym stays) ∙ removed)

    pub taken-keys : (r : Result Bool AllocError) → OnOk r (after ≡ after_removal before w)
        → OnErr r (after ≡ before) → AreTupleKeys (pairs after.content)
    taken-keys (Ok there) removed refused =
        subst (λ (v : Version (Unit {0})). AreTupleKeys (pairs v.content)) (sym removed)
        (without (has_key before w) refl).0
    taken-keys (Err error) removed refused =
        subst (λ (v : Version (Unit {0})). AreTupleKeys (pairs v.content)) (sym refused) keys

    pub taken-tuples : (r : Result Bool AllocError) → OnOk r (after ≡ after_removal before w)
        → OnOk r (tuples_in (pairs after.content) ≡ without_tuple shown.tuples t)
    taken-tuples (Ok there) removed =
        ap (λ (v : Version (Unit {0})). tuples_in (pairs v.content)) removed
        ∙ (without (has_key before w) refl).1
    taken-tuples (Err error) removed = tt

-- of the empty map
pub keys-empty : AreTupleKeys (pairs (finite.empty {X = Unit {0}} {R = byte_order}))
keys-empty = subst AreTupleKeys (sym (pairs-empty (Unit {0}))) tt

pub tuples-empty : tuples_in (pairs (finite.empty {X = Unit {0}} {R = byte_order})) ≡ no_tuple
tuples-empty =
    ap tuples_in (pairs-empty (Unit {0}))
    ∙ finite.same_map total own-columns _ _ (λ q.
    finite.get-from_sorted tuple_order [] q tt ∙ sym (finite.get-empty tuple_order q))

-- ---- of two indexes
pub joined : (one : Version (Unit {0})) → AreTupleKeys (pairs one.content) →
    (shown : Index) → index_of one ≡ shown →
    (other : Version (Unit {0})) → AreTupleKeys (pairs other.content) →
    (shown' : Index) → index_of other ≡ shown' →
    (r : Result (Vec Tuple) AllocError) →
    IfOk r (λ found. found.items
    ≡ map (λ (entry : Entry). tuple_at entry.0) (common one.content other.content)) →
    IfOk r (λ found. found.items ≡ filter (has_tuple shown'.tuples) (listed shown.tuples))
joined one keys shown shows other keys' shown' shows' (Ok found) are =
    are ∙ tuples-common one.content other.content keys keys'
    ∙ (λ i. filter (has_tuple (shows' i).tuples) (listed (shows i).tuples))
joined one keys shown shows other keys' shown' shows' (Err refused) are = tt

-- ---- of some columns, the first of a tuple
pub first-columns : (t : Tuple) (count : ℕ) → count ≤ 4 →
    take (4 * count) (key_of t) ≡ bytes_of (take count (columns_of t))
first-columns t zero few = refl
first-columns t (suc zero) few = refl
first-columns t (suc (suc zero)) few = refl
first-columns t (suc (suc (suc zero))) few = refl
first-columns t (suc (suc (suc (suc zero)))) few = refl
first-columns t (suc (suc (suc (suc (suc count))))) few = absurd (omega (arith, few))

pub queried : (version : Version (Unit {0})) → AreTupleKeys (pairs version.content) →
    (shown : Index) → index_of version ≡ shown →
    (columns : List ℕ) → All (λ n. n < 2 ^ 32) columns →
    (prefix : List ℕ) → prefix ≡ bytes_of columns →
    (r : Result (Vec Tuple) AllocError) →
    IfOk r (λ found. found.items ≡ map (λ pair. tuple_at pair.0) (under version.content prefix)) →
    IfOk r (λ found. found.items ≡ filter (has_columns columns) (listed shown.tuples))
queried version keys shown shows columns narrow prefix is (Ok found) are =
    are
    ∙ ap (λ p. map (λ (pair : Pair). tuple_at pair.0) (under version.content p)) is
    ∙ tuples-under version.content keys columns narrow
    ∙ ap (λ (index : Index). filter (has_columns columns) (listed index.tuples)) shows
queried version keys shown shows columns narrow prefix is (Err refused) are = tt
