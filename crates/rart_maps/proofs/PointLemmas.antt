-- Where strings part, what the points of a map are, and how many there are.
use Rattle.std.proofs.Common.{◌≡◌, ◌≢◌, ◌↔◌, ◌⊎◌, ◌≤◌, ◌+◌, ◌*◌, ◌&&◌, ℕ, Bool, true, false, cond, List, [], ◌∷◌, ◌++◌, map, length, length-append, refl, sym, ap, subst, ◌∙◌, ⊎_elim, inl, inr, arith, Option, Some, None}
use Rattle.std.specs.Prelude.{◌==◌, Contains}
use Rattle.std.specs.List.{filter_map, flat_map, cons_option}
use Rattle.std.specs.Option.{option_map, is_some, unwrap_or}
use Rattle.std.specs.Ordering.{eq_by_cmp, is_eq}
use Rattle.std.specs.Cmp.{tied_itself}
use Rattle.std.specs.Cmp.Lexicographic.{nat_list_cmp_total}
use Rattle.std.specs.FinMap as finite
use Rattle.std.specs.FinSet as set
use Rattle.std.proofs.lemmas.Bool.{and_parts, eqb-true, eq-eqb, ne_eqb, false≢true, cases_eq}
use Rattle.std.proofs.lemmas.List.{length-map}
use Rattle.std.proofs.lemmas.List.Elements.{Contains-append_left, Contains-append_right, Contains-append_cases}
use Rattle.rart_below.specs.Bytes.{byte_order, begins}
use Rattle.rart_maps.specs.FoundLaws.{KeysAscend}
use Rattle.rart_maps.specs.Order.{IsBefore, IsAtMost}
use Rattle.rart_maps.specs.Pairs.{Strings, pairs, under, starts}
use Rattle.rart_maps.specs.PointLaws.{PointsAreKeysAndPartings, KeysArePoints, PointsAreFew, PointsUnderAreFew}
use Rattle.rart_maps.specs.Points.{parting, partings, points}
use Rattle.rart_maps.specs.StartLaws.{with_byte}
use Rattle.rart_maps.specs.Versions.{Map}
use Rattle.rart_maps.proofs.ElementLemmas.{Contains-nil, Contains-here, Contains-later, Contains-cases, Contains-map, AllPairs-first, AllPairs-rest, Contains-filter, Contains-filter_map, list_any-is, tied}
use Rattle.rart_maps.proofs.FoundLemmas.{Contains-pairs, pairs_ascend_by_key, under_ascends}
use Rattle.rart_maps.proofs.OrderLemmas.{IsBefore-itself, byte_order-IsAntisymmetric, begins-rest}
use Rattle.rart_maps.proofs.PairLawLemmas.{begins-shorter}
use Rattle.rart_maps.proofs.SetLemmas.{few-listed}
use Rattle.rart_maps.proofs.StartLemmas.{starts_begin_keys, contains-strings_under}

-- ---- where strings part

same_Some : {A : Type 0} (x y : A) → Some x ≡ Some y → x ≡ y
same_Some x y is = ap (λ o. unwrap_or o x) is

-- What both begin with stands before where they part.
pub parting-cons : (b : ℕ) (o : Option (List ℕ)) (s : List ℕ) → option_map (λ t. b ∷ t) o ≡ Some s →
    (t : List ℕ) × (s ≡ b ∷ t) × (o ≡ Some t)
parting-cons b None s is = absurd (false≢true (ap is_some is))
parting-cons b (Some t) s is = (t, sym (same_Some (b ∷ t) s is), refl)

-- No string parts from itself.
parting-itself : (u : List ℕ) → parting u u ≡ None
parting-itself [] = refl
parting-itself (b ∷ u) =
    (λ i. cond (eq-eqb b b refl i) (option_map (λ s. b ∷ s) (parting u u)) (Some []))
    ∙ ap (option_map (λ s. b ∷ s)) (parting-itself u)

-- Two strings part where the strings, swapped, do.
parting-swap : (u w : List ℕ) → parting u w ≡ parting w u
parting-swap [] [] = refl
parting-swap [] (c ∷ w) = refl
parting-swap (b ∷ u) [] = refl
parting-swap (b ∷ u) (c ∷ w) =
    ⊎_elim
    (λ is. (λ i. cond (eq-eqb b c is i) (option_map (λ s. b ∷ s) (parting u w)) (Some []))
    ∙ (λ i. option_map (λ s. is i ∷ s) (parting-swap u w i))
    ∙ (λ i. cond (sym (eq-eqb c b (sym is)) i) (option_map (λ s. c ∷ s) (parting w u)) (Some [])))
    (λ other. (λ i. cond (ne_eqb b c other i) (option_map (λ s. b ∷ s) (parting u w)) (Some []))
    ∙ (λ i. cond (sym (ne_eqb c b (λ is. other (sym is))) i)
    (option_map (λ s. c ∷ s) (parting w u)) (Some [])))
    (cases_eq b c)

-- Behind where they part, two strings go on with different bytes.
pub parting-bytes : (u w s : List ℕ) → parting u w ≡ Some s →
    (b : ℕ) × (c : ℕ) × (b ≢ c) × (begins (with_byte s b) u ≡ true)
    × (begins (with_byte s c) w ≡ true)
parting-bytes [] w s is = absurd (false≢true (ap is_some is))
parting-bytes (b ∷ u) [] s is = absurd (false≢true (ap is_some is))
parting-bytes (b ∷ u) (c ∷ w) s is =
    ⊎_elim
    (λ same.
    let here = sym (λ i. cond (eq-eqb b c same i)
    (option_map (λ t. b ∷ t) (parting u w)) (Some [])) ∙ is in
    let rest = parting-cons b (parting u w) s here in
    let more = parting-bytes u w rest.0 rest.2 in (
      more.0,
      more.1,
      more.2,
      ap (λ t. begins (with_byte t more.0) (b ∷ u)) rest.1
          ∙ (λ i. eq-eqb b b refl i && begins (with_byte rest.0 more.0) u) ∙ more.3,
      ap (λ t. begins (with_byte t more.1) (c ∷ w)) rest.1
          ∙ (λ i. eq-eqb b c same i && begins (with_byte rest.0 more.1) w) ∙ more.4,
    ))
    (λ other.
    let here = same_Some [] s
    (sym (λ i. cond (ne_eqb b c other i) (option_map (λ t. b ∷ t) (parting u w)) (Some []))
    ∙ is) in (
      b,
      c,
      other,
      ap (λ t. begins (with_byte t b) (b ∷ u)) (sym here) ∙ (λ i. eq-eqb b b refl i && true),
      ap (λ t. begins (with_byte t c) (c ∷ w)) (sym here) ∙ (λ i. eq-eqb c c refl i && true),
    ))
    (cases_eq b c)

-- And strings that begin with different bytes behind one part there.
pub bytes-parting : (s u w : List ℕ) (b c : ℕ) → b ≢ c → begins (with_byte s b) u ≡ true →
    begins (with_byte s c) w ≡ true → parting u w ≡ Some s
bytes-parting [] [] w b c other here there = absurd (false≢true here)
bytes-parting [] (a ∷ u) [] b c other here there = absurd (false≢true there)
bytes-parting [] (a ∷ u) (d ∷ w) b c other here there =
    let first = eqb-true b a (and_parts (b == a) true here).0 in
    let second = eqb-true c d (and_parts (c == d) true there).0 in
    λ i. cond (ne_eqb a d (λ is. other (first ∙ is ∙ sym second)) i)
    (option_map (λ t. a ∷ t) (parting u w)) (Some [])
bytes-parting (a ∷ s) [] w b c other here there = absurd (false≢true here)
bytes-parting (a ∷ s) (d ∷ u) [] b c other here there = absurd (false≢true there)
bytes-parting (a ∷ s) (d ∷ u) (e ∷ w) b c other here there =
    let first = and_parts (a == d) (begins (with_byte s b) u) here in
    let second = and_parts (a == e) (begins (with_byte s c) w) there in
    let same = eqb-true a d first.0 in
    let also = eqb-true a e second.0 in
    (λ i. cond (eq-eqb d e (sym same ∙ also) i)
    (option_map (λ t. d ∷ t) (parting u w)) (Some []))
    ∙ ap (option_map (λ t. d ∷ t)) (bytes-parting s u w b c other first.1 second.1)
    ∙ ap (λ f. Some (f ∷ s)) (sym same)

-- ---- strings in order

abbrev pub tail_of : List ℕ → List ℕ
tail_of [] = []
tail_of (_ ∷ w) = w

abbrev pub head_of : List ℕ → ℕ
head_of [] = 0
head_of (b ∷ _) = b

first-at_most : (b c : ℕ) (u w : List ℕ) → IsBefore (b ∷ u) (c ∷ w) → b ≤ c
first-at_most b c u w before =
    ⊎_elim (λ below. omega (arith, below)) (λ rest. omega (arith, rest.0)) before

rest-before : (b c : ℕ) (u w : List ℕ) → IsBefore (b ∷ u) (c ∷ w) → b ≡ c → IsBefore u w
rest-before b c u w before same =
    ⊎_elim (λ below. absurd (omega (arith, same, below))) (λ rest. rest.1) before

rest-at_most : (b c : ℕ) (u w : List ℕ) → IsAtMost (b ∷ u) (c ∷ w) → b ≡ c → IsAtMost u w
rest-at_most b c u w most same =
    ⊎_elim
    (λ whole. inl (ap tail_of whole))
    (λ before. inr (rest-before b c u w before same))
    most

firsts-at_most : (b c : ℕ) (u w : List ℕ) → IsAtMost (b ∷ u) (c ∷ w) → b ≤ c
firsts-at_most b c u w most =
    ⊎_elim
    (λ whole. let same = ap head_of whole in omega (arith, same))
    (first-at_most b c u w)
    most

pub parting-same : (b c : ℕ) (u w : List ℕ) → b ≡ c →
    parting (b ∷ u) (c ∷ w) ≡ option_map (λ s. b ∷ s) (parting u w)
parting-same b c u w is = λ i. cond (eq-eqb b c is i) (option_map (λ s. b ∷ s) (parting u w))
    (Some [])

pub parting-other : (b c : ℕ) (u w : List ℕ) → b ≢ c → parting (b ∷ u) (c ∷ w) ≡ Some []
parting-other b c u w other =
    λ i. cond (ne_eqb b c other i) (option_map (λ s. b ∷ s) (parting u w)) (Some [])

-- Of three strings in order the first and the last part where two next to each other do.
parting-between : (x z y s : List ℕ) → IsBefore x z → IsAtMost z y → parting x y ≡ Some s →
    (parting x z ≡ Some s) ⊎ (parting z y ≡ Some s)
parting-between [] z y s less most is = absurd (false≢true (ap is_some is))
parting-between (a ∷ x) z [] s less most is = absurd (false≢true (ap is_some is))
parting-between (a ∷ x) [] (b ∷ y) s less most is = absurd less
parting-between (a ∷ x) (c ∷ z) (b ∷ y) s less most is =
    between (parting-between x z y) (cases_eq a b) (cases_eq a c)
  where
    between : ((t : List ℕ) → IsBefore x z → IsAtMost z y → parting x y ≡ Some t →
        (parting x z ≡ Some t) ⊎ (parting z y ≡ Some t)) →
        (a ≡ b) ⊎ (a ≢ b) → (a ≡ c) ⊎ (a ≢ c) →
        (parting (a ∷ x) (c ∷ z) ≡ Some s) ⊎ (parting (c ∷ z) (b ∷ y) ≡ Some s)
    between later (inl ends) (inl same) =
        let rest = parting-cons a (parting x y) s (sym (parting-same a b x y ends) ∙ is) in
        let whole = ap (λ t. Some t) (sym rest.1) in
        ⊎_elim
        (λ first. inl (parting-same a c x z same ∙ ap (option_map (λ t. a ∷ t)) first ∙ whole))
        (λ second. inr (parting-same c b z y (sym same ∙ ends)
        ∙ ap (option_map (λ t. c ∷ t)) second ∙ ap (λ d. Some (d ∷ rest.0)) (sym same) ∙ whole))
        (later rest.0 (rest-before a c x z less same) (rest-at_most c b z y most (sym same ∙ ends))
        rest.2)
    between later (inl ends) (inr other) =
        let low = first-at_most a c x z less in
        let high = firsts-at_most c b z y most in
        absurd (other (omega (arith, low, high, ends)))
    between later (inr apart) (inl same) =
        inr (parting-other c b z y (λ also. apart (same ∙ also))
        ∙ sym (parting-other a b x y apart) ∙ is)
    between later (inr apart) (inr other) =
        inl (parting-other a c x z other ∙ sym (parting-other a b x y apart) ∙ is)

-- ---- lists of strings, and sets of them

module _ {A B : Type 0} where
  flat_map-contains : (f : A → List B) (xs : List A) (y : B) → Contains (flat_map f xs) y →
      (x : A) × Contains xs x × Contains (f x) y
  flat_map-contains f [] y there = absurd (Contains-nil y there)
  flat_map-contains f (x ∷ xs) y there =
      ⊎_elim
      (λ here. (x, Contains-here x xs, here))
      (λ later. let found = flat_map-contains f xs y later in
      (found.0, Contains-later x xs found.0 found.1, found.2))
      (Contains-append_cases (f x) (flat_map f xs) y there)

  contains-flat_map : (f : A → List B) (xs : List A) (x : A) (y : B) → Contains xs x →
      Contains (f x) y → Contains (flat_map f xs) y
  contains-flat_map f [] x y there here = absurd (Contains-nil x there)
  contains-flat_map f (a ∷ xs) x y there here =
      ⊎_elim
      (λ same. Contains-append_left (f a) (flat_map f xs) y
      (subst (λ z. Contains (f z) y) (sym same) here))
      (λ later. Contains-append_right (f a) (flat_map f xs) y
      (contains-flat_map f xs x y later here))
      (Contains-cases a xs x there)

  pub map-contains : (f : A → B) (xs : List A) (y : B) → Contains (map f xs) y →
      (x : A) × Contains xs x × (f x ≡ y)
  map-contains f [] y there = absurd (Contains-nil y there)
  map-contains f (x ∷ xs) y there =
      ⊎_elim
      (λ is. (x, Contains-here x xs, is))
      (λ later. let found = map-contains f xs y later in
      (found.0, Contains-later x xs found.0 found.1, found.2))
      (Contains-cases (f x) (map f xs) y there)

-- A string is in the set of a list exactly where the list contains it.
pub in-list : (list : List (List ℕ)) (s : List ℕ) →
    (set.contains (set.from_list {R = byte_order} list) s ≡ true) ↔ Contains list s
in-list list s =
    let any = list_any-is (eq_by_cmp byte_order s) list in (
      λ is. let found = any.0 (sym (set.contains-from_list nat_list_cmp_total list s) ∙ is) in
          subst (Contains list) (sym (tied byte_order-IsAntisymmetric s found.0 found.2)) found.1,
      λ there. set.contains-from_list nat_list_cmp_total list s
          ∙ any.1 (s, there, ap is_eq (tied_itself nat_list_cmp_total s)),
    )

-- As many strings are in the set of the strings of a list that ascends as stand in it.
pub len-ascending : {A : Type 0} (nodes : List (List ℕ × A)) → KeysAscend (λ node. node.0) nodes →
    set.len (set.from_list {R = byte_order} (map (λ node. node.0) nodes)) ≡ length nodes
len-ascending [] apart = set.len-empty byte_order
len-ascending {A} (node ∷ nodes) apart =
    let before = λ (a b : List ℕ × A). IsBefore a.0 b.0 in
    let others = map (λ (n : List ℕ × A). n.0) nodes in
    let later = len-ascending nodes (AllPairs-rest before node nodes apart) in
    let absent : set.contains (set.from_list {R = byte_order} others) node.0 ≡ false =
    not-true _ (λ there.
    let found = map-contains (λ n. n.0) nodes node.0 ((in-list others node.0).0 there) in
    IsBefore-itself node.0 (subst (IsBefore node.0) found.2
    (AllPairs-first before node nodes apart found.0 found.1))) in
    let whole = set.len-insert nat_list_cmp_total (set.from_list others) node.0
    ∙ (λ i. cond (absent i) (later i) (later i + 1)) in
    omega (arith, whole)
  where
    not-true : (b : Bool) → (b ≡ true → ⊥) → b ≡ false
    not-true true is = absurd (is refl)
    not-true false is = refl

-- ---- strings next to each other

at_most_one : (o : Option (List ℕ)) (more : List (List ℕ)) →
    length (cons_option o more) ≤ length more + 1
at_most_one None more = omega arith
at_most_one (Some s) more = omega arith

first-next : (o : Option (List ℕ)) (s : List ℕ) (more : List (List ℕ)) → o ≡ Some s →
    Contains (cons_option o more) s
first-next o s more is =
    subst (λ o. Contains (cons_option o more) s) (sym is) (Contains-here s more)

later-next : (o : Option (List ℕ)) (s : List ℕ) (more : List (List ℕ)) → Contains more s →
    Contains (cons_option o more) s
later-next None s more there = there
later-next (Some t) s more there = Contains-later t more s there

module _ {V : Type 0} where
  -- where a key parts from the first of a list
  abbrev first_parting : List ℕ → List (List ℕ × V) → Option (List ℕ)
  first_parting key [] = None
  first_parting key (y ∷ rest) = parting key y.0

  -- where keys next to each other part
  abbrev next_partings : List (List ℕ × V) → List (List ℕ)
  next_partings [] = []
  next_partings (x ∷ rest) = cons_option (first_parting x.0 rest) (next_partings rest)

  few-next_partings : (list : List (List ℕ × V)) → length (next_partings list) ≤ length list
  few-next_partings [] = omega arith
  few-next_partings (x ∷ rest) =
      let fewer = few-next_partings rest in
      let one = at_most_one (first_parting x.0 rest) (next_partings rest) in
      omega (arith, fewer, one)

  abbrev Ascend : List (List ℕ × V) → Type 0
  Ascend list = KeysAscend (λ pair. pair.0) list

  -- the first key of a list that ascends, and any other
  first_parts : (x : List ℕ × V) (rest : List (List ℕ × V)) (s : List ℕ) → Ascend (x ∷ rest) →
      ((z y : List ℕ × V) → Contains rest z → Contains rest y → parting z.0 y.0 ≡ Some s →
      Contains (next_partings rest) s) → (y : List ℕ × V) → Contains rest y →
      parting x.0 y.0 ≡ Some s → Contains (next_partings (x ∷ rest)) s
  first_parts x [] s ascend later y there is = absurd (Contains-nil y there)
  first_parts x (z ∷ rest) s ascend later y there is =
      let before = λ (a b : List ℕ × V). IsBefore a.0 b.0 in
      let less = AllPairs-first before x (z ∷ rest) ascend z (Contains-here z rest) in
      let others = AllPairs-rest before x (z ∷ rest) ascend in
      let most : IsAtMost z.0 y.0 =
      ⊎_elim (λ same. inl (ap (λ pair. pair.0) same))
      (λ behind. inr (AllPairs-first before z rest others y behind))
      (Contains-cases z rest y there) in
      ⊎_elim
      (λ here. first-next (parting x.0 z.0) s (next_partings (z ∷ rest)) here)
      (λ further. later-next (parting x.0 z.0) s (next_partings (z ∷ rest))
      (later z y (Contains-here z rest) there further))
      (parting-between x.0 z.0 y.0 s less most is)

  -- Where two keys of a list that ascends part, two part that stand next to each other.
  parting-next : (list : List (List ℕ × V)) → Ascend list → (x y : List ℕ × V) → Contains list x →
      Contains list y → (s : List ℕ) → parting x.0 y.0 ≡ Some s → Contains (next_partings list) s
  parting-next [] ascend x y here there s is = absurd (Contains-nil x here)
  parting-next (p ∷ rest) ascend x y here there s is =
      let before = λ (a b : List ℕ × V). IsBefore a.0 b.0 in
      let later : (z w : List ℕ × V) → Contains rest z → Contains rest w →
      parting z.0 w.0 ≡ Some s → Contains (next_partings rest) s =
      λ z w first second parts. parting-next rest (AllPairs-rest before p rest ascend) z w first
      second s parts in
      let first = first_parts p rest s ascend later in
      ⊎_elim
      (λ is_first. ⊎_elim
      (λ also. absurd (false≢true (ap is_some (sym (parting-itself p.0)
      ∙ (λ i. parting (is_first i).0 (also i).0) ∙ is))))
      (λ behind. first y behind (ap (λ z. parting z.0 y.0) is_first ∙ is))
      (Contains-cases p rest y there))
      (λ behind. ⊎_elim
      (λ is_first. first x behind (ap (λ z. parting z.0 x.0) is_first
      ∙ parting-swap y.0 x.0 ∙ is))
      (λ also. later-next (first_parting p.0 rest) s (next_partings rest)
      (later x y behind also is))
      (Contains-cases p rest y there))
      (Contains-cases p rest x here)

  -- A string is a key of the list, or two of its keys part there.
  abbrev pub IsPointOf : List (List ℕ × V) → List ℕ → Type 0
  IsPointOf list s = ((x : V) × Contains list (s, x))
      ⊎ ((x : List ℕ × V) × (y : List ℕ × V) × Contains list x × Contains list y
      × (parting x.0 y.0 ≡ Some s))

  -- Of a list that ascends there are at most twice as many such strings as pairs.
  pub points-few : (list : List (List ℕ × V)) → KeysAscend (λ pair. pair.0) list →
      (strings : Strings) → ((s : List ℕ) → set.contains strings s ≡ true → IsPointOf list s) →
      set.len strings ≤ 2 * length list
  points-few list ascend strings all =
      let keys = map (λ (pair : List ℕ × V). pair.0) list in
      let few = few-listed nat_list_cmp_total byte_order-IsAntisymmetric
      (keys ++ next_partings list) strings (λ s there.
      ⊎_elim
      (λ key. Contains-append_left keys (next_partings list) s
      (Contains-map (λ pair. pair.0) list (s, key.0) key.1))
      (λ parts. Contains-append_right keys (next_partings list) s
      (parting-next list ascend parts.0 parts.1 parts.2 parts.3 s parts.4))
      (all s there)) in
      let next = few-next_partings list in
      let both : length (keys ++ next_partings list)
      ≡ length list + length (next_partings list) =
      length-append keys (next_partings list)
      ∙ ap (λ n. n + length (next_partings list)) (length-map list (λ pair. pair.0)) in
      omega (arith, few, next, both)

  -- So there are at most twice as many nodes as pairs, where each node stands at another of these.
  pub points-counted : {A : Type 0} (list : List (List ℕ × V)) →
      KeysAscend (λ pair. pair.0) list → (nodes : List (List ℕ × A)) →
      KeysAscend (λ node. node.0) nodes →
      ((node : List ℕ × A) → Contains nodes node → IsPointOf list node.0) →
      length nodes ≤ 2 * length list
  points-counted list ascend nodes apart all =
      let strings = set.from_list {R = byte_order} (map (λ node. node.0) nodes) in
      let few = points-few list ascend strings (λ s there.
      let found = map-contains (λ node. node.0) nodes s
      ((in-list (map (λ node. node.0) nodes) s).0 there) in
      subst (IsPointOf list) found.2 (all found.0 found.1)) in
      let many = len-ascending nodes apart in
      omega (arith, few, many)

-- ---- the points of a map

module _ {V : Type 0} where
  points-from : (list : List (List ℕ × V)) (s : List ℕ) →
      Contains (map (λ pair. pair.0) list ++ partings list) s → IsPointOf list s
  points-from list s there =
      ⊎_elim
      (λ key. let found = map-contains (λ pair. pair.0) list s key in
      inl (found.0.1, subst (λ k. Contains list (k, found.0.1)) found.2 found.1))
      (λ parts.
      let left = flat_map-contains (λ x. filter_map (λ y. parting x.0 y.0) list) list s parts in
      let right = (Contains-filter_map (λ y. parting left.0.0 y.0) list s).0 left.2 in
      inr (left.0, right.0, left.1, right.1, right.2))
      (Contains-append_cases (map (λ pair. pair.0) list) (partings list) s there)

  points-to : (list : List (List ℕ × V)) (s : List ℕ) → IsPointOf list s →
      Contains (map (λ pair. pair.0) list ++ partings list) s
  points-to list s point =
      let keys = map (λ (pair : List ℕ × V). pair.0) list in
      ⊎_elim
      (λ key. Contains-append_left keys (partings list) s
      (Contains-map (λ pair. pair.0) list (s, key.0) key.1))
      (λ parts. Contains-append_right keys (partings list) s
      (contains-flat_map (λ x. filter_map (λ y. parting x.0 y.0) list) list parts.0 s parts.2
      ((Contains-filter_map (λ y. parting parts.0.0 y.0) list s).1 (parts.1, parts.3, parts.4))))
      point

  -- A string is a point exactly where it is a key, or two keys part there.
  pub points-is : (m : Map V) (s : List ℕ) →
      (set.contains (points m) s ≡ true) ↔ IsPointOf (pairs m) s
  points-is m s =
      let list = map (λ (pair : List ℕ × V). pair.0) (pairs m) ++ partings (pairs m) in (
        λ is. points-from (pairs m) s ((in-list list s).0 is),
        λ point. (in-list list s).1 (points-to (pairs m) s point),
      )

  value_of_key : (o : Option V) → is_some o ≡ true → (x : V) × (o ≡ Some x)
  value_of_key None is = absurd (false≢true is)
  value_of_key (Some x) is = (x, refl)

  pub key-pair : (m : Map V) (key : List ℕ) → finite.contains_key m key ≡ true →
      (x : V) × Contains (pairs m) (key, x)
  key-pair m key there =
      let value = value_of_key (finite.get m key) there in
      (value.0, (Contains-pairs m key value.0).1 value.1)

  pair-key : (m : Map V) (key : List ℕ) (x : V) → Contains (pairs m) (key, x) →
      finite.contains_key m key ≡ true
  pair-key m key x there = ap is_some ((Contains-pairs m key x).0 there)

module _ (V : Type 0) where
  start-key : (m : Map V) (s : List ℕ) → set.contains (starts m) s ≡ true →
      (pair : List ℕ × V) × Contains (pairs m) pair × (begins s pair.0 ≡ true)
  start-key m s is =
      let found = (starts_begin_keys V m s).0 is in
      let pair = key-pair m found.0 found.2 in
      ((found.0, pair.0), pair.1, found.1)

  key-start : (m : Map V) (s : List ℕ) (pair : List ℕ × V) → Contains (pairs m) pair →
      begins s pair.0 ≡ true → set.contains (starts m) s ≡ true
  key-start m s pair there is =
      (starts_begin_keys V m s).1 (pair.0, is, pair-key m pair.0 pair.1 there)

  pub points_are_keys_and_partings : PointsAreKeysAndPartings V
  points_are_keys_and_partings m s = (
    λ is. ⊎_elim
        (λ key. inl (pair-key m s key.0 key.1))
        (λ parts. let bytes = parting-bytes parts.0.0 parts.1.0 s parts.4 in
        inr (
          bytes.0,
          bytes.1,
          bytes.2,
          key-start m (with_byte s bytes.0) parts.0 parts.2 bytes.3,
          key-start m (with_byte s bytes.1) parts.1 parts.3 bytes.4,
        ))
        ((points-is m s).0 is),
    λ either. (points-is m s).1 (⊎_elim
        (λ key. inl (key-pair m s key))
        (λ apart.
        let left = start-key m (with_byte s apart.0) apart.3 in
        let right = start-key m (with_byte s apart.1) apart.4 in
        inr (
          left.0,
          right.0,
          left.1,
          right.1,
          bytes-parting s left.0.0 right.0.0 apart.0 apart.1 apart.2 left.2 right.2,
        ))
        either),
  )

  pub keys_are_points : KeysArePoints V
  keys_are_points m key there = (points-is m key).1 (inl (key-pair m key there))

  pub points_are_few : PointsAreFew V
  points_are_few m =
      let few = points-few (pairs m) (pairs_ascend_by_key V m) (points m)
      (λ s is. (points-is m s).0 is) in
      let all = finite.len-entries m in
      omega (arith, few, all)

  -- Where a string begins where two strings part, it begins both.
  pub under-point : (m : Map V) (p s : List ℕ) → begins p s ≡ true → IsPointOf (pairs m) s →
      IsPointOf (under m p) s
  under-point m p s is point =
      let rest = begins-rest p s is in
      let further : (b : ℕ) (u : List ℕ) → begins (with_byte s b) u ≡ true → begins p u ≡ true =
      λ b u longer. begins-shorter p rest.0 u (ap (λ t. begins t u) (sym rest.1)
      ∙ begins-shorter s (b ∷ []) u longer) in
      let kept = λ (pair : List ℕ × V). Contains-filter (λ pair. begins p pair.0) (pairs m) pair in
      ⊎_elim
      (λ key. inl (key.0, (kept (s, key.0)).1 (key.1, is)))
      (λ parts. let bytes = parting-bytes parts.0.0 parts.1.0 s parts.4 in
      inr (
        parts.0,
        parts.1,
        (kept parts.0).1 (parts.2, further bytes.0 parts.0.0 bytes.3),
        (kept parts.1).1 (parts.3, further bytes.1 parts.1.0 bytes.4),
        parts.4,
      ))
      point

  pub points_under_are_few : PointsUnderAreFew V
  points_under_are_few m p =
      points-few (under m p) (under_ascends V m p) (set.retain (points m) (begins p)) (λ s there.
      let parts = and_parts (set.contains (points m) s) (begins p s)
      (sym (contains-strings_under (points m) p s) ∙ there) in
      under-point m p s parts.1 ((points-is m s).0 parts.0))
