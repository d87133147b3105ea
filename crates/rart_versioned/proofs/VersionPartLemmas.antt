-- The two parts that another version cuts a version into, and what two versions are together; and
-- that all stays in order there.
use Rattle.std.proofs.Common.{◌≡◌, ℕ, ◌+◌, ◌≤◌, ◌⊎◌, inl, inr, ⊎_elim, List, [], ◌∷◌, Option, Some, None, IsSome, is_some, length, map, cond, not, Bool, true, false, refl, arith, sym, ap, subst, ◌∙◌}
use Rattle.std.specs.FinMap as finite
use Rattle.std.specs.FinSet as set
use Rattle.std.specs.Prelude.{filter}
use Rattle.std.proofs.lemmas.Bool.{and_from, false≢true}
use Rattle.std.proofs.lemmas.Cmp.{nat_list_cmp_total}
use Rattle.std.proofs.lemmas.List.{length-map}
use Rattle.rart_below.specs.Bytes.{byte_order}
use Rattle.rart_maps.specs.Bounds.{apart_makes, cut_makes, difference_bound, intersection_bound, union_bound, union_makes}
use Rattle.rart_maps.specs.MapParts.{apart, common_part, without}
use Rattle.rart_maps.specs.Pairs.{pairs, starts, shared}
use Rattle.rart_maps.specs.Points.{places, points}
use Rattle.rart_maps.specs.StartLaws.{with_byte}
use Rattle.rart_maps.specs.ChangeLists.{joined}
use Rattle.rart_maps.specs.Versions.{Map}
use Rattle.rart_maps.proofs.ElementLemmas.{Contains-map}
use Rattle.rart_maps.proofs.FoundLemmas.{Contains-pairs}
use Rattle.rart_maps.proofs.MapPartLemmas.{apart_either_way, get-apart, get-common_part, get-without, joined_with_itself, no_key_cuts_nothing, common_part_has_these_pairs, other_part_has_these_pairs}
use Rattle.rart_maps.proofs.ChangeLemmas.{or_else, get-joined}
use Rattle.rart_maps.proofs.PlaceLawLemmas.{places_are_shared_points}
use Rattle.rart_maps.proofs.PairLawLemmas.{contains-shared}
use Rattle.rart_maps.proofs.PointLemmas.{in-list, points_are_keys_and_partings}
use Rattle.rart_maps.proofs.PrefixLemmas.{same_map}
use Rattle.rart_maps.proofs.StartLemmas.{starts_begin_keys}
use Rattle.rart_node.specs.Counts.{Counts, CountsUpTo}
use Rattle.rart_node.specs.Shape.{Shape}
use Rattle.rart_node.specs.Trees.{found, IsTree}
use Rattle.rart_node.proofs.CountingLemmas.{counts-most}
use Rattle.rart_algebra.specs.Ahead.{ArePartedAt, EitherHas, IsChange, IsChangedPlace, IsPlace, IsShared, IsCommonKey, BeginsCommon, HasAll, GoesUpTo, JoinsUpTo, MeetsUpTo}
use Rattle.rart_algebra.specs.Picks.{IsPickedOr, Pick, both, either, unless}
use Rattle.rart_algebra.specs.Picks as picks
use Rattle.rart_versioned.specs.Roots.{found_in, map_of, IsTreeIn, IsSound}
use Rattle.rart_versioned.proofs.RestoringLemmas.{len-joined}
use Rattle.rart_versioned.proofs.SoundLemmas.{tree-in, few, admitted}
use Rattle.rart_versioned.proofs.VersionMapLemmas.{get-found}
use Rattle.rart_versioned.proofs.VersionPrefixLemmas.{filter-fewer}

-- A list has as many strings at least as the set of them.
list-few : (list : List (List ℕ)) → set.len (set.from_list {R = byte_order} list) ≤ length list
list-few [] = let none = set.len-empty byte_order in omega (arith, none)
list-few (s ∷ list) =
    let rest = list-few list in
    let more = set.len-insert nat_list_cmp_total (set.from_list {R = byte_order} list) s in
    let P : Bool → Type 0 = λ t. cond t (set.len (set.from_list {R = byte_order} list))
    (set.len (set.from_list {R = byte_order} list) + 1) ≤ length (s ∷ list) in
    let both : (t : Bool) → P t =
    elim [ true ↦ omega (arith, rest) | false ↦ omega (arith, rest) ] in
    let last = both (set.contains (set.from_list {R = byte_order} list) s) in
    omega (arith, more, last)

module _ {V : Type 0} where
  -- ---- the map of what is picked
  -- What is picked at each key is what a part of the first map has there, and no more than that
  -- one.
  pub record IsCut (pick : Pick V) (part : Map V → Map V → Map V) : Type 0 where
    pub answers : (m other : Map V) (q : List ℕ)
        → finite.get (part m other) q ≡ pick (finite.get m q) (finite.get other q)
    pub kept : (one other : Option V) → IsSome (pick one other) → IsSome one
    pub fewer : (m other : Map V) → finite.len (part m other) ≤ finite.len m

  -- After, below the root, if there still is one, is what is picked from what was below two.
  abbrev pub IsPickedIn : Pick V → Option (Shape V) → Option (Shape V) → Option (Shape V) → Type 0
  IsPickedIn pick before other after =
      IsTreeIn after
      × ((q : List ℕ) → found_in after q ≡ pick (found_in before q) (found_in other q))

  pub picked-in : (pick : Pick V) (left right : Shape V) (o : Option (Shape V))
      → IsPickedOr pick left right o → IsPickedIn pick (Some left) (Some right) o
  picked-in pick left right None none = (tt, λ q. sym (none q))
  picked-in pick left right (Some after) picked = (picked.tree, picked.finds)

  -- What two maps have together has keys of either alone, and no more than both.
  pub record IsJoin (pick : Pick V) (part : Map V → Map V → Map V) : Type 0 where
    pub answers : (m other : Map V) (q : List ℕ)
        → finite.get (part m other) q ≡ pick (finite.get m q) (finite.get other q)
    pub kept : (one other : Option V) → IsSome (pick one other) → IsSome one ⊎ IsSome other
    pub fewer : (m other : Map V)
        → finite.len (part m other) ≤ finite.len m + finite.len other

  pub map-picked : (pick : Pick V) (part : Map V → Map V → Map V)
      → ((m other : Map V) (q : List ℕ)
      → finite.get (part m other) q ≡ pick (finite.get m q) (finite.get other q))
      → (before other after : Option (Shape V)) → IsTreeIn before → IsTreeIn other
      → IsPickedIn pick before other after → map_of after ≡ part (map_of before) (map_of other)
  map-picked pick part answers before other after tree also left =
      same_map (map_of after) (part (map_of before) (map_of other)) (λ q.
      get-found after q left.0 ∙ left.1 q
      ∙ (λ i. pick (sym (get-found before q tree) i) (sym (get-found other q also) i))
      ∙ sym (answers (map_of before) (map_of other) q))

  pub sound-joined : (pick : Pick V) (part : Map V → Map V → Map V) → IsJoin pick part
      → (most : Option ℕ) (count more : ℕ) (before other after : Option (Shape V))
      → IsSound most count before → IsSound most more other
      → IsPickedIn pick before other after → IsSound most (count + more) after
  sound-joined pick part join most count more before other None sound also left = tt
  sound-joined pick part join most count more before other (Some root) sound also left =
      let same = map-picked pick part join.answers before other (Some root)
      (tree-in most count before sound) (tree-in most more other also) left in
      let fewer = join.fewer (map_of before) (map_of other) in
      let all = few most count before sound in
      let others = few most more other also in (
        left.0,
        (λ q there. ⊎_elim (admitted most count before sound q) (admitted most more other also q)
            (join.kept (found_in before q) (found_in other q) (subst IsSome (left.1 q) there))),
        subst (λ m. finite.len m ≤ count + more) (sym same)
            (omega (arith, fewer, all, others)),
      )

  module _ (pick : Pick V) (part : Map V → Map V → Map V) (cut : IsCut pick part) where
    pub sound-picked : (most : Option ℕ) (count later : ℕ) (before other after : Option (Shape V))
        → IsSound most count before → count ≤ later → IsTreeIn other
        → IsPickedIn pick before other after → IsSound most later after
    sound-picked most count later before other None sound le also left = tt
    sound-picked most count later before other (Some root) sound le also left =
        let same = map-picked pick part cut.answers before other (Some root)
        (tree-in most count before sound) also left in
        let fewer = cut.fewer (map_of before) (map_of other) in
        let all = few most count before sound in (
          left.0,
          (λ q there. admitted most count before sound q
              (cut.kept (found_in before q) (found_in other q) (subst IsSome (left.1 q) there))),
          subst (λ m. finite.len m ≤ later) (sym same) (omega (arith, fewer, all, le)),
        )

  -- as many pairs at most as the list that is filtered
  filtered-few : (p : List ℕ × V → Bool) (part m : Map V) → pairs part ≡ filter p (pairs m)
      → finite.len part ≤ finite.len m
  filtered-few p part m these =
      let kept = finite.len-entries part ∙ ap length these in
      let all = finite.len-entries m in
      let fewer = filter-fewer p (pairs m) in
      omega (arith, kept, all, fewer)

  -- ---- without the other one's keys
  unless-cond : (one other : Option V) → unless one other ≡ cond (is_some other) None one
  unless-cond one None = refl
  unless-cond one (Some other) = refl

  unless-some : (one other : Option V) → IsSome (unless one other) → IsSome one
  unless-some one None some = some
  unless-some one (Some other) some = absurd (false≢true some)

  pub cut-without : IsCut unless without
  cut-without = record {
    answers = λ m other q.
        get-without m other q ∙ sym (unless-cond (finite.get m q) (finite.get other q));
    kept = unless-some;
    fewer = λ m other. filtered-few (λ pair. not (finite.contains_key other pair.0))
        (without m other) m (other_part_has_these_pairs V V m other);
  }

  cond-none : (t : Bool) → ◌≡◌ {A = Option V} (cond t None None) None
  cond-none true = refl
  cond-none false = refl

  -- The empty map has nothing to lose, and takes nothing.
  pub none-without : (other : Map V) → map_of {V = V} None ≡ without (map_of {V = V} None) other
  none-without other =
      same_map (map_of None) (without (map_of None) other) (λ q.
      finite.get-empty byte_order q
      ∙ sym (get-without (map_of None) other q
      ∙ ap (cond (finite.contains_key other q) None) (finite.get-empty byte_order q)
      ∙ cond-none (finite.contains_key other q)))

  pub without-none : (m : Map V) → m ≡ without m (map_of {V = V} None)
  without-none m = sym (no_key_cuts_nothing V V m).0

  -- ---- with the other one's keys alone
  both-cond : (one other : Option V) → both one other ≡ cond (is_some other) one None
  both-cond one None = refl
  both-cond one (Some other) = refl

  both-some : (one other : Option V) → IsSome (both one other) → IsSome one
  both-some one None some = absurd (false≢true some)
  both-some one (Some other) some = some

  pub cut-common : IsCut both common_part
  cut-common = record {
    answers = λ m other q.
        get-common_part m other q ∙ sym (both-cond (finite.get m q) (finite.get other q));
    kept = both-some;
    fewer = λ m other. filtered-few (λ pair. finite.contains_key other pair.0)
        (common_part m other) m (common_part_has_these_pairs V V m other);
  }

  -- The empty map has nothing in common with any.
  pub none-common : (other : Map V)
      → map_of {V = V} None ≡ common_part (map_of {V = V} None) other
  none-common other =
      same_map (map_of None) (common_part (map_of None) other) (λ q.
      finite.get-empty byte_order q
      ∙ sym (get-common_part (map_of None) other q
      ∙ ap (λ x. cond (finite.contains_key other q) x None) (finite.get-empty byte_order q)
      ∙ cond-none (finite.contains_key other q)))

  pub common-none : (m : Map V) → map_of {V = V} None ≡ common_part m (map_of {V = V} None)
  common-none m = sym (no_key_cuts_nothing V V m).1

  -- ---- both together
  either-or : (one other : Option V) → either one other ≡ or_else one other
  either-or None other = refl
  either-or (Some one) other = refl

  either-some : (one other : Option V) → IsSome (either one other) → IsSome one ⊎ IsSome other
  either-some None other some = inr some
  either-some (Some one) other some = inl refl

  pub join-joined : IsJoin either joined
  join-joined = record {
    answers = λ m other q.
        get-joined m other q ∙ sym (either-or (finite.get m q) (finite.get other q));
    kept = either-some;
    fewer = len-joined;
  }

  -- An empty map adds nothing.
  pub none-joined : (other : Map V) → other ≡ joined (map_of {V = V} None) other
  none-joined other = sym (joined_with_itself V other).2

  pub joined-none : (m : Map V) → m ≡ joined m (map_of {V = V} None)
  joined-none m = sym (joined_with_itself V m).1

  -- ---- what one of them has alone
  apart-or : (one other : Option V) → picks.apart one other
      ≡ or_else (cond (is_some other) None one) (cond (is_some one) None other)
  apart-or None None = refl
  apart-or None (Some other) = refl
  apart-or (Some one) None = refl
  apart-or (Some one) (Some other) = refl

  apart-some : (one other : Option V) → IsSome (picks.apart one other)
      → IsSome one ⊎ IsSome other
  apart-some None other some = inr some
  apart-some (Some one) None some = inl refl
  apart-some (Some one) (Some other) some = inl refl

  pub join-apart : IsJoin picks.apart apart
  join-apart = record {
    answers = λ m other q.
        get-apart V m other q ∙ sym (apart-or (finite.get m q) (finite.get other q));
    kept = apart-some;
    fewer = λ m other.
        let both = len-joined (without m other) (without other m) in
        let one = cut-without.fewer m other in
        let two = cut-without.fewer other m in
        omega (arith, both, one, two);
  }

  pub apart-none : (m : Map V) → m ≡ apart m (map_of {V = V} None)
  apart-none m = sym (apart_either_way V m (map_of None)).2

  pub none-apart : (other : Map V) → other ≡ apart (map_of {V = V} None) other
  none-apart other = apart-none other ∙ (apart_either_way V other (map_of None)).0

  -- ---- what is ahead, in the words of maps
  module _ (left right : Shape V) (tree : IsTree left) (also : IsTree right) where
    one_map : Map V
    one_map = map_of (Some left)

    other_map : Map V
    other_map = map_of (Some right)

    has-left : (key : List ℕ) → IsSome (found left key) → finite.contains_key one_map key ≡ true
    unfolding one_map
    has-left key some = ap is_some (get-found (Some left) key tree) ∙ some

    has-right : (key : List ℕ) → IsSome (found right key)
        → finite.contains_key other_map key ≡ true
    unfolding other_map
    has-right key some = ap is_some (get-found (Some right) key also) ∙ some

    both-common : (key : List ℕ) → IsCommonKey left right key
        → finite.contains_key (common_part one_map other_map) key ≡ true
    both-common key common =
        ap is_some (get-common_part one_map other_map key
        ∙ ap (λ t. cond t (finite.get one_map key) None) (has-right key common.1))
        ∙ has-left key common.0

    shared-all : (u : List ℕ) → IsShared left right u
        → set.contains (shared one_map other_map) u ≡ true
    shared-all u is =
        contains-shared one_map other_map u
        ∙ and_from (set.contains (starts one_map) u) (set.contains (starts other_map) u)
        ((starts_begin_keys V one_map u).1
        (is.one, is.begins_one, has-left is.one is.in_left))
        ((starts_begin_keys V other_map u).1
        (is.other, is.begins_other, has-right is.other is.in_right))

    has-either : (key : List ℕ) → EitherHas left right key
        → finite.contains_key (joined one_map other_map) key ≡ true
    has-either key has =
        ap is_some (get-joined one_map other_map key)
        ∙ ⊎_elim
        (λ one. or-left (finite.get one_map key) (finite.get other_map key) (has-left key one))
        (λ other. or-right (finite.get one_map key) (finite.get other_map key)
        (has-right key other)) has
      where
        or-left : (x y : Option V) → is_some x ≡ true → is_some (or_else x y) ≡ true
        or-left None y is = absurd (false≢true is)
        or-left (Some x) None is = refl
        or-left (Some x) (Some y) is = refl

        or-right : (x y : Option V) → is_some y ≡ true → is_some (or_else x y) ≡ true
        or-right x None is = absurd (false≢true is)
        or-right None (Some y) is = refl
        or-right (Some x) (Some y) is = refl

    points-all : (u : List ℕ) → EitherHas left right u ⊎ ArePartedAt left right u
        → set.contains (points (joined one_map other_map)) u ≡ true
    points-all u is =
        (points_are_keys_and_partings V (joined one_map other_map) u).1
        (⊎_elim (λ key. inl (has-either u key))
        (λ parted. inr (
          parted.byte,
          parted.next,
          parted.differ,
          (starts_begin_keys V (joined one_map other_map) (with_byte u parted.byte)).1
              (parted.one, parted.begins_one, has-either parted.one parted.has_one),
          (starts_begin_keys V (joined one_map other_map) (with_byte u parted.next)).1
              (parted.other, parted.begins_other, has-either parted.other parted.has_other),
        )) is)

    places-all : HasAll (places one_map other_map) [] (IsPlace left right)
    places-all u place =
        (places_are_shared_points V one_map other_map u).1
        (shared-all u place.0, points-all u place.1)

    starts-all : HasAll (starts (common_part one_map other_map)) [] (BeginsCommon left right)
    starts-all u is =
        (starts_begin_keys V (common_part one_map other_map) u).1
        (is.key, is.begun, both-common is.key is.common)

    common_keys : List (List ℕ)
    common_keys = map (λ pair. pair.0) (pairs (common_part one_map other_map))

    keys-all : HasAll (set.from_list common_keys) [] (IsCommonKey left right)
    unfolding common_keys
    keys-all u common =
        let value = some-value (finite.get (common_part one_map other_map) u)
        (both-common u common) in
        (in-list common_keys u).1
        (Contains-map (λ pair. pair.0) (pairs (common_part one_map other_map)) (u, value.0)
        ((Contains-pairs (common_part one_map other_map) u value.0).1 value.1))
      where
        some-value : (o : Option V) → is_some o ≡ true → (x : V) × (o ≡ Some x)
        some-value None is = absurd (false≢true is)
        some-value (Some x) is = (x, refl)

    keys-few : set.len (set.from_list {R = byte_order} common_keys)
        ≤ finite.len (common_part one_map other_map)
    unfolding common_keys
    keys-few =
        let most = list-few common_keys in
        let all = finite.len-entries (common_part one_map other_map) in
        let same = length-map (pairs (common_part one_map other_map)) (λ pair. pair.0) in
        omega (arith, most, all, same)

    pub goes-maps : (before after : Counts) → GoesUpTo left right before after
        → CountsUpTo (difference_bound (map_of (Some left)) (map_of (Some right)))
        (cut_makes (map_of (Some left)) (map_of (Some right))) before after
    unfolding one_map other_map
    goes-maps before after goes =
        let few = keys-few in
        counts-most (goes (places one_map other_map) (set.from_list common_keys)
        (starts (common_part one_map other_map)) places-all keys-all starts-all)
        (omega (arith, few)) (omega arith)

    pub meets-maps : (before after : Counts) → MeetsUpTo left right before after
        → CountsUpTo (intersection_bound (map_of (Some left)) (map_of (Some right)))
        (cut_makes (map_of (Some left)) (map_of (Some right))) before after
    unfolding one_map other_map
    meets-maps before after meets =
        meets (places one_map other_map) (starts (common_part one_map other_map)) places-all
        starts-all

    lacks-left : (key : List ℕ) → found left key ≡ None
        → finite.contains_key one_map key ≡ false
    unfolding one_map
    lacks-left key none = ap is_some (get-found (Some left) key tree ∙ none)

    adds : (key : List ℕ) → IsChange true left right key
        → finite.contains_key (without other_map one_map) key ≡ true
    adds key change =
        ap is_some (get-without other_map one_map key
        ∙ ap (λ t. cond t None (finite.get other_map key)) (lacks-left key (change.1 refl)))
        ∙ has-right key change.0

    -- A changed place begins a key that the right one adds.
    added-all : HasAll (set.intersection (places one_map other_map)
        (starts (without other_map one_map))) [] (IsChangedPlace true left right)
    added-all u place =
        set.contains-intersection nat_list_cmp_total (places one_map other_map)
        (starts (without other_map one_map)) u
        ∙ and_from (set.contains (places one_map other_map) u)
        (set.contains (starts (without other_map one_map)) u) (places-all u place.0)
        ((starts_begin_keys V (without other_map one_map) u).1
        (place.1.key, place.1.begun, adds place.1.key place.1.change))

    pub union-maps : (before after : Counts) → JoinsUpTo true left right before after
        → CountsUpTo (union_bound (map_of (Some left)) (map_of (Some right)))
        (union_makes (map_of (Some left)) (map_of (Some right))) before after
    unfolding one_map other_map
    union-maps before after joins =
        let none = set.len-empty byte_order in
        counts-most (joins (places one_map other_map) set.empty
        (set.intersection (places one_map other_map) (starts (without other_map one_map)))
        places-all (λ key gone. absurd (false≢true (sym gone.0))) added-all)
        (omega (arith, none)) (omega arith)

    pub apart-maps : (before after : Counts) → JoinsUpTo false left right before after
        → CountsUpTo (difference_bound (map_of (Some left)) (map_of (Some right)))
        (apart_makes (map_of (Some left)) (map_of (Some right))) before after
    unfolding one_map other_map
    apart-maps before after joins =
        let few = keys-few in
        counts-most (joins (places one_map other_map) (set.from_list common_keys)
        (places one_map other_map) places-all (λ key gone. keys-all key gone.1)
        (λ u place. places-all u place.0))
        (omega (arith, few)) (omega arith)
