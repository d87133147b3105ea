-- What a visitor over a tree goes over and enters, in the words of the version that is shown.
use Rattle.std.proofs.Common.{◌≡◌, ◌+◌, ◌*◌, ◌≤◌, ◌++◌, ◌&&◌, ⊎_elim, inl, inr, ℕ, Bool, true, false, cond, List, [], ◌∷◌, Option, None, Some, Result, Ok, Err, OnOk, OnErr, length, filter, map, arith, sym, ap, subst, ◌∙◌}
use Rattle.std.specs.Prelude.{count_by}
use Rattle.std.specs.Fn.{Mut}
use Rattle.std.specs.Option.{option_map}
use Rattle.std.specs.Ordering.{is_lt}
use Rattle.std.specs.declared.ops.Bound.{Bound}
use Rattle.std.specs.declared.ops.Bound.TheVariants.{Included}
use Rattle.std.proofs.lemmas.Bool.{true≢false}
use Rattle.std.proofs.lemmas.List.Sums.{length-filter, sum_by-cons}
use Rattle.std.specs.FinMap as finite
use Rattle.std.specs.FinSet as set
use Rattle.rart_below.specs.Bytes.{begins, byte_order}
use Rattle.rart_below.specs.declared.slot.Refusal.{Refusal}
use Rattle.rart_below.specs.declared.slot.Refusal.TheVariants.{Callback, Memory}
use Rattle.rart_below.specs.declared.visit.VisitControl.{VisitControl}
use Rattle.rart_below.specs.declared.visit.VisitControl.TheVariants.{Stop}
use Rattle.rart_maps.specs.Bounds.{bound_string, bound_length, reach_bound, reach_by_pairs, node_count}
use Rattle.rart_maps.specs.Pairs.{prefix_matches, within}
use Rattle.rart_maps.specs.Points.{partings}
use Rattle.rart_maps.specs.Versions.{Version, has_no_key}
use Rattle.rart_maps.proofs.RangeLemmas.{is_below, filter-both}
use Rattle.rart_node.specs.Counts.{Counts, CountsUpTo}
use Rattle.rart_node.specs.Shape.{Shape, node}
use Rattle.rart_node.specs.Trees.{found, pairs_of}
use Rattle.rart_walks.specs.Ends.{Ends, EndsWithin}
use Rattle.rart_walks.specs.Walks.{IsEndOf, paths_of, nodes_of}
use Rattle.rart_walks.proofs.CursorLemmas.{nodes-paths}
use Rattle.rart_versioned.specs.Roots.{map_of, IsSound}
use Rattle.rart_versioned.proofs.VersionIterationLemmas.{no-pairs, root-pairs, root-sound}
use Rattle.rart_versioned.proofs.VersionMapLemmas.{get-found}
use Rattle.rart_versioned.proofs.NodeBoundLemmas.{reach-walk}
use Rattle.rart_versioned.proofs.NodePointLemmas.{nodes-points, nodes-under, nodes-under-to, nodes-within}
use Rattle.rart_versioned.proofs.SoundLemmas.{no-key}

-- What follows where a call succeeds.
pub OnOk-weaker : {A E P Q : Type 0} (result : Result A E) → (P → Q) → OnOk result P → OnOk result Q
OnOk-weaker (Ok value) follows holds = follows holds
OnOk-weaker (Err error) follows holds = tt

-- What holds anyway holds where a call is refused.
pub OnErr-always : {A E P : Type 0} (result : Result A E) → P → OnErr result P
OnErr-always (Ok value) holds = tt
OnErr-always (Err error) holds = holds

-- How a visit ends is known in other counts too, where these follow.
module _ {F A M E : Type 0} (g : Mut F A (Result VisitControl E)) (Shows : A → M → Type 0)
    {Through Reaches : Type 0} {Costs Bounds : List M → M → Type 0} (members : List M)
    (through : Through → Reaches) (each : (front rest : List M) (last : M)
    → members ≡ front ++ last ∷ rest → Costs front last → Bounds front last) where
  within-weaker : (f f' : F) (answer : Result VisitControl E)
      → EndsWithin g Shows Costs f members answer f' → EndsWithin g Shows Bounds f members answer f'
  within-weaker f f' answer ends =
      (ends.0, ends.1, ends.2, each ends.0 ends.2.rest ends.1 ends.2.is ends.3)

  pub ends-weaker : (f f' : F) (result : Result (Unit {0}) (Refusal E))
      → Ends g Shows Through Costs result f members f'
      → Ends g Shows Reaches Bounds result f members f'
  ends-weaker f f' (Ok done) ends =
      ⊎_elim
      (λ all. inl (all.0, through all.1))
      (λ some. inr (within-weaker f f' (Ok Stop) some))
      ends
  ends-weaker f f' (Err (Callback e)) ends = within-weaker f f' (Err e) ends
  ends-weaker f f' (Err (Memory refused)) ends = tt

-- What a walk has left to enter, and what was entered for it, are all nodes: so many are entered in
-- all.
pub counts-through : {few left all : ℕ} {start between now : Counts}
    → CountsUpTo few 0 start between → between.entered + left ≡ start.entered + all → CountsUpTo
    left 0 between now
    → CountsUpTo all 0 start now
counts-through way nodes visit =
    let way_grows = way.entered_grows in
    let way_made = way.made_grows in
    let way_none = way.made_at_most in
    let grows = visit.entered_grows in
    let most = visit.entered_at_most in
    let made = visit.made_grows in
    let none = visit.made_at_most in
    record {
      entered_grows = omega (arith, way_grows, grows);
      entered_at_most = omega (arith, nodes, most);
      made_grows = omega (arith, way_made, made);
      made_at_most = omega (arith, way_none, none);
    }

-- A tree has a node.
pub some-node : {V : Type 0} (s : Shape V) → 1 ≤ nodes_of s
some-node (node prefix value width forest) = omega arith

-- What passes a test at the end of a list is no more than what does in the list.
end-counts : {A : Type 0} (test : A → Bool) {end whole : List A} → IsEndOf end whole →
    count_by test end ≤ count_by test whole
end-counts test {end} either =
    ⊎_elim
    (λ all. let same = ap (count_by test) all in omega (arith, same))
    (λ behind.
    let more = ap (count_by test) behind.1
    ∙ sum_by-cons (λ x. cond (test x) 1 0) behind.0 end in
    omega (arith, more))
    either

-- ---- of a tree with this root, or the lack of one
module _ {A V : Type 0} (shape : A → Shape V) (most : Option ℕ) (count : ℕ) (inside : Option A)
    (v : Version V) (sound : IsSound most count (option_map shape inside))
    (shows : record { content = map_of (option_map shape inside); number = count } ≡ v) where
  pub none-keyed : inside ≡ None → has_no_key v ≡ false → ⊥
  none-keyed is keyed =
      let none : has_no_key v ≡ true = sym (ap has_no_key shows)
      ∙ ap
      (λ root. has_no_key (record { content = map_of (option_map shape root); number = count }))
      is
      ∙ no-key V count in
      true≢false (sym none ∙ keyed)

  pub none-prefix_matches : (w : List ℕ) → inside ≡ None → prefix_matches v.content w ≡ []
  none-prefix_matches w is =
      ap (filter (λ (pair : List ℕ × V). begins pair.0 w))
      (no-pairs shape most count inside v sound shows is)

  pub none-walk : inside ≡ None → node_count v.content ≡ 0
  none-walk is =
      let none = no-pairs shape most count inside v sound shows is in
      ap (λ list. set.len (set.from_list {R = byte_order} (map (λ (pair : List ℕ × V). pair.0) list
      ++ partings list))) none ∙ set.len-empty byte_order

  module _ (root : A) (is : inside ≡ Some root) where
    pub root-prefix_matches : (w probe : List ℕ) → probe ≡ w →
        prefix_matches v.content w ≡ filter (λ pair. begins pair.0 probe) (pairs_of (shape root))
    root-prefix_matches w probe same i =
        filter (λ pair. begins pair.0 (sym same i))
        (root-pairs shape most count inside v sound shows root is i)

    -- A walk under p enters no more nodes than it may.
    pub root-reach : (p : List ℕ) (nodes : ℕ) →
        nodes ≤ count_by (begins p) (paths_of (shape root)) →
        length p + 1 + nodes ≤ reach_bound v.content p
    root-reach p nodes most_left =
        let tree = (root-sound shape most count inside v sound shows root is).0 in
        let same = ap (λ root. map_of (option_map shape root)) (sym is)
        ∙ ap (λ (z : Version V). z.content) shows in
        subst (λ m. length p + 1 + nodes ≤ reach_bound m p) same
        (reach-walk (shape root) tree p nodes most_left)

    content-is : map_of (Some (shape root)) ≡ v.content
    content-is = ap (λ root. map_of (option_map shape root)) (sym is)
        ∙ ap (λ (z : Version V). z.content) shows

    pub content-found : (q : List ℕ) → finite.get v.content q ≡ found (shape root) q
    content-found q =
        ap (λ m. finite.get m q) (sym content-is)
        ∙ get-found (Some (shape root)) q
        (root-sound shape most count inside v sound shows root is).0

    -- Nor more than one for each byte of p, one, and two for each key that p begins.
    pub root-reach_by_pairs : (p : List ℕ) (nodes : ℕ) →
        nodes ≤ count_by (begins p) (paths_of (shape root)) →
        length p + 1 + nodes ≤ reach_by_pairs v.content p
    root-reach_by_pairs p nodes most_left =
        let tree = (root-sound shape most count inside v sound shows root is).0 in
        let under = nodes-under v.content (shape root) tree content-found p in
        omega (arith, most_left, under)

    -- A walk over all enters one for each point.
    pub root-walk : nodes_of (shape root) ≡ node_count v.content
    root-walk =
        let tree = (root-sound shape most count inside v sound shows root is).0 in
        sym (nodes-paths (shape root))
        ∙ sym (nodes-points v.content (shape root) tree content-found)

    -- Of the nodes behind a lower bound no more meet an upper one than it may enter there.
    pub root-range : (low high : Bound (List ℕ)) (paths : List (List ℕ)) →
        IsEndOf paths (filter (λ path. is_lt (byte_order (bound_string low) path))
        (paths_of (shape root))) →
        count_by (is_below high) paths
        ≤ bound_length high + 2 * length (within v.content low high)
    root-range low high paths end =
        let tree = (root-sound shape most count inside v sound shows root is).0 in
        let behind = λ (path : List ℕ). is_lt (byte_order (bound_string low) path) in
        let all = paths_of (shape root) in
        let few = nodes-within v.content (shape root) tree content-found low high in
        let fewer = end-counts (is_below high) end in
        let both = sym (length-filter (is_below high) (filter behind all))
        ∙ ap length (sym (filter-both behind (is_below high) all))
        ∙ length-filter (λ path. behind path && is_below high path) all in
        omega (arith, few, fewer, both)

    -- Of the nodes under p no more meet an upper bound than do so between the two, and one.
    pub root-under : (p : List ℕ) (high : Bound (List ℕ)) (paths : List (List ℕ)) →
        IsEndOf paths (filter (begins p) (paths_of (shape root))) →
        count_by (is_below high) paths
        ≤ bound_length high + 1 + 2 * length (within v.content (Included p) high)
    root-under p high paths end =
        let tree = (root-sound shape most count inside v sound shows root is).0 in
        let all = paths_of (shape root) in
        let few = nodes-under-to v.content (shape root) tree content-found p high in
        let fewer = end-counts (is_below high) end in
        let both = sym (length-filter (is_below high) (filter (begins p) all))
        ∙ ap length (sym (filter-both (begins p) (is_below high) all))
        ∙ length-filter (λ path. begins p path && is_below high path) all in
        omega (arith, few, fewer, both)
