-- What a change below the root makes of the map, and that all stays in order.
use Rattle.std.proofs.Common.{◌≡◌, ℕ, suc, ◌+◌, ◌<◌, ◌≤◌, List, [], ◌∷◌, slice_index_or, Fits, w8, Option, Some, None, IsSome, is_some, length, cond, Bool, true, false, refl, arith, sym, ap, subst, ◌∙◌}
use Rattle.std.specs.Prelude.{IsTrue, All}
use Rattle.std.specs.Option.{option_map}
use Rattle.std.specs.Ordering.{eq_by_cmp}
use Rattle.std.specs.Str.{bytes_eq}
use Rattle.std.proofs.lemmas.Cmp.{nat_list_cmp_total}
use Rattle.std.proofs.lemmas.Map.Text.{is_eq-slice_cmp}
use Rattle.std.proofs.lemmas.Slice.Eq.{bytes_eq-Decides}
use Rattle.std.proofs.lemmas.Bool.{false≢true, true≢false}
use Rattle.std.specs.FinMap as finite
use Rattle.rart_below.specs.Bytes.{byte_order}
use Rattle.rart_versioned.specs.Keys.{IsKeyLength, IsKey}
use Rattle.rart_node.specs.Shape.{Shape, node_of}
use Rattle.rart_versioned.specs.Roots.{IsPutBelow}
use Rattle.rart_node.specs.Trees.{found, IsTree, IsPut}
use Rattle.rart_versioned.specs.Roots.{found_in, map_of, IsTreeIn, IsSound}
use Rattle.std.proofs.Math.Facts.{Fits-lt-pow}
use Rattle.std.proofs.lemmas.List.Elements.{All-nil, All-cons}
use Rattle.rart_maps.specs.StartLaws.{HasByteKeys}
use Rattle.rart_maps.specs.Versions.{Version, value_at, has_key, has_no_key}
use Rattle.rart_versioned.proofs.VersionMapLemmas.{get-found}
use Rattle.rart_node.proofs.InsertionLemmas.{found-leaf}

one-more : (t : Bool) (m n : ℕ) → m ≤ n → cond t m (m + 1) ≤ n + 1
one-more true m n le = omega (arith, le)
one-more false m n le = omega (arith, le)

-- what a slice has are bytes
pub all-bytes : (w : List ℕ) → ((i : ℕ) → Fits w8 (slice_index_or w i 0)) → All (λ b. b < 256) w
all-bytes [] fits = All-nil (λ b. b < 256)
all-bytes (b ∷ w) fits =
    All-cons (λ b. b < 256) b w (Fits-lt-pow (fits 0)) (all-bytes w (λ i. fits (suc i)))

pub no-key : (V : Type 0) (number : ℕ)
    → has_no_key (record { content = map_of {V = V} None; number = number }) ≡ true
no-key V number = rw (finite.len-empty byte_order V) refl

module _ {V : Type 0} where
  -- After, the root has the value at the key, and else what was below the root before, if there was
  -- one.
  abbrev pub IsPutIn : List ℕ → V → Option (Shape V) → Shape V → Type 0
  IsPutIn key value before after = IsTree after × IsPutBelow key value before (Some after)

  pub leaf-put : (key : List ℕ) (value : V) → IsPutIn key value None (node_of key (Some value) 0 [])
  leaf-put key value = ((refl, tt, refl), found-leaf key value)

  pub root-put : (key : List ℕ) (value : V) (root after : Shape V) → IsPut key value root after
      → IsPutIn key value (Some root) after
  root-put key value root after puts = (puts.0, puts.1)

  pub tree-in : (most : Option ℕ) (count : ℕ) (o : Option (Shape V)) → IsSound most count o
      → IsTreeIn o
  tree-in most count None sound = tt
  tree-in most count (Some root) sound = sound.0

  pub few : (most : Option ℕ) (count : ℕ) (o : Option (Shape V)) → IsSound most count o
      → finite.len (map_of o) ≤ count
  few most count None sound = rw (finite.len-empty byte_order V) (omega arith)
  few most count (Some root) sound = sound.2

  pub admitted : (most : Option ℕ) (count : ℕ) (o : Option (Shape V)) → IsSound most count o
      → (q : List ℕ) → IsSome (found_in o q) → IsKey most q
  admitted most count None sound q there = absurd (false≢true there)
  admitted most count (Some root) sound q there = sound.1 q there

  -- two maps in which each string has the same value
  pub same-map : (left right : finite.FinMap byte_order V)
      → ((q : List ℕ) → finite.get left q ≡ finite.get right q) → left ≡ right
  same-map left right =
      finite.same_map nat_list_cmp_total
      (finite.slice_cmp-IsAntisymmetric finite.nat_cmp-IsAntisymmetric) left right

  pub map-below : (before after : Option (Shape V)) (key : List ℕ) (value : V) → IsTreeIn before
      → IsTreeIn after → IsPutBelow key value before after
      → map_of after ≡ finite.insert (map_of before) key value
  map-below before after key value tree tree-after puts =
      same-map (map_of after) (finite.insert (map_of before) key value) (λ q.
      get-found after q tree-after ∙ puts q
      ∙ ap (λ t. cond t (Some value) (found_in before q)) (sym (is_eq-slice_cmp q key))
      ∙ ap (cond (eq_by_cmp byte_order q key) (Some value)) (sym (get-found before q tree))
      ∙ sym (finite.get-insert nat_list_cmp_total (map_of before) key value q))

  pub map-put : (o : Option (Shape V)) (after : Shape V) (key : List ℕ) (value : V) → IsTreeIn o
      → IsPutIn key value o after → map_of (Some after) ≡ finite.insert (map_of o) key value
  map-put o after key value tree puts = map-below o (Some after) key value tree puts.0 puts.1

  -- A map that keeps within a count keeps within a greater one.
  pub sound-later : (most : Option ℕ) (count later : ℕ) (o : Option (Shape V))
      → IsSound most count o → count ≤ later → IsSound most later o
  sound-later most count later None sound le = tt
  sound-later most count later (Some root) sound le =
      (sound.0, sound.1, let few = sound.2 in omega (arith, few, le))

  pub sound-put : (most : Option ℕ) (count later : ℕ) (o : Option (Shape V)) (after : Shape V)
      (key : List ℕ) (value : V) → IsSound most count o → count + 1 ≤ later
      → IsKey most key → IsPutIn key value o after
      → IsSound most later (Some after)
  sound-put most count later o after key value sound le fits puts =
      let Keys : Bool → List ℕ → Type 0 =
      λ t q. bytes_eq q key ≡ t → IsSome (cond t (Some value) (found_in o q))
      → IsKey most q in
      let both : (q : List ℕ) (t : Bool) → Keys t q = λ q. elim [
        | true ↦ (λ same there. subst (IsKey most)
            (sym ((bytes_eq-Decides q key).0 same)) fits)
        | false ↦ (λ differs there. admitted most count o sound q there)
      ] in
      let length-now : finite.len (map_of (Some after)) ≤ count + 1 =
      rw (
        map-put o after key value (tree-in most count o sound) puts,
        finite.len-insert nat_list_cmp_total (map_of o) key value,
      )
      (one-more (finite.contains_key (map_of o) key) _ count (few most count o sound)) in (
        puts.0,
        (λ q there. both q (bytes_eq q key) refl (subst IsSome (puts.1 q) there)),
        omega (arith, length-now, le),
      )

  -- A key that is there is set again: no key is added.
  pub sound-again : (most : Option ℕ) (count : ℕ) (root after : Shape V) (key : List ℕ) (value : V)
      → IsSome (found root key) → IsPut key value root after → IsSound most count (Some root)
      → IsSound most count (Some after)
  sound-again most count root after key value there put sound =
      let puts = root-put key value root after put in
      let more =
      sound-put most count (count + 1) (Some root) after key value sound (omega arith)
      (sound.1 key there) puts in
      let has : finite.contains_key (map_of (Some root)) key ≡ true =
      ap is_some (get-found (Some root) key sound.0) ∙ there in (
        more.0,
        more.1,
        rw (
          map-put (Some root) after key value sound.0 puts,
          finite.len-insert nat_list_cmp_total (map_of (Some root)) key value,
          has,
        ) sound.2,
      )

  -- what a version shows, whose root this is
  pub value-in : (most : Option ℕ) (count : ℕ) (o : Option (Shape V)) (number : ℕ) (w : List ℕ)
      → IsSound most count o → value_at (record { content = map_of o; number = number }) w
      ≡ found_in o w
  value-in most count o number w sound = get-found o w (tree-in most count o sound)

  -- ---- in the words of the version that is shown
  module _ (most : Option ℕ) (count : ℕ) (o : Option (Shape V)) (v : Version V)
      (sound : IsSound most count o)
      (shows : record { content = map_of o; number = count } ≡ v) where
    pub few-in : finite.len v.content ≤ count
    few-in = subst (λ (z : Version V). finite.len z.content ≤ count) shows (few most count o sound)

    key-in : (key : List ℕ) → IsTrue (has_key v key) → IsKey most key
    key-in key there =
        admitted most count o sound key
        (subst IsSome (get-found o key (tree-in most count o sound))
        (subst (λ (z : Version V). IsTrue (has_key z key)) (sym shows) there))

    pub lengths-in : (key : List ℕ) → IsTrue (has_key v key) → IsKeyLength most (length key)
    lengths-in key there = (key-in key there).0

    pub bytes-in : HasByteKeys v.content
    bytes-in key there = (key-in key there).1

  -- Where a version has a key there is a root.
  pub has-root : {A : Type 0} (shape : A → Shape V) (root : Option A) (number : ℕ) (v : Version V)
      → record { content = map_of (option_map shape root); number = number } ≡ v
      → has_no_key v ≡ false → IsSome root
  has-root shape None number v shows keyed =
      absurd (true≢false (sym (no-key V number) ∙ ap has_no_key shows ∙ keyed))
  has-root shape (Some root) number v shows keyed = refl
