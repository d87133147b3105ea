-- The way that a key takes down a tree: its steps, and the tree with another node at its end.
use Rattle.std.proofs.Common.{inl, inr, ◌≡◌, ℕ, zero, suc, ◌+◌, ◌<◌, ◌≤◌, List, [], ◌∷◌, ◌++◌, Option, Some, None, IsSome, slice_get, length, drop, length-drop, refl, arith, sym, ap, subst, ◌∙◌}
use Rattle.std.specs.Prelude.{slice_index_or}
use Rattle.std.specs.Option.{option_and_then, option_map}
use Rattle.std.proofs.Math.Seq.{drop-cons}
use Rattle.std.proofs.lemmas.List.{drop-drop}
use Rattle.std.proofs.lemmas.Bool.{false≢true, cases_lt}
use Rattle.std.proofs.lemmas.Option.{same_Some, none-some}
use Rattle.rart_below.specs.Bytes.{common_length}
use Rattle.rart_below.specs.Children.{child_at}
use Rattle.rart_node.specs.Shape.{Shape, Forest, node, prefix_of, value_of, children_of, entries_of, with_replaced, with_value}
use Rattle.rart_ways.specs.Grafts.{graft, graft_at}
use Rattle.rart_ways.specs.Paths.{first_byte, child_along, step, path_end, Arrives}
use Rattle.rart_ways.proofs.LookupPathLemmas.{path_end-add}
use Rattle.rart_node.specs.Trees.{strip_prefix, found, IsTree, IsPut}
use Rattle.rart_node.proofs.PrefixRestLemmas.{strip_prefix-short, strip_prefix-whole, strip_prefix-is, first-parts, common-within, begins-long, begins-first}
use Rattle.rart_node.proofs.FindLemmas.{found-child, branch, ordered}
use Rattle.rart_node.proofs.InsertionLemmas.{put-below, put-end, replaced-same}
use Rattle.rart_node.proofs.PrefixRestLemmas.{split-whole}

-- something that is there
pub IsSome-Some : {A : Type 0} (o : Option A) → IsSome o → (a : A) × (o ≡ Some a)
IsSome-Some None there = absurd (false≢true there)
IsSome-Some (Some a) there = (a, refl)

module _ {V : Type 0} where
  -- what a step down is, read off the key's match with the node's prefix
  pub step-short : (s : Shape V) (key : List ℕ)
      → common_length (prefix_of s) key < length (prefix_of s) → step key s ≡ None
  step-short (node prefix value width forest) key short =
      rw (strip_prefix-short prefix key short) refl

  -- a step down goes to a child, under the first byte of what is left
  pub record IsStep (key : List ℕ) (s : Shape V) (below : Shape V × List ℕ) : Type 0 where
    pub whole : length (prefix_of s) ≤ common_length (prefix_of s) key
    pub rest : below.1 ≡ drop (common_length (prefix_of s) key) key
    pub next : slice_get below.1 0 ≡ Some (first_byte below.1)
    pub child : child_at (first_byte below.1) (children_of s) ≡ Some below.0

  child-of : (forest : Forest V) (rest : List ℕ) (below : Shape V × List ℕ)
      → child_along forest rest ≡ Some below → (below.1 ≡ rest)
      × (slice_get rest 0 ≡ Some (first_byte rest))
      × (child_at (first_byte rest) (entries_of forest) ≡ Some below.0)
  child-of forest [] below is = absurd (none-some below is)
  child-of forest (byte ∷ rest) below is =
      let P : Option (Shape V) → Type 0 =
      λ o. option_map (λ child. (child, byte ∷ rest)) o ≡ Some below → (below.1 ≡ byte ∷ rest)
      × (Some byte ≡ Some byte) × (o ≡ Some below.0) in
      let both : (o : Option (Shape V)) → P o = elim [
        | None ↦ (λ e. absurd (none-some below e))
        | Some child ↦ (λ e. let same = same_Some (child, byte ∷ rest) below e in
            (ap (λ z. z.1) (sym same), refl, ap (λ z. Some z.0) same))
      ] in
      both (child_at byte (entries_of forest)) is

  pub is-step : (s : Shape V) (key : List ℕ) (below : Shape V × List ℕ) → step key s ≡ Some below
      → IsStep key s below
  is-step (node prefix value width forest) key below is =
      elim (cases_lt (common_length prefix key) (length prefix))
      as (λ _. IsStep key (node prefix value width forest) below) [
        | inl short ↦ absurd (none-some below
            (sym (step-short (node prefix value width forest) key short) ∙ is))
        | inr whole ↦
            let goes =
            child-of forest (drop (common_length prefix key) key) below
            (subst (λ o. option_and_then (child_along forest) o ≡ Some below)
            (strip_prefix-whole prefix key whole) is) in
            record {
              whole = whole;
              rest = goes.0;
              next = subst (λ z. slice_get z 0 ≡ Some (first_byte z)) (sym goes.0) goes.1;
              child =
                  subst (λ z. child_at (first_byte z) (entries_of forest) ≡ Some below.0)
                  (sym goes.0) goes.2;
            }
      ]

  pub found-step : (s : Shape V) (key : List ℕ) (below : Shape V × List ℕ) → step key s ≡ Some below
      → found s key ≡ found below.0 below.1
  found-step s key below is =
      let goes = is-step s key below is in
      let parts = first-parts below.1 (first_byte below.1) goes.next in
      found-child s key (first_byte below.1) parts.0 goes.whole (sym goes.rest ∙ parts.1)
      ∙ ap (option_and_then (λ child. found child (first_byte below.1 ∷ parts.0))) goes.child
      ∙ ap (found below.0) (sym parts.1)

  -- ---- some steps
  pub graft-add : (a b : ℕ) (new : Shape V) (key : List ℕ) (s : Shape V) (end : Shape V × List ℕ)
      → path_end a key s ≡ Some end → graft (a + b) new key s
      ≡ graft a (graft b new end.1 end.0) key s
  graft-add zero b new key s end is =
      let e : zero + b ≡ b = omega arith in
      let same = same_Some (s, key) end is in
      rw e (ap (λ z. graft b new z.1 z.0) same)
  graft-add (suc a) b new key s end is =
      let e : suc a + b ≡ suc (a + b) = omega arith in
      let P : Option (Shape V × List ℕ) → Type 0 =
      λ o. option_and_then (λ below. path_end a below.1 below.0) o ≡ Some end
      → graft_at (graft (a + b) new) s o ≡ graft_at (graft a (graft b new end.1 end.0)) s o in
      let both : (o : Option (Shape V × List ℕ)) → P o = elim [
        | None ↦ (λ none. refl)
        | Some below ↦ (λ there. ap (λ z. with_replaced (first_byte below.1) z s)
            (graft-add a b new below.1 below.0 end there))
      ] in
      rw e (both (step key s) is)

  pub tree-along : (a : ℕ) (key : List ℕ) (s : Shape V) (end : Shape V × List ℕ) → IsTree s
      → path_end a key s ≡ Some end → IsTree end.0
  tree-along zero key s end tree is = subst (λ z. IsTree z.0) (same_Some (s, key) end is) tree
  tree-along (suc a) key s end tree is =
      let P : Option (Shape V × List ℕ) → Type 0 =
      λ o. step key s ≡ o → option_and_then (λ below. path_end a below.1 below.0) o ≡ Some end
      → IsTree end.0 in
      let both : (o : Option (Shape V × List ℕ)) → P o = elim [
        | None ↦ (λ goes none. absurd (none-some end none))
        | Some below ↦ (λ goes there. tree-along a below.1 below.0 end
            (branch s (first_byte below.1) below.0 (ordered s tree)
            (is-step s key below goes).child).tree there)
      ] in
      both (step key s) refl is

  pub found-along : (a : ℕ) (key : List ℕ) (s : Shape V) (end : Shape V × List ℕ)
      → path_end a key s ≡ Some end → found s key ≡ found end.0 end.1
  found-along zero key s end is = ap (λ z. found z.0 z.1) (same_Some (s, key) end is)
  found-along (suc a) key s end is =
      let P : Option (Shape V × List ℕ) → Type 0 =
      λ o. step key s ≡ o → option_and_then (λ below. path_end a below.1 below.0) o ≡ Some end
      → found s key ≡ found end.0 end.1 in
      let both : (o : Option (Shape V × List ℕ)) → P o = elim [
        | None ↦ (λ goes none. absurd (none-some end none))
        | Some below ↦ (λ goes there. found-step s key below goes
            ∙ found-along a below.1 below.0 end there)
      ] in
      both (step key s) refl is

  -- what is put below the end of the way is put into the tree
  pub put-along : (a : ℕ) (key : List ℕ) (s : Shape V) (end : Shape V × List ℕ) (after : Shape V)
      (value : V) → IsTree s → path_end a key s ≡ Some end → IsPut end.1 value end.0 after
      → IsPut key value s (graft a after key s)
  put-along zero key s end after value tree is puts =
      subst (λ z. IsPut z.1 value z.0 after) (sym (same_Some (s, key) end is)) puts
  put-along (suc a) key s end after value tree is puts =
      let P : Option (Shape V × List ℕ) → Type 0 =
      λ o. step key s ≡ o → option_and_then (λ below. path_end a below.1 below.0) o ≡ Some end
      → IsPut key value s (graft_at (graft a after) s o) in
      let both : (o : Option (Shape V × List ℕ)) → P o = elim [
        | None ↦ (λ goes none. absurd (none-some end none))
        | Some below ↦ (λ goes there.
            let down = is-step s key below goes in
            let known = branch s (first_byte below.1) below.0 (ordered s tree) down.child in
            put-below s below.0 (graft a after below.1 below.0) key below.1
            (first_byte below.1) value tree
            (split-whole (prefix_of s) key down.whole
            ∙ ap (λ rest. prefix_of s ++ rest) (sym down.rest)) down.next down.child
            (put-along a below.1 below.0 end after value known.tree there puts))
      ] in
      both (step key s) refl is

  -- ---- the next step of a key of which `passed` bytes stand above the node
  module _ (s : Shape V) (w : List ℕ) (passed : ℕ) (within : passed ≤ length w)
      (there : IsSome (step (drop passed w) s)) where
    abbrev below : Shape V × List ℕ
    below = (IsSome-Some (step (drop passed w) s) there).0

    goes : IsStep (drop passed w) s below
    goes = is-step s (drop passed w) below (IsSome-Some (step (drop passed w) s) there).1

    matched : common_length (prefix_of s) (drop passed w) ≡ length (prefix_of s)
    matched =
        let most = (common-within (prefix_of s) (drop passed w)).0 in
        let whole = goes.whole in
        omega (arith, most, whole)

    -- The key is longer than what stands above the node and the node's prefix.
    pub step-long : passed + length (prefix_of s) < length w
    step-long =
        let some =
        begins-long (first_byte below.1) below.1
        (begins-first (first_byte below.1) below.1 goes.next) in
        let left : length below.1 ≡ length
        (drop (common_length (prefix_of s) (drop passed w)) (drop passed w)) =
        ap length goes.rest in
        let a = length-drop (common_length (prefix_of s) (drop passed w)) (drop passed w) in
        let b = length-drop passed w in
        omega (arith, some, left, a, b, matched, within)

    rest-is : (end : ℕ) → end ≡ passed + length (prefix_of s) → drop end w ≡ below.1
    rest-is end is =
        ap (λ n. drop n w) (is ∙ ap (λ n. passed + n) (sym matched))
        ∙ sym (drop-drop (common_length (prefix_of s) (drop passed w)) passed w) ∙ sym goes.rest

    byte-is : (end byte : ℕ) → end ≡ passed + length (prefix_of s) → byte ≡ slice_index_or w end 0
        → first_byte below.1 ≡ byte
    byte-is end byte is reads =
        let lt : end < length w = let long = step-long in omega (arith, long, is) in
        let next : slice_get (drop end w) 0 ≡ Some byte =
        ap (λ z. slice_get z 0) (drop-cons w end 0 lt) ∙ ap Some (sym reads) in
        same_Some _ byte (sym goes.next ∙ ap (λ z. slice_get z 0) (sym (rest-is end is)) ∙ next)

    -- It goes on at the child under the byte behind these.
    pub step-next : (end byte : ℕ) → end ≡ passed + length (prefix_of s)
        → byte ≡ slice_index_or w end 0
        → step (drop passed w) s ≡ option_map (λ child. (child, drop end w))
        (child_at byte (children_of s))
    step-next end byte is reads =
        (IsSome-Some (step (drop passed w) s) there).1
        ∙ ap (λ z. Some (below.0, z)) (sym (rest-is end is))
        ∙ ap (option_map (λ child. (child, drop end w)))
        (sym goes.child ∙ ap (λ z. child_at z (children_of s)) (byte-is end byte is reads))

    pub step-first : (end byte : ℕ) → end ≡ passed + length (prefix_of s)
        → byte ≡ slice_index_or w end 0 → first_byte (drop end w) ≡ byte
    step-first end byte is reads = ap first_byte (rest-is end is) ∙ byte-is end byte is reads

  -- ---- a way in two parts
  pub front-there : (a b steps : ℕ) (key : List ℕ) (s : Shape V) → steps ≡ a + b
      → IsSome (path_end steps key s) → IsSome (path_end a key s)
  front-there a b steps key s is there =
      let P : Option (Shape V × List ℕ) → Type 0 =
      λ o. IsSome (option_and_then (λ end. path_end b end.1 end.0) o) → IsSome o in
      let both : (o : Option (Shape V × List ℕ)) → P o =
      elim [ None ↦ (λ none. absurd (false≢true none)) | Some end ↦ (λ some. refl) ] in
      both (path_end a key s) (subst IsSome
      (ap (λ n. path_end n key s) is ∙ path_end-add a b key s) there)

  pub step-there : (b : ℕ) (key : List ℕ) (s : Shape V) → IsSome (path_end (suc b) key s)
      → IsSome (step key s)
  step-there b key s there =
      let P : Option (Shape V × List ℕ) → Type 0 =
      λ o. IsSome (option_and_then (λ below. path_end b below.1 below.0) o) → IsSome o in
      let both : (o : Option (Shape V × List ℕ)) → P o =
      elim [ None ↦ (λ none. absurd (false≢true none)) | Some child ↦ (λ some. refl) ] in
      both (step key s) there

  pub below-is : (b : ℕ) (key : List ℕ) (s : Shape V) (below : Shape V × List ℕ)
      → step key s ≡ Some below → path_end (suc b) key s ≡ path_end b below.1 below.0
  below-is b key s child goes = ap (option_and_then (λ z. path_end b z.1 z.0)) goes

  pub graft-below : (b : ℕ) (new : Shape V) (key : List ℕ) (s : Shape V) (below : Shape V × List ℕ)
      → step key s ≡ Some below → graft (suc b) new key s
      ≡ with_replaced (first_byte below.1) (graft b new below.1 below.0) s
  graft-below b new key s child goes = ap (graft_at (graft b new) s) goes

  -- the node at the end put back as it was
  pub graft-same : (a : ℕ) (key : List ℕ) (s : Shape V) (end : Shape V × List ℕ) → IsTree s
      → path_end a key s ≡ Some end → graft a end.0 key s ≡ s
  graft-same zero key s end tree is = ap (λ z. z.0) (sym (same_Some (s, key) end is))
  graft-same (suc a) key s end tree is =
      let P : Option (Shape V × List ℕ) → Type 0 =
      λ o. step key s ≡ o → option_and_then (λ below. path_end a below.1 below.0) o ≡ Some end
      → graft_at (graft a end.0) s o ≡ s in
      let both : (o : Option (Shape V × List ℕ)) → P o = elim [
        | None ↦ (λ goes none. refl)
        | Some below ↦ (λ goes there.
            let down = is-step s key below goes in
            let known = branch s (first_byte below.1) below.0 (ordered s tree) down.child in
            ap (λ z. with_replaced (first_byte below.1) z s)
            (graft-same a below.1 below.0 end known.tree there)
            ∙ replaced-same s (first_byte below.1) below.0 (ordered s tree) down.child)
      ] in
      both (step key s) refl is

  -- a key that ends at a node
  pub found-ended : (s : Shape V) (key : List ℕ) → strip_prefix (prefix_of s) key ≡ Some []
      → found s key ≡ value_of s
  found-ended (node prefix value width forest) key ended = rw ended refl

  pub put-ended : (s : Shape V) (key : List ℕ) (value : V) → IsTree s
      → strip_prefix (prefix_of s) key ≡ Some [] → IsPut key value s (with_value (Some value) s)
  put-ended s key value tree ended =
      put-end s key [] value (ordered s tree) (strip_prefix-is (prefix_of s) key [] ended) refl

  pub there-arrived : (steps : ℕ) (key : List ℕ) (s : Shape V) → Arrives steps key s
      → IsSome (found s key)
  there-arrived steps key s arrives =
      subst IsSome (sym (found-along steps key s arrives.0 arrives.1
      ∙ found-ended arrives.0.0 arrives.0.1 arrives.2)) arrives.3
