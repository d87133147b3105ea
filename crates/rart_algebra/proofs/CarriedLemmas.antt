-- What is ahead of two trees further down is ahead of them further up: behind bytes of a prefix, or
-- behind the byte of a child.
use Rattle.std.proofs.Common.{◌≡◌, ◌≤◌, inl, inr, ⊎_elim, ℕ, Bool, true, false, cond, List, [], ◌∷◌, ◌++◌, Some, None, IsSome, refl, sym, ap, subst, ◌∙◌}
use Rattle.std.specs.Prelude.{◌==◌}
use Rattle.std.specs.FinSet as set
use Rattle.std.specs.Cmp.{unsigned_tied}
use Rattle.std.proofs.lemmas.Bool.{eqb-true}
use Rattle.std.proofs.lemmas.List.{append-nil, append_assoc}
use Rattle.std.proofs.lemmas.Option.{none-some, same_Some}
use Rattle.rart_below.specs.Bytes.{begins}
use Rattle.rart_below.specs.Children.{child_at}
use Rattle.rart_maps.specs.Pairs.{Strings}
use Rattle.rart_maps.specs.StartLaws.{how_many_under, with_byte}
use Rattle.rart_maps.proofs.StartLemmas.{begins-behind}
use Rattle.rart_node.specs.Shape.{Shape, node, prefix_of, children_of, with_prefix}
use Rattle.rart_node.specs.Trees.{BeginsWith, found, IsTree, IsOrdered}
use Rattle.rart_node.proofs.FindLemmas.{branch}
use Rattle.rart_node.proofs.PrefixRestLemmas.{begins-common}
use Rattle.rart_lockstep.specs.Steps.{common_start}
use Rattle.rart_lockstep.specs.TreeCursors.{next_children}
use Rattle.rart_lockstep.proofs.EnterLemmas.{ahead-first}
use Rattle.rart_algebra.specs.Ahead.{BeginsCommon, EitherHas, HasAll, HaveCommon, IsChange, IsChangedPlace, IsCommonKey, IsGone, IsPlace, ahead_of_both}
use Rattle.rart_algebra.proofs.ReachLemmas.{look, found-next, found-with, child-first}

module _ {V : Type 0} where
  -- ---- what a byte leads to
  pub ended-next : (s : Shape V) → next_children (with_prefix [] s) ≡ children_of s
  ended-next (node prefix value width forest) = refl

  pub next-begins : (t other : Shape V) (byte : ℕ) → IsTree t
      → child_at byte (next_children t) ≡ Some other
      → IsTree other × BeginsWith byte (prefix_of other)
  next-begins (node [] value width forest) other byte tree here =
      let known = branch (node [] value width forest) byte other (tree.0, tree.1) here in
      (known.tree, known.begins)
  next-begins (node (b ∷ prefix) value width forest) other byte tree here =
      let t : Shape V = node (b ∷ prefix) value width forest in
      let P : Bool → Type 0 = λ same. (byte == b) ≡ same → cond same (Some t) None ≡ Some other
      → IsTree other × BeginsWith byte (prefix_of other) in
      let both : (same : Bool) → P same = elim [
        | true ↦ (λ same is. subst (λ z. IsTree z × BeginsWith byte (prefix_of z))
            (same_Some t other is) (tree, sym (eqb-true byte b same)))
        | false ↦ (λ differs is. absurd (none-some other is))
      ] in
      both (byte == b) refl (rw (unsigned_tied byte b) at here)

  -- ---- from two trees to two others that have, behind a path, what these have
  module _ (left right s t : Shape V) (path : List ℕ)
      (in_left : (q : List ℕ) → IsSome (found s q) → IsSome (found left (path ++ q)))
      (in_right : (q : List ℕ) → IsSome (found t q) → IsSome (found right (path ++ q))) where
    either-along : (key : List ℕ) → EitherHas s t key → EitherHas left right (path ++ key)
    either-along key has =
        ⊎_elim (λ one. inl (in_left key one)) (λ other. inr (in_right key other)) has

    begun-with : (u : List ℕ) (byte : ℕ) (key : List ℕ) → begins (with_byte u byte) key ≡ true
        → begins (with_byte (path ++ u) byte) (path ++ key) ≡ true
    begun-with u byte key is =
        ap (λ z. begins z (path ++ key)) (append_assoc path u (byte ∷ []))
        ∙ begins-behind path (with_byte u byte) key is

    pub place-along : (u : List ℕ) → IsPlace s t u → IsPlace left right (path ++ u)
    place-along u place =
        let shared = place.0 in (
          record {
            one = path ++ shared.one;
            other = path ++ shared.other;
            in_left = in_left shared.one shared.in_left;
            in_right = in_right shared.other shared.in_right;
            begins_one = begins-behind path u shared.one shared.begins_one;
            begins_other = begins-behind path u shared.other shared.begins_other;
          },
          ⊎_elim (λ key. inl (either-along u key))
              (λ parted. inr (record {
                byte = parted.byte;
                next = parted.next;
                differ = parted.differ;
                one = path ++ parted.one;
                other = path ++ parted.other;
                has_one = either-along parted.one parted.has_one;
                has_other = either-along parted.other parted.has_other;
                begins_one = begun-with u parted.byte parted.one parted.begins_one;
                begins_other = begun-with u parted.next parted.other parted.begins_other;
              })) place.1,
        )

    pub common-along : (key : List ℕ) → IsCommonKey s t key → IsCommonKey left right (path ++ key)
    common-along key common = (in_left key common.0, in_right key common.1)

    begun-along : (u : List ℕ) → BeginsCommon s t u → BeginsCommon left right (path ++ u)
    begun-along u begun = record {
      key = path ++ begun.key;
      common = common-along begun.key begun.common;
      begun = begins-behind path u begun.key begun.begun;
    }

    pub gone-along : (stays : Bool) (key : List ℕ) → IsGone stays s t key
        → IsGone stays left right (path ++ key)
    gone-along stays key gone = (gone.0, common-along key gone.1)

    -- The left one has no more than these.
    module _ (left_is : (q : List ℕ) → IsSome (found t q) → found left (path ++ q) ≡ found s q)
        (stays : Bool) where
      pub changed-along : (key : List ℕ) → IsChange stays s t key
          → IsChange stays left right (path ++ key)
      changed-along key change = (
        in_right key change.0,
        λ is. left_is key change.0 ∙ change.1 is,
      )

      changed_place-along : (u : List ℕ) → IsChangedPlace stays s t u
          → IsChangedPlace stays left right (path ++ u)
      changed_place-along u place = (
        place-along u place.0,
        record {
          key = path ++ place.1.key;
          change = changed-along place.1.key place.1.change;
          begun = begins-behind path u place.1.key place.1.begun;
        },
      )

  -- ---- a kind of strings that are ahead of two trees
  -- Those that are ahead behind the left prefix, or behind a byte, are ahead before it.
  pub record IsCarried (Kind : Shape V → Shape V → List ℕ → Type 0) : Type 0 where
    pub behind : (s right t : Shape V) → ((q : List ℕ) → found right (prefix_of s ++ q) ≡ found t q)
        → (u : List ℕ) → Kind (with_prefix [] s) t u → Kind s right (prefix_of s ++ u)
    pub below : (s t child other : Shape V) (byte : ℕ)
        → child_at byte (children_of s) ≡ Some child
        → child_at byte (next_children t) ≡ Some other → IsOrdered s → IsTree t
        → (u : List ℕ) → Kind child other u → Kind (with_prefix [] s) t u

  module _ (Kind : Shape V → Shape V → List ℕ → Type 0) (carried : IsCarried Kind)
      (strings : Strings) where
    -- A set that has those ahead has them, with the bytes of the prefix above it.
    pub all-behind : (s right t : Shape V)
        → ((q : List ℕ) → found right (prefix_of s ++ q) ≡ found t q)
        → (above : List ℕ) → HasAll strings above (Kind s right)
        → HasAll strings (above ++ prefix_of s) (Kind (with_prefix [] s) t)
    all-behind s right t leads above has u kind =
        ap (set.contains strings) (append_assoc above (prefix_of s) u)
        ∙ has (prefix_of s ++ u) (carried.behind s right t leads u kind)

    pub all-below : (s t child other : Shape V) (byte : ℕ)
        → child_at byte (children_of s) ≡ Some child
        → child_at byte (next_children t) ≡ Some other → IsOrdered s → IsTree t
        → (path : List ℕ) → HasAll strings path (Kind (with_prefix [] s) t)
        → HasAll strings path (Kind child other)
    all-below s t child other byte here there order also path has u kind =
        has u (carried.below s t child other byte here there order also u kind)

  -- ---- behind the left prefix
  module _ (s right t : Shape V)
      (leads : (q : List ℕ) → found right (prefix_of s ++ q) ≡ found t q) where
    left-behind : (q : List ℕ) → found s (prefix_of s ++ q) ≡ found (with_prefix [] s) q
    left-behind q = found-with s (prefix_of s) [] q (sym (append-nil (prefix_of s)))

    pub in-left : (q : List ℕ) → IsSome (found (with_prefix [] s) q)
        → IsSome (found s (prefix_of s ++ q))
    in-left q = subst IsSome (sym (left-behind q))

    pub in-right : (q : List ℕ) → IsSome (found t q) → IsSome (found right (prefix_of s ++ q))
    in-right q = subst IsSome (sym (leads q))

    place-behind : (u : List ℕ) → IsPlace (with_prefix [] s) t u → IsPlace s right (prefix_of s ++
        u)
    place-behind = place-along s right (with_prefix [] s) t (prefix_of s) in-left in-right

    common-behind : (key : List ℕ) → IsCommonKey (with_prefix [] s) t key
        → IsCommonKey s right (prefix_of s ++ key)
    common-behind = common-along s right (with_prefix [] s) t (prefix_of s) in-left in-right

    pub common-ended : HaveCommon (with_prefix [] s) t → HaveCommon s right
    common-ended common = (prefix_of s ++ common.0, common-behind common.0 common.1)

    begun-behind : (u : List ℕ) → BeginsCommon (with_prefix [] s) t u
        → BeginsCommon s right (prefix_of s ++ u)
    begun-behind = begun-along s right (with_prefix [] s) t (prefix_of s) in-left in-right

    gone-behind : (stays : Bool) (key : List ℕ) → IsGone stays (with_prefix [] s) t key
        → IsGone stays s right (prefix_of s ++ key)
    gone-behind = gone-along s right (with_prefix [] s) t (prefix_of s) in-left in-right

    pub changed-behind : (stays : Bool) (key : List ℕ) → IsChange stays (with_prefix [] s) t key
        → IsChange stays s right (prefix_of s ++ key)
    changed-behind = changed-along s right (with_prefix [] s) t (prefix_of s) in-left in-right
        (λ q some. left-behind q)

    changed_place-behind : (stays : Bool) (u : List ℕ)
        → IsChangedPlace stays (with_prefix [] s) t u
        → IsChangedPlace stays s right (prefix_of s ++ u)
    changed_place-behind = changed_place-along s right (with_prefix [] s) t (prefix_of s)
        in-left in-right (λ q some. left-behind q)

  -- ---- behind the byte of a child
  module _ (s t child other : Shape V) (byte : ℕ)
      (here : child_at byte (children_of s) ≡ Some child)
      (there : child_at byte (next_children t) ≡ Some other)
      (order : IsOrdered s) (also : IsTree t) where
    left-known : BeginsWith byte (prefix_of child)
    left-known = (branch s byte child order here).begins

    right-known : IsTree other × BeginsWith byte (prefix_of other)
    right-known = next-begins t other byte also there

    left-below : (q : List ℕ) → found (with_prefix [] s) (byte ∷ q) ≡ found child (byte ∷ q)
    left-below q = found-next (with_prefix [] s) byte q
        ∙ ap (λ z. look (byte ∷ q) (child_at byte z)) (ended-next s) ∙ ap (look (byte ∷ q)) here

    pub child-left : (key : List ℕ) → IsSome (found child key) → IsSome (found (with_prefix [] s)
        key)
    child-left key some =
        let first = child-first child byte key left-known some in
        subst (λ z. IsSome (found (with_prefix [] s) z)) (sym first.1)
        (subst IsSome (sym (left-below first.0)) (subst (λ z. IsSome (found child z)) first.1 some))

    pub child-right : (key : List ℕ) → IsSome (found other key) → IsSome (found t key)
    child-right key some =
        let first = child-first other byte key right-known.1 some in
        subst (λ z. IsSome (found t z)) (sym first.1)
        (subst IsSome (sym (found-next t byte first.0 ∙ ap (look (byte ∷ first.0)) there))
        (subst (λ z. IsSome (found other z)) first.1 some))

    -- Where the right child has a key, the left tree has what the left child has.
    child-is : (key : List ℕ) → IsSome (found other key)
        → found (with_prefix [] s) key ≡ found child key
    child-is key some =
        let first = child-first other byte key right-known.1 some in
        subst (λ z. found (with_prefix [] s) z ≡ found child z) (sym first.1) (left-below first.0)

    place-child : (u : List ℕ) → IsPlace child other u → IsPlace (with_prefix [] s) t u
    place-child = place-along (with_prefix [] s) t child other [] child-left child-right

    pub common-child : (key : List ℕ) → IsCommonKey child other key
        → IsCommonKey (with_prefix [] s) t key
    common-child = common-along (with_prefix [] s) t child other [] child-left child-right

    begun-child : (u : List ℕ) → BeginsCommon child other u → BeginsCommon (with_prefix [] s) t u
    begun-child = begun-along (with_prefix [] s) t child other [] child-left child-right

    gone-child : (stays : Bool) (key : List ℕ) → IsGone stays child other key
        → IsGone stays (with_prefix [] s) t key
    gone-child = gone-along (with_prefix [] s) t child other [] child-left child-right

    pub changed-child : (stays : Bool) (key : List ℕ) → IsChange stays child other key
        → IsChange stays (with_prefix [] s) t key
    changed-child =
        changed-along (with_prefix [] s) t child other [] child-left child-right child-is

    changed_place-child : (stays : Bool) (u : List ℕ) → IsChangedPlace stays child other u
        → IsChangedPlace stays (with_prefix [] s) t u
    changed_place-child =
        changed_place-along (with_prefix [] s) t child other [] child-left child-right child-is

    module _ (strings : Strings) (path : List ℕ) where
      -- No more is ahead below both than below the byte.
      pub ahead-byte : ahead_of_both child other strings path
          ≤ how_many_under strings (with_byte path byte)
      ahead-byte = ahead-first strings path (common_start (prefix_of child) (prefix_of other)) byte
          (begins-common (prefix_of child) (prefix_of other) byte left-known right-known.1)

      pub ahead-child : how_many_under strings (path ++ prefix_of child)
          ≤ how_many_under strings (with_byte path byte)
      ahead-child = ahead-first strings path (prefix_of child) byte left-known

  -- ---- the kinds
  pub places-carried : IsCarried IsPlace
  places-carried = record { behind = place-behind; below = place-child }

  pub keys-carried : IsCarried IsCommonKey
  keys-carried = record { behind = common-behind; below = common-child }

  pub starts-carried : IsCarried BeginsCommon
  starts-carried = record { behind = begun-behind; below = begun-child }

  pub gone-carried : (stays : Bool) → IsCarried (IsGone stays)
  gone-carried stays = record {
    behind = λ s right t leads. gone-behind s right t leads stays;
    below = λ s t child other byte here there order also.
        gone-child s t child other byte here there order also stays;
  }

  pub changed_places-carried : (stays : Bool) → IsCarried (IsChangedPlace stays)
  changed_places-carried stays = record {
    behind = λ s right t leads. changed_place-behind s right t leads stays;
    below = λ s t child other byte here there order also.
        changed_place-child s t child other byte here there order also stays;
  }
