-- The way down a tree along the bytes of another one's prefix.
use Rattle.std.proofs.Common.{◌≡◌, ◌≢◌, ◌<◌, ◌≤◌, ◌+◌, ◌⊎◌, inl, inr, ⊎_elim, ℕ, suc, Bool, true, false, cond, List, [], ◌∷◌, ◌++◌, Option, Some, None, length, take, drop, refl, sym, ap, subst, ◌∙◌, arith}
use Rattle.std.specs.Prelude.{◌==◌, IsSome, is_some, nat_lt}
use Rattle.std.specs.FinSet as set
use Rattle.std.specs.Option.{option_and_then}
use Rattle.std.specs.Cmp.{unsigned_tied}
use Rattle.std.proofs.lemmas.Bool.{and_from, eq-eqb, eqb-true, eqb-false, false≢true, lt-ltb}
use Rattle.std.proofs.lemmas.List.{append-nil, append_assoc, take-append-drop, length-drop}
use Rattle.rart_below.specs.Bytes.{begins, common_length}
use Rattle.rart_below.specs.Children.{child_at}
use Rattle.rart_below.proofs.AscendingLemmas.{below_parts, ascending_parts, child_at-here, child_at-later}
use Rattle.rart_maps.specs.Pairs.{Strings}
use Rattle.rart_maps.specs.StartLaws.{how_many_under, with_byte}
use Rattle.rart_maps.proofs.OrderLemmas.{begins-append}
use Rattle.rart_maps.proofs.StartLemmas.{begins-behind}
use Rattle.rart_node.specs.Counts.{Counts}
use Rattle.rart_node.specs.Shape.{Shape, node, bare, grown, prefix_of, children_of, entries_of, height, with_prefix}
use Rattle.rart_node.specs.Trees.{strip_prefix, BeginsWith, found, IsTree}
use Rattle.rart_node.proofs.FindLemmas.{found-below, branch, ordered, IsBranch}
use Rattle.rart_node.proofs.InsertionLemmas.{inside}
use Rattle.rart_node.proofs.KeyLemmas.{tree-has-key}
use Rattle.rart_node.proofs.PrefixRestLemmas.{behind-append, begins-common, split-common, strip_prefix-own, strip_prefix-is}
use Rattle.rart_node.proofs.PairLemmas.{found-empty, found-other}
use Rattle.rart_ways.proofs.RemovalLemmas.{found-in-child}
use Rattle.rart_lockstep.specs.TreeCursors.{behind_bytes, next_children, value_here}
use Rattle.rart_lockstep.specs.Steps.{common_start}
use Rattle.rart_lockstep.proofs.BranchLemmas.{children-with}
use Rattle.rart_lockstep.proofs.EnterLemmas.{ahead-first}
use Rattle.rart_lockstep.proofs.SharedLemmas.{ahead-some, ahead-children, ahead-next}
use Rattle.rart_lockstep.proofs.PairStepLemmas.{prefix-with, tree-with}
use Rattle.rart_algebra.specs.Ahead.{ArePartedAt, EitherHas, IsPlace, IsShared, HasAll, ahead_of_both, EntersAlong}
use Rattle.rart_algebra.specs.Picks.{LeadsTo}

-- Where two strings part, what goes on as the one has not the other before it.
parted : (p w q : List ℕ) → common_length p w < length p → common_length p w < length w
    → strip_prefix w (p ++ q) ≡ None
parted [] w q some also = absurd (omega (arith, some))
parted (b ∷ p) [] q some also = absurd (omega (arith, also))
parted (b ∷ p) (c ∷ w) q some also =
    let P : Bool → Type 0 = λ t. cond t (suc (common_length p w)) 0 < suc (length p)
    → cond t (suc (common_length p w)) 0 < suc (length w)
    → cond t (strip_prefix w (p ++ q)) None ≡ None in
    let both : (t : Bool) → P t = elim [
      | true ↦ (λ lt less. parted p w q (omega (arith, lt)) (omega (arith, less)))
      | false ↦ (λ lt less. refl)
    ] in
    both (b == c) some also

nil-cons : (b : ℕ) (w : List ℕ) → [] ≡ b ∷ w → ⊥
nil-cons b w is = cc

first-same : (a b : ℕ) (p v : List ℕ) → a ∷ p ≡ b ∷ v → a ≡ b
first-same a b p v is = cc

-- A string behind a path begins with the path and its first byte.
pub begins-further : (path : List ℕ) (byte : ℕ) (rest : List ℕ)
    → begins (with_byte path byte) (path ++ (byte ∷ rest)) ≡ true
begins-further path byte rest =
    begins-behind path (byte ∷ []) (byte ∷ rest)
    (and_from (byte == byte) true (eq-eqb byte byte refl) refl)

-- Where both strings go on behind what they have in common, they go on with different bytes.
drop-differ : (p q : List ℕ) (b c : ℕ) (v w : List ℕ) → drop (common_length p q) p ≡ b ∷ v
    → drop (common_length p q) q ≡ c ∷ w → b ≢ c
drop-differ [] q b c v w goes leads = absurd (nil-cons b v goes)
drop-differ (a ∷ p) [] b c v w goes leads = absurd (nil-cons c w leads)
drop-differ (a ∷ p) (d ∷ q) b c v w goes leads =
    let P : Bool → Type 0 = λ t. (a == d) ≡ t
    → drop (cond t (suc (common_length p q)) 0) (a ∷ p) ≡ b ∷ v
    → drop (cond t (suc (common_length p q)) 0) (d ∷ q) ≡ c ∷ w → b ≢ c in
    let both : (t : Bool) → P t = elim [
      | true ↦ (λ same here there. drop-differ p q b c v w here there)
      | false ↦ (λ other here there same.
          eqb-false a d other (first-same a b p v here ∙ same ∙ sym (first-same d c q w there)))
    ] in
    both (a == d) refl goes leads

first-begins : (w : List ℕ) (byte : ℕ) → BeginsWith byte w → (rest : List ℕ) × (w ≡ byte ∷ rest)
first-begins [] byte first = absurd first
first-begins (b ∷ w) byte first = (w, ap (λ z. z ∷ w) first)

module _ {V : Type 0} where
  -- what is found in a child, where there is one
  abbrev pub look : List ℕ → Option (Shape V) → Option V
  look q = option_and_then (λ s. found s q)

  -- ---- a node behind bytes of its prefix is its value and where the next bytes lead
  pub found-here : (s : Shape V) → found s [] ≡ value_here s
  found-here (node [] value width forest) = refl
  found-here (node (b ∷ prefix) value width forest) = refl

  pub found-next : (s : Shape V) (byte : ℕ) (q : List ℕ)
      → found s (byte ∷ q) ≡ look (byte ∷ q) (child_at byte (next_children s))
  found-next (node [] value width forest) byte q = found-below forest byte q
  found-next (node (b ∷ prefix) value width forest) byte q =
      let s : Shape V = node (b ∷ prefix) value width forest in
      let P : Bool → Type 0 =
      λ t. (byte == b) ≡ t → found s (byte ∷ q) ≡ look (byte ∷ q) (cond t (Some s) None) in
      let both : (t : Bool) → P t = elim [
        | true ↦ (λ same. refl)
        | false ↦ (λ differs. ap (λ (t : Bool). option_and_then (inside value forest)
            (cond t (strip_prefix prefix q) None)) differs)
      ] in
      rw (unsigned_tied byte b) (both (byte == b) refl)

  -- ---- bytes in common are passed
  pub found-with : (s : Shape V) (u w q : List ℕ) → prefix_of s ≡ u ++ w
      → found s (u ++ q) ≡ found (with_prefix w s) q
  found-with (node prefix value width forest) u w q is =
      ap (option_and_then (inside value forest))
      ((λ i. strip_prefix (is i) (u ++ q))
      ∙ behind-append u w (u ++ q)
      ∙ ap (option_and_then (strip_prefix w)) (strip_prefix-own u q))

  module _ (p : List ℕ) (s : Shape V) where
    abbrev n : ℕ
    n = common_length p (prefix_of s)

    passed : (q : List ℕ)
        → found s (p ++ q) ≡ found (behind_bytes n s) (drop n p ++ q)
    passed q =
        ap (λ z. found s (z ++ q)) (sym (take-append-drop n p))
        ∙ ap (found s) (append_assoc (take n p) (drop n p) q)
        ∙ found-with s (take n p) (drop n (prefix_of s)) (drop n p ++ q)
        (split-common p (prefix_of s))

    parts : n < length p → n < length (prefix_of s) → (q : List ℕ)
        → found s (p ++ q) ≡ None
    parts some also q = parts-at s some also
      where
        parts-at : (s : Shape V) → common_length p (prefix_of s) < length p
            → common_length p (prefix_of s) < length (prefix_of s) → found s (p ++ q) ≡ None
        parts-at (node prefix value width forest) some also =
            ap (option_and_then (inside value forest)) (parted p prefix q some also)

  -- ---- along the prefix of a tree
  begun-key : (s : Shape V) (key : List ℕ) → IsSome (found s key)
      → (rest : List ℕ) × (key ≡ prefix_of s ++ rest)
  begun-key (node prefix value width forest) key there =
      elim (strip_prefix prefix key) as (λ o. strip_prefix prefix key ≡ o
      → IsSome (option_and_then (inside value forest) o)
      → (rest : List ℕ) × (key ≡ prefix ++ rest)) [
        | None ↦ λ _ none. absurd (false≢true none)
        | Some rest ↦ λ is _. (rest, strip_prefix-is prefix key rest is)
      ] refl there

  pub key-begun : (s : Shape V) → IsTree s
      → (key : List ℕ) × IsSome (found s (prefix_of s ++ key))
  key-begun s tree =
      let first = tree-has-key s tree in
      let split = begun-key s first.key first.there in
      (split.0, subst (λ z. IsSome (found s z)) split.1 first.there)

  -- what is found in a child begins with the child's byte
  pub child-first : (child : Shape V) (byte : ℕ) (key : List ℕ) → BeginsWith byte (prefix_of child)
      → IsSome (found child key) → (rest : List ℕ) × (key ≡ byte ∷ rest)
  child-first child byte [] begins there =
      absurd (false≢true (sym (ap is_some (found-empty child byte begins)) ∙ there))
  child-first child byte (c ∷ key) begins there =
      let P : Bool → Type 0 =
      λ t. (c == byte) ≡ t → (rest : List ℕ) × (c ∷ key ≡ byte ∷ rest) in
      let both : (t : Bool) → P t = elim [
        | true ↦ (λ same. (key, ap (λ z. z ∷ key) (eqb-true c byte same)))
        | false ↦ (λ differs. absurd (false≢true
            (sym (ap is_some (found-other child byte c key begins differs)) ∙ there)))
      ] in
      both (c == byte) refl

  -- ---- where a tree has a key or parts
  -- Behind the prefix keys go on with two bytes.
  pub record Forks (s : Shape V) : Type 0 where
    pub byte : ℕ
    pub next : ℕ
    pub differ : byte ≢ next
    pub one : List ℕ
    pub other : List ℕ
    pub has_one : IsSome (found s (prefix_of s ++ (byte ∷ one)))
    pub has_other : IsSome (found s (prefix_of s ++ (next ∷ other)))

  pub arm-found : (s child : Shape V) (byte : ℕ) (rest : List ℕ)
      → child_at byte (children_of s) ≡ Some child → IsSome (found child (byte ∷ rest))
      → IsSome (found s (prefix_of s ++ (byte ∷ rest)))
  arm-found s child byte rest here some =
      subst IsSome (sym (
      found-in-child s (prefix_of s ++ (byte ∷ rest)) (byte ∷ rest) byte refl refl
      ∙ ap (option_and_then (λ z. found z (byte ∷ rest))) here
      )) some

  pub tree-forks : (s : Shape V) → IsTree s → IsSome (found s (prefix_of s)) ⊎ Forks s
  tree-forks (node prefix (Some value) width forest) tree =
      inl (subst (λ z. IsSome (found (node prefix (Some value) width forest) z))
      (append-nil prefix)
      (ap (λ o. is_some (option_and_then (inside (Some value) forest) o))
      (strip_prefix-own prefix [])))
  tree-forks (node prefix None width bare) tree = absurd (false≢true tree.2)
  tree-forks (node prefix None width (grown b c bare)) tree = absurd (false≢true tree.2)
  tree-forks (node prefix None width (grown b c (grown d e forest))) tree =
      let s : Shape V = node prefix None width (grown b c (grown d e forest)) in
      let others : List (ℕ × Shape V) = (d, e) ∷ entries_of forest in
      let less = (below_parts b (d, e) (entries_of forest)
      (ascending_parts (b, c) others tree.0).0).0 in
      let key = tree-has-key c tree.1.1 in
      let more = tree-has-key e tree.1.2.1 in
      let first = child-first c b key.key tree.1.0 key.there in
      let second = child-first e d more.key tree.1.2.0 more.there in
      inr (record {
        byte = b;
        next = d;
        differ = λ same. absurd (omega (arith, less, same));
        one = first.0;
        other = second.0;
        has_one = arm-found s c b first.0 (child_at-here b b c others refl)
            (subst (λ z. IsSome (found c z)) first.1 key.there);
        has_other = arm-found s e d second.0
            (child_at-later d b c others less ∙ child_at-here d d e (entries_of forest) refl)
            (subst (λ z. IsSome (found e z)) second.1 more.there);
      })

  module _ (s t : Shape V) (before : Counts) where
    -- From s and t these bytes of the prefix were passed, and where the way stands the right tree
    -- has what it has behind them.
    pub record HasPassed (left right : Shape V) (now : Counts) : Type 0 where
      pub way : List ℕ
      pub prefix : prefix_of s ≡ way ++ prefix_of left
      pub finds : (q : List ℕ)
          → found t (way ++ (prefix_of left ++ q)) ≡ found right (prefix_of left ++ q)
      pub keeps : (q : List ℕ) → IsSome (found right q) → IsSome (found t (way ++ q))
      pub grows : before.entered ≤ now.entered
      pub made : now.made ≡ before.made
      pub most : (strings : Strings) (above : List ℕ) → HasAll strings above (IsPlace s t)
          → now.entered + ahead_of_both left right strings (above ++ way)
          ≤ before.entered + ahead_of_both s t strings above

    abbrev pub passed-none : HasPassed s t before
    passed-none = record {
      way = [];
      prefix = refl;
      finds = λ q. refl;
      keeps = λ q there. there;
      grows = omega arith;
      made = refl;
      most = λ strings above has.
          subst (λ z. before.entered + ahead_of_both s t strings z
          ≤ before.entered + ahead_of_both s t strings above) (sym (append-nil above))
          (omega arith);
    }

    module _ (left right : Shape V) (now : Counts) (so_far : HasPassed left right now)
        (tree : IsTree s) (also : IsTree right) where
      abbrev count : ℕ
      count = common_length (prefix_of left) (prefix_of right)

      abbrev start : List ℕ
      start = common_start (prefix_of left) (prefix_of right)

      -- what is left of the prefix then, and the bytes passed
      abbrev rest : List ℕ
      rest = drop count (prefix_of left)

      abbrev further : List ℕ
      further = so_far.way ++ start

      prefix-further : prefix_of s ≡ further ++ rest
      prefix-further =
          so_far.prefix ∙ ap (λ z. so_far.way ++ z) (sym (take-append-drop count (prefix_of left)))
          ∙ sym (append_assoc so_far.way start rest)

      further-behind : (q : List ℕ) → found right (start ++ q) ≡ found (behind_bytes count right) q
      further-behind q = found-with right start (drop count (prefix_of right)) q
          (split-common (prefix_of left) (prefix_of right))

      finds-further : (q : List ℕ)
          → found t (further ++ (rest ++ q)) ≡ found (behind_bytes count right) (rest ++ q)
      finds-further q =
          let again : start ++ (rest ++ q) ≡ prefix_of left ++ q =
          sym (append_assoc start rest q)
          ∙ ap (λ z. z ++ q) (take-append-drop count (prefix_of left)) in
          ap (found t) (append_assoc so_far.way start (rest ++ q))
          ∙ ap (λ z. found t (so_far.way ++ z)) again ∙ so_far.finds q
          ∙ ap (found right) (sym again) ∙ further-behind (rest ++ q)

      keeps-further : (q : List ℕ) → IsSome (found (behind_bytes count right) q)
          → IsSome (found t (further ++ q))
      keeps-further q there =
          subst (λ z. IsSome (found t z)) (sym (append_assoc so_far.way start q))
          (so_far.keeps (start ++ q) (subst IsSome (sym (further-behind q)) there))

      -- They begin keys of both.
      shared-further : IsShared s t further
      shared-further =
          let one = key-begun s tree in
          let other = key-begun right also in
          let split = split-common (prefix_of left) (prefix_of right) in
          record {
            one = prefix_of s ++ one.0;
            other = so_far.way ++ (prefix_of right ++ other.0);
            in_left = one.1;
            in_right = so_far.keeps (prefix_of right ++ other.0) other.1;
            begins_one = ap (λ z. begins further (z ++ one.0)) prefix-further
                ∙ ap (begins further) (append_assoc further rest one.0)
                ∙ begins-append further (rest ++ one.0);
            begins_other =
                ap (λ z. begins further (so_far.way ++ (z ++ other.0))) split
                ∙ ap (λ z. begins further (so_far.way ++ z))
                (append_assoc start (drop count (prefix_of right)) other.0)
                ∙ ap (begins further)
                (sym (append_assoc so_far.way start (drop count (prefix_of right) ++ other.0)))
                ∙ begins-append further (drop count (prefix_of right) ++ other.0);
          }

      -- There one of the two has a key, or keys part.
      abbrev Point : Type 0
      Point = EitherHas s t further ⊎ ArePartedAt s t further

      -- where the left prefix ends
      left-point : rest ≡ [] → Point
      left-point ends =
          let is : prefix_of s ≡ further =
          prefix-further ∙ ap (λ z. further ++ z) ends ∙ append-nil further in
          ⊎_elim
          (λ some. inl (inl (subst (λ z. IsSome (found s z)) is some)))
          (λ forks. inr (record {
            byte = forks.byte;
            next = forks.next;
            differ = forks.differ;
            one = prefix_of s ++ (forks.byte ∷ forks.one);
            other = prefix_of s ++ (forks.next ∷ forks.other);
            has_one = inl forks.has_one;
            has_other = inl forks.has_other;
            begins_one = ap (λ z. begins (with_byte further forks.byte)
                (z ++ (forks.byte ∷ forks.one))) is
                ∙ begins-further further forks.byte forks.one;
            begins_other = ap (λ z. begins (with_byte further forks.next)
                (z ++ (forks.next ∷ forks.other))) is
                ∙ begins-further further forks.next forks.other;
          }))
          (tree-forks s tree)

      -- a key of the right node, behind the way there
      kept-key : (w : List ℕ) → prefix_of right ≡ start ++ w → (q : List ℕ)
          → IsSome (found right (prefix_of right ++ q)) → IsSome (found t (further ++ (w ++ q)))
      kept-key w is q some =
          subst (λ z. IsSome (found t z))
          (ap (λ z. so_far.way ++ (z ++ q)) is
          ∙ ap (λ z. so_far.way ++ z) (append_assoc start w q)
          ∙ sym (append_assoc so_far.way start (w ++ q)))
          (so_far.keeps (prefix_of right ++ q) some)

      -- where the right prefix ends
      right-point : drop count (prefix_of right) ≡ [] → Point
      right-point ends =
          let is : prefix_of right ≡ start ++ [] =
          split-common (prefix_of left) (prefix_of right) ∙ ap (λ z. start ++ z) ends in
          ⊎_elim
          (λ some. inl (inr (subst (λ z. IsSome (found t z)) (append-nil further)
          (kept-key [] is []
          (subst (λ z. IsSome (found right z)) (sym (append-nil (prefix_of right))) some)))))
          (λ forks. inr (record {
            byte = forks.byte;
            next = forks.next;
            differ = forks.differ;
            one = further ++ (forks.byte ∷ forks.one);
            other = further ++ (forks.next ∷ forks.other);
            has_one = inr (kept-key [] is (forks.byte ∷ forks.one) forks.has_one);
            has_other = inr (kept-key [] is (forks.next ∷ forks.other) forks.has_other);
            begins_one = begins-further further forks.byte forks.one;
            begins_other = begins-further further forks.next forks.other;
          }))
          (tree-forks right also)

      -- where both go on with other bytes
      parted-point : (b c : ℕ) (v w : List ℕ) → rest ≡ b ∷ v
          → drop count (prefix_of right) ≡ c ∷ w → Point
      parted-point b c v w goes leads =
          let one = key-begun s tree in
          let other = key-begun right also in
          let is : prefix_of right ≡ start ++ (c ∷ w) =
          split-common (prefix_of left) (prefix_of right) ∙ ap (λ z. start ++ z) leads in
          inr (record {
            byte = b;
            next = c;
            differ = drop-differ (prefix_of left) (prefix_of right) b c v w goes leads;
            one = prefix_of s ++ one.0;
            other = further ++ (c ∷ (w ++ other.0));
            has_one = inl one.1;
            has_other = inr (kept-key (c ∷ w) is other.0 other.1);
            begins_one = ap (λ z. begins (with_byte further b) (z ++ one.0))
                (prefix-further ∙ ap (λ z. further ++ z) goes)
                ∙ ap (begins (with_byte further b)) (append_assoc further (b ∷ v) one.0)
                ∙ begins-further further b (v ++ one.0);
            begins_other = begins-further further c (w ++ other.0);
          })

      point-of : (v w : List ℕ) → rest ≡ v → drop count (prefix_of right) ≡ w → Point
      point-of [] w ends leads = left-point ends
      point-of (b ∷ v) [] goes ends = right-point ends
      point-of (b ∷ v) (c ∷ w) goes leads = parted-point b c v w goes leads

      pub place-further : IsPlace s t further
      place-further =
          (shared-further, point-of rest (drop count (prefix_of right)) refl refl)

      module _ (strings : Strings) (above : List ℕ) (has : HasAll strings above (IsPlace s t)) where
        here-further : set.contains strings (above ++ further) ≡ true
        here-further = has further place-further

        most-further : now.entered + how_many_under strings (above ++ further)
            ≤ before.entered + ahead_of_both s t strings above
        most-further =
            subst (λ z. now.entered + how_many_under strings z
            ≤ before.entered + ahead_of_both s t strings above)
            (append_assoc above so_far.way start) (so_far.most strings above has)

      -- ---- the way ends
      pub entered-end : EntersAlong s t false before now
      entered-end = record {
        grows = so_far.grows;
        made = so_far.made;
        most = λ strings above has.
            let most = most-further strings above has in
            let some = ahead-some strings (above ++ further) (here-further strings above has) in
            omega (arith, most, some);
      }

      -- where both go on with other bytes
      pub none-parts : count < length (prefix_of left) → count < length (prefix_of right)
          → LeadsTo (prefix_of s) t None
      none-parts some less q =
          ap (λ z. found t (z ++ q)) so_far.prefix
          ∙ ap (found t) (append_assoc so_far.way (prefix_of left) q)
          ∙ so_far.finds q ∙ parts (prefix_of left) right some less q

      -- ---- all bytes are passed
      whole : rest ≡ [] → prefix_of s ≡ further
      whole ends = prefix-further ∙ ap (λ z. further ++ z) ends ∙ append-nil further

      pub leads-whole : rest ≡ [] → LeadsTo (prefix_of s) t (Some (behind_bytes count right))
      leads-whole ends = (
        tree-with right (drop count (prefix_of right)) also,
        λ q. ap (λ z. found t (z ++ q)) (whole ends)
            ∙ ap (λ z. found t (further ++ (z ++ q))) (sym ends) ∙ finds-further q
            ∙ ap (λ z. found (behind_bytes count right) (z ++ q)) ends,
      )

      pub entered-whole : rest ≡ [] → EntersAlong s t true before now
      entered-whole ends = record {
        grows = so_far.grows;
        made = so_far.made;
        most = λ strings above has.
            subst (λ z. now.entered + how_many_under strings (above ++ z)
            ≤ before.entered + ahead_of_both s t strings above) (sym (whole ends))
            (most-further strings above has);
      }

      -- ---- the way goes on at a child
      module _ (byte : ℕ) (goes : BeginsWith byte rest) (ends : drop count (prefix_of right) ≡ [])
        where
          in-child : (s : Shape V) (q : List ℕ) (w : List ℕ) → BeginsWith byte w
              → found (with_prefix [] s) (w ++ q) ≡ look (w ++ q) (child_at byte (children_of s))
          in-child (node prefix value width forest) q w begins =
              let first = first-begins w byte begins in
              ap (λ z. found (node [] value width forest) (z ++ q)) first.1
              ∙ found-below forest byte (first.0 ++ q)
              ∙ ap (λ z. look (z ++ q) (child_at byte (entries_of forest))) (sym first.1)

          behind-ends : behind_bytes count right ≡ with_prefix [] right
          behind-ends = ap (λ z. with_prefix z right) ends

          child-here : (q : List ℕ) → found t (further ++ (rest ++ q))
              ≡ look (rest ++ q) (child_at byte (children_of right))
          child-here q =
              finds-further q ∙ ap (λ z. found z (rest ++ q)) behind-ends
              ∙ in-child right q rest goes

          pub none-under : child_at byte (children_of right) ≡ None → LeadsTo (prefix_of s) t None
          none-under none q =
              ap (λ z. found t (z ++ q)) prefix-further
              ∙ ap (found t) (append_assoc further rest q)
              ∙ child-here q ∙ ap (look (rest ++ q)) none

          module _ (child : Shape V) (here : child_at byte (children_of right) ≡ Some child) where
            known : IsBranch byte child right
            known = branch right byte child (ordered right also) here

            pub child-tree : IsTree child
            child-tree = known.tree

            pub child-lower : height child < height right
            child-lower = known.lower

            pub passed-child : (opened : Counts) → opened.entered ≡ now.entered + 1
                → opened.made ≡ now.made → HasPassed (behind_bytes count left) child opened
            passed-child opened entered made =
                let again : prefix_of (behind_bytes count left) ≡ rest = prefix-with left rest in
                record {
                  way = further;
                  prefix = prefix-further ∙ ap (λ z. further ++ z) (sym again);
                  finds = λ q. ap (λ z. found t (further ++ (z ++ q))) again ∙ child-here q
                      ∙ ap (look (rest ++ q)) here ∙ ap (λ z. found child (z ++ q)) (sym again);
                  keeps = λ q there.
                      let first = child-first child byte q known.begins there in
                      keeps-further q (subst IsSome (sym (
                      ap (found (behind_bytes count right)) first.1
                      ∙ ap (λ z. found z (byte ∷ first.0)) behind-ends
                      ∙ in-child right first.0 (byte ∷ []) refl
                      ∙ ap (look (byte ∷ first.0)) here ∙ ap (found child) (sym first.1)
                      )) there);
                  grows = let grows = so_far.grows in omega (arith, grows, entered);
                  made = made ∙ so_far.made;
                  most = λ strings above has.
                      let path = above ++ further in
                      let begun = begins-common (prefix_of (behind_bytes count left))
                      (prefix_of child) byte (subst (BeginsWith byte) (sym again) goes)
                      known.begins in
                      let fewer = ahead-first strings path
                      (common_start (prefix_of (behind_bytes count left)) (prefix_of child)) byte
                      begun in
                      let all = ahead-children strings path (here-further strings above has)
                      ((byte, byte) ∷ []) refl in
                      let one = ahead-next strings path (byte, byte) [] in
                      let most = most-further strings above has in
                      omega (arith, fewer, all, one, most, entered);
                }

-- ---- as the calls know it
pub longer : (m : ℕ) (w : List ℕ) → 0 < length (drop m w) → m < length w
longer m w some = let less = length-drop m w in omega (arith, some, less)

pub not-longer : (w : List ℕ) → nat_lt 0 (length w) ≡ false → w ≡ []
not-longer [] none = refl
not-longer (b ∷ w) none =
    absurd (false≢true (sym none ∙ lt-ltb 0 (length (b ∷ w)) (omega arith)))

module _ {V : Type 0} where
  pub rest-is : (s x : Shape V) (n m : ℕ) → n ≡ m → x ≡ behind_bytes n s
      → prefix_of x ≡ drop m (prefix_of s)
  rest-is s x n m same is =
      ap prefix_of is ∙ prefix-with s (drop n (prefix_of s)) ∙ ap (λ z. drop z (prefix_of s)) same

  pub behind-is : (s x : Shape V) (n m : ℕ) → n ≡ m → x ≡ behind_bytes n s
      → x ≡ behind_bytes m s
  behind-is s x n m same is = is ∙ ap (λ z. behind_bytes z s) same

  -- The children of a node, behind bytes of its prefix or not.
  pub same-children : (whole s : Shape V) (from by : ℕ)
      → behind_bytes from whole ≡ behind_bytes by s → children_of whole ≡ children_of s
  same-children whole s from by is =
      sym (children-with whole (drop from (prefix_of whole))) ∙ ap children_of is
      ∙ children-with s (drop by (prefix_of s))
