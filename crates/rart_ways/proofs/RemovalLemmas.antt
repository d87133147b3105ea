-- A value that is taken from the end of a node's prefix, or from below the node.
use Rattle.std.proofs.Common.{◌≡◌, ◌+◌, ◌<◌, ◌≤◌, ℕ, suc, List, [], ◌∷◌, ◌++◌, Option, Some, None, IsSome, is_some, slice_get, length, drop, cond, Bool, true, false, not, ◌&&◌, refl, arith, sym, ap, subst, ◌∙◌}
use Rattle.std.specs.Prelude.{◌==◌, IsTrue, T}
use Rattle.std.specs.Option.{option_and_then}
use Rattle.std.specs.Ordering.{nat_cmp, eq_by_cmp}
use Rattle.std.specs.Cmp.{unsigned_tied}
use Rattle.std.specs.Str.{bytes_eq}
use Rattle.std.specs.FinMap.{nat_cmp-IsAntisymmetric}
use Rattle.std.specs.FinMap.Entries.{is_sorted, where_key, find-where_key, find-put, same_entries, length_without}
use Rattle.std.proofs.lemmas.Bool.{eqb-true, eq-eqb, false≢true}
use Rattle.std.proofs.lemmas.Cmp.{nat_cmp_total}
use Rattle.std.proofs.lemmas.List.{length-append}
use Rattle.std.proofs.lemmas.Option.{same_Some, none-some}
use Rattle.rart_below.specs.Bytes.{IsAdmitted}
use Rattle.rart_below.specs.Children as children
use Rattle.rart_below.specs.Children.{child_at, with_child, without_child}
use Rattle.rart_below.proofs.AscendingLemmas.{ascending-with_child, ascending-where_key}
use Rattle.rart_node.specs.Shape.{Shape, Forest, node, bare, grown, prefix_of, value_of, children_of, entries_of, forest_of, with_value, with_deleted, with_replaced, HasOnly, merged, IsAscending, entries_of-forest_of}
use Rattle.rart_ways.specs.Removals.{AreAdmitted}
use Rattle.rart_node.specs.Trees.{strip_prefix, BeginsWith, found, found_below, is_key_or_fork, IsTree, IsOrdered, AreBranches, IsTaken}
use Rattle.rart_node.proofs.PrefixRestLemmas.{strip_prefix-own, strip_prefix-is, eqb-sym}
use Rattle.rart_node.proofs.FindLemmas.{found-below, branch, ordered, IsBranch}
use Rattle.rart_node.proofs.KeyLemmas.{tree-has-key}
use Rattle.rart_node.proofs.OnlyChildLemmas.{merged-found, merged-tree, merged-first}
use Rattle.rart_node.proofs.PairLemmas.{found-empty, found-other}
use Rattle.rart_node.proofs.InsertionLemmas.{lift, inside, inside-value, inside-with, in-child, ascending-with, branches-with, fork-with, nothing-left, forest_of-entries_of}

-- ---- a key that is there
-- Where a string has something behind a prefix, it is the prefix and the rest.
pub split-strip_prefix : (p q : List ℕ) → IsSome (strip_prefix p q) → (q ≡ p ++ drop (length p) q)
    × (length p ≤ length q)
split-strip_prefix [] q some = (refl, omega arith)
split-strip_prefix (b ∷ p) [] some = absurd (false≢true some)
split-strip_prefix (b ∷ p) (c ∷ q) some =
    let P : Bool → Type 0 = λ t. (c == b) ≡ t → IsSome (cond t (strip_prefix p q) None)
    → (c ∷ q ≡ b ∷ (p ++ drop (length p) q)) × (suc (length p) ≤ suc (length q)) in
    let both : (t : Bool) → P t = elim [
      | true ↦ (λ same is. let rest = split-strip_prefix p q is in let first = eqb-true c b same in
          ((λ i. first i ∷ rest.0 i), let le = rest.1 in omega (arith, le)))
      | false ↦ (λ differs is. absurd (false≢true is))
    ] in
    both (c == b) refl some

some-strip_prefix : {V : Type 0} (o : Option (List ℕ)) (values : List ℕ → Option V)
    → IsSome (option_and_then values o) → IsSome o
some-strip_prefix None values some = some
some-strip_prefix (Some rest) values some = refl

pub shorter : (most : Option ℕ) (m n : ℕ) → m ≤ n → IsAdmitted most n → IsAdmitted most m
shorter None m n le admitted = tt
shorter (Some most) m n le admitted = omega (arith, le, admitted)

same-test : (byte : ℕ) → ◌≡◌ {A = ℕ → Bool} (λ x. not (eq_by_cmp nat_cmp byte x))
    (λ x. not (x == byte))
same-test byte = λ i x. not ((unsigned_tied byte x ∙ eqb-sym byte x) i)

holds : {t : Bool} → IsTrue t → T t
holds is = subst T (sym is) tt

module _ {V : Type 0} where
  -- A key that is there is the node's prefix and a rest.
  pub split-found : (s : Shape V) (key : List ℕ) → IsSome (found s key)
      → (key ≡ prefix_of s ++ drop (length (prefix_of s)) key) × (length (prefix_of s) ≤ length key)
  split-found (node prefix value width forest) key some =
      split-strip_prefix prefix key (some-strip_prefix (strip_prefix prefix key)
      (inside value forest) some)

  pub found-own : (s : Shape V) (key rest : List ℕ) → key ≡ prefix_of s ++ rest → rest ≡ []
      → found s key ≡ value_of s
  found-own (node prefix value width forest) key rest is end =
      rw (is, end, strip_prefix-own prefix []) refl

  pub found-in-child : (s : Shape V) (key rest : List ℕ) (byte : ℕ) → key ≡ prefix_of s ++ rest
      → slice_get rest 0 ≡ Some byte
      → found s key ≡ option_and_then (λ child. found child rest) (child_at byte (children_of s))
  found-in-child (node prefix value width forest) key [] byte is next = absurd (none-some byte next)
  found-in-child (node prefix value width forest) key (b ∷ rest) byte is next =
      rw (is, strip_prefix-own prefix (b ∷ rest))
      (found-below forest b rest ∙ ap
      (λ z. option_and_then (λ child. found child (b ∷ rest)) (child_at z (entries_of forest)))
      (same_Some b byte next))

  -- ---- the children, once one of them is gone
  pub branches-without : (entries : List (ℕ × Shape V)) (byte : ℕ) → AreBranches (forest_of entries)
      → AreBranches (forest_of (without_child byte entries))
  branches-without [] byte branches = tt
  branches-without (entry ∷ entries) byte branches =
      elim (not (entry.0 == byte)) as (λ t.
      AreBranches (forest_of (cond t (entry ∷ without_child byte entries)
      (without_child byte entries)))) [
        | true ↦ (branches.0, branches.1, branches-without entries byte branches.2)
        | false ↦ branches-without entries byte branches.2
      ]

  -- what stands under each byte once one was taken out
  pub child_at-without : (entries : List (ℕ × Shape V)) (byte c : ℕ)
      → child_at c (without_child byte entries) ≡ cond (c == byte) None (child_at c entries)
  child_at-without entries byte c =
      find-where_key nat_cmp (λ k. not (k == byte)) c
      (λ k tied. ap (λ z. not (z == byte)) (sym (nat_cmp-IsAntisymmetric c k tied))) entries
      ∙ elim (c == byte) as (λ t. cond (not t) (child_at c entries) None
      ≡ cond t None (child_at c entries)) [ true ↦ refl | false ↦ refl ]

  below-without : (forest : Forest V) (byte : ℕ) (rest : List ℕ)
      → ((q : List ℕ) → None ≡ cond (bytes_eq q (byte ∷ rest)) None (in-child byte forest q))
      → (c : ℕ) (q : List ℕ) → found_below (forest_of (without_child byte (entries_of forest)))
      (c ∷ q) ≡ cond (bytes_eq (c ∷ q) (byte ∷ rest)) None (found_below forest (c ∷ q))
  below-without forest byte rest alone c q =
      let entries = entries_of forest in
      let look : Option (Shape V) → Option V = option_and_then (λ s. found s (c ∷ q)) in
      let P : Bool → Type 0 =
      λ t. (c == byte) ≡ t → look (cond t None (child_at c entries))
      ≡ cond (t && bytes_eq q rest) None (look (child_at c entries)) in
      let both : (t : Bool) → P t = elim [
        | true ↦ (λ same.
            let Q : ℕ → Type 0 =
            λ z. None ≡ cond (bytes_eq q rest) None (look (child_at z entries)) in
            subst Q (sym (eqb-true c byte same))
            (alone (c ∷ q) ∙ ap (λ (t : Bool). cond (t && bytes_eq q rest) None
            (look (child_at byte entries))) same))
        | false ↦ (λ differs. refl)
      ] in
      found-below (forest_of (without_child byte entries)) c q
      ∙ ap look (ap (child_at c) (entries_of-forest_of (without_child byte entries))
      ∙ child_at-without entries byte c)
      ∙ both (c == byte) refl
      ∙ ap (cond (bytes_eq (c ∷ q) (byte ∷ rest)) None) (sym (found-below forest c q))

  inside-without : (value : Option V) (forest : Forest V) (byte : ℕ) (rest : List ℕ)
      → ((q : List ℕ) → None ≡ cond (bytes_eq q (byte ∷ rest)) None (in-child byte forest q))
      → (q : List ℕ) → inside value (forest_of (without_child byte (entries_of forest))) q
      ≡ cond (bytes_eq q (byte ∷ rest)) None (inside value forest q)
  inside-without value forest byte rest alone [] = refl
  inside-without value forest byte rest alone (c ∷ q) = below-without forest byte rest alone c q

  -- a child that was replaced and is then taken out might as well not have been replaced
  without-with : (entries : List (ℕ × Shape V)) (byte : ℕ) (child : Shape V)
      → children.IsAscending entries
      → without_child byte (with_child byte child entries) ≡ without_child byte entries
  without-with entries byte child ascending =
      let without : (list : List (ℕ × Shape V)) → children.IsAscending list
      → T (is_sorted nat_cmp (without_child byte list)) =
      λ list h. holds (ascending-where_key (λ k. not (k == byte)) list h) in
      same_entries nat_cmp nat_cmp_total nat_cmp-IsAntisymmetric _ _
      (without _ (ascending-with_child byte child entries ascending))
      (without entries ascending) (λ q.
      child_at-without (with_child byte child entries) byte q
      ∙ ap (cond (q == byte) None) (find-put nat_cmp nat_cmp_total q byte child entries
      ∙ ap (λ t. cond t (Some child) (child_at q entries)) (unsigned_tied q byte))
      ∙ elim (q == byte) as (λ t. cond t None (cond t (Some child) (child_at q entries))
      ≡ cond t None (child_at q entries)) [ true ↦ refl | false ↦ refl ]
      ∙ sym (child_at-without entries byte q))

  -- ---- taking
  -- After, nothing is at the key, and else what was there. The node itself may have no value and
  -- fewer than two children.
  abbrev pub IsLeft : List ℕ → Shape V → Shape V → Type 0
  IsLeft key before after =
      IsOrdered after × ((q : List ℕ)
      → found after q ≡ cond (bytes_eq q key) None (found before q))
      × (prefix_of after ≡ prefix_of before)

  -- a leaf without its value
  pub empty-leaf : (leaf : Shape V) (q : List ℕ) → children_of leaf ≡ []
      → found (with_value None leaf) q ≡ None
  empty-leaf (node prefix value width forest) q none =
      let is : forest ≡ bare = sym (forest_of-entries_of forest) ∙ ap forest_of none in
      (λ i. found (node prefix None width (is i)) q) ∙ nothing-left (strip_prefix prefix q)

  pub taken-end : (s : Shape V) (key rest : List ℕ) → IsOrdered s → key ≡ prefix_of s ++ rest
      → rest ≡ [] → IsLeft key s (with_value None s)
  taken-end (node prefix old width forest) key rest order is end =
      rw (is, end) (
        order,
        (λ q. lift prefix [] q None (inside old forest) (inside None forest)
            (inside-value old None forest)),
        refl,
      )

  -- the child under the next byte was taken from
  pub taken-below : (s child after : Shape V) (key rest : List ℕ) (byte : ℕ) → IsTree s
      → key ≡ prefix_of s ++ rest → slice_get rest 0 ≡ Some byte
      → child_at byte (children_of s) ≡ Some child
      → IsTaken rest child after → IsTaken key s (with_replaced byte after s)
  taken-below (node prefix old width forest) child after key [] byte tree is next here taken =
      absurd (none-some byte next)
  taken-below (node prefix old width forest) child after key
      (b ∷ rest) byte tree is next here taken =
      let same = same_Some b byte next in
      let order : IsOrdered (node prefix old width forest) = (tree.0, tree.1) in
      let begins =
      taken.2 byte (branch (node prefix old width forest) byte child order here).begins in
      let forest' = forest_of (with_child byte after (entries_of forest)) in
      let changed : (q : List ℕ) → found after q
      ≡ cond (bytes_eq q (byte ∷ rest)) None (in-child byte forest q) =
      λ q. rw here (taken.1 q ∙ ap (λ z. cond (bytes_eq q (z ∷ rest)) None (found child q))
      same) in
      rw (is, same) (
        (
          ascending-with forest byte after order.0,
          branches-with forest byte after order.1 taken.0 begins,
          fork-with old forest byte after tree.2,
        ),
        (λ q. lift prefix (byte ∷ rest) q None (inside old forest) (inside old forest')
            (inside-with old forest byte after rest None changed)),
        λ first first_begins. first_begins,
      )

  -- it was left without value and child, and goes
  taken-whole : (s child after : Shape V) (key rest : List ℕ) (byte : ℕ) → IsOrdered s
      → key ≡ prefix_of s ++ rest → slice_get rest 0 ≡ Some byte
      → child_at byte (children_of s) ≡ Some child
      → IsLeft rest child after → ((q : List ℕ) → found after q ≡ None)
      → IsLeft key s (with_deleted byte s)
  taken-whole (node prefix old width forest) child after key
      [] byte order is next here taken empty = absurd (none-some byte next)
  taken-whole (node prefix old width forest) child after key
      (b ∷ rest) byte order is next here taken empty =
      let same = same_Some b byte next in
      let entries = entries_of forest in
      let forest' = forest_of (without_child byte entries) in
      let alone : (q : List ℕ) → None
      ≡ cond (bytes_eq q (byte ∷ rest)) None (in-child byte forest q) =
      λ q. rw here (sym (empty q) ∙ taken.1 q
      ∙ ap (λ z. cond (bytes_eq q (z ∷ rest)) None (found child q)) same) in
      let ascends =
      subst children.IsAscending (sym (entries_of-forest_of (without_child byte entries)))
      (ascending-where_key (λ k. not (k == byte)) entries order.0) in
      rw (is, same) (
        (
          ascends,
          branches-without entries byte
              (subst AreBranches (sym (forest_of-entries_of forest)) order.1),
        ),
        (λ q. lift prefix (byte ∷ rest) q None (inside old forest) (inside old forest')
            (inside-without old forest byte rest alone)),
        refl,
      )

  pub deleted-replaced : (s : Shape V) (byte : ℕ) (child : Shape V) → IsOrdered s
      → with_deleted byte (with_replaced byte child s) ≡ with_deleted byte s
  deleted-replaced (node prefix value width forest) byte child order =
      ap (λ entries. node prefix value width (forest_of (without_child byte entries)))
      (entries_of-forest_of (with_child byte child (entries_of forest)))
      ∙ ap (λ entries. node prefix value width (forest_of entries))
      (without-with (entries_of forest) byte child order.0)

  pub ascending-replaced : (s : Shape V) (byte : ℕ) (child : Shape V) → IsOrdered s
      → IsAscending (with_replaced byte child s)
  ascending-replaced (node prefix value width forest) byte child order =
      ascending-with forest byte child order.0

  -- a leaf that the key ends at goes
  pub taken-leaf : (s leaf : Shape V) (key rest : List ℕ) (byte : ℕ) → IsTree s
      → strip_prefix (prefix_of s) key ≡ Some rest → slice_get rest 0 ≡ Some byte
      → child_at byte (children_of s) ≡ Some leaf → children_of leaf ≡ []
      → strip_prefix (prefix_of leaf) rest ≡ Some [] → IsLeft key s (with_deleted byte s)
  taken-leaf s leaf key rest byte tree strips next here none ends =
      let order = ordered s tree in
      let leaf_tree = (branch s byte leaf order here).tree in
      taken-whole s leaf (with_value None leaf) key rest byte order
      (strip_prefix-is (prefix_of s) key rest strips) next here
      (taken-end leaf rest [] (ordered leaf leaf_tree) (strip_prefix-is
      (prefix_of leaf) rest [] ends)
      refl) (λ q. empty-leaf leaf q none)

  -- ---- what is left, with a value or two children, or merged
  pub fork-is : (value : Option V) (forest : Forest V)
      → (value ≡ None → 1 < length (entries_of forest)) → is_key_or_fork value forest ≡ true
  fork-is (Some value) forest some = refl
  fork-is None bare some = let one = some refl in absurd (omega (arith, one))
  fork-is None (grown byte child bare) some = let one = some refl in absurd (omega (arith, one))
  fork-is None (grown byte child (grown next other forest)) some = refl

  pub left-kept : (s after : Shape V) (key : List ℕ) → IsLeft key s after
      → (value_of after ≡ None → 1 < length (children_of after)) → IsTaken key s after
  left-kept s (node prefix value width forest) key left some = (
    (left.0.0, left.0.1, fork-is value forest some),
    left.1,
    λ byte begins. subst (BeginsWith byte) (sym left.2) begins,
  )

  pub left-merged : (s after child : Shape V) (key : List ℕ) (byte : ℕ) → IsLeft key s after
      → value_of after ≡ None → HasOnly byte child after
      → IsTaken key s (merged (prefix_of after) child)
  left-merged s after child key byte left none only = (
    merged-tree after child byte left.0 only,
    (λ q. merged-found after child byte q left.0 none only ∙ left.1 q),
    λ b begins. merged-first (prefix_of after) child b
        (subst (BeginsWith b) (sym left.2) begins),
  )

  -- ---- how long prefixes may be
  first-found : (child : Shape V) (byte : ℕ) (key : List ℕ) → BeginsWith byte (prefix_of child)
      → IsSome (found child key) → slice_get key 0 ≡ Some byte
  first-found child byte [] begins there =
      absurd (false≢true (sym (ap is_some (found-empty child byte begins)) ∙ there))
  first-found child byte (c ∷ key) begins there =
      let P : Bool → Type 0 = λ t. (c == byte) ≡ t → Some c ≡ Some byte in
      let both : (t : Bool) → P t = elim [
        | true ↦ (λ same. ap Some (eqb-true c byte same))
        | false ↦ (λ differs. absurd (false≢true
            (sym (ap is_some (found-other child byte c key begins differs)) ∙ there)))
      ] in
      both (c == byte) refl

  -- what is found below a child is found behind the node's prefix
  found-behind : (s child : Shape V) (byte : ℕ) (key : List ℕ) → IsBranch byte child s
      → child_at byte (children_of s) ≡ Some child → IsSome (found child key)
      → found s (prefix_of s ++ key) ≡ found child key
  found-behind s child byte key known here there =
      found-in-child s (prefix_of s ++ key) key byte refl
      (first-found child byte key known.begins there)
      ∙ ap (option_and_then (λ z. found z key)) here

  pub admitted-child : (most : Option ℕ) (s child : Shape V) (byte : ℕ) → IsTree s
      → child_at byte (children_of s) ≡ Some child → AreAdmitted most s → AreAdmitted most child
  admitted-child most s child byte tree here admitted key there =
      let known = branch s byte child (ordered s tree) here in
      let long = length-append (prefix_of s) key in
      shorter most (length key) (length (prefix_of s ++ key)) (omega (arith, long))
      (admitted (prefix_of s ++ key)
      (subst IsSome (sym (found-behind s child byte key known here there)) there))

  pub admitted-left : (most : Option ℕ) (s after : Shape V) (key : List ℕ) → IsLeft key s after
      → AreAdmitted most s → AreAdmitted most after
  admitted-left most s after key left admitted q there =
      let P : Bool → Type 0 = λ t. IsSome (cond t None (found s q)) → IsAdmitted most (length q) in
      let both : (t : Bool) → P t =
      elim [ true ↦ (λ none. absurd (false≢true none)) | false ↦ admitted q ] in
      both (bytes_eq q key) (subst IsSome (left.1 q) there)

  only-here : (s child : Shape V) (byte : ℕ) → HasOnly byte child s
      → child_at byte (children_of s) ≡ Some child
  only-here s child byte only =
      ap (child_at byte) only
      ∙ ap (λ t. cond t (Some child) None) (unsigned_tied byte byte ∙ eq-eqb byte byte refl)

  pub admitted-merged : (most : Option ℕ) (s child : Shape V) (byte : ℕ) → IsOrdered s
      → HasOnly byte child s → AreAdmitted most s
      → IsAdmitted most (length (prefix_of s) + length (prefix_of child))
  admitted-merged most s child byte order only admitted =
      let here = only-here s child byte only in
      let known = branch s byte child order here in
      let some = tree-has-key child known.tree in
      let long = length-append (prefix_of s) some.key in
      let within = (split-found child some.key some.there).1 in
      shorter most _ (length (prefix_of s ++ some.key)) (omega (arith, long, within))
      (admitted (prefix_of s ++ some.key)
      (subst IsSome (sym (found-behind s child byte some.key known here some.there)) some.there))

  -- ---- one child less
  pub one-less : (s child : Shape V) (byte : ℕ) → IsAscending s
      → child_at byte (children_of s) ≡ Some child
      → 1 + length (children_of (with_deleted byte s)) ≡ length (children_of s)
  one-less (node prefix value width forest) child byte ascending here =
      let entries = entries_of forest in
      let whole =
      length_without nat_cmp nat_cmp_total byte entries (holds ascending) in
      let tested =
      subst (λ (p : ℕ → Bool). cond (is_some (child_at byte entries)) 1 0
      + length (where_key nat_cmp p entries) ≡ length entries) (same-test byte) whole in
      ap (λ list. 1 + length list) (entries_of-forest_of (without_child byte entries))
      ∙ subst (λ o. cond (is_some o) 1 0 + length (without_child byte entries) ≡ length entries)
      here tested
