-- What becomes of a tree where something else stands under a prefix, or nothing.
use Rattle.std.proofs.Common.{◌≡◌, ℕ, zero, suc, ◌+◌, ◌<◌, ◌≤◌, List, [], ◌∷◌, ◌++◌, Option, Some, None, IsSome, is_some, slice_get, length, drop, cond, not, true, false, refl, arith, sym, ap, subst, ◌∙◌}
use Rattle.std.specs.Prelude.{◌==◌}
use Rattle.std.specs.Option.{option_and_then, option_map}
use Rattle.std.specs.Cmp.{unsigned_tied}
use Rattle.std.specs.FinMap.Entries.{find-put}
use Rattle.std.proofs.lemmas.Bool.{eqb-true, false≢true}
use Rattle.std.proofs.lemmas.Cmp.{nat_cmp_total}
use Rattle.std.specs.Ordering.{nat_cmp}
use Rattle.std.proofs.lemmas.Option.{same_Some, none-some}
use Rattle.rart_below.specs.Bytes.{begins}
use Rattle.rart_below.specs.Children as children
use Rattle.rart_below.specs.Children.{child_at, with_child, without_child}
use Rattle.rart_below.proofs.AscendingLemmas.{ascending-where_key}
use Rattle.rart_node.specs.Shape.{Shape, Forest, node, prefix_of, value_of, children_of, entries_of, forest_of, with_deleted, with_replaced, HasOnly, merged, entries_of-forest_of}
use Rattle.rart_node.specs.Trees.{strip_prefix, BeginsWith, found, found_below, IsTree, IsOrdered, AreBranches}
use Rattle.rart_node.proofs.FindLemmas.{found-below, branch, ordered, ascending}
use Rattle.rart_node.proofs.InsertionLemmas.{inside, in-child, ascending-with, branches-with, fork-with, forest_of-entries_of}
use Rattle.rart_node.proofs.OnlyChildLemmas.{merged-found, merged-tree, merged-first}
use Rattle.rart_node.proofs.PrefixRestLemmas.{behind-append, first-parts}
use Rattle.rart_ways.specs.Grafts.{graft, graft_at}
use Rattle.rart_ways.specs.Paths.{first_byte, step, path_end}
use Rattle.rart_ways.specs.Prefixes.{IsGrafted, IsCleared, IsWithoutChild, StandsUnder, under_or}
use Rattle.rart_ways.specs.Removals.{AreAdmitted}
use Rattle.rart_ways.proofs.LentPathLemmas.{is-step, front-there}
use Rattle.rart_ways.proofs.LookupPathLemmas.{back-is}
use Rattle.rart_ways.proofs.PlanLemmas.{forks}
use Rattle.rart_ways.proofs.UnderPrefixLemmas.{strip-begins, step-above, not-begun}
use Rattle.rart_ways.proofs.RemovalLemmas.{branches-without, child_at-without, fork-is, one-less, admitted-child}

module _ {V : Type 0} where
  -- ---- a node of which one child has changed
  abbrev pub look : List ℕ → Option (Shape V) → Option V
  look q = option_and_then (λ s. found s q)

  -- What is found below, where the child under one byte is another one or gone.
  pub below-changed : (forest changed : Forest V) (byte : ℕ) (rest : List ℕ)
      (under : List ℕ → Option V) (new : Option (Shape V))
      → ((c : ℕ) → child_at c (entries_of changed)
      ≡ cond (c == byte) new (child_at c (entries_of forest)))
      → ((q : List ℕ) → look q new
      ≡ under_or (strip_prefix (byte ∷ rest) q) under (in-child byte forest q))
      → (c : ℕ) (r : List ℕ) → found_below changed (c ∷ r)
      ≡ under_or (strip_prefix (byte ∷ rest) (c ∷ r)) under (found_below forest (c ∷ r))
  below-changed forest changed byte rest under new at has c r =
      let old = child_at c (entries_of forest) in
      found-below changed c r ∙ ap (look (c ∷ r)) (at c)
      ∙ elim (c == byte) as (λ t. (c == byte) ≡ t → look (c ∷ r) (cond t new old)
      ≡ under_or (strip_prefix (byte ∷ rest) (c ∷ r)) under (look (c ∷ r) old)) [
        | true ↦ λ same. has (c ∷ r)
            ∙ ap (λ z. under_or (strip_prefix (byte ∷ rest) (c ∷ r)) under
            (look (c ∷ r) (child_at z (entries_of forest)))) (sym (eqb-true c byte same))
        | false ↦ λ differs. ap (λ t. under_or (cond t (strip_prefix rest r) None) under
            (look (c ∷ r) old)) (sym differs)
      ] refl
      ∙ ap (under_or (strip_prefix (byte ∷ rest) (c ∷ r)) under) (sym (found-below forest c r))

  -- What is found at the node.
  pub node-changed : (prefix : List ℕ) (value : Option V) (width other : ℕ)
      (forest changed : Forest V) (byte : ℕ) (rest : List ℕ) (under : List ℕ → Option V)
      → ((c : ℕ) (r : List ℕ) → found_below changed (c ∷ r)
      ≡ under_or (strip_prefix (byte ∷ rest) (c ∷ r)) under (found_below forest (c ∷ r)))
      → (q : List ℕ) → found (node prefix value other changed) q
      ≡ under_or (strip_prefix (prefix ++ (byte ∷ rest)) q) under
      (found (node prefix value width forest) q)
  node-changed prefix value width other forest changed byte rest under has q =
      elim (strip_prefix prefix q) as (λ o. option_and_then (inside value changed) o
      ≡ under_or (option_and_then (strip_prefix (byte ∷ rest)) o) under
      (option_and_then (inside value forest) o)) [
        | None ↦ refl
        | Some r ↦ elim r as (λ r. inside value changed r
            ≡ under_or (strip_prefix (byte ∷ rest) r) under (inside value forest r)) [
              | [] ↦ refl
              | c ∷ r ↦ has c r
            ]
      ]
      ∙ ap (λ o. under_or o under (found (node prefix value width forest) q))
      (sym (behind-append prefix (byte ∷ rest) q))

  pub child_at-with : (entries : List (ℕ × Shape V)) (byte c : ℕ) (child : Shape V)
      → child_at c (with_child byte child entries)
      ≡ cond (c == byte) (Some child) (child_at c entries)
  child_at-with entries byte c child =
      find-put nat_cmp nat_cmp_total c byte child entries
      ∙ ap (λ t. cond t (Some child) (child_at c entries)) (unsigned_tied c byte)

  -- ---- one node down
  -- What is grafted below a child is grafted below the node.
  pub grafted-child : (s child after : Shape V) (p : List ℕ) (byte : ℕ) (rest : List ℕ)
      (under : List ℕ → Option V) → IsTree s → p ≡ prefix_of s ++ (byte ∷ rest)
      → child_at byte (children_of s) ≡ Some child → IsGrafted (byte ∷ rest) under child after
      → IsGrafted p under s (with_replaced byte after s)
  grafted-child (node prefix value width forest) child after p byte rest under tree is here goes =
      let changed = forest_of (with_child byte after (entries_of forest)) in
      let order : IsOrdered (node prefix value width forest) = (tree.0, tree.1) in
      let known = branch (node prefix value width forest) byte child order here in
      let at : (c : ℕ) → child_at c (entries_of changed)
      ≡ cond (c == byte) (Some after) (child_at c (entries_of forest)) =
      λ c. ap (child_at c) (entries_of-forest_of (with_child byte after (entries_of forest)))
      ∙ child_at-with (entries_of forest) byte c after in
      let has : (q : List ℕ) → found after q
      ≡ under_or (strip_prefix (byte ∷ rest) q) under (in-child byte forest q) =
      λ q. goes.finds q ∙ ap (λ o. under_or (strip_prefix (byte ∷ rest) q) under (look q o))
      (sym here) in
      record {
        tree = (
          ascending-with forest byte after order.0,
          branches-with forest byte after order.1 goes.tree
              (goes.first byte known.begins refl),
          fork-with value forest byte after tree.2,
        );
        finds = λ q. node-changed prefix value width width forest changed byte rest under
            (below-changed forest changed byte rest under (Some after) at has) q
            ∙ ap (λ z. under_or (strip_prefix z q) under
            (found (node prefix value width forest) q)) (sym is);
        first = λ b begins also. begins;
      }

  grafted-step : (s after : Shape V) (p : List ℕ) (below : Shape V × List ℕ)
      (under : List ℕ → Option V) → IsTree s → step p s ≡ Some below
      → IsGrafted below.1 under below.0 after
      → IsGrafted p under s (with_replaced (first_byte below.1) after s)
  grafted-step s after p below under tree goes grafted =
      let down = is-step s p below goes in
      let parts = first-parts below.1 (first_byte below.1) down.next in
      grafted-child s below.0 after p (first_byte below.1) parts.0 under tree
      (step-above s p below goes ∙ ap (λ z. prefix_of s ++ z) parts.1) down.child
      (subst (λ z. IsGrafted z under below.0 after) parts.1 grafted)

  -- ---- along the way
  pub grafted-along : (a : ℕ) (p : List ℕ) (s : Shape V) (end : Shape V × List ℕ)
      (after : Shape V) (under : List ℕ → Option V) → IsTree s → path_end a p s ≡ Some end
      → IsGrafted end.1 under end.0 after → IsGrafted p under s (graft a after p s)
  grafted-along zero p s end after under tree is grafted =
      subst (λ z. IsGrafted z.1 under z.0 after) (sym (same_Some (s, p) end is)) grafted
  grafted-along (suc a) p s end after under tree is grafted =
      elim (step p s) as (λ o. step p s ≡ o
      → option_and_then (λ below. path_end a below.1 below.0) o ≡ Some end
      → IsGrafted p under s (graft_at (graft a after) s o)) [
        | None ↦ λ goes none. absurd (none-some end none)
        | Some below ↦ λ goes there.
            let down = is-step s p below goes in
            let known = branch s (first_byte below.1) below.0 (ordered s tree) down.child in
            grafted-step s (graft a after below.1 below.0) p below under tree goes
            (grafted-along a below.1 below.0 end after under known.tree there grafted)
      ] refl is

  pub admitted-along : (most : Option ℕ) (a : ℕ) (p : List ℕ) (s : Shape V)
      (end : Shape V × List ℕ) → IsTree s → path_end a p s ≡ Some end → AreAdmitted most s
      → AreAdmitted most end.0
  admitted-along most zero p s end tree is admitted =
      subst (λ z. AreAdmitted most z.0) (same_Some (s, p) end is) admitted
  admitted-along most (suc a) p s end tree is admitted =
      elim (step p s) as (λ o. step p s ≡ o
      → option_and_then (λ below. path_end a below.1 below.0) o ≡ Some end
      → AreAdmitted most end.0) [
        | None ↦ λ goes none. absurd (none-some end none)
        | Some below ↦ λ goes there.
            let down = is-step s p below goes in
            let known = branch s (first_byte below.1) below.0 (ordered s tree) down.child in
            admitted-along most a below.1 below.0 end known.tree there
            (admitted-child most s below.0 (first_byte below.1) tree down.child admitted)
      ] refl is

  -- ---- a child that goes
  pub deleted-ordered : (s : Shape V) (byte : ℕ) → IsOrdered s → IsOrdered (with_deleted byte s)
  deleted-ordered (node prefix value width forest) byte order =
      let entries = entries_of forest in (
        subst children.IsAscending (sym (entries_of-forest_of (without_child byte entries)))
            (ascending-where_key (λ k. not (k == byte)) entries order.0),
        branches-without entries byte
            (subst AreBranches (sym (forest_of-entries_of forest)) order.1),
      )

  child_at-deleted : (forest : Forest V) (byte c : ℕ)
      → child_at c (entries_of (forest_of (without_child byte (entries_of forest))))
      ≡ cond (c == byte) None (child_at c (entries_of forest))
  child_at-deleted forest byte c =
      ap (child_at c) (entries_of-forest_of (without_child byte (entries_of forest)))
      ∙ child_at-without (entries_of forest) byte c

  -- The child has all that the prefix begins: without it, nothing is there.
  deleted-cleared : (s child : Shape V) (p : List ℕ) (byte : ℕ) (rest : List ℕ)
      → p ≡ prefix_of s ++ (byte ∷ rest) → child_at byte (children_of s) ≡ Some child
      → begins (byte ∷ rest) (prefix_of child) ≡ true → (q : List ℕ)
      → found (with_deleted byte s) q ≡ under_or (strip_prefix p q) (λ left. None) (found s q)
  deleted-cleared (node prefix value width forest) child p byte rest is here begun q =
      let none : (q : List ℕ) → None ≡ under_or (strip_prefix (byte ∷ rest) q) (λ left. None)
      (in-child byte forest q) =
      λ q. elim (strip_prefix (byte ∷ rest) q) as (λ o. strip_prefix (byte ∷ rest) q ≡ o
      → None ≡ under_or o (λ left. None) (in-child byte forest q)) [
        | None ↦ λ apart. sym (ap (look q) here
            ∙ not-begun child (byte ∷ rest) q begun
            (strip-begins (byte ∷ rest) q ∙ ap is_some apart))
        | Some left ↦ λ _. refl
      ] refl in
      node-changed prefix value width width forest
      (forest_of (without_child byte (entries_of forest))) byte rest (λ left. None)
      (below-changed forest (forest_of (without_child byte (entries_of forest))) byte rest
      (λ left. None) None (child_at-deleted forest byte) none) q
      ∙ ap (λ z. under_or (strip_prefix z q) (λ left. None)
      (found (node prefix value width forest) q)) (sym is)

  pub lost-cleared : (s after : Shape V) (p : List ℕ) (below : Shape V × List ℕ) (byte : ℕ)
      → step p s ≡ Some below → begins below.1 (prefix_of below.0) ≡ true
      → first_byte below.1 ≡ byte → IsWithoutChild byte s after → IsCleared p s after
  lost-cleared s after p below byte goes begun first lost =
      let down = is-step s p below goes in
      let next : slice_get below.1 0 ≡ Some byte = down.next ∙ ap Some first in
      let parts = first-parts below.1 byte next in
      record {
        tree = lost.tree;
        finds = λ q. lost.finds q
            ∙ deleted-cleared s below.0 p byte parts.0
            (step-above s p below goes ∙ ap (λ z. prefix_of s ++ z) parts.1)
            (ap (λ z. child_at z (children_of s)) (sym first) ∙ down.child)
            (ap (λ z. begins z (prefix_of below.0)) (sym parts.1) ∙ begun) q;
        first = λ b begins also. lost.first b begins;
      }

  -- ---- what the node is then
  first-deleted : (s : Shape V) (byte b : ℕ) → BeginsWith b (prefix_of s)
      → BeginsWith b (prefix_of (with_deleted byte s))
  first-deleted (node prefix value width forest) byte b begins = begins

  value-deleted : (s : Shape V) (byte : ℕ) → value_of (with_deleted byte s) ≡ value_of s
  value-deleted (node prefix value width forest) byte = refl

  tree-kept : (s : Shape V) → IsOrdered s → (value_of s ≡ None → 1 < length (children_of s))
      → IsTree s
  tree-kept (node prefix value width forest) order some =
      (order.0, order.1, fork-is value forest some)

  -- with a value or two children
  pub lost-kept : (s child : Shape V) (byte : ℕ) → IsTree s
      → child_at byte (children_of s) ≡ Some child
      → (value_of s ≡ None → 2 < length (children_of s))
      → IsWithoutChild byte s (with_deleted byte s)
  lost-kept s child byte tree here many =
      let fewer = one-less s child byte (ascending s (ordered s tree)) here in
      record {
        tree = tree-kept (with_deleted byte s) (deleted-ordered s byte (ordered s tree))
            (λ none. let some = many (sym (value-deleted s byte) ∙ none) in
            omega (arith, some, fewer));
        finds = λ q. refl;
        first = first-deleted s byte;
      }

  -- merged with its only child
  pub lost-merged : (s only : Shape V) (byte other : ℕ) → IsTree s → value_of s ≡ None
      → HasOnly other only (with_deleted byte s)
      → IsWithoutChild byte s (merged (prefix_of (with_deleted byte s)) only)
  lost-merged s only byte other tree none is =
      let order = deleted-ordered s byte (ordered s tree) in
      record {
        tree = merged-tree (with_deleted byte s) only other order is;
        finds = λ q. merged-found (with_deleted byte s) only other q order
            (value-deleted s byte ∙ none) is;
        first = λ b begins. merged-first (prefix_of (with_deleted byte s)) only b
            (first-deleted s byte b begins);
      }

  -- ---- how long its prefix may be
  below-deleted : (forest : Forest V) (byte c : ℕ) (r : List ℕ)
      → IsSome (found_below (forest_of (without_child byte (entries_of forest))) (c ∷ r))
      → IsSome (found_below forest (c ∷ r))
  below-deleted forest byte c r there =
      let changed = forest_of (without_child byte (entries_of forest)) in
      let old = child_at c (entries_of forest) in
      elim (c == byte) as (λ t. IsSome (look (c ∷ r) (cond t None old))
      → IsSome (found_below forest (c ∷ r))) [
        | true ↦ λ none. absurd (false≢true none)
        | false ↦ λ some. subst IsSome (sym (found-below forest c r)) some
      ] (subst IsSome (found-below changed c r ∙ ap (look (c ∷ r)) (child_at-deleted forest byte c))
      there)

  deleted-some : (s : Shape V) (byte : ℕ) (q : List ℕ) → IsSome (found (with_deleted byte s) q)
      → IsSome (found s q)
  deleted-some (node prefix value width forest) byte q there =
      let changed = forest_of (without_child byte (entries_of forest)) in
      elim (strip_prefix prefix q) as (λ o. IsSome (option_and_then (inside value changed) o)
      → IsSome (option_and_then (inside value forest) o)) [
        | None ↦ λ none. none
        | Some r ↦ elim r as (λ r. IsSome (inside value changed r)
            → IsSome (inside value forest r)) [
              | [] ↦ λ some. some
              | c ∷ r ↦ below-deleted forest byte c r
            ]
      ] there

  pub deleted-admitted : (most : Option ℕ) (s : Shape V) (byte : ℕ) → AreAdmitted most s
      → AreAdmitted most (with_deleted byte s)
  deleted-admitted most s byte admitted q there = admitted q (deleted-some s byte q there)

  pub lost-one : (s child : Shape V) (byte : ℕ) → IsTree s
      → child_at byte (children_of s) ≡ Some child → value_of s ≡ None
      → length (children_of s) ≤ 2 → length (children_of (with_deleted byte s)) ≡ 1
  lost-one s child byte tree here none few =
      let fewer = one-less s child byte (ascending s (ordered s tree)) here in
      let more = forks s tree none in
      omega (arith, fewer, more, few)

  -- ---- the node above the one that has all under a prefix
  again-some : (o : Option (Shape V × List ℕ)) (below : Shape V × List ℕ)
      → option_and_then (λ b. Some (b.0, b.1)) o ≡ Some below → o ≡ Some below
  again-some None below is = absurd (none-some below is)
  again-some (Some b) below is = is

  pub above-step : (steps : ℕ) (p : List ℕ) (root : Shape V) (above : ℕ) (end parent : Shape V)
      (left : List ℕ) → StandsUnder p root (steps + 1) above end
      → path_end steps p root ≡ Some (parent, left)
      → step left parent ≡ Some (end, drop above p)
  above-step steps p root above end parent left stands reached =
      again-some (step left parent) (end, drop above p)
      (sym (back-is steps 1 (steps + 1) p root (parent, left) refl reached) ∙ stands.reached)

  pub above-there : (steps : ℕ) (p : List ℕ) (root : Shape V) (above : ℕ) (end : Shape V)
      → StandsUnder p root (steps + 1) above end → IsSome (path_end steps p root)
  above-there steps p root above end stands =
      front-there steps 1 (steps + 1) p root refl (ap is_some stands.reached)

  pub map-some : (o : Option (Shape V)) (w : List ℕ)
      → IsSome {T = Shape V × List ℕ} (option_map (λ child. (child, w)) o) → IsSome o
  map-some None w some = some
  map-some (Some child) w some = refl

  pub map-second : (o : Option (Shape V)) (w : List ℕ) (below : Shape V × List ℕ)
      → option_map (λ child. (child, w)) o ≡ Some below → w ≡ below.1
  map-second None w below is = absurd (none-some below is)
  map-second (Some child) w below is = ap (λ z. z.1) (same_Some (child, w) below is)
