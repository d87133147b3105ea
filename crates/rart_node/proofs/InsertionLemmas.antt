-- A value that is put at the end of a node's prefix, or below the node.
use Rattle.std.proofs.Common.{◌≡◌, ℕ, ◌<◌, List, [], ◌∷◌, ◌++◌, Option, Some, None, slice_get, length, cond, Bool, true, false, ◌&&◌, refl, arith, sym, ap, subst, ◌∙◌}
use Rattle.std.specs.Prelude.{◌==◌, IsTrue, T}
use Rattle.rart_below.proofs.AscendingLemmas.{ascending-with_child}
use Rattle.std.specs.Option.{option_and_then}
use Rattle.std.specs.declared.cmp.Ordering.{Ordering}
use Rattle.std.specs.declared.cmp.Ordering.TheVariants.{Less, Equal, Greater}
use Rattle.std.specs.Ordering.{nat_cmp, is_eq}
use Rattle.std.specs.Cmp.{unsigned_tied}
use Rattle.std.specs.Str.{bytes_eq}
use Rattle.std.proofs.lemmas.Bool.{eqb-true, false≢true}
use Rattle.std.proofs.lemmas.Cmp.{nat_cmp_total}
use Rattle.std.proofs.lemmas.List.{append-nil}
use Rattle.std.proofs.lemmas.Option.{same_Some, none-some}
use Rattle.std.specs.FinMap.{nat_cmp-IsAntisymmetric}
use Rattle.std.specs.FinMap.Entries.{by_order, find-put, same_entries}
use Rattle.rart_below.specs.Children as children
use Rattle.rart_below.specs.Children.{child_at, with_child}
use Rattle.rart_node.specs.Shape.{Shape, Forest, node, bare, grown, prefix_of, value_of, children_of, entries_of, forest_of, node_of, widened, with_value, with_added, with_replaced, entries_of-forest_of}
use Rattle.rart_node.specs.Trees.{strip_prefix, BeginsWith, at_end, found, found_below, is_key_or_fork, IsTree, IsOrdered, AreBranches, IsPut}
use Rattle.rart_node.proofs.PrefixRestLemmas.{is_left, bytes_eq-strip_prefix}
use Rattle.rart_node.proofs.FindLemmas.{found-below, branch}

holds : {t : Bool} → IsTrue t → T t
holds is = subst T (sym is) tt

module _ {V : Type 0} where
  -- ---- what is found behind a prefix, where one string has got another value
  lifted : (o : Option (List ℕ)) (key : List ℕ) (new : Option V) (old after : List ℕ → Option V)
      → ((q : List ℕ) → after q ≡ cond (bytes_eq q key) new (old q))
      → option_and_then after o ≡ cond (is_left o key) new (option_and_then old o)
  lifted None key new old after changed = refl
  lifted (Some rest) key new old after changed = changed rest

  pub lift : (p key q : List ℕ) (new : Option V) (old after : List ℕ → Option V)
      → ((rest : List ℕ) → after rest ≡ cond (bytes_eq rest key) new (old rest))
      → option_and_then after (strip_prefix p q)
      ≡ cond (bytes_eq q (p ++ key)) new (option_and_then old (strip_prefix p q))
  lift p key q new old after changed =
      rw (bytes_eq-strip_prefix p q key) (lifted (strip_prefix p q) key new old after changed)

  -- what is found behind a node's own prefix
  abbrev pub inside : Option V → Forest V → List ℕ → Option V
  inside value forest rest = at_end rest value (found_below forest rest)

  pub inside-value : (old new : Option V) (forest : Forest V) (rest : List ℕ)
      → inside new forest rest ≡ cond (bytes_eq rest []) new (inside old forest rest)
  inside-value old new forest [] = refl
  inside-value old new forest (b ∷ rest) = refl

  -- ---- the children, once one of them has changed
  pub forest_of-entries_of : (forest : Forest V) → forest_of (entries_of forest) ≡ forest
  forest_of-entries_of bare = refl
  forest_of-entries_of (grown byte child forest) =
      ap (grown byte child) (forest_of-entries_of forest)

  abbrev branches-of : Forest V → Type 0
  branches-of forest = AreBranches (forest_of (entries_of forest))

  branches-again : (forest : Forest V) → AreBranches forest → branches-of forest
  branches-again forest branches = subst AreBranches (sym (forest_of-entries_of forest)) branches

  pub branches-with : (forest : Forest V) (byte : ℕ) (child : Shape V) → AreBranches forest
      → IsTree child → BeginsWith byte (prefix_of child)
      → AreBranches (forest_of (with_child byte child (entries_of forest)))
  branches-with bare byte child branches tree begins = (begins, tree, tt)
  branches-with (grown b other forest) byte child branches tree begins =
      let P : Ordering → Type 0 =
      λ o. nat_cmp byte b ≡ o → AreBranches
      (forest_of (by_order o ((byte, child) ∷ (b, other) ∷ entries_of forest)
      ((b, child) ∷ entries_of forest)
      ((b, other) ∷ with_child byte child (entries_of forest)))) in
      let each : (o : Ordering) → P o = elim [
        | Less ↦ (λ is. (begins, tree, (branches.0, branches.1, branches-again forest branches.2)))
        | Equal ↦ (λ is. (
          subst (λ z. BeginsWith z (prefix_of child))
              (nat_cmp-IsAntisymmetric byte b is) begins,
          tree,
          branches-again forest branches.2,
        ))
        | Greater ↦ (λ is. (
          branches.0,
          branches.1,
          branches-with forest byte child branches.2 tree begins,
        ))
      ] in
      each (nat_cmp byte b) refl

  fork-over : (b : ℕ) (other : Shape V) (forest : Forest V) (byte : ℕ) (child : Shape V)
      → IsTrue (is_key_or_fork None (grown b other
      (forest_of (with_child byte child (entries_of forest)))))
  fork-over b other bare byte child = refl
  fork-over b other (grown c third forest) byte child =
      let P : Ordering → Type 0 =
      λ o. IsTrue (is_key_or_fork None (grown b other (forest_of
      (by_order o ((byte, child) ∷ (c, third) ∷ entries_of forest)
      ((c, child) ∷ entries_of forest)
      ((c, third) ∷ with_child byte child (entries_of forest)))))) in
      let each : (o : Ordering) → P o = elim [ Less ↦ refl | Equal ↦ refl | Greater ↦ refl ] in
      each (nat_cmp byte c)

  -- a child more, where there is a value or a child
  fork-added : (value : Option V) (forest : Forest V) (byte : ℕ) (child : Shape V)
      → (value ≡ None → 0 < length (entries_of forest))
      → child_at byte (entries_of forest) ≡ None
      → IsTrue (is_key_or_fork value (forest_of (with_child byte child (entries_of forest))))
  fork-added (Some value) forest byte child some absent = refl
  fork-added None bare byte child some absent =
      let none = some refl in absurd (omega (arith, none))
  fork-added None (grown b other forest) byte child some absent =
      let P : Ordering → Type 0 =
      λ o. nat_cmp byte b ≡ o → IsTrue (is_key_or_fork None (forest_of
      (by_order o ((byte, child) ∷ (b, other) ∷ entries_of forest)
      ((b, child) ∷ entries_of forest)
      ((b, other) ∷ with_child byte child (entries_of forest))))) in
      let each : (o : Ordering) → P o = elim [
        | Less ↦ (λ is. refl)
        | Equal ↦ (λ is. absurd (none-some other (sym absent
            ∙ ap (λ o. cond (is_eq o) (Some other) (child_at byte (entries_of forest))) is)))
        | Greater ↦ (λ is. fork-over b other forest byte child)
      ] in
      each (nat_cmp byte b) refl

  -- a child added, or put in place of another
  pub fork-with : (value : Option V) (forest : Forest V) (byte : ℕ) (child : Shape V)
      → IsTrue (is_key_or_fork value forest)
      → IsTrue (is_key_or_fork value (forest_of (with_child byte child (entries_of forest))))
  fork-with (Some value) forest byte child fork = refl
  fork-with None bare byte child fork = absurd (false≢true fork)
  fork-with None (grown b other bare) byte child fork = absurd (false≢true fork)
  fork-with None (grown b other (grown c third forest)) byte child fork =
      let P : Ordering → Type 0 =
      λ o. IsTrue (is_key_or_fork None (forest_of
      (by_order o ((byte, child) ∷ (b, other) ∷ (c, third) ∷ entries_of forest)
      ((b, child) ∷ (c, third) ∷ entries_of forest)
      ((b, other) ∷ with_child byte child ((c, third) ∷ entries_of forest))))) in
      let each : (o : Ordering) → P o = elim [
        | Less ↦ refl
        | Equal ↦ refl
        | Greater ↦ fork-over b other (grown c third forest) byte child
      ] in
      each (nat_cmp byte b)

  -- what the child under a byte has
  abbrev pub in-child : ℕ → Forest V → List ℕ → Option V
  in-child byte forest q =
      option_and_then (λ child. found child q) (child_at byte (entries_of forest))

  pub ascending-with : (forest : Forest V) (byte : ℕ) (child : Shape V)
      → children.IsAscending (entries_of forest)
      → children.IsAscending (entries_of (forest_of (with_child byte child (entries_of forest))))
  ascending-with forest byte child ascending =
      subst children.IsAscending (sym
      (entries_of-forest_of (with_child byte child (entries_of forest))))
      (ascending-with_child byte child (entries_of forest) ascending)

  below-with : (forest : Forest V) (byte : ℕ) (child : Shape V) (rest : List ℕ) (new : Option V)
      → ((q : List ℕ) → found child q
      ≡ cond (bytes_eq q (byte ∷ rest)) new (in-child byte forest q))
      → (c : ℕ) (q : List ℕ) → found_below (forest_of (with_child byte child (entries_of forest)))
      (c ∷ q) ≡ cond (bytes_eq (c ∷ q) (byte ∷ rest)) new (found_below forest (c ∷ q))
  below-with forest byte child rest new changed c q =
      let entries = entries_of forest in
      let look : Option (Shape V) → Option V = option_and_then (λ s. found s (c ∷ q)) in
      let P : Bool → Type 0 =
      λ t. (c == byte) ≡ t → look (cond t (Some child) (child_at c entries))
      ≡ cond (t && bytes_eq q rest) new (look (child_at c entries)) in
      let both : (t : Bool) → P t = elim [
        | true ↦ (λ same.
            let Q : ℕ → Type 0 =
            λ z. found child (c ∷ q) ≡ cond (bytes_eq q rest) new (look (child_at z entries)) in
            let here = eqb-true c byte same in
            subst Q (sym here) (changed (c ∷ q)
            ∙ ap (λ (t : Bool). cond (t && bytes_eq q rest) new (look (child_at byte entries)))
            same))
        | false ↦ (λ differs. refl)
      ] in
      found-below (forest_of (with_child byte child entries)) c q
      ∙ ap look (ap (child_at c) (entries_of-forest_of (with_child byte child entries))
      ∙ find-put nat_cmp nat_cmp_total c byte child entries
      ∙ ap (λ t. cond t (Some child) (child_at c entries)) (unsigned_tied c byte))
      ∙ both (c == byte) refl
      ∙ ap (cond (bytes_eq (c ∷ q) (byte ∷ rest)) new) (sym (found-below forest c q))

  pub inside-with : (value : Option V) (forest : Forest V) (byte : ℕ) (child : Shape V)
      (rest : List ℕ) (new : Option V)
      → ((q : List ℕ) → found child q
      ≡ cond (bytes_eq q (byte ∷ rest)) new (in-child byte forest q))
      → (q : List ℕ) → inside value (forest_of (with_child byte child (entries_of forest))) q
      ≡ cond (bytes_eq q (byte ∷ rest)) new (inside value forest q)
  inside-with value forest byte child rest new changed [] = refl
  inside-with value forest byte child rest new changed (c ∷ q) =
      below-with forest byte child rest new changed c q

  -- ---- putting
  pub put-end : (s : Shape V) (key rest : List ℕ) (value : V) → IsOrdered s
      → key ≡ prefix_of s ++ rest → rest ≡ [] → IsPut key value s (with_value (Some value) s)
  put-end (node prefix old width forest) key rest value order is end =
      rw (is, end) (
        (order.0, order.1, refl),
        (λ q. lift prefix [] q (Some value) (inside old forest) (inside (Some value) forest)
            (inside-value old (Some value) forest)),
        λ byte begins also. begins,
      )

  -- a child is put under the next byte, in place of the one that is there
  put-child : (prefix : List ℕ) (old : Option V) (width width' : ℕ) (forest : Forest V) (byte : ℕ)
      (child : Shape V) (key rest : List ℕ) (value : V)
      → IsOrdered (node prefix old width forest) → key ≡ prefix ++ (byte ∷ rest) → IsTree child
      → BeginsWith byte (prefix_of child)
      → ((q : List ℕ) → found child q
      ≡ cond (bytes_eq q (byte ∷ rest)) (Some value) (in-child byte forest q))
      → IsTrue (is_key_or_fork old (forest_of (with_child byte child (entries_of forest))))
      → IsPut key value (node prefix old width forest)
      (node prefix old width' (forest_of (with_child byte child (entries_of forest))))
  put-child prefix old width width' forest byte child key rest value order is tree begins puts
      fork =
      let after = forest_of (with_child byte child (entries_of forest)) in
      rw is (
        (
          ascending-with forest byte child order.0,
          branches-with forest byte child order.1 tree begins,
          fork,
        ),
        (λ q. lift prefix (byte ∷ rest) q (Some value) (inside old forest) (inside old after)
            (inside-with old forest byte child rest (Some value) puts)),
        λ first begins also. begins,
      )

  pub nothing-left : (o : Option (List ℕ)) → option_and_then (inside None bare) o ≡ None
  nothing-left None = refl
  nothing-left (Some []) = refl
  nothing-left (Some (b ∷ rest)) = refl

  pub found-leaf : (key : List ℕ) (value : V) (q : List ℕ)
      → found (node_of key (Some value) 0 []) q ≡ cond (bytes_eq q key) (Some value) None
  found-leaf key value q =
      let put =
      lift key [] q (Some value) (inside None bare) (inside (Some value) bare)
      (inside-value None (Some value) bare) in
      subst (λ z. option_and_then (inside (Some value) bare) (strip_prefix key q)
      ≡ cond (bytes_eq q z) (Some value)
      (option_and_then (inside None bare) (strip_prefix key q))) (append-nil key) put
      ∙ ap (cond (bytes_eq q key) (Some value)) (nothing-left (strip_prefix key q))

  pub put-leaf : (s : Shape V) (key rest : List ℕ) (byte : ℕ) (value : V) → IsOrdered s
      → (value_of s ≡ None → 0 < length (children_of s)) → key ≡ prefix_of s ++ rest
      → slice_get rest 0 ≡ Some byte → child_at byte (children_of s) ≡ None
      → IsPut key value s (with_added byte (node_of rest (Some value) 0 []) s)
  put-leaf (node prefix old width forest) key [] byte value order some is next absent =
      absurd (none-some byte next)
  put-leaf (node prefix old width forest) key (b ∷ rest) byte value order some is next absent =
      let leaf = node_of (b ∷ rest) (Some value) 0 [] in
      let same = same_Some b byte next in
      put-child prefix old width (widened width (length (entries_of forest))) forest byte leaf key
      rest value order (subst (λ z. key ≡ prefix ++ (z ∷ rest)) same is) (refl, tt, refl) same
      (λ q. rw absent (found-leaf (b ∷ rest) value q
      ∙ ap (λ z. cond (bytes_eq q (z ∷ rest)) (Some value) None) same))
      (fork-added old forest byte leaf some absent)

  pub put-below : (s child after : Shape V) (key rest : List ℕ) (byte : ℕ) (value : V) → IsTree s
      → key ≡ prefix_of s ++ rest → slice_get rest 0 ≡ Some byte
      → child_at byte (children_of s) ≡ Some child → IsPut rest value child after
      → IsPut key value s (with_replaced byte after s)
  put-below (node prefix old width forest) child after key [] byte value tree is next here puts =
      absurd (none-some byte next)
  put-below (node prefix old width forest) child after key
      (b ∷ rest) byte value tree is next here puts =
      let same = same_Some b byte next in
      let order : IsOrdered (node prefix old width forest) = (tree.0, tree.1) in
      let begins = (branch (node prefix old width forest) byte child order here).begins in
      put-child prefix old width width forest byte after key rest value order
      (subst (λ z. key ≡ prefix ++ (z ∷ rest)) same is) puts.0 (puts.2 byte begins same)
      (λ q. rw here (puts.1 q ∙ ap (λ z. cond (bytes_eq q (z ∷ rest)) (Some value) (found child q))
      same)) (fork-with old forest byte after tree.2)

  -- ---- a child that is put back as it was
  with_child-same : (entries : List (ℕ × Shape V)) (byte : ℕ) (child : Shape V)
      → children.IsAscending entries → child_at byte entries ≡ Some child
      → with_child byte child entries ≡ entries
  with_child-same entries byte child ascending here =
      same_entries nat_cmp nat_cmp_total nat_cmp-IsAntisymmetric
      (with_child byte child entries) entries
      (holds (ascending-with_child byte child entries ascending)) (holds ascending) (λ q.
      let P : Bool → Type 0 =
      λ t. (q == byte) ≡ t → cond t (Some child) (child_at q entries) ≡ child_at q entries in
      let both : (t : Bool) → P t =
      elim [
        | true ↦ (λ same. sym (ap (λ z. child_at z entries) (eqb-true q byte same) ∙ here))
        | false ↦ (λ differs. refl)
      ] in
      find-put nat_cmp nat_cmp_total q byte child entries
      ∙ ap (λ t. cond t (Some child) (child_at q entries)) (unsigned_tied q byte)
      ∙ both (q == byte) refl)

  pub replaced-same : (s : Shape V) (byte : ℕ) (child : Shape V) → IsOrdered s
      → child_at byte (children_of s) ≡ Some child → with_replaced byte child s ≡ s
  replaced-same (node prefix value width forest) byte child order here =
      ap (λ entries. node prefix value width (forest_of entries))
      (with_child-same (entries_of forest) byte child order.0 here)
      ∙ ap (node prefix value width) (forest_of-entries_of forest)
