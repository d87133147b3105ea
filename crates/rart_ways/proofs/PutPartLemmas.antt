-- A part that is put under a prefix: what it has, and what becomes of the node that it is put at.
use Rattle.std.proofs.Common.{◌≡◌, ℕ, suc, ◌+◌, ◌<◌, ◌≤◌, List, [], ◌∷◌, ◌++◌, Option, Some, None, is_some, slice_get, length, take, drop, length-drop, cond, true, false, refl, arith, sym, ap, subst, ◌∙◌, append_assoc}
use Rattle.std.specs.Prelude.{◌-◌, ◌==◌, IsTrue, T, slice_index_or}
use Rattle.std.specs.Option.{option_and_then}
use Rattle.std.specs.FinMap.Entries.{length-put}
use Rattle.std.specs.Ordering.{nat_cmp}
use Rattle.std.proofs.Math.Seq.{drop-append-add, drop-append_seam, drop-cons}
use Rattle.std.proofs.lemmas.Bool.{and_parts, eqb-true, false≢true}
use Rattle.std.proofs.lemmas.Cmp.{nat_cmp_total}
use Rattle.std.proofs.lemmas.List.{drop-append-le, drop-drop, length-append, length-take-le, take-append-drop}
use Rattle.rart_below.specs.Bytes.{IsAdmitted, begins, common_length}
use Rattle.rart_below.specs.Children as children
use Rattle.rart_below.specs.Children.{child_at, with_child}
use Rattle.rart_maps.proofs.OrderLemmas.{begins-append, begins-rest}
use Rattle.rart_node.specs.Counts.{Counts, CountsUpTo}
use Rattle.rart_node.specs.Shape.{Shape, Forest, node, prefix_of, value_of, children_of, entries_of, forest_of, is_full_at, widened, widenings, with_added, with_prefix, with_replaced, entries_of-forest_of}
use Rattle.rart_node.specs.Trees.{strip_prefix, BeginsWith, found, IsTree, IsOrdered, cut_at, path_bound}
use Rattle.rart_node.proofs.CountingLemmas.{counts-opened, counts-then, path-one}
use Rattle.rart_node.proofs.FindLemmas.{branch, ordered, tree-some}
use Rattle.rart_node.proofs.InsertionLemmas.{in-child, ascending-with, branches-with}
use Rattle.rart_node.proofs.PrefixRestLemmas.{strip_prefix-own, strip_prefix-is, split-common, common-within, begins-common}
use Rattle.rart_node.proofs.AlongLemmas.{begins-along}
use Rattle.rart_ways.specs.Prefixes.{IsGrafted, IsPart, IsUnderAlone, StandsUnder, part_of, tail_of, under_or}
use Rattle.rart_ways.specs.Removals.{AreAdmitted}
use Rattle.rart_ways.specs.declared.prefixes.ending.PrefixEnd.{PrefixEnd}
use Rattle.rart_ways.proofs.CutNodeLemmas.{cut-absent, cut-child, cut-found, cut-ordered}
use Rattle.rart_ways.proofs.GraftLemmas.{look, below-changed, node-changed, child_at-with, grafted-child}
use Rattle.rart_ways.proofs.InsertionStepLemmas.{path-down, whole-key}
use Rattle.rart_ways.proofs.UnderPrefixLemmas.{common-begins, strip-begins, lifted-alone, lifted-found, not-begun, stands-admitted}
use Rattle.rart_ways.proofs.RemovalLemmas.{fork-is}

-- Behind more than the bytes above there is less of its own.
pub drop-above : (p own : List ℕ) (above count : ℕ) → above ≤ length p → above ≤ count
    → drop count (take above p ++ own) ≡ drop (count - above) own
drop-above p own above count within ge =
    let long = length-take-le above p within in
    let is : count ≡ length (take above p) + (count - above) = omega (arith, long, ge) in
    ap (λ n. drop n (take above p ++ own)) is ∙ drop-append-add (take above p) own (count - above)

-- What a string begins with, each string begins with that it begins.
first-begun : (p q : List ℕ) (b : ℕ) → begins p q ≡ true → BeginsWith b p → BeginsWith b q
first-begun [] q b begun first = absurd first
first-begun (c ∷ p) [] b begun first = absurd (false≢true begun)
first-begun (c ∷ p) (d ∷ q) b begun first =
    sym (eqb-true c d (and_parts (c == d) (begins p q) begun).0) ∙ first

pub begun-long : (p q : List ℕ) → begins p q ≡ true → length p ≤ length q
begun-long p q begun =
    let more = begins-rest p q begun in
    let long = ap length more.1 ∙ length-append p more.0 in
    omega (arith, long)

holds : {t : _} → IsTrue t → T t
holds is = subst T (sym is) tt

module _ {V : Type 0} where
  -- All that the tree has stands under r, and is what `under` has behind that.
  pub record IsAllUnder (r : List ℕ) (under : List ℕ → Option V) (t : Shape V) : Type 0 where
    pub tree : IsTree t
    pub begun : begins r (prefix_of t) ≡ true
    pub finds : (q : List ℕ) → found t q ≡ under_or (strip_prefix r q) under None

  -- Without what stands above, it stands under the rest of the prefix.
  pub part-tail : (part : Shape V) (p : List ℕ) (above : ℕ) → IsTree part
      → begins p (prefix_of part) ≡ true → above ≤ length p
      → IsAllUnder (drop above p) (λ rest. found part (p ++ rest)) (tail_of above part)
  part-tail (node prefix value width forest) p above tree begun within =
      let r = drop above p in
      let front = take above p in
      let t = node (drop above prefix) value width forest in
      let part = node prefix value width forest in
      let more = begins-rest p prefix begun in
      let whole : front ++ r ≡ p = take-append-drop above p in
      let left : drop above prefix ≡ r ++ more.0 =
      ap (drop above) more.1 ∙ drop-append-le above p more.0 within in
      let again : front ++ drop above prefix ≡ prefix =
      ap (λ z. front ++ z) left ∙ sym (append_assoc front r more.0)
      ∙ ap (λ z. z ++ more.0) whole ∙ sym more.1 in
      let goes : (q : List ℕ) → found part (front ++ q) ≡ found t q =
      λ q. ap (λ z. found (node z value width forest) (front ++ q)) (sym again)
      ∙ lifted-found t front (front ++ q)
      ∙ ap (option_and_then (found t)) (strip_prefix-own front q) in
      let also : begins r (drop above prefix) ≡ true =
      ap (begins r) left ∙ begins-append r more.0 in
      record {
        tree = tree;
        begun = also;
        finds = λ q. elim (strip_prefix r q) as (λ o. strip_prefix r q ≡ o
            → found t q ≡ under_or o (λ rest. found part (p ++ rest)) None) [
              | None ↦ λ apart. not-begun t r q also (strip-begins r q ∙ ap is_some apart)
              | Some w ↦ λ is. ap (found t) (strip_prefix-is r q w is) ∙ sym (goes (r ++ w))
                  ∙ ap (found part) (sym (append_assoc front r w) ∙ ap (λ z. z ++ w) whole)
            ] refl;
      }

  -- ---- behind some of the bytes above it
  pub tail-lifted : (s : Shape V) (front : List ℕ) (count : ℕ)
      → tail_of count (with_prefix (front ++ prefix_of s) s)
      ≡ with_prefix (drop count (front ++ prefix_of s)) s
  tail-lifted (node prefix value width forest) front count = refl

  -- What begins it is no longer than these bytes and its own.
  pub own-long : (s : Shape V) (p : List ℕ) (above : ℕ) → above ≤ length p
      → begins p (prefix_of (with_prefix (take above p ++ prefix_of s) s)) ≡ true
      → length p ≤ above + length (prefix_of s)
  own-long (node prefix value width forest) p above within begun =
      let long = begun-long p (take above p ++ prefix) begun in
      let both = length-append (take above p) prefix in
      let front = length-take-le above p within in
      omega (arith, long, both, front)

  -- behind just those
  pub tail-own : (s : Shape V) (p : List ℕ) (above : ℕ) → above ≤ length p
      → tail_of above (with_prefix (take above p ++ prefix_of s) s) ≡ s
  tail-own (node prefix value width forest) p above within =
      ap (λ z. node z value width forest)
      (subst (λ n. drop n (take above p ++ prefix) ≡ prefix) (length-take-le above p within)
      (drop-append_seam (take above p) prefix))

  -- ---- in the place of a node
  pub put-over : (s t : Shape V) (r : List ℕ) (under : List ℕ → Option V) → IsAllUnder r under t
      → begins r (prefix_of s) ≡ true → IsGrafted r under s t
  put-over s t r under part begun =
      record {
        tree = part.tree;
        finds = λ q. part.finds q
            ∙ elim (strip_prefix r q) as (λ o. strip_prefix r q ≡ o
            → under_or o under None ≡ under_or o under (found s q)) [
              | None ↦ λ apart.
                  sym (not-begun s r q begun (strip-begins r q ∙ ap is_some apart))
              | Some w ↦ λ _. refl
            ] refl;
        first = λ b begins also. first-begun r (prefix_of t) b part.begun also;
      }

  -- ---- as a child of a node
  more-children : (forest : Forest V) (byte : ℕ) (t : Shape V)
      → children.IsAscending (entries_of forest) → child_at byte (entries_of forest) ≡ None
      → length (entries_of (forest_of (with_child byte t (entries_of forest))))
      ≡ length (entries_of forest) + 1
  more-children forest byte t ascending absent =
      let entries = entries_of forest in
      ap length (entries_of-forest_of (with_child byte t entries))
      ∙ length-put nat_cmp nat_cmp_total byte t entries (holds ascending)
      ∙ ap (λ o. cond (is_some o) (length entries) (length entries + 1)) absent

  pub put-added : (s t : Shape V) (p : List ℕ) (byte : ℕ) (rest : List ℕ)
      (under : List ℕ → Option V) → IsOrdered s
      → (value_of s ≡ None → 0 < length (children_of s)) → p ≡ prefix_of s ++ (byte ∷ rest)
      → child_at byte (children_of s) ≡ None → IsAllUnder (byte ∷ rest) under t
      → IsGrafted p under s (with_added byte t s)
  put-added (node prefix value width forest) t p byte rest under order some is absent part =
      let entries = entries_of forest in
      let changed = forest_of (with_child byte t entries) in
      let at : (c : ℕ) → child_at c (entries_of changed)
      ≡ cond (c == byte) (Some t) (child_at c entries) =
      λ c. ap (child_at c) (entries_of-forest_of (with_child byte t entries))
      ∙ child_at-with entries byte c t in
      let has : (q : List ℕ) → found t q
      ≡ under_or (strip_prefix (byte ∷ rest) q) under (in-child byte forest q) =
      λ q. part.finds q
      ∙ ap (λ o. under_or (strip_prefix (byte ∷ rest) q) under (look q o)) (sym absent) in
      let long = more-children forest byte t order.0 absent in
      record {
        tree = (
          ascending-with forest byte t order.0,
          branches-with forest byte t order.1 part.tree
              (first-begun (byte ∷ rest) (prefix_of t) byte part.begun refl),
          fork-is value changed (λ none. let one = some none in omega (arith, one, long)),
        );
        finds = λ q. node-changed prefix value width (widened width (length entries)) forest
            changed byte rest under
            (below-changed forest changed byte rest under (Some t) at has) q
            ∙ ap (λ z. under_or (strip_prefix z q) under
            (found (node prefix value width forest) q)) (sym is);
        first = λ b begins also. begins;
      }

  -- ---- beside a node
  cut-prefix : (s : Shape V) (at : ℕ) → prefix_of (cut_at at s) ≡ take at (prefix_of s)
  cut-prefix (node prefix value width forest) at = refl

  cut-grafted : (s after : Shape V) (at : ℕ) (key : List ℕ) (under : List ℕ → Option V)
      → at ≡ common_length (prefix_of s) key → at < length (prefix_of s)
      → IsGrafted key under (cut_at at s) after → IsGrafted key under s after
  cut-grafted s after at key under is lt grafted =
      record {
        tree = grafted.tree;
        finds = λ q. grafted.finds q
            ∙ ap (under_or (strip_prefix key q) under) (cut-found s at q lt);
        first = λ b begins also. grafted.first b
            (subst (BeginsWith b) (ap (λ z. take z (prefix_of s)) (sym is)
            ∙ sym (cut-prefix s at)) (begins-common (prefix_of s) key b begins also)) also;
      }

  pub put-cut_at : (s t : Shape V) (at : ℕ) (r : List ℕ) (byte : ℕ) (rest : List ℕ)
      (under : List ℕ → Option V) → IsTree s → at ≡ common_length (prefix_of s) r
      → at < length (prefix_of s) → drop at r ≡ byte ∷ rest → IsAllUnder (byte ∷ rest) under t
      → IsGrafted r under s (with_added byte t (cut_at at s))
  put-cut_at s t at r byte rest under tree is lt next part =
      let whole : r ≡ prefix_of (cut_at at s) ++ (byte ∷ rest) =
      subst (λ z. r ≡ take z (prefix_of s) ++ drop z r) (sym is) (split-common (prefix_of s) r)
      ∙ (λ i. sym (cut-prefix s at) i ++ next i) in
      cut-grafted s (with_added byte t (cut_at at s)) at r under is lt
      (put-added (cut_at at s) t r byte rest under (cut-ordered s at tree lt)
      (λ none. cut-child s at) whole
      (cut-absent s at r byte is lt (ap (λ z. slice_get z 0) next)) part)

  -- ---- at a node of the way
  module _ (s part : Shape V) (p : List ℕ) (above common : ℕ)
      (is : common ≡ common_length (prefix_of s) (drop above p)) (tree : IsTree s)
      (within : above ≤ length p) where
    abbrev under : List ℕ → Option V
    under rest = found part (p ++ rest)

    abbrev byte : ℕ
    byte = slice_index_or p (above + common) 0

    pub level-within : above + common ≤ length p
    level-within =
        let fits = (common-within (prefix_of s) (drop above p)).1 in
        let long = length-drop above p in omega (arith, is, fits, long, within)

    pub level-over : IsTree part → begins p (prefix_of part) ≡ true
        → common ≡ length (drop above p)
        → IsGrafted (drop above p) under s (tail_of above part)
    level-over whole begun all =
        put-over s (tail_of above part) (drop above p) under
        (part-tail part p above whole begun within)
        (common-begins (prefix_of s) (drop above p) (sym is ∙ all))

    module _ (other : common ≡ length (drop above p) → ⊥) where
      pub level-inside : above + common < length p
      level-inside =
          let fits = (common-within (prefix_of s) (drop above p)).1 in
          let long = length-drop above p in omega (arith, is, fits, long, within, other)

      next : drop (above + common) p ≡ byte ∷ drop (suc (above + common)) p
      next = drop-cons p (above + common) 0 level-inside

      left : drop common (drop above p) ≡ byte ∷ drop (suc (above + common)) p
      left = drop-drop common above p ∙ next

      lower : IsTree part → begins p (prefix_of part) ≡ true
          → IsAllUnder (byte ∷ drop (suc (above + common)) p) under (tail_of (above + common) part)
      lower whole begun =
          subst (λ z. IsAllUnder z under (tail_of (above + common) part)) next
          (part-tail part p (above + common) whole begun level-within)

      pub level-absent : common < length (prefix_of s)
          → child_at byte (children_of (cut_at common s)) ≡ None
      level-absent lt =
          cut-absent s common (drop above p) byte is lt (ap (λ z. slice_get z 0) left)

      pub level-beside : IsTree part → begins p (prefix_of part) ≡ true
          → common < length (prefix_of s)
          → IsGrafted (drop above p) under s
          (with_added byte (tail_of (above + common) part) (cut_at common s))
      level-beside whole begun lt =
          put-cut_at s (tail_of (above + common) part) common (drop above p) byte
          (drop (suc (above + common)) p) under tree is lt left (lower whole begun)

      -- the whole prefix of the node is matched
      module _ (le : length (prefix_of s) ≤ common) where
        along : drop above p ≡ prefix_of s ++ (byte ∷ drop (suc (above + common)) p)
        along = whole-key s (drop above p) common is le ∙ ap (λ z. prefix_of s ++ z) left

        pub level-added : IsTree part → begins p (prefix_of part) ≡ true
            → child_at byte (children_of s) ≡ None
            → IsGrafted (drop above p) under s (with_added byte (tail_of (above + common) part) s)
        level-added whole begun absent =
            put-added s (tail_of (above + common) part) (drop above p) byte
            (drop (suc (above + common)) p) under (ordered s tree) (tree-some s tree) along absent
            (lower whole begun)

        pub level-down : (child after : Shape V) → child_at byte (children_of s) ≡ Some child
            → IsGrafted (drop (above + common) p) under child after
            → IsGrafted (drop above p) under s (with_replaced byte after s)
        level-down child after here grafted =
            grafted-child s child after (drop above p) byte (drop (suc (above + common)) p) under
            tree along here (subst (λ z. IsGrafted z under child after) next grafted)

        pub level-path : (child : Shape V) → child_at byte (children_of s) ≡ Some child
            → 1 + path_bound child (drop (above + common) p) ≤ path_bound s (drop above p)
        level-path child here =
            subst (λ z. 1 + path_bound child z ≤ path_bound s (drop above p))
            (drop-drop common above p)
            (path-down s (drop above p) common is child byte
            (branch s byte child (ordered s tree) here) le (ap (λ z. slice_get z 0) left))

  -- ---- how many nodes are made
  pub widenings-most : (s : Shape V) → widenings s ≤ 1
  widenings-most (node prefix value width forest) =
      elim (is_full_at width (length (entries_of forest))) as (λ t. cond t 1 0 ≤ 1)
      [ true ↦ omega arith | false ↦ omega arith ]

  pub widenings-cut : (s : Shape V) (at : ℕ) → widenings (cut_at at s) ≡ 0
  widenings-cut (node prefix value width forest) at = refl

  pub counts-end : {made : ℕ} {start between now : Counts} (s : Shape V) (key : List ℕ)
      → between ≡ record { entered = start.entered + 1; made = start.made + 1 }
      → CountsUpTo 0 made between now → made ≤ 2
      → CountsUpTo (path_bound s key) (path_bound s key + 2) start now
  counts-end {start = start} {between} s key opens later few =
      let one = path-one s key in
      counts-then (counts-opened start between opens) later (omega (arith, one))
      (omega (arith, one, few))

  pub counts-down : {start between now : Counts} (s child : Shape V) (key rest : List ℕ)
      → between ≡ record { entered = start.entered + 1; made = start.made + 1 }
      → CountsUpTo (path_bound child rest) (path_bound child rest + 2) between now
      → 1 + path_bound child rest ≤ path_bound s key
      → CountsUpTo (path_bound s key) (path_bound s key + 2) start now
  counts-down {start} {between} s child key rest opens later lower =
      counts-then (counts-opened start between opens) later (omega (arith, lower))
      (omega (arith, lower))

-- ---- all that a prefix begins, where it stands below a root
module _ {V : Type 0} where
  with_prefix-is : (prefix : List ℕ) (s : Shape V) → prefix_of (with_prefix prefix s) ≡ prefix
  with_prefix-is prefix (node old value width forest) = refl

  pub tail-none : (s : Shape V) → tail_of 0 s ≡ s
  tail-none (node prefix value width forest) = refl

module _ {P V : Type 0} (end : PrefixEnd P V) (p : List ℕ) (root : Shape V) (tree : IsTree root)
    (stands : StandsUnder p root end.steps end.above end.at.now.shape)
    (same : end.node.now.shape ≡ end.at.now.shape) (is : end.prefix.now ≡ p) where
  begun : begins p (prefix_of (part_of end)) ≡ true
  begun =
      let s = end.node.now.shape in
      let above = end.above in
      ap (begins p) (with_prefix-is (take above end.prefix.now ++ prefix_of s) s)
      ∙ (λ i. begins (sym (take-append-drop above p) i) (take above (is i) ++ prefix_of (same i)))
      ∙ begins-along (take above p) (drop above p) (prefix_of end.at.now.shape) ∙ stands.begun

  pub part-alone : IsUnderAlone p root (Some (part_of end))
  part-alone =
      subst (λ z. IsUnderAlone p root (Some z))
      (λ i. with_prefix (take end.above (sym is i) ++ prefix_of (sym same i)) (sym same i))
      (lifted-alone root end.at.now.shape p end.steps end.above tree stands)

  pub part-stands : (most : Option ℕ) → AreAdmitted most root → IsPart most end
  part-stands most lengths =
      record {
        within = subst (λ z. end.above ≤ length z) (sym is) stands.within;
        tree = part-alone.0;
        begun = subst (λ z. begins z (prefix_of (part_of end)) ≡ true) (sym is) begun;
        same = sym same;
        admitted = subst (λ z. IsAdmitted most (end.above + length (prefix_of z))) (sym same)
            (stands-admitted most root end.at.now.shape p end.steps end.above tree stands lengths);
      }

  pub part-put : (before after : Shape V)
      → IsGrafted end.prefix.now (λ rest. found (part_of end) (end.prefix.now ++ rest)) before after
      → IsGrafted p (λ rest. found root (p ++ rest)) before after
  part-put before after put =
      let grafted = subst (λ z. IsGrafted z (λ rest. found (part_of end) (z ++ rest)) before after)
      is put in
      record {
        tree = grafted.tree;
        finds = λ q. grafted.finds q
            ∙ elim (strip_prefix p q) as (λ o.
            under_or o (λ rest. found (part_of end) (p ++ rest)) (found before q)
            ≡ under_or o (λ rest. found root (p ++ rest)) (found before q)) [
              | None ↦ refl
              | Some w ↦ part-alone.1 (p ++ w)
                  ∙ ap (λ t. cond t (found root (p ++ w)) None) (begins-append p w)
            ];
        first = grafted.first;
      }
