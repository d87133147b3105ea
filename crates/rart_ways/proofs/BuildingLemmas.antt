-- A node that gets its children from the last to the first, and the pairs that are left meanwhile.
use Rattle.std.proofs.Common.{◌≡◌, ◌<◌, ◌≤◌, ℕ, zero, suc, ◌+◌, true, false, cond, List, [], ◌∷◌, ◌++◌, length, take, drop, refl, sym, ap, subst, ◌∙◌, arith, Option, None}
use Rattle.std.specs.FinMap.Entries.{is_sorted}
use Rattle.std.proofs.lemmas.List.{append_assoc, length-take-le, take-take}
use Rattle.rart_below.specs.Bytes.{byte_order}
use Rattle.rart_below.specs.Children as children
use Rattle.rart_below.specs.Children.{child_at, with_child}
use Rattle.rart_below.specs.Laws.{IsBelow, ascending_from}
use Rattle.rart_below.proofs.AscendingLemmas.{with_child-below}
use Rattle.rart_node.specs.Nodes.{nodes_of, nodes_below}
use Rattle.rart_node.specs.Shape.{Shape, Forest, node, grown, entries_of, is_full_at, prefix_of, widenings, with_added, width_for}
use Rattle.rart_node.specs.Trees.{BeginsWith, AreBranches, IsTree, pairs_of, pairs_below}
use Rattle.rart_node.proofs.InsertionLemmas.{forest_of-entries_of}
use Rattle.rart_ways.specs.Runs.{AllBegin, EndsBesides, run_from, runs}
use Rattle.rart_ways.proofs.AscendingRunLemmas.{AllUnder, all-some, front-under, not_full, run-below, run-split, runs-split, sorted-back, sorted-front, under-front}

-- the children where one more is put below those that are there
added-below : {V : Type 0} (prefix : List ℕ) (value : Option V) (width byte : ℕ) (child : Shape V)
    (forest : Forest V) → is_full_at width (length (entries_of forest)) ≡ false
    → IsBelow byte (entries_of forest)
    → with_added byte child (node prefix value width forest)
    ≡ node prefix value width (grown byte child forest)
added-below prefix value width byte child forest room below =
    rw (room, with_child-below byte child (entries_of forest) below)
    (ap (λ f. node prefix value width (grown byte child f)) (forest_of-entries_of forest))

module _ {V : Type 0} where
  -- What the last run leaves, where it makes a child.
  pub record RunTaken (forest : Forest V) (byte count : ℕ) (front : List (List ℕ × V)) : Type 0 where
    pub below : IsBelow byte (entries_of forest)
    pub under : (child : Shape V) → AllUnder (grown byte child forest) front
    pub counted : runs front + 1 + length (entries_of forest) ≡ count
    pub sorted : is_sorted byte_order front ≡ true

  run-taken : (forest : Forest V) (byte count : ℕ) (front : List (List ℕ × V)) (p : List ℕ × V)
      (l : List (List ℕ × V)) → is_sorted byte_order (front ++ (p ∷ l)) ≡ true
      → AllUnder forest (front ++ (p ∷ l)) → AllBegin byte (p ∷ l) → EndsBesides byte front
      → runs (front ++ (p ∷ l)) + length (entries_of forest) ≡ count
      → RunTaken forest byte count front
  run-taken forest byte count front p l sorted under all apart counted =
      let parts = under-front forest front (p ∷ l) under in
      let below = run-below forest byte p l parts.1 all in
      let split = runs-split byte front p l (all-some forest front parts.0) all apart in
      record {
        below = below;
        under = λ child. front-under forest byte child front p l sorted under all apart below;
        counted = omega (arith, split, counted);
        sorted = sorted-front front (p ∷ l) sorted;
      }

module _ {K V : Type 0} (bytes : K → List ℕ) where
  -- The children of a node that stand at the end are made. The pairs before theirs are left.
  pub record Building (first at count : ℕ) (whole : List (K × V)) (prefix : List ℕ) (begun : ℕ)
      (items : List (K × V)) (shape : Shape V) (made : ℕ) : Type 0 where
    pub forest : Forest V
    pub is : shape ≡ node prefix None (width_for count) forest
    pub taken : items ≡ take (length items) whole
    pub within : first ≤ length items
    pub sorted : is_sorted byte_order (run_from bytes first at items) ≡ true
    pub under : AllUnder forest (run_from bytes first at items)
    pub branches : AreBranches forest
    pub ascending : children.IsAscending (entries_of forest)
    pub together : run_from bytes first at items ++ pairs_below forest
        ≡ run_from bytes first at whole
    pub counted : runs (run_from bytes first at items) + length (entries_of forest) ≡ count
    pub made_is : made ≡ begun + nodes_below forest

  run-cons : (from depth : ℕ) (items : List (K × V)) → from < length items
      → (p : List ℕ × V) × (l : List (List ℕ × V)) × (run_from bytes from depth items ≡ p ∷ l)
  run-cons from depth [] lt = absurd (omega (arith, lt))
  run-cons zero depth (x ∷ items) lt =
      ((drop depth (bytes x.0), x.1), run_from bytes 0 depth items, refl)
  run-cons (suc from) depth (x ∷ items) lt = run-cons from depth items (omega (arith, lt))

  pub taken-run : (first at count : ℕ) (whole : List (K × V)) (prefix : List ℕ) (begun : ℕ)
      (items : List (K × V)) (shape : Shape V) (made : ℕ)
      (b : Building first at count whole prefix begun items shape made) (start byte : ℕ)
      → first ≤ start → start < length items → AllBegin byte (run_from bytes start at items)
      → EndsBesides byte (run_from bytes first at (take start items))
      → RunTaken b.forest byte count (run_from bytes first at (take start items))
  taken-run first at count whole prefix begun items shape made b start byte from within all apart =
      let split = run-split bytes first start at items from in
      let cons = run-cons start at items within in
      let both = split ∙ ap (λ back. run_from bytes first at (take start items) ++ back) cons.2 in
      run-taken b.forest byte count (run_from bytes first at (take start items)) cons.0 cons.1
      (sym (ap (is_sorted byte_order) both) ∙ b.sorted)
      (subst (AllUnder b.forest) both b.under)
      (subst (AllBegin byte) cons.2 all) apart
      (ap (λ l. runs l + length (entries_of b.forest)) (sym both) ∙ b.counted)

  pub run-sorted : (first start at : ℕ) (items : List (K × V)) → first ≤ start
      → is_sorted byte_order (run_from bytes first at items) ≡ true
      → is_sorted byte_order (run_from bytes start at items) ≡ true
  run-sorted first start at items from sorted =
      sorted-back (run_from bytes first at (take start items)) (run_from bytes start at items)
      (ap (is_sorted byte_order) (sym (run-split bytes first start at items from)) ∙ sorted)

  -- One more child, of the last run.
  pub building-more : (first at count : ℕ) (whole : List (K × V)) (prefix : List ℕ) (begun : ℕ)
      (items : List (K × V)) (shape : Shape V) (made : ℕ)
      (b : Building first at count whole prefix begun items shape made) (start byte : ℕ)
      → first ≤ start → start < length items
      → RunTaken b.forest byte count (run_from bytes first at (take start items))
      → (child after : Shape V) → IsTree child → pairs_of child ≡ run_from bytes start at items
      → BeginsWith byte (prefix_of child) → after ≡ with_added byte child shape
      → (next later : ℕ) → next ≡ made + nodes_of child → later ≡ next + widenings shape
      → Building first at count whole prefix begun (take start items) after later
  building-more first at count whole prefix begun items shape made b start byte from within taken
      child after tree pairs begins added next later next_is later_is =
      let counted = taken.counted in
      let room = not_full (length (entries_of b.forest)) count (omega (arith, counted)) in
      let none : widenings shape ≡ 0 = ap widenings b.is ∙ ap (λ t. cond t 1 0) room in
      let long = length-take-le start items (omega (arith, within)) in
      let made_is = b.made_is in
      record {
        forest = grown byte child b.forest;
        is = added ∙ ap (with_added byte child) b.is
            ∙ added-below prefix None (width_for count) byte child b.forest room taken.below;
        taken = ap (take start) b.taken
            ∙ take-take start (length items) whole (omega (arith, within))
            ∙ ap (λ n. take n whole) (sym long);
        within = omega (arith, from, long);
        sorted = taken.sorted;
        under = taken.under child;
        branches = (begins, tree, b.branches);
        ascending = ascending_from (byte, child) (entries_of b.forest) taken.below b.ascending;
        together =
            ap (λ l. run_from bytes first at (take start items) ++ (l ++ pairs_below b.forest)) pairs
            ∙ sym (append_assoc (run_from bytes first at (take start items))
            (run_from bytes start at items) (pairs_below b.forest))
            ∙ ap (λ l. l ++ pairs_below b.forest) (sym (run-split bytes first start at items from))
            ∙ b.together;
        counted = omega (arith, counted);
        made_is = omega (arith, next_is, later_is, none, made_is);
      }
