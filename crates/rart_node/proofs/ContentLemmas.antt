-- What a node is seen as beside what its content holds.
use Rattle.std.proofs.Common.{◌≡◌, ℕ, List, Bool, true, false, Option, Some, None, IsSome, cond, length, refl, sym, ap, subst, ◌∙◌}
use Rattle.std.specs.Prelude.{◌↔◌, IsTrue, option_copied}
use Rattle.std.specs.Borrow.{Bor, MutBor}
use Rattle.std.specs.Option.{option_map, option_copied_mut, OnSome}
use Rattle.std.proofs.lemmas.Option.{none-some}
use Rattle.rart_below.specs.Children.{child_at, with_child, without_child, children_below, children_from, first_of, map_children, IsLastOf, TakesEntry, TakesFirst, TakesLast, IsAscending as IsRising}
use Rattle.rart_below.specs.Layouts.{entry_copied}
use Rattle.rart_node.specs.Contents.{Content, before_at, content_shape, left_at, Holds}
use Rattle.rart_node.specs.Shape.{Shape, node, node_of, prefix_of, value_of, width_of, children_of, with_children, with_value, with_replaced, with_deleted, with_added, widened, widenings, is_full_at, entries_of-forest_of, IsAscending, IsFull, IsFullAt}
use Rattle.rart_node.specs.Seen.{Seen, shape_of}
use Rattle.rart_node.specs.NodeShapes.{seen_node, entry_shape, shapes_of_content, node_of_content, if_in_order}
use Rattle.rart_node.proofs.ChildMapLemmas.{length-map_children, child_at-map_children, with_child-map_children, without_child-map_children, before_at-map_children, children_below-map_children, children_from-map_children, first_of-map_children, last-map_children, left_at-map_children, takes-map_children, takes_entry-map_children, takes_last-map_children}

-- a list that ascends is none that stands for disorder
in_order-ascending : {V : Type 0} (in_order : Bool) (children : List (ℕ × Shape V))
    → IsRising (if_in_order in_order children) → in_order ≡ true
in_order-ascending true children order = refl
in_order-ascending false children order = cc

none-back : {A B : Type 0} (f : A → B) (o : Option A) → option_map f o ≡ None → o ≡ None
none-back f None h = refl
none-back f (Some x) h = absurd (none-some _ (sym h))

some-back : {A B : Type 0} (f : A → B) (o : Option A) → IsSome (option_map f o) → IsSome o
some-back f None h = h
some-back f (Some x) h = h

-- what is known of a reference that is lent says something else of it
pub of_lent : {X A B : Type 0} (lent : Option X) → OnSome lent A → (A → B) → OnSome lent B
of_lent None given says = tt
of_lent (Some reference) given says = says given

module _ {V : Type 0} where
  with_children-parts : (children : List (ℕ × Shape V)) (s : Shape V)
      → with_children children s ≡ node_of (prefix_of s) (value_of s) (width_of s) children
  with_children-parts children (node prefix value width forest) = refl

  with_added-parts : (byte : ℕ) (child s : Shape V)
      → with_added byte child s ≡ node_of (prefix_of s) (value_of s)
      (widened (width_of s) (length (children_of s))) (with_child byte child (children_of s))
  with_added-parts byte child (node prefix value width forest) = refl

  pub widenings-parts : (s : Shape V)
      → widenings s ≡ cond (is_full_at (width_of s) (length (children_of s))) 1 0
  widenings-parts (node prefix value width forest) = refl

module _ {V : Type 0} {prefix : List ℕ} {value : Option V} (content : Content (Seen V))
    {seen : Seen V} (is : seen_node prefix value content ≡ seen) where
  abbrev children_in : List (ℕ × Seen V)
  children_in = (content_shape content).children

  shape-seen : seen.shape
      ≡ node_of_content prefix value (shapes_of_content (content_shape content))
  shape-seen = sym (ap shape_of is)

  pub width-seen : width_of seen.shape ≡ (content_shape content).width
  width-seen = ap width_of shape-seen

  pub children-seen : children_of seen.shape
      ≡ if_in_order (content_shape content).in_order (map_children shape_of children_in)
  children-seen = ap children_of shape-seen ∙ entries_of-forest_of _

  -- what asks for an ascending node asks for a content whose lists are in step
  pub in_order : IsAscending seen.shape → (content_shape content).in_order ≡ true
  in_order order = in_order-ascending _ _ (subst IsRising children-seen order)

  pub children-ascending : IsAscending seen.shape
      → children_of seen.shape ≡ map_children shape_of children_in
  children-ascending order =
      children-seen ∙ ap (λ t. if_in_order t (map_children shape_of children_in)) (in_order order)

  pub length-seen : IsAscending seen.shape
      → length (children_of seen.shape) ≡ length children_in
  length-seen order =
      ap length (children-ascending order) ∙ length-map_children shape_of children_in

  pub child_at-seen : (byte : ℕ) → IsAscending seen.shape
      → child_at byte (children_of seen.shape) ≡ option_map shape_of (child_at byte children_in)
  child_at-seen byte order =
      ap (child_at byte) (children-ascending order)
      ∙ child_at-map_children shape_of byte children_in

  pub none-in : (byte : ℕ) → IsAscending seen.shape
      → child_at byte (children_of seen.shape) ≡ None → child_at byte children_in ≡ None
  none-in byte order absent = none-back shape_of _ (sym (child_at-seen byte order) ∙ absent)

  pub some-in : (byte : ℕ) → IsAscending seen.shape
      → IsSome (child_at byte (children_of seen.shape)) → IsSome (child_at byte children_in)
  some-in byte order present =
      some-back shape_of _ (subst IsSome (child_at-seen byte order) present)

  -- the first entry from a byte on
  pub first-seen : (from : ℕ) → IsAscending seen.shape
      → first_of (children_from from (children_of seen.shape))
      ≡ option_map (λ e. (e.0, shape_of e.1)) (first_of (children_from from children_in))
  first-seen from order =
      ap (λ es. first_of (children_from from es)) (children-ascending order)
      ∙ ap first_of (children_from-map_children shape_of from children_in)
      ∙ first_of-map_children shape_of (children_from from children_in)

  -- what a walk has left
  pub left-seen : (from : ℕ) → IsAscending seen.shape
      → left_at (width_of seen.shape) from (children_of seen.shape)
      ≡ map_children shape_of (left_at (content_shape content).width from children_in)
  left-seen from order =
      (λ i. left_at (width-seen i) from (children-ascending order i))
      ∙ left_at-map_children shape_of (content_shape content).width from children_in

  -- the first of them is taken
  pub takes-seen : (from later : ℕ) (o : Option (Seen V)) → IsAscending seen.shape
      → TakesFirst (left_at (content_shape content).width from children_in) o
      (left_at (content_shape content).width later children_in)
      → TakesFirst (left_at (width_of seen.shape) from (children_of seen.shape))
      (option_map shape_of o) (left_at (width_of seen.shape) later (children_of seen.shape))
  takes-seen from later o order takes =
      rw (left-seen from order, left-seen later order)
      (takes-map_children shape_of _ o _ takes)

  pub takes_entry-seen : (from later : ℕ) (o : Option (ℕ × Seen V)) → IsAscending seen.shape
      → TakesEntry (left_at (content_shape content).width from children_in) o
      (left_at (content_shape content).width later children_in)
      → TakesEntry (left_at (width_of seen.shape) from (children_of seen.shape))
      (option_map (λ e. (e.0, shape_of e.1)) o)
      (left_at (width_of seen.shape) later (children_of seen.shape))
  takes_entry-seen from later o order takes =
      rw (left-seen from order, left-seen later order)
      (takes_entry-map_children shape_of _ o _ takes)

  -- from a cursor on a walk has the children from its byte on
  pub cursor-seen : (least from : ℕ) → IsAscending seen.shape
      → left_at (content_shape content).width from children_in ≡ children_from least children_in
      → left_at (width_of seen.shape) from (children_of seen.shape)
      ≡ children_from least (children_of seen.shape)
  cursor-seen least from order is =
      left-seen from order ∙ ap (map_children shape_of) is
      ∙ sym (ap (children_from least) (children-ascending order)
      ∙ children_from-map_children shape_of least children_in)

  -- what a walk back has left
  pub before-seen : (end : ℕ) → IsAscending seen.shape
      → before_at (width_of seen.shape) end (children_of seen.shape)
      ≡ map_children shape_of (before_at (content_shape content).width end children_in)
  before-seen end order =
      (λ i. before_at (width-seen i) end (children-ascending order i))
      ∙ before_at-map_children shape_of (content_shape content).width end children_in

  -- the last of them is taken
  pub takes_last-seen : (end later : ℕ) (o : Option (Seen V)) → IsAscending seen.shape
      → TakesLast (before_at (content_shape content).width end children_in) o
      (before_at (content_shape content).width later children_in)
      → TakesLast (before_at (width_of seen.shape) end (children_of seen.shape))
      (option_map shape_of o) (before_at (width_of seen.shape) later (children_of seen.shape))
  takes_last-seen end later o order takes =
      rw (before-seen end order, before-seen later order)
      (takes_last-map_children shape_of _ o _ takes)

  -- from a cursor back a walk has all children, or those below its number
  pub back-of-all : (end : ℕ) → IsAscending seen.shape
      → before_at (content_shape content).width end children_in ≡ children_in
      → before_at (width_of seen.shape) end (children_of seen.shape) ≡ children_of seen.shape
  back-of-all end order is =
      before-seen end order ∙ ap (map_children shape_of) is ∙ sym (children-ascending order)

  pub back-seen : (most end : ℕ) → IsAscending seen.shape
      → before_at (content_shape content).width end children_in ≡ children_below most children_in
      → before_at (width_of seen.shape) end (children_of seen.shape)
      ≡ children_below most (children_of seen.shape)
  back-seen most end order is =
      before-seen end order ∙ ap (map_children shape_of) is
      ∙ sym (ap (children_below most) (children-ascending order)
      ∙ children_below-map_children shape_of most children_in)

  -- what a walk back takes first is the last of the children below its number
  pub last-of-all : (from later : ℕ) (o : Option (Seen V)) → IsAscending seen.shape
      → before_at (content_shape content).width from children_in ≡ children_in
      → TakesLast (before_at (content_shape content).width from children_in) o
      (before_at (content_shape content).width later children_in)
      → IsLastOf (children_of seen.shape) (option_map shape_of o)
  last-of-all from later o order is takes =
      subst (λ all. IsLastOf all (option_map shape_of o))
      (ap (map_children shape_of) is ∙ sym (children-ascending order))
      (last-map_children shape_of _ o _ takes)

  pub last-seen : (end from later : ℕ) (o : Option (Seen V)) → IsAscending seen.shape
      → before_at (content_shape content).width from children_in ≡ children_below end children_in
      → TakesLast (before_at (content_shape content).width from children_in) o
      (before_at (content_shape content).width later children_in)
      → IsLastOf (children_below end (children_of seen.shape)) (option_map shape_of o)
  last-seen end from later o order is takes =
      subst (λ below. IsLastOf below (option_map shape_of o))
      (ap (map_children shape_of) is ∙ sym (ap (children_below end) (children-ascending order)
      ∙ children_below-map_children shape_of end children_in))
      (last-map_children shape_of _ o _ takes)

  -- ---- with another content
  module _ (after : Content (Seen V)) (width : ℕ) (entries : List (ℕ × Seen V))
      (holds : Holds after width entries) where
    shape-with_content : (seen_node prefix value after).shape
        ≡ node_of (prefix_of seen.shape) (value_of seen.shape) width
        (map_children shape_of entries)
    shape-with_content =
        ap (λ h. node_of_content prefix value (shapes_of_content h)) holds
        ∙ ap (λ s. node_of (prefix_of s) (value_of s) width (map_children shape_of entries))
        (ap shape_of is)

    -- other children at the same width
    pub with_children-seen : width ≡ (content_shape content).width
        → (children : List (ℕ × Shape V)) → map_children shape_of entries ≡ children
        → (seen_node prefix value after).shape ≡ with_children children seen.shape
    with_children-seen same children shown =
        shape-with_content
        ∙ ap (λ w. node_of (prefix_of seen.shape) (value_of seen.shape) w
        (map_children shape_of entries)) (same ∙ sym width-seen)
        ∙ ap (node_of (prefix_of seen.shape) (value_of seen.shape) (width_of seen.shape)) shown
        ∙ sym (with_children-parts children seen.shape)

    -- one more child
    pub with_added-seen : (byte : ℕ) (child : Seen V) → IsAscending seen.shape
        → width ≡ widened (content_shape content).width (length children_in)
        → entries ≡ with_child byte child children_in
        → (seen_node prefix value after).shape ≡ with_added byte child.shape seen.shape
    with_added-seen byte child order wide same =
        shape-with_content
        ∙ ap (λ w. node_of (prefix_of seen.shape) (value_of seen.shape) w
        (map_children shape_of entries))
        (wide ∙ sym (λ i. widened (width-seen i) (length-seen order i)))
        ∙ ap (node_of (prefix_of seen.shape) (value_of seen.shape)
        (widened (width_of seen.shape) (length (children_of seen.shape))))
        (ap (map_children shape_of) same
        ∙ with_child-map_children shape_of byte child children_in
        ∙ ap (with_child byte child.shape) (sym (children-ascending order)))
        ∙ sym (with_added-parts byte child.shape seen.shape)

  -- a content that holds what the node's own holds
  pub same_content-seen : (after : Content (Seen V)) → content_shape after ≡ content_shape content
      → (seen_node prefix value after).shape ≡ seen.shape
  same_content-seen after same =
      ap (λ h. node_of_content prefix value (shapes_of_content h)) same ∙ ap shape_of is

  -- ---- with another value
  pub with_value-seen : (held other : Option V) → held ≡ other
      → (seen_node prefix held content).shape ≡ with_value other seen.shape
  with_value-seen held other same =
      ap (λ v. node_of_content prefix v (shapes_of_content (content_shape content))) same
      ∙ ap (with_value other) (ap shape_of is)

  -- the value that the node's own shows
  pub same_value-seen : (held : Option V) → held ≡ value
      → (seen_node prefix held content).shape ≡ seen.shape
  same_value-seen held same =
      ap (λ v. node_of_content prefix v (shapes_of_content (content_shape content))) same
      ∙ ap shape_of is

  pub with_replaced-seen : (after : Content (Seen V)) (byte : ℕ) (child : Seen V)
      → IsAscending seen.shape
      → Holds after (content_shape content).width (with_child byte child children_in)
      → (seen_node prefix value after).shape ≡ with_replaced byte child.shape seen.shape
  with_replaced-seen after byte child order holds =
      with_children-seen after _ _ holds refl _
      (with_child-map_children shape_of byte child children_in
      ∙ ap (with_child byte child.shape) (sym (children-ascending order)))

  pub with_deleted-seen : (after : Content (Seen V)) (byte : ℕ) → IsAscending seen.shape
      → Holds after (content_shape content).width (without_child byte children_in)
      → (seen_node prefix value after).shape ≡ with_deleted byte seen.shape
  with_deleted-seen after byte order holds =
      with_children-seen after _ _ holds refl _
      (without_child-map_children shape_of byte children_in
      ∙ ap (without_child byte) (sym (children-ascending order)))

  pub full-seen : (answer : Bool) → IsAscending seen.shape → IsTrue answer
      ↔ IsFullAt (content_shape content).width (length children_in) → IsTrue answer
      ↔ IsFull seen.shape
  full-seen answer order says =
      subst (λ w. IsTrue answer ↔ IsFullAt w (length (children_of seen.shape)))
      (sym width-seen)
      (subst (λ k. IsTrue answer ↔ IsFullAt (content_shape content).width k)
      (sym (length-seen order)) says)

  pub widenings-seen : IsAscending seen.shape
      → widenings seen.shape
      ≡ cond (is_full_at (content_shape content).width (length children_in)) 1 0
  widenings-seen order =
      widenings-parts seen.shape
      ∙ (λ i. cond (is_full_at (width-seen i) (length-seen order i)) 1 0)

-- ---- what is found by reference
module _ {V : Type 0} where
  pub now-copied_mut : (o : Option (MutBor V)) → option_map (λ it. it.now) o ≡ option_copied_mut o
  now-copied_mut None = refl
  now-copied_mut (Some it) = refl

  pub shape-copied : (o : Option (Bor (Seen V)))
      → option_map (λ child. child.now.shape) o ≡ option_map shape_of (option_copied o)
  shape-copied None = refl
  shape-copied (Some child) = refl

  pub shape-copied_mut : (o : Option (MutBor (Seen V)))
      → option_map (λ child. child.now.shape) o ≡ option_map shape_of (option_copied_mut o)
  shape-copied_mut None = refl
  shape-copied_mut (Some child) = refl

  pub entry-copied : (o : Option (ℕ × Bor (Seen V)))
      → option_map entry_shape o ≡ option_map (λ e. (e.0, shape_of e.1)) (entry_copied o)
  entry-copied None = refl
  entry-copied (Some entry) = refl
