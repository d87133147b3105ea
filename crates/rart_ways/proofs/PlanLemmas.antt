-- What is planned at a node, in the words of its code.
use Rattle.std.proofs.Common.{◌≡◌, ℕ, ◌+◌, ◌<◌, ◌≤◌, List, [], ◌∷◌, Option, Some, None, IsSome, is_some, Bool, true, false, length, refl, arith, sym, ap, subst, ◌∙◌}
use Rattle.std.specs.Borrow.{Bor}
use Rattle.std.specs.Option.{option_and_then, option_copied}
use Rattle.std.proofs.lemmas.Bool.{false≢true}
use Rattle.std.proofs.lemmas.List.{append-nil}
use Rattle.std.proofs.lemmas.Option.{none-some}
use Rattle.rart_below.specs.Bytes.{IsAdmitted}
use Rattle.rart_node.specs.Seen.{Seen}
use Rattle.rart_node.specs.Shape.{Shape, node, bare, grown, HasOnly, merged, prefix_of, value_of, children_of, with_value, with_deleted}
use Rattle.rart_ways.specs.Plans.{IsLeafAt, LeadsToLeaf, Removes, value_under}
use Rattle.rart_ways.specs.Removals.{AreAdmitted, IsTakenOr, CountsLeaving}
use Rattle.rart_node.specs.Counts.{Counts, CountsUpTo}
use Rattle.rart_ways.specs.declared.removal.edit.Edit.TheVariants.{Take, Prune, Replace}
use Rattle.rart_node.specs.Trees.{strip_prefix, found, IsTree, IsTaken}
use Rattle.rart_node.proofs.PrefixRestLemmas.{strip_prefix-own, strip_prefix-is}
use Rattle.rart_node.proofs.MatchLemmas.{found-here}
use Rattle.rart_node.proofs.FindLemmas.{ascending, ordered}
use Rattle.rart_ways.proofs.EditLemmas.{found-below-is}
use Rattle.rart_ways.proofs.RemovalLemmas.{IsLeft, found-own, taken-end, empty-leaf, taken-leaf, left-kept, left-merged, admitted-left, admitted-merged, one-less}

-- ---- lists and options
pub not_some-None : {A : Type 0} (o : Option A) → is_some o ≡ false → o ≡ None
not_some-None None none = refl
not_some-None (Some a) none = absurd (false≢true (sym none))

-- a value that was looked at
pub value-there : {V : Type 0} (o : Option (Bor V)) (value : Option V) (t : Bool)
    → option_copied o ≡ value → is_some o ≡ t → is_some value ≡ t
value-there None value t is there = sym (ap is_some is) ∙ there
value-there (Some a) value t is there = sym (ap is_some is) ∙ there

empty-list : {A : Type 0} (list : List A) → length list ≡ 0 → list ≡ []
empty-list [] none = refl
empty-list (a ∷ list) none = absurd (omega (arith, none))

pub only-one : {V : Type 0} (s : Shape V) → length (children_of s) ≡ 1
    → (byte : ℕ) × (child : Shape V) × HasOnly byte child s
only-one (node prefix value width bare) one = absurd (omega (arith, one))
only-one (node prefix value width (grown byte child bare)) one = (byte, child, refl)
only-one (node prefix value width (grown byte child (grown next other forest))) one =
    absurd (omega (arith, one))

module _ {V : Type 0} where
  -- ---- where the key ends
  pub here-found : (s : Shape V) → found s (prefix_of s) ≡ value_of s
  here-found s = found-own s (prefix_of s) [] (sym (append-nil (prefix_of s))) refl

  here-strips : (s : Shape V) → strip_prefix (prefix_of s) (prefix_of s) ≡ Some []
  here-strips s =
      ap (strip_prefix (prefix_of s)) (sym (append-nil (prefix_of s)))
      ∙ strip_prefix-own (prefix_of s) []

  here-left : (s : Shape V) → IsTree s → IsLeft (prefix_of s) s (with_value None s)
  here-left s tree =
      taken-end s (prefix_of s) [] (ordered s tree) (sym (append-nil (prefix_of s))) refl

  same-children : (s : Shape V) → children_of (with_value None s) ≡ children_of s
  same-children (node prefix value width forest) = refl

  pub no-value : (s : Shape V) → value_of (with_value None s) ≡ None
  no-value (node prefix value width forest) = refl

  pub here-leaf : (s : Shape V) → length (children_of s) ≡ 0 → IsSome (value_of s)
      → IsLeafAt (prefix_of s) s
  here-leaf s none there = (empty-list (children_of s) none, there, here-strips s)

  pub one-child : (s after : Shape V) → after ≡ with_value None s → length (children_of s) ≡ 1
      → length (children_of after) ≡ 1
  one-child s after is one = ap (λ z. length (children_of z)) is
      ∙ ap length (same-children s) ∙ one

  pub here-admitted : (most : Option ℕ) (s after child : Shape V) (byte : ℕ)
      → after ≡ with_value None s → IsTree s → AreAdmitted most s → HasOnly byte child after
      → IsAdmitted most (length (prefix_of after) + length (prefix_of child))
  here-admitted most s after child byte is tree admitted only =
      let left = subst (IsLeft (prefix_of s) s) (sym is) (here-left s tree) in
      admitted-merged most after child byte left.0 only
      (admitted-left most s after (prefix_of s) left admitted)

  -- where the root is a leaf, no other key is there
  pub leaf-alone : (s after : Shape V) (key : List ℕ) → IsTree s → IsLeafAt key s
      → after ≡ with_value None s → IsTakenOr true key s after
  leaf-alone s after key tree leaf is =
      let left = taken-end s key [] (ordered s tree)
      (strip_prefix-is (prefix_of s) key [] leaf.2) refl in (
        ap value_of is ∙ no-value s,
        ap children_of is ∙ same-children s ∙ leaf.0,
        λ q. sym (left.1 q) ∙ empty-leaf s q leaf.0,
      )

  -- ---- where a leaf goes
  pub kept-value : (s : Shape V) (byte : ℕ) → value_of (with_deleted byte s) ≡ value_of s
  kept-value (node prefix value width forest) byte = refl

  pub forks : (s : Shape V) → IsTree s → value_of s ≡ None → 1 < length (children_of s)
  forks (node prefix (Some value) width forest) tree none = absurd (none-some value (sym none))
  forks (node prefix None width bare) tree none = absurd (false≢true tree.2)
  forks (node prefix None width (grown byte child bare)) tree none = absurd (false≢true tree.2)
  forks (node prefix None width (grown byte child (grown next other forest))) tree none =
      omega arith

  module _ (s : Shape V) (byte : ℕ) (tree : IsTree s) (key : List ℕ)
      (leads : LeadsToLeaf byte key s) where
    leaf-left : IsLeft key s (with_deleted byte s)
    leaf-left =
        taken-leaf s leads.0 key leads.1 byte tree leads.2.strips leads.2.next leads.2.here
        leads.3.0 leads.3.2

    leaf-value : value_under byte s ≡ found s key
    leaf-value =
        ap (option_and_then value_of) leads.2.here
        ∙ sym (found-here leads.0 leads.1 [] leads.3.2 refl)
        ∙ sym (found-below-is tree leads.2)

    less : 1 + length (children_of (with_deleted byte s)) ≡ length (children_of s)
    less = one-less s leads.0 byte (ascending s (ordered s tree)) leads.2.here

    module _ (after : Shape V) (is : after ≡ with_deleted byte s) where
      pub one-left : value_of s ≡ None → length (children_of s) ≤ 2
          → length (children_of after) ≡ 1
      one-left none few =
          let more = forks s tree none in
          let fewer = less in
          ap (λ z. length (children_of z)) is ∙ omega (arith, more, few, fewer)

      after-is_left : IsLeft key s after
      after-is_left = subst (IsLeft key s) (sym is) leaf-left

      pub leaf-admitted : (most : Option ℕ) → AreAdmitted most s → (b : ℕ) (child : Shape V)
          → HasOnly b child after
          → IsAdmitted most (length (prefix_of after) + length (prefix_of child))
      leaf-admitted most admitted b child only =
          admitted-merged most after child b after-is_left.0 only
          (admitted-left most s after key after-is_left admitted)

module _ {P V : Type 0} where
  pub here-removes : (s : Shape V) → IsTree s → 1 < length (children_of s)
      → Removes {P = P} Take (prefix_of s) s
  here-removes s tree some =
      record {
        fits = tt;
        taken =
            left-kept s (with_value None s) (prefix_of s) (here-left s tree)
            (λ none. subst (λ z. 1 < length z) (sym (same-children s)) some);
        value = sym (here-found s);
      }

  module _ (pointer : Seen V) (value : Option V) (s after : Shape V)
      (one : length (children_of after) ≡ 1)
      (shows : (byte : ℕ) (child : Shape V) → HasOnly byte child after
      → pointer.shape ≡ merged (prefix_of after) child) where
    replaces : (key : List ℕ) → IsLeft key s after → value_of after ≡ None
        → value ≡ found s key → Removes {P = P} (Replace pointer value) key s
    replaces key left none is =
        let only = only-one after one in
        record {
          fits = tt;
          taken =
              subst (IsTaken key s) (sym (shows only.0 only.1 only.2))
              (left-merged s after only.1 key only.0 left none only.2);
          value = is;
        }

    pub here-replaces : IsTree s → after ≡ with_value None s → value ≡ value_of s
        → Removes {P = P} (Replace pointer value) (prefix_of s) s
    here-replaces tree is took =
        replaces (prefix_of s) (subst (IsLeft (prefix_of s) s) (sym is) (here-left s tree))
        (ap value_of is ∙ no-value s) (took ∙ sym (here-found s))

    pub leaf-replaces : IsTree s → (byte : ℕ) → after ≡ with_deleted byte s → value_of s ≡ None
        → value ≡ value_under byte s → (key : List ℕ) → LeadsToLeaf byte key s
        → Removes {P = P} (Replace pointer value) key s
    leaf-replaces tree byte is none took key leads =
        replaces key (after-is_left s byte tree key leads after is)
        (ap value_of is ∙ kept-value s byte ∙ none) (took ∙ leaf-value s byte tree key leads)

  pub prune-removes : (s : Shape V) (byte : ℕ) → IsTree s
      → (value_of s ≡ None → 2 < length (children_of s)) → (key : List ℕ)
      → LeadsToLeaf byte key s → Removes {P = P} (Prune byte) key s
  prune-removes s byte tree some key leads =
      record {
        fits = ap is_some leads.2.here;
        taken =
            left-kept s (with_deleted byte s) key (leaf-left s byte tree key leads)
            (λ none. let many = some (sym (kept-value s byte) ∙ none) in
            let fewer = less s byte tree key leads in
            omega (arith, many, fewer));
        value = leaf-value s byte tree key leads;
      }

pub not-none : {V : Type 0} (o : Option V) → IsSome o → o ≡ None → ⊥
not-none o there none = false≢true (sym (ap is_some none) ∙ there)

-- ---- counts
pub leaving-same : (later most : ℕ) (counts : Counts) → later ≤ most
    → CountsLeaving later most most counts counts
leaving-same later most counts few =
    record {
      entered_grows = omega arith;
      entered_at_most = omega (arith, few);
      made_grows = omega arith;
      made_at_most = omega (arith, few);
    }

-- nothing is still to come
pub leaving-done : {entered made most most_made : ℕ} {before after : Counts}
    → CountsUpTo entered made before after → entered ≤ most → made ≤ most_made
    → CountsLeaving 0 most most_made before after
leaving-done counted entered made =
    let b = counted.entered_at_most in
    let d = counted.made_at_most in
    record {
      entered_grows = counted.entered_grows;
      entered_at_most = omega (arith, b, entered);
      made_grows = counted.made_grows;
      made_at_most = omega (arith, d, made);
    }

-- what was still to come came
pub counts-carried : {later entered made most : ℕ} {before between after : Counts}
    → CountsLeaving later entered made before between → CountsUpTo most most between after
    → most ≤ later → CountsUpTo entered made before after
counts-carried first later few =
    let a = first.entered_grows in
    let b = first.entered_at_most in
    let c = first.made_grows in
    let d = first.made_at_most in
    let e = later.entered_grows in
    let f = later.entered_at_most in
    let g = later.made_grows in
    let h = later.made_at_most in
    record {
      entered_grows = omega (arith, a, e);
      entered_at_most = omega (arith, b, f, few);
      made_grows = omega (arith, c, g);
      made_at_most = omega (arith, d, h, few);
    }

pub counts-made : (before after : Counts) → after ≡ record before { made = before.made + 1 }
    → CountsUpTo 0 1 before after
counts-made before after is =
    rw is record {
      entered_grows = omega arith;
      entered_at_most = omega arith;
      made_grows = omega arith;
      made_at_most = omega arith;
    }
