-- A node that is packed: with a value or two children it is a tree, and else it is merged with its
-- only child, or has nothing.
use Rattle.std.proofs.Common.{◌≡◌, ◌<◌, ℕ, List, Option, Some, None, is_some, false, length, refl, sym, ap, ◌∙◌, arith}
use Rattle.std.specs.Borrow.{Bor}
use Rattle.std.specs.Option.{option_copied}
use Rattle.std.proofs.lemmas.Bool.{false≢true}
use Rattle.rart_node.specs.Shape.{Shape, node, bare, grown, prefix_of, value_of, children_of, HasOnly, merged}
use Rattle.rart_node.specs.Trees.{strip_prefix, found, IsTree, IsOrdered}
use Rattle.rart_node.proofs.InsertionLemmas.{nothing-left}
use Rattle.rart_node.proofs.OnlyChildLemmas.{merged-found, merged-tree, merged-first}
use Rattle.rart_ways.proofs.RemovalLemmas.{fork-is}
use Rattle.rart_algebra.specs.Parts.{IsPacked}

pub none-copied : {V : Type 0} (o : Option (Bor V)) → is_some o ≡ false → option_copied o ≡ None
none-copied None none = refl
none-copied (Some value) none = absurd (false≢true (sym none))

module _ {V : Type 0} where
  pub packed-whole : (s : Shape V) → IsOrdered s → (value_of s ≡ None → 1 < length (children_of s))
      → IsPacked s s
  packed-whole s order some = record {
    tree = tree-of s order some;
    finds = λ q. refl;
    first = λ byte begins. begins;
  }
    where
      tree-of : (s : Shape V) → IsOrdered s → (value_of s ≡ None → 1 < length (children_of s))
          → IsTree s
      tree-of (node prefix value width forest) order some =
          (order.0, order.1, fork-is value forest some)

  pub packed-merged : (s only : Shape V) (byte : ℕ) → IsOrdered s → value_of s ≡ None
      → HasOnly byte only s → IsPacked s (merged (prefix_of s) only)
  packed-merged s only byte order none is = record {
    tree = merged-tree s only byte order is;
    finds = λ q. merged-found s only byte q order none is;
    first = λ b begins. merged-first (prefix_of s) only b begins;
  }

  pub packed-nothing : (s : Shape V) → value_of s ≡ None → length (children_of s) ≡ 0
      → (q : List ℕ) → found s q ≡ None
  packed-nothing (node prefix value width bare) none zero q =
      ap (λ v. found (node prefix v width bare) q) none
      ∙ nothing-left (strip_prefix prefix q)
  packed-nothing (node prefix value width (grown byte child forest)) none zero q =
      absurd (omega (arith, zero))
