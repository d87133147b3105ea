-- What is found at a node, by what its prefix leaves of the key.
use Rattle.std.proofs.Common.{◌≡◌, ◌+◌, ◌≤◌, ℕ, List, [], ◌∷◌, Some, None, slice_get, length, refl, arith, ap, ◌∙◌}
use Rattle.std.specs.Option.{option_and_then}
use Rattle.std.proofs.lemmas.List.{length-append}
use Rattle.std.proofs.lemmas.Option.{same_Some, none-some}
use Rattle.rart_below.specs.Children.{child_at}
use Rattle.rart_node.specs.Shape.{Shape, node, prefix_of, value_of, children_of, entries_of}
use Rattle.rart_node.specs.Trees.{strip_prefix, found, path_bound}
use Rattle.rart_node.proofs.PrefixRestLemmas.{strip_prefix-is, no-first, begins-first, begins-long}
use Rattle.rart_node.proofs.CountingLemmas.{path-step}
use Rattle.rart_node.proofs.FindLemmas.{found-below, IsBranch}

module _ {V : Type 0} where
  -- A key that leaves the prefix before its end has no value below the node.
  pub found-left : (s : Shape V) (key : List ℕ) → strip_prefix (prefix_of s) key ≡ None
      → found s key ≡ None
  found-left (node prefix value width forest) key left = rw left refl

  -- A key that ends with the prefix has the node's value.
  pub found-here : (s : Shape V) (key rest : List ℕ) → strip_prefix (prefix_of s) key ≡ Some rest
      → slice_get rest 0 ≡ None → found s key ≡ value_of s
  found-here (node prefix value width forest) key rest is end = rw (is, no-first rest end) refl

  -- A key that goes on has what the child under its next byte has for the rest.
  pub found-deeper : (s : Shape V) (key rest : List ℕ) (byte : ℕ)
      → strip_prefix (prefix_of s) key ≡ Some rest → slice_get rest 0 ≡ Some byte
      → found s key ≡ option_and_then (λ child. found child rest) (child_at byte (children_of s))
  found-deeper (node prefix value width forest) key [] byte is next = absurd (none-some byte next)
  found-deeper (node prefix value width forest) key (b ∷ rest) byte is next =
      rw is (found-below forest b rest
      ∙ ap (λ z. option_and_then (λ child. found child (b ∷ rest))
      (child_at z (entries_of forest))) (same_Some b byte next))

  -- From a child on there is one node less on the path.
  pub path-deeper : (s child : Shape V) (key rest : List ℕ) (byte : ℕ)
      → strip_prefix (prefix_of s) key ≡ Some rest → slice_get rest 0 ≡ Some byte
      → IsBranch byte child s → 1 + path_bound child rest ≤ path_bound s key
  path-deeper s child key rest byte is next branch =
      let long : length key ≡ length (prefix_of s) + length rest =
      ap length (strip_prefix-is (prefix_of s) key rest is)
      ∙ length-append (prefix_of s) rest in
      path-step s child key rest byte (length (prefix_of s)) branch.begins (omega arith) long
      (begins-long byte rest (begins-first byte rest next))
