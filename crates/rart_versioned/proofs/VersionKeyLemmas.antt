-- A version has no key exactly where there is no root.
use Rattle.std.proofs.Common.{◌≡◌, ℕ, Some, is_some, false, sym, ap, ◌∙◌}
use Rattle.std.proofs.lemmas.Bool.{false≢true, ne_eqb}
use Rattle.std.specs.FinMap as finite
use Rattle.rart_below.specs.Bytes.{byte_order}
use Rattle.rart_maps.specs.Versions.{has_no_key}
use Rattle.rart_node.specs.Shape.{Shape}
use Rattle.rart_node.specs.Trees.{IsTree}
use Rattle.rart_node.proofs.KeyLemmas.{tree-has-key}
use Rattle.rart_versioned.specs.Roots.{map_of}
use Rattle.rart_versioned.proofs.VersionMapLemmas.{get-found}

module _ {V : Type 0} where
  pub some-key : (s : Shape V) (number : ℕ) → IsTree s
      → has_no_key (record { content = map_of (Some s); number = number }) ≡ false
  some-key s number tree =
      let has = tree-has-key s tree in
      ne_eqb (finite.len (map_of (Some s))) 0 (λ none.
      let gone = ap (λ m. finite.get m has.key) (finite.empty_of_len (map_of (Some s)) none)
      ∙ finite.get-empty byte_order has.key in
      false≢true (sym (ap is_some (sym (get-found (Some s) has.key tree) ∙ gone)) ∙ has.there))
